use Rattle.std.proofs.Common.{◌≡◌, ◌+◌, ◌∷◌, [], ◌++◌, ◌∙◌, List, ℕ, Option, sym, subst, take, arith, rules}
use Rattle.gt_io.specs.Held.{Held}
use Rattle.gt_front.specs.Texts.{IsTextOf, headers_from}
use Rattle.gt_front.specs.Reading.{AreHeadersRead, IsStopAt}
use Rattle.gt_front.specs.Order.{AreRead}
use Rattle.gt_front.proofs.ReadingLemmas.{header_file, read_more, stop_in, AreRead-headers, HasStopped-headers}
use Rattle.gt_front.proofs.reading.read_headers.Goals as goal

pub returns-in-Err-clause-stopped : goal.returns-in-Err-clause-stopped
returns-in-Err-clause-stopped g c =
    let told = g.F.Files.told c.args.files.now in
    let P : Option Held → Type 0 = λ t. IsStopAt t (header_file c.loop-name.word c.name-item.result) c.in-Err.stop in
    stop_in told c.args.names.now c.loop-name.texts.items c.loop-name.name-index c.loop-name.word c.name-item.result c.in-Err.stop (omega arith) c.name-item.is
    c.loop-name.invariant.place c.loop-name.invariant.so_far
    (subst P c.loop-name.invariant.told c.in-Err.ensures.stopped)

pub returns-in-Err-clause-stops : goal.returns-in-Err-clause-stops
returns-in-Err-clause-stops g c =
    HasStopped-headers g.F.Files.reads c.args.files.now c.loop-name.files c.read_file.new.files c.args.names.now c.loop-name.texts.items c.loop-name.name-index c.loop-name.word
    c.name-item.result c.in-Err.stop (omega arith) c.name-item.is c.loop-name.invariant.place c.loop-name.invariant.order c.in-Err.ensures.answered

pub loop-name-preserved : goal.loop-name-preserved
loop-name-preserved g c =
    let told = g.F.Files.told c.args.files.now in
    let P : Option Held → Type 0 = λ t. IsTextOf t (header_file c.loop-name.word c.name-item.result) c.in-Ok.text in
    let R : List (List ℕ) → Type 0 = λ texts. AreHeadersRead told (take (c.loop-name.name-index + 1) c.args.names.now) texts in
    let O : List (List ℕ) → Type 0 = λ texts. AreRead g.F.Files.reads c.args.files.now (headers_from 1 (take (c.loop-name.name-index + 1) c.args.names.now)) texts c.read_file.new.files in
    let pushed : c.push.new.self.items ≡ c.loop-name.texts.items ++ c.in-Ok.text ∷ [] = search rules in
    record {
      told = c.read_file.ensures.told ∙ c.loop-name.invariant.told;
      later = search rules;
      place = omega arith;
      order =
          subst O (sym pushed)
          (AreRead-headers g.F.Files.reads c.args.files.now c.loop-name.files c.read_file.new.files c.args.names.now c.loop-name.texts.items c.loop-name.name-index c.loop-name.word
          c.name-item.result c.in-Ok.text (omega arith) c.name-item.is c.loop-name.invariant.place c.loop-name.invariant.order c.in-Ok.ensures.one);
      so_far =
          subst R (sym pushed)
          (read_more told c.args.names.now c.loop-name.texts.items c.loop-name.name-index c.loop-name.word c.name-item.result c.in-Ok.text (omega arith) c.name-item.is
          c.loop-name.invariant.place c.loop-name.invariant.so_far
          (subst P c.loop-name.invariant.told c.in-Ok.ensures.read));
    }
