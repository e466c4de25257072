use Rattle.std.proofs.Common.{◌≡◌, List, ℕ, refl, sym, subst}
use Rattle.gt_headers.specs.Headers.{Declares}
use Rattle.gt_front.specs.Asks.{Asks, Reads}
use Rattle.gt_front.specs.Order.{IsReadAs, nothing, whole}
use Rattle.gt_front.specs.Stages.{texts_of}
use Rattle.gt_front.specs.Texts.{Texts}
use Rattle.gt_front.specs.declared.preparing.Halt.TheVariants.{Refused}
use Rattle.gt_front.specs.declared.refusal.FileWhy.TheVariants.{Fault}
use Rattle.gt_front.specs.declared.refusal.Refusal.TheVariants.{File}
use Rattle.gt_front.proofs.StageLemmas.{HaltsAfter-by, HaltsAfter-failed, Halts-after, no_texts}
use Rattle.gt_front.proofs.preparing.prepare.Goals as goal

pub returns-in-Err-clause-stopped : goal.returns-in-Err-clause-stopped
returns-in-Err-clause-stopped g c =
    let told = g.F.Files.told c.args.files.now in
    HaltsAfter-by g.F.Files.reads c.args.words.now told c.args.files.now c.args.files.now no_texts nothing c.in-Err.halt (c.in-Err.ensures.halted told no_texts) refl

pub returns-in-Err-clause-halted : goal.returns-in-Err-clause-halted
returns-in-Err-clause-halted g c =
    Halts-after g.F.Files.reads c.args.words.now (g.F.Files.told c.args.files.now) c.args.files.now c.args.files.now c.in-Err.halt (returns-in-Err-clause-stopped g c)

pub returns-in-Err-read_texts-clause-stopped : goal.returns-in-Err-read_texts-clause-stopped
returns-in-Err-read_texts-clause-stopped g c = c.in-Err-read_texts.ensures.halted c.args.words.now c.in-Ok.ensures.called

pub returns-in-Err-read_texts-clause-halted : goal.returns-in-Err-read_texts-clause-halted
returns-in-Err-read_texts-clause-halted g c =
    Halts-after g.F.Files.reads c.args.words.now (g.F.Files.told c.args.files.now) c.args.files.now c.read_texts.new.files c.in-Err-read_texts.halt
    (c.in-Err-read_texts.ensures.halted c.args.words.now c.in-Ok.ensures.called)

pub returns-in-Err-read_texts-clause-failed : goal.returns-in-Err-read_texts-clause-failed
returns-in-Err-read_texts-clause-failed g c = λ word line is.
    let halt : c.in-Err-read_texts.halt ≡ Refused (File word Fault) line = cc in
    HaltsAfter-failed g.F.Files.reads c.args.words.now (g.F.Files.told c.args.files.now) c.args.files.now c.read_texts.new.files word line c.in-Err-read_texts.halt halt
    (returns-in-Err-read_texts-clause-stopped g c)

pub returns-in-Err-declare_texts-clause-stopped : goal.returns-in-Err-declare_texts-clause-stopped
returns-in-Err-declare_texts-clause-stopped g c =
    let words = c.args.words.now in
    let told = g.F.Files.told c.args.files.now in
    let call = c.in-Ok.call in
    let found = c.in-Ok-read_texts.found in
    let texts : Texts = record { headers = c.as_slice.result.now; script = found.script } in
    let called = c.in-Ok.ensures.called in
    let R : List (List ℕ) → Type 0 = λ headers. Reads words told call (record { headers = headers; script = found.script }) in
    let G : List (List ℕ) → Type 0 = λ headers. IsReadAs g.F.Files.reads call.script call.headers (record { headers = headers; script = found.script }) c.args.files.now c.read_texts.new.files in
    let reads = subst R (sym c.as_slice.ensures.value) (c.in-Ok-read_texts.ensures.read words called) in
    let given = subst G (sym c.as_slice.ensures.value) c.in-Ok-read_texts.ensures.files in
    HaltsAfter-by g.F.Files.reads words told c.args.files.now c.read_texts.new.files texts (whole texts) c.in-Err-declare_texts.halt
    (c.in-Err-declare_texts.ensures.halted words told found.script reads) (call, called, given)

pub returns-in-Err-declare_texts-clause-halted : goal.returns-in-Err-declare_texts-clause-halted
returns-in-Err-declare_texts-clause-halted g c =
    Halts-after g.F.Files.reads c.args.words.now (g.F.Files.told c.args.files.now) c.args.files.now c.read_texts.new.files c.in-Err-declare_texts.halt
    (returns-in-Err-declare_texts-clause-stopped g c)

pub returns-in-Err-lines_of-clause-stopped : goal.returns-in-Err-lines_of-clause-stopped
returns-in-Err-lines_of-clause-stopped g c =
    let words = c.args.words.now in
    let told = g.F.Files.told c.args.files.now in
    let call = c.in-Ok.call in
    let found = c.in-Ok-read_texts.found in
    let headers = c.as_slice.result.now in
    let texts : Texts = record { headers = headers; script = found.script } in
    let called = c.in-Ok.ensures.called in
    let R : List (List ℕ) → Type 0 = λ headers. Reads words told call (record { headers = headers; script = found.script }) in
    let G : List (List ℕ) → Type 0 = λ headers. IsReadAs g.F.Files.reads call.script call.headers (record { headers = headers; script = found.script }) c.args.files.now c.read_texts.new.files in
    let reads = subst R (sym c.as_slice.ensures.value) (c.in-Ok-read_texts.ensures.read words called) in
    let given = subst G (sym c.as_slice.ensures.value) c.in-Ok-read_texts.ensures.files in
    HaltsAfter-by g.F.Files.reads words told c.args.files.now c.read_texts.new.files texts (whole texts) c.in-Err-lines_of.halt
    (c.in-Err-lines_of.ensures.halted words told headers c.in-Ok-declare_texts.declared.program reads c.in-Ok-declare_texts.ensures.declared) (call, called, given)

pub returns-in-Err-lines_of-clause-halted : goal.returns-in-Err-lines_of-clause-halted
returns-in-Err-lines_of-clause-halted g c =
    Halts-after g.F.Files.reads c.args.words.now (g.F.Files.told c.args.files.now) c.args.files.now c.read_texts.new.files c.in-Err-lines_of.halt
    (returns-in-Err-lines_of-clause-stopped g c)

pub returns-clause-read : goal.returns-clause-read
returns-clause-read g c = (texts_of c.in-Ok-read_texts.found, c.in-Ok-read_texts.ensures.files)

pub returns-clause-given : goal.returns-clause-given
returns-clause-given g c =
    let words = c.args.words.now in
    let told = g.F.Files.told c.args.files.now in
    let program = c.in-Ok-declare_texts.declared.program in
    let lines = c.in-Ok-lines_of.lines in
    let D : List (List ℕ) → Type 0 = λ headers. Declares headers program in
    let asks : Asks words told c.in-Ok.call program lines = record {
      texts = texts_of c.in-Ok-read_texts.found;
      reads = c.in-Ok-read_texts.ensures.read words c.in-Ok.ensures.called;
      declares = subst D c.as_slice.ensures.value c.in-Ok-declare_texts.ensures.declared;
      parsed = c.in-Ok-lines_of.ensures.parsed;
    } in
    (asks, c.in-Ok-read_texts.ensures.files)
