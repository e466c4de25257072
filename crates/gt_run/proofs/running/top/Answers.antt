use Rattle.std.proofs.Common.{ap, ◌≡◌, ◌∙◌, ℕ, List, Option, Some, None, inl, sym, subst, rules, arith}
use Rattle.gt_space.specs.Range.{Range}
use Rattle.gt_io.specs.Counts.{Rose}
use Rattle.gt_io.specs.Held.{Held}
use Rattle.gt_front.specs.Asks.{Reads}
use Rattle.gt_front.specs.Halts.{HaltsAfter}
use Rattle.gt_front.specs.Order.{IsReadAs, IsReadFor, Extent, extent_for, whole}
use Rattle.gt_front.specs.Refused.{IsRefusalLine}
use Rattle.gt_front.specs.declared.preparing.Halt.TheVariants as halt
use Rattle.gt_front.specs.declared.refusal.FileWhy.TheVariants.{Fault}
use Rattle.gt_front.specs.declared.refusal.Refusal.TheVariants.{File as InFile}
use Rattle.gt_script.proofs.Settled as script
use Rattle.gt_headers.proofs.LawLemmas as headers
use Rattle.gt_run.specs.Outputs.{output}
use Rattle.gt_run.specs.Ended.{Ends}
use Rattle.gt_run.proofs.EndLemmas.{Ends-stopped, Ends-unanswered}
use Rattle.gt_run.proofs.NoneRan.{none_ran}
use Rattle.gt_run.proofs.WellLemmas.{Ends-well, refused_well}
use Rattle.gt_run.proofs.RefusedEnds.{Ends-refused}
use Rattle.gt_run.proofs.LawLemmas as laws
use Rattle.gt_run.proofs.running.top.Given.{Over}
use Rattle.gt_run.proofs.running.top.Goals as goal

pub run_ready-requires-clause-settled : goal.run_ready-requires-clause-settled
run_ready-requires-clause-settled g c =
    let asks = c.in-Ok.ensures.ready in headers.declared_is_settled asks.texts.headers c.in-Ok.ready.program asks.declares

pub returns-in-Ok-clause-ended : goal.returns-in-Ok-clause-ended
returns-in-Ok-clause-ended g c =
    let words = c.args.words.now in
    let call = c.in-Ok.ready.call in
    let given = c.in-Ok.ensures.given in
    let asks = given.0 in
    let read = Some (whole asks.texts) in
    let told = c.prepare.ensures.told in
    let A : Option Held → Type 0 = λ t. Reads words t call asks.texts in
    let E : Option Held → Type 0 = λ t. Ends words t read (output g.K.Sink.writes g.K.Sink.written c.args.out.now c.run_ready.new.out) c.run_ready.result c.run_ready.new.space in
    let R : g.row.F.Denot → Type 0 = λ last. IsReadAs g.F.Files.reads call.script call.headers asks.texts c.args.files.now last in
    let ended = c.run_ready.ensures.ended words (record { texts = asks.texts; reads = subst A (sym told) asks.reads; declares = asks.declares; parsed = asks.parsed }) in
    (read, (call, asks.reads.called, subst R (sym c.run_ready.ensures.files) given.1), subst E told ended)

pub returns-in-Ok-clause-unused : goal.returns-in-Ok-clause-unused
returns-in-Ok-clause-unused g c =
    let its = returns-in-Ok-clause-ended g c in
    Ends-unanswered c.args.words.now (g.F.Files.told c.args.files.now) its.0 (output g.K.Sink.writes g.K.Sink.written c.args.out.now c.run_ready.new.out) c.run_ready.result c.run_ready.new.space its.2

pub returns-in-Ok-clause-read : goal.returns-in-Ok-clause-read
returns-in-Ok-clause-read g c = λ ran.
    let call = c.in-Ok.ready.call in
    let R : g.row.F.Denot → Type 0 = λ last. IsReadFor g.F.Files.reads call.script call.headers c.args.files.now last in
    (call, c.in-Ok.ensures.ready.reads.called, subst R (sym c.run_ready.ensures.files) c.in-Ok.ensures.read)

pub returns-in-Ok-clause-stopped : goal.returns-in-Ok-clause-stopped
returns-in-Ok-clause-stopped g c =
    let its = returns-in-Ok-clause-ended g c in
    Ends-stopped g.F.Files.reads c.args.words.now (g.F.Files.told c.args.files.now) c.args.files.now c.run_ready.new.files its.0 (output g.K.Sink.writes g.K.Sink.written c.args.out.now c.run_ready.new.out) c.run_ready.result c.run_ready.new.space its.1 its.2

pub returns-in-Ok-clause-complete : goal.returns-in-Ok-clause-complete
returns-in-Ok-clause-complete g c = λ well no_file no_sink.
    let words = c.args.words.now in
    let before = g.F.Files.told c.args.files.now in
    let its = returns-in-Ok-clause-ended g c in
    let file_rose : (word : ℕ) → c.run_ready.result.refusal ≡ Some (InFile word Fault) → Rose (g.F.Files.faults c.args.files.now) (g.F.Files.faults c.run_ready.new.files) = search rules in
    Ends-well words before its.0 (output g.K.Sink.writes g.K.Sink.written c.args.out.now c.run_ready.new.out) c.run_ready.result c.run_ready.new.space _ _ (refused_well script.one_outcome headers.no_fault words before well) no_file no_sink
    file_rose c.run_ready.ensures.cause its.2

pub returns-in-Ok-clause-refused : goal.returns-in-Ok-clause-refused
returns-in-Ok-clause-refused g c = λ held texts refusal told first known no_file.
    let words = c.args.words.now in
    let its = returns-in-Ok-clause-ended g c in
    let file_rose : (word : ℕ) → c.run_ready.result.refusal ≡ Some (InFile word Fault) → Rose (g.F.Files.faults c.args.files.now) (g.F.Files.faults c.run_ready.new.files) = search rules in
    let E : Option Held → Type 0 = λ told. Ends words told its.0 (output g.K.Sink.writes g.K.Sink.written c.args.out.now c.run_ready.new.out) c.run_ready.result c.run_ready.new.space in
    Ends-refused laws.one_refusal laws.no_run words held texts refusal its.0 (output g.K.Sink.writes g.K.Sink.written c.args.out.now c.run_ready.new.out) c.run_ready.result c.run_ready.new.space first known (subst E told its.2)
    (λ word is. no_file (file_rose word is))

pub returns-in-Err-Memory-clause-read : goal.returns-in-Err-Memory-clause-read
returns-in-Err-Memory-clause-read g c = λ ran.
    let status : c.of.result.status ≡ 9 = c.of.ensures.status in
    absurd (none_ran c.of.result.status c.of.result.answers.items (omega (arith, status)) (ap (λ a. a.items) c.of.ensures.answers ∙ c.new.ensures.none) ran)

pub returns-in-Err-Memory-clause-stopped : goal.returns-in-Err-Memory-clause-stopped
returns-in-Err-Memory-clause-stopped g c = λ refusal is.
    let none : None ≡ Some refusal = sym c.of.ensures.refusal ∙ is in absurd (cc)

module _ (g : Over) (c : goal.After-drop-line-inside g) where
  halts : HaltsAfter g.F.Files.reads c.args.words.now (g.F.Files.told c.args.files.now) c.args.files.now (halt.Refused c.in-Err-Refused.refusal c.in-Err-Refused.line) c.prepare.new.files
  halts = rw c.in-Err-Refused.field-0-is at c.in-Err-Refused.ensures.stopped

  abbrev was_read : Option Extent
  was_read = Some (extent_for halts.0 c.in-Err-Refused.refusal)

  refused_ends : Ends c.args.words.now (g.F.Files.told c.args.files.now) was_read (output g.K.Sink.writes g.K.Sink.written c.args.out.now c.refused_outcome.new.out) c.refused_outcome.result c.args.space.now
  refused_ends =
      let same : c.as_slice.result.now ≡ c.in-Err-Refused.line = search rules in
      let refusal = c.in-Err-Refused.refusal in
      let told = g.F.Files.told c.args.files.now in
      let L : List ℕ → Type 0 = λ line. IsRefusalLine c.args.words.now halts.0 refusal line in
      let E : Range → Type 0 = λ range. Ends c.args.words.now told was_read (output g.K.Sink.writes g.K.Sink.written c.args.out.now c.refused_outcome.new.out) c.refused_outcome.result range in
      subst E (sym c.requires.empty) (c.refused_outcome.ensures.ended c.args.words.now told halts.0 (inl halts.1) (subst L (sym same) halts.2))

pub returns-in-Err-Refused-clause-ended : goal.returns-in-Err-Refused-clause-ended
returns-in-Err-Refused-clause-ended g c = (was_read g c, (halts g c).3, refused_ends g c)

pub returns-in-Err-Refused-clause-read : goal.returns-in-Err-Refused-clause-read
returns-in-Err-Refused-clause-read g c = λ ran.
    absurd (none_ran c.refused_outcome.result.status c.refused_outcome.result.answers.items c.refused_outcome.ensures.status c.refused_outcome.ensures.unanswered ran)

pub returns-in-Err-Refused-clause-stopped : goal.returns-in-Err-Refused-clause-stopped
returns-in-Err-Refused-clause-stopped g c =
    Ends-stopped g.F.Files.reads c.args.words.now (g.F.Files.told c.args.files.now) c.args.files.now c.prepare.new.files (was_read g c) (output g.K.Sink.writes g.K.Sink.written c.args.out.now c.refused_outcome.new.out) c.refused_outcome.result c.args.space.now
    (halts g c).3 (refused_ends g c)

pub returns-in-Err-Refused-clause-failed : goal.returns-in-Err-Refused-clause-failed
returns-in-Err-Refused-clause-failed g c = λ word is. (returns-in-Err-Refused-clause-stopped g c (InFile word Fault) is).2

pub returns-in-Err-Refused-clause-complete : goal.returns-in-Err-Refused-clause-complete
returns-in-Err-Refused-clause-complete g c = λ well no_file no_sink.
    let words = c.args.words.now in
    let before = g.F.Files.told c.args.files.now in
    let file_rose : (word : ℕ) → c.refused_outcome.result.refusal ≡ Some (InFile word Fault) → Rose (g.F.Files.faults c.args.files.now) (g.F.Files.faults c.prepare.new.files) = search rules in
    Ends-well words before (was_read g c) (output g.K.Sink.writes g.K.Sink.written c.args.out.now c.refused_outcome.new.out) c.refused_outcome.result c.args.space.now _ _ (refused_well script.one_outcome headers.no_fault words before well) no_file no_sink
    file_rose c.refused_outcome.ensures.cause (refused_ends g c)

pub returns-in-Err-Refused-clause-refused : goal.returns-in-Err-Refused-clause-refused
returns-in-Err-Refused-clause-refused g c = λ held texts refusal told first known no_file.
    let words = c.args.words.now in
    let file_rose : (word : ℕ) → c.refused_outcome.result.refusal ≡ Some (InFile word Fault) → Rose (g.F.Files.faults c.args.files.now) (g.F.Files.faults c.prepare.new.files) = search rules in
    let E : Option Held → Type 0 = λ told. Ends words told (was_read g c) (output g.K.Sink.writes g.K.Sink.written c.args.out.now c.refused_outcome.new.out) c.refused_outcome.result c.args.space.now in
    Ends-refused laws.one_refusal laws.no_run words held texts refusal (was_read g c) (output g.K.Sink.writes g.K.Sink.written c.args.out.now c.refused_outcome.new.out) c.refused_outcome.result c.args.space.now first known (subst E told (refused_ends g c))
    (λ word is. no_file (file_rose word is))
