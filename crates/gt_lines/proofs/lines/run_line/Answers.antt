use Rattle.std.proofs.Common.{rules, ◌≡◌, ℕ, [], List, Option, refl, sym, ap, subst, inl, inr}
use Rattle.gt_io.specs.Held.{Held}
use Rattle.gt_io.specs.Appends.{Adds, AddsFront}
use Rattle.gt_next.specs.Texts.{text_of}
use Rattle.gt_session.specs.Sessions.{StandsFor}
use Rattle.gt_lines.proofs.RunLemmas.{Adds-none, empty-text}
use Rattle.gt_lines.proofs.CallLemmas.{unwritten, written, not_written, some-text}
use Rattle.gt_lines.proofs.lines.run_line.Goals as goal

pub returns-in_default-step-clause-ran : goal.returns-in_default-step-clause-ran
returns-in_default-step-clause-ran g c state stands =
    let told = g.F.Files.told c.args.files.now in
    let S : Option Held → Type 0 = λ x. StandsFor c.step.new.s x state in
    (state, (search rules, refl, refl), subst S (ap g.F.Files.told (sym c.step.ensures.files)) (c.in_default-step.ensures.unchanged told state stands))

pub returns-in_default-text-clause-ran : goal.returns-in_default-text-clause-ran
returns-in_default-text-clause-ran g c state stands =
    let next = c.in-Ok-step.ensures.next state stands in
    (next.0, (c.in-Ok-step.answer, (search rules, next.1), refl), next.2)

pub returns-then-is_empty-clause-ran : goal.returns-then-is_empty-clause-ran
returns-then-is_empty-clause-ran g c state stands =
    let next = c.in-Ok-step.ensures.next state stands in
    let written = g.K.Sink.written c.args.out.now in
    let none : text_of c.args.line.now c.in-Ok-step.answer ≡ [] = empty-text _ _ _ c.is_empty.ensures.empty c.if-is_empty.true c.in-Ok-text.ensures.text in
    (next.0, (c.in-Ok-step.answer, (search rules, next.1), Adds-none written written _ none refl), next.2)

pub returns-in-Ok-write_all-clause-ran : goal.returns-in-Ok-write_all-clause-ran
returns-in-Ok-write_all-clause-ran g c state stands =
    let next = c.in-Ok-step.ensures.next state stands in
    let same : c.as_slice.result.now ≡ text_of c.args.line.now c.in-Ok-step.answer = search rules in
    let P : List ℕ → Type 0 = λ bytes. Adds (g.K.Sink.written c.args.out.now) bytes (g.K.Sink.written c.write_all.new.self) in
    (next.0, (c.in-Ok-step.answer, (search rules, next.1), subst P same c.in-Ok-write_all.ensures.answer), next.2)

pub returns-in-Err-Failed-clause-ran : goal.returns-in-Err-Failed-clause-ran
returns-in-Err-Failed-clause-ran g c state stands =
    let next = c.in-Ok-step.ensures.next state stands in
    let same : c.as_slice.result.now ≡ text_of c.args.line.now c.in-Ok-step.answer = search rules in
    let P : List ℕ → Type 0 = λ bytes. AddsFront (g.K.Sink.written c.args.out.now) bytes (g.K.Sink.written c.write_all.new.self) in
    (next.0, (c.in-Ok-step.answer, (search rules, next.1), subst P same (rw c.in-Err-Failed.field-0-is at c.in-Err-Failed.ensures.answer)), next.2)

pub returns-clause-ran : goal.returns-clause-ran
returns-clause-ran g c state stands =
    let next = c.in-Ok-step.ensures.next state stands in
    (next.0, (c.in-Ok-step.answer, (search rules, next.1), rw c.in-Err-Memory.field-0-is at c.in-Err-Memory.ensures.answer), next.2)

pub returns-in_default-step-clause-calls : goal.returns-in_default-step-clause-calls
returns-in_default-step-clause-calls g c = (search rules, refl)

pub returns-in_default-text-clause-calls : goal.returns-in_default-text-clause-calls
returns-in_default-text-clause-calls g c = (c.in-Ok-step.answer, search rules, inl refl)

pub returns-then-is_empty-clause-calls : goal.returns-then-is_empty-clause-calls
returns-then-is_empty-clause-calls g c =
    let none : text_of c.args.line.now c.in-Ok-step.answer ≡ [] = empty-text _ _ _ c.is_empty.ensures.empty c.if-is_empty.true c.in-Ok-text.ensures.text in
    (c.in-Ok-step.answer, search rules, unwritten g.K.Sink.writes c.args.out.now _ none)

pub returns-in-Ok-write_all-clause-calls : goal.returns-in-Ok-write_all-clause-calls
returns-in-Ok-write_all-clause-calls g c =
    let same : c.as_slice.result.now ≡ text_of c.args.line.now c.in-Ok-step.answer = search rules in
    (c.in-Ok-step.answer, search rules, written g.K.Sink.writes _ _ _ _ same (some-text _ _ _ c.is_empty.ensures.empty c.if-is_empty.false c.in-Ok-text.ensures.text) c.in-Ok-write_all.ensures.step)

pub returns-in-Err-Failed-clause-calls : goal.returns-in-Err-Failed-clause-calls
returns-in-Err-Failed-clause-calls g c =
    let same : c.as_slice.result.now ≡ text_of c.args.line.now c.in-Ok-step.answer = search rules in
    (c.in-Ok-step.answer, search rules, not_written g.K.Sink.writes _ _ _ _ _ same (some-text _ _ _ c.is_empty.ensures.empty c.if-is_empty.false c.in-Ok-text.ensures.text) (rw c.in-Err-Failed.field-0-is at c.in-Err-Failed.ensures.step))

pub returns-clause-calls : goal.returns-clause-calls
returns-clause-calls g c =
    let same : c.as_slice.result.now ≡ text_of c.args.line.now c.in-Ok-step.answer = search rules in
    (c.in-Ok-step.answer, search rules, inr (not_written g.K.Sink.writes _ _ _ _ _ same (some-text _ _ _ c.is_empty.ensures.empty c.if-is_empty.false c.in-Ok-text.ensures.text) (rw c.in-Err-Memory.field-0-is at c.in-Err-Memory.ensures.step)))
