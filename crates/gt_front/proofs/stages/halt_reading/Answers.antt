use Rattle.std.proofs.Common.{ℕ, List, sym, subst, refl}
use Rattle.std.specs.Prelude.{IfOk}
use Rattle.gt_front.specs.Refused.{IsLineOf}
use Rattle.gt_front.specs.Reading.{IsStopOf}
use Rattle.gt_front.specs.Stages.{HaltsAt}
use Rattle.gt_front.specs.declared.preparing.Halt.TheVariants as halt
use Rattle.gt_front.specs.declared.reading.ReadStop.{ReadStop}
use Rattle.gt_front.specs.declared.reading.ReadStop.TheVariants.{Refused}
use Rattle.gt_front.proofs.stages.halt_reading.Goals as goal

pub returns-in-Memory-clause-halted : goal.returns-in-Memory-clause-halted
returns-in-Memory-clause-halted c = λ words told name texts calls stops.
    subst (λ (stop : ReadStop). HaltsAt words told texts stop halt.Memory) (sym c.in-Memory.is) refl

pub returns-in-Refused-clause-halted : goal.returns-in-Refused-clause-halted
returns-in-Refused-clause-halted c =
    λ words told name texts calls stops.
    let stop : IsStopOf told name c.args.call.now.headers (Refused c.in-Refused.word c.in-Refused.why) = subst (IsStopOf told name c.args.call.now.headers) c.in-Refused.is stops in
    let L : List ℕ → Type 0 = λ said. IfOk c.file_line.result (IsLineOf words c.in-Refused.word said) in
    subst (λ (stop : ReadStop). HaltsAt words told texts stop c.halt.result) (sym c.in-Refused.is)
    (c.halt.ensures.halted words told texts (c.args.call.now, name, calls, stop) (subst L c.why_text.ensures (c.file_line.ensures.line words calls.called)))
