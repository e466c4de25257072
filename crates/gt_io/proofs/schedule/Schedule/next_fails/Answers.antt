use Rattle.std.proofs.Common.{rules, ◌≡◌, ◌∙◌, ap, sym, ℕ, ◌+◌, ◌-◌, ◌^◌, min, Bool, false, if◌then◌else◌}
use Rattle.gt_io.specs.Schedules.{fails_at, next_call, next_fails}
use Rattle.gt_io.proofs.schedule.Schedule.next_fails.Goals as goal

pub returns-else-fails-clause-counted : goal.returns-else-fails-clause-counted
returns-else-fails-clause-counted c =
    let old = c.args.self.now in
    let calls : c.saturating_add-self.result ≡ next_call old = search rules in
    let stands : false ≡ next_fails old = sym c.if-fails.false ∙ c.fails_at-fails.ensures ∙ ap (fails_at old) calls in
    ap (λ (n : ℕ). record old { calls = n }) calls
    ∙ ap (λ (fails : Bool). record old { calls = next_call old; faults = if fails then min (old.faults + 1) (2 ^ 64 - 1) else old.faults }) stands
