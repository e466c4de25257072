use Rattle.std.proofs.Common.{◌≡◌}
use Rattle.gt_rules.specs.Parts.{AtPlace, FieldFaults, IsFirstWith}
use Rattle.gt_rules.proofs.FirstLemmas.{Below}
use Rattle.gt_rules.proofs.fields.of_fields.Given as goal

abbrev pub invariant-loop-place : goal.invariant-loop-place
invariant-loop-place l =
    IsFirstWith l.initial.earliest (Below l.place l.fields (λ k df. AtPlace l.made k (λ f. FieldFaults l.known.draft.now l.known.program.now l.fn.checks.node l.file df f))) l.earliest
    × (l.checks ≡ l.fn.checks)
