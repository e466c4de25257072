use Rattle.std.proofs.Common.{ℕ, take}
use Rattle.std.specs.Prelude.{All}
use Rattle.gt_types.specs.Paths.{LeadsToNumber}
use Rattle.gt_paths.specs.Numbers.{numbered}
use Rattle.gt_paths.proofs.frontiers.all_lead.Given as goal

abbrev pub invariant-loop-start : goal.invariant-loop-start
invariant-loop-start l = All (λ (start : ℕ). LeadsToNumber l.program (numbered start) l.steps) (take l.start-index l.starts)
