use Rattle.std.proofs.Common.{take}
use Rattle.std.specs.Prelude.{All}
use Rattle.gt_next.specs.Laws.{IsBuilt}
use Rattle.gt_run.proofs.built.are_built.Given as goal

-- the commands so far are built
abbrev pub invariant-loop-line : goal.invariant-loop-line
invariant-loop-line l = All (λ line. IsBuilt line.command) (take l.line-index l.lines)
