use Rattle.std.proofs.Common.{take}
use Rattle.std.specs.Prelude.{All, IsTrue}
use Rattle.gt_types.specs.Unions.{may_be_active, BeginsWith}
use Rattle.gt_types.specs.declared.program.Field.{Field}
use Rattle.gt_unions.proofs.commons.are_begun.Given as goal

abbrev pub invariant-loop-f : goal.invariant-loop-f
invariant-loop-f l = All (λ (x : Field). IsTrue (may_be_active x.active) → BeginsWith l.program x.ty l.node) (take l.f-index l.fields)
