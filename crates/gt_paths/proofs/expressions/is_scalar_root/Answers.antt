use Rattle.std.proofs.Common.{◌≡◌, ℕ, Bool, Some, slice_get, sym, ◌∙◌, ap}
use Rattle.std.specs.Bool.{Decides}
use Rattle.gt_types.specs.declared.program.Root.{Root}
use Rattle.gt_types.specs.declared.program.Program.{Program}
use Rattle.gt_types.specs.Shapes.{is_number}
use Rattle.gt_types.specs.Paths.{IsScalarRoot}
use Rattle.gt_paths.proofs.expressions.is_scalar_root.Goals as goal

same_root : (r s : Root) → Some r ≡ Some s → r ≡ s
same_root r s e = cc

by_root : (program : Program) (i : ℕ) (r : Root) (b : Bool) → slice_get program.roots i ≡ Some r → b ≡ is_number r.ty → Decides b (IsScalarRoot program i)
by_root program i r b there is = (
  λ e. (r, there, sym is ∙ e),
  λ root. is ∙ ap (λ (s : Root). is_number s.ty) (same_root r root.0 (sym there ∙ root.1)) ∙ root.2,
)

pub returns-in-Some : goal.returns-in-Some
returns-in-Some c = by_root c.args.program.now c.args.place c.in-Some.r.now c.is_number.result (sym c.in-Some.ensures.item) c.is_number.ensures.number
