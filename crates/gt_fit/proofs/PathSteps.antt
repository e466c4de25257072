-- One step of a path, taken in parts.
use Rattle.std.proofs.Common.{◌≡◌, ℕ, cond, List, ap, ◌∙◌, Option, Some, None}
use Rattle.std.specs.Prelude.{slice_get}
use Rattle.std.specs.Str.{bytes_eq}
use Rattle.std.specs.List.{position_from}
use Rattle.gt_types.specs.declared.expressions.Expr.{Expr}
use Rattle.gt_types.specs.declared.types.TypeId.{TypeId}
use Rattle.gt_types.specs.declared.types.Ty.{Ty}
use Rattle.gt_types.specs.declared.types.Ty.TheVariants as ty
use Rattle.gt_types.specs.declared.program.Field.{Field}
use Rattle.gt_types.specs.declared.program.Structure.{Structure}
use Rattle.gt_types.specs.declared.program.Program.{Program}
use Rattle.gt_types.specs.Contains.{HasStructure}
use Rattle.gt_tree.specs.Trees.{Tree}
use Rattle.gt_tree.specs.Scopes.{◌then◌, member_of, field_of, step_in, step}

module _ (program : Program) (type : Ty) (node : TypeId) (desc : Option Expr) (s : Structure) (name : List ℕ) (tree : Tree) (place : Option ℕ)
    (is : type ≡ ty.Node node desc) (has : HasStructure program node s) (found : position_from (λ f. bytes_eq f.name name) 0 s.fields ≡ place) where
  at-place : step program type name tree ≡ (place then λ i. slice_get s.fields i then λ f. cond s.is_union (member_of program s f.ty tree) (field_of f tree i))
  at-place =
      ap (λ t. step program t name tree) is ∙ ap (λ o. o then λ x. step_in program x name tree) has
      ∙ ap (λ o. o then λ i. slice_get s.fields i then λ f. cond s.is_union (member_of program s f.ty tree) (field_of f tree i)) found

  -- no field has the name
  pub step-unnamed : place ≡ None → step program type name tree ≡ None
  step-unnamed none = at-place ∙ ap (λ o. o then λ i. slice_get s.fields i then λ f. cond s.is_union (member_of program s f.ty tree) (field_of f tree i)) none

  pub step-at : (i : ℕ) → place ≡ Some i → (f : Option Field) → slice_get s.fields i ≡ f → step program type name tree ≡ (f then λ g. cond s.is_union (member_of program s g.ty tree) (field_of g tree i))
  step-at i some f got =
      at-place
      ∙ ap (λ o. o then λ k. slice_get s.fields k then λ g. cond s.is_union (member_of program s g.ty tree) (field_of g tree k)) some
      ∙ ap (λ o. o then λ g. cond s.is_union (member_of program s g.ty tree) (field_of g tree i)) got
