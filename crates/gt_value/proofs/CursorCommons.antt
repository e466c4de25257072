-- The member of a union that is its common structure.
use Rattle.std.proofs.Common.{◌≡◌, ◌<◌, ℕ, true, false, List, length, ap, sym, subst, ◌∙◌, arith, Option, Some, None}
use Rattle.std.specs.Prelude.{slice_get}
use Rattle.std.specs.List.{position_from}
use Rattle.std.proofs.lemmas.List.Elements.{All-contains}
use Rattle.std.proofs.lemmas.Option.{slice_get_within, slice_get-get_or}
use Rattle.gt_types.specs.declared.expressions.Expr.{Expr}
use Rattle.gt_types.specs.declared.types.TypeId.{TypeId}
use Rattle.gt_types.specs.declared.types.Ty.TheVariants as ty
use Rattle.gt_types.specs.declared.program.Field.{Field}
use Rattle.gt_types.specs.declared.program.Structure.{Structure}
use Rattle.gt_types.specs.declared.program.Program.{Program}
use Rattle.gt_types.specs.Contains.{HasStructure}
use Rattle.gt_types.specs.Paths.{IsFieldDesc}
use Rattle.gt_types.specs.Settled.{Settled, IsField, NamesDescribed}
use Rattle.gt_types.specs.Unions.{IsCommon}
use Rattle.gt_tree.specs.Scopes.{is_node}
use Rattle.gt_tree.proofs.PathBegins.{same-number}
use Rattle.gt_tree.proofs.PathBits.{position-get, position-first}
use Rattle.gt_tree.proofs.Types.{innermost-node}
use Rattle.gt_tree.proofs.WriteReads.{node-type}
use Rattle.gt_value.proofs.PathWorths.{Contains-get}

-- a field whose type is a structure that is no union has no `desc`
pub bare-field : (program : Program) (node : TypeId) (y : Structure) (f : Field) (i : ℕ) (common : TypeId) (desc : Option Expr) → Settled program → HasStructure program node y → slice_get y.fields i ≡ Some f → f.ty ≡ ty.Node common desc
    → (s : Structure) → HasStructure program common s → s.is_union ≡ false → f.ty ≡ ty.Node common None
bare-field program node y f i common desc settled has got is s there plain =
    let field = All-contains (IsField program node y) y.fields f (settled.structures node y has).fields (Contains-get y.fields i f got) in
    let good = λ (union : TypeId) (u : Structure) (e : Expr). IsFieldDesc program node union e in
    let described = subst (NamesDescribed program good) (ap Rattle.gt_types.specs.Shapes.innermost is ∙ innermost-node common desc) field.names.described in
    go desc is described
  where
    go : (d : Option Expr) → f.ty ≡ ty.Node common d → NamesDescribed program (λ (union : TypeId) (u : Structure) (e : Expr). IsFieldDesc program node union e) (ty.Node common d) → f.ty ≡ ty.Node common None
    go None e h = e
    go (Some d) e (u, has', (union, good)) =
        let same : u ≡ s = cc in
        let a = subst (λ x. x.is_union ≡ true) same union in
        absurd (cc)

pub common-within : (common : TypeId) (fields : List Field) (i : ℕ) → position_from (λ f. is_node common f.ty) 0 fields ≡ Some i → i < length fields
common-within common fields i found =
    let at = position-get (λ (f : Field). is_node common f.ty) fields 0 i found in
    let lt = slice_get_within fields at.0 at.1 at.3 in
    omega (arith, lt, at.2)

pub common-at : (program : Program) (node : TypeId) (y : Structure) (common : TypeId) (i : ℕ) (f : Field) → Settled program → HasStructure program node y → IsCommon program y common
    → position_from (λ g. is_node common g.ty) 0 y.fields ≡ Some i → slice_get y.fields i ≡ Some f → f.ty ≡ ty.Node common None
common-at program node y common i f settled has is found got =
    let at = position-get (λ (g : Field). is_node common g.ty) y.fields 0 i found in
    let place : at.0 ≡ i = omega (arith, at.2) in
    let here = subst (λ k. slice_get y.fields k ≡ Some at.1) place at.3 in
    let same : at.1 ≡ f = cc in
    let type = node-type common f.ty (ap (λ (g : Field). is_node common g.ty) (sym same) ∙ at.4) in
    bare-field program node y f i common type.0 settled has got type.1 is.plain.0 is.plain.1 is.plain.2
