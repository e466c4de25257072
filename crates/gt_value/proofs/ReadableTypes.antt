-- A type of what stands somewhere can be read: structures stand in it no deeper than in a program, and it has at most four dimensions.
use Rattle.std.proofs.Common.{◌≡◌, ◌≤◌, ◌<◌, ◌∙◌, ap, refl, subst, arith}
use Rattle.std.specs.Prelude.{All, Contains, List, None, Option, Some, false, get_or, length, slice_get}
use Rattle.std.proofs.lemmas.Option.{slice_get_within}
use Rattle.gt_types.specs.declared.expressions.Expr.{Expr}
use Rattle.gt_types.specs.declared.types.TypeId.{TypeId}
use Rattle.gt_types.specs.declared.types.Scalar.{Scalar}
use Rattle.gt_types.specs.declared.types.Scalar.TheVariants as scalar
use Rattle.gt_types.specs.declared.types.Width.TheVariants.{W1}
use Rattle.gt_types.specs.declared.types.Target.TheVariants as target
use Rattle.gt_types.specs.declared.types.PtrKind.TheVariants as pointer
use Rattle.gt_types.specs.declared.types.Ty.TheVariants.{outs-Node, outs-Num, outs-Ptr, outs-Str}
use Rattle.gt_types.specs.declared.types.Ty.{Ty}
use Rattle.gt_types.specs.declared.types.Ty.TheVariants as ty
use Rattle.gt_types.specs.declared.program.Field.{Field}
use Rattle.gt_types.specs.declared.program.Structure.{Structure}
use Rattle.gt_types.specs.declared.program.Program.{Program}
use Rattle.gt_types.specs.Contains.{HasStructure}
use Rattle.gt_types.specs.Settled.{Settled, IsRoot}
use Rattle.gt_types.specs.Unions.{IsCommon}
use Rattle.gt_types.specs.Shapes.{dimensions, field_type_at}
use Rattle.gt_layout.specs.Progress.{IsWithinDepth, HoldsWithinDepth}
use Rattle.gt_layout.proofs.Capacities.{shallow_fields}
use Rattle.gt_tree.specs.Trees.{Trees}
use Rattle.gt_tree.specs.Blocks.{Kind, Nodes, Pointers, Strings, Chars, Raw, desc_of, element_type}
use Rattle.gt_tree.specs.Scopes.{Scope}
use Rattle.gt_tree.proofs.FixedValues.{Given, Alike}
use Rattle.gt_tree.proofs.Types.{held-array, held-node, held-tail}
use Rattle.gt_value.specs.declared.sources.Source.{Source}
use Rattle.gt_value.specs.Reading.{Begins, in_block, in_statics}
use Rattle.gt_value.proofs.Dimensions.{array-dimensions, tail-dimensions}
use Rattle.gt_value.proofs.ZeroSteps.{field-flat, fields-flat, root-flat}
use Rattle.gt_value.proofs.ZeroValues.{element-held, root-held}

deep : (program : Program) → Settled program → (node : TypeId) → IsWithinDepth program node.0 32
deep program settled node n inner nests = settled.depth n node inner nests

deeper : (program : Program) (type : Ty) → HoldsWithinDepth program type 32 → HoldsWithinDepth program type 33
deeper program type h node e =
    let k = h node e in
    (k.0, omega arith, λ n inner nests. let small = k.2 n inner nests in omega (arith, small))

node-flat : (node : TypeId) (desc : Option Expr) → dimensions (ty.Node node desc) ≤ 4
node-flat node desc = field-flat (ty.Node node desc) (ap field_type_at (outs-Node node desc))

byte-flat : (scalar : Scalar) → dimensions (ty.Num scalar) ≤ 4
byte-flat scalar = field-flat (ty.Num scalar) (ap field_type_at (outs-Num scalar))

kind-flat : (program : Program) (kind : Kind) → dimensions (element_type program kind) ≤ 4
kind-flat program (Nodes node) = node-flat node (desc_of (slice_get program.structures node.0))
kind-flat program (Pointers node) = field-flat (element_type program (Pointers node)) (ap field_type_at (outs-Ptr (Some (target.Node node)) pointer.Plain false))
kind-flat program Strings = field-flat (ty.Str None) (ap field_type_at (outs-Str None))
kind-flat program Chars = byte-flat (scalar.Int W1 false)
kind-flat program Raw = byte-flat (scalar.Int W1 false)

-- what is asked of a type that is read
abbrev pub IsReadableType : Program → Ty → Type 0
IsReadableType program type = HoldsWithinDepth program type 33 × (dimensions type ≤ 4)

fields-readable : (program : Program) (node : TypeId) (s : Structure) → Settled program → HasStructure program node s → All (λ (f : Field). IsReadableType program f.ty) s.fields
fields-readable program node s settled has i d within =
    let shallow = shallow_fields program node.0 32 s s.fields settled has (deep program settled node) refl i d within in
    (deeper program (get_or s.fields i d).ty shallow, fields-flat program node s s.fields settled has refl i d within)

contained : {X : Type 0} (P : X → Type 0) (xs : List X) (x : X) → All P xs → Contains xs x → P x
contained P xs x all there = subst P there.2 (all there.0 x there.1)

common-readable : (program : Program) (common : TypeId) (s : Structure) → Settled program → IsCommon program s common → IsReadableType program (ty.Node common None)
common-readable program common s settled is =
    let within = slice_get_within program.structures common.0 is.plain.0 is.plain.1 in (
      λ inner e.
          let same = held-node common None in
          let equal : common ≡ inner = cc in
          (subst (λ (n : TypeId). n.0 < length program.structures) equal within, omega arith, deep program settled inner),
      node-flat common None,
    )

pub readable : (source : Source) (g : Given) → g.program ≡ source.program.now → Settled source.program.now → (statics : Trees) → {s t : Scope} {type : Ty} → Alike g (Begins source statics) s t type
    → IsReadableType source.program.now type
readable source g same settled statics (Alike.at_start (in_block kind may)) = (element-held source.program.now settled (element_type source.program.now kind) (kind, may, refl), kind-flat source.program.now kind)
readable source g same settled statics (Alike.at_start (in_statics r contains roots)) =
    let is = contained (IsRoot source.program.now) source.program.now.roots r settled.roots contains in
    (root-held source.program.now settled r is, root-flat r.ty is.shape)
readable source g same settled statics (Alike.in_field {node = node} {x = x} {f = f} a twins has contains) =
    contained (λ (f : Field). IsReadableType source.program.now f.ty) x.fields f (fields-readable source.program.now node x settled (subst (λ p. HasStructure p node x) same has)) contains
readable source g same settled statics (Alike.in_common {common = common} {x = x} a twins has c) =
    common-readable source.program.now common x settled (subst (λ p. IsCommon p x common) same c)
readable source g same settled statics (Alike.in_array {type = type} {elem = elem} {n = n} a e) =
    let before = readable source g same settled statics a in
    let flat = array-dimensions type elem n e in
    (λ node h. before.0 node (held-array type elem n e ∙ h), omega (arith, flat, before.1))
readable source g same settled statics (Alike.in_tail {type = type} {elem = elem} {length = long} a e) =
    let before = readable source g same settled statics a in
    let flat = tail-dimensions type elem long e in
    (λ node h. before.0 node (held-tail type elem long e ∙ h), omega (arith, flat, before.1))
