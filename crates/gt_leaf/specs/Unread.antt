-- Which leaves no expression reads, and what follows for writing them.
use Rattle.std.specs.Prelude.{◌≡◌, ◌⊎◌, ℕ, Bool, ◌∷◌, List, [], Option, Some, None, true, false, IsTrue, Contains, option_to_list, slice_get, if◌then◌else◌}
use Rattle.gt_types.specs.declared.expressions.Base.{Base}
use Rattle.gt_types.specs.declared.expressions.Base.TheVariants.{Here, Outer, Outermost}
use Rattle.gt_types.specs.declared.expressions.Expr.{Expr}
use Rattle.gt_types.specs.declared.types.TypeId.{TypeId}
use Rattle.gt_types.specs.declared.types.Ty.{Ty, out-Ty}
use Rattle.gt_types.specs.declared.types.Ty.TheOpen as part
use Rattle.gt_types.specs.declared.types.Ty.TheVariants as ty
use Rattle.gt_types.specs.declared.types.Ty.TheOpen.{Ty-F}
use Rattle.gt_types.specs.declared.types.Ty.TheFolds.{fold-Ty}
use Rattle.gt_types.specs.declared.types.PtrKind.{PtrKind}
use Rattle.gt_types.specs.declared.types.PtrKind.TheVariants as kind
use Rattle.gt_types.specs.declared.program.Structure.{Structure}
use Rattle.gt_types.specs.declared.program.Field.{Field}
use Rattle.gt_types.specs.declared.program.Root.{Root as RootOf}
use Rattle.gt_types.specs.declared.program.Program.{Program}
use Rattle.gt_types.specs.Shapes.{innermost, is_number, count_of}
use Rattle.gt_types.specs.Contains.{HasStructure, ContainsStructure, ContainsAtDepth}
use Rattle.gt_types.specs.Paths.{paths_of, roots_of, own_expressions}
use Rattle.gt_layout.specs.declared.planes.Plane.{Plane}
use Rattle.gt_layout.specs.declared.planes.FieldSpot.{FieldSpot}
use Rattle.gt_tree.specs.Trees.{Tree, Rec, Trees, is_leaf, with_part, without_pointers}
use Rattle.gt_tree.specs.Blocks.{Kind, Blocks, element_type}
use Rattle.gt_tree.specs.Scopes.{outside, ◌then◌}
use Rattle.gt_tree.specs.Fits.{Fits, StaticsFit}
use Rattle.gt_tree.specs.FixedLaws.{MayHold}
use Rattle.gt_value.specs.declared.places.Holder.{Holder}
use Rattle.gt_value.specs.declared.places.Holder.TheVariants as lies_in
use Rattle.gt_value.specs.Places.{Part, PartLies, StaticPartLies}
use Rattle.gt_starts.specs.Ways.{Way, hidden, field_at, way_to, LeadsAlong}

-- ---- what expressions read

abbrev pub lengths_of : PtrKind → List Expr
lengths_of (kind.Length length) = length ∷ []
lengths_of kind = []

abbrev pub expressions_step : Ty-F (List Expr) → List Expr
expressions_step (part.Str length) = option_to_list length
expressions_step (part.Ptr target kind reorder) = lengths_of kind
expressions_step (part.Node node desc) = option_to_list desc
expressions_step (part.Arr n elem) = elem
expressions_step (part.Tail length elem) = length ∷ elem
expressions_step type = []

-- the expressions in a type: lengths, and the `desc` of a union
abbrev pub expressions_of : Ty → List Expr
expressions_of = fold-Ty (List Expr) expressions_step

-- an expression stands in the program: in the type of a field or of a root
pub data IsExpressionOf (program : Program) (e : Expr) : Type 0 where
  of_field : (s : Structure) (f : Field) → Contains program.structures s → Contains s.fields f → Contains (expressions_of f.ty) e → IsExpressionOf program e
  of_desc : (s : Structure) → Contains program.structures s → s.desc ≡ Some e → IsExpressionOf program e
  of_root : (r : RootOf) → Contains program.roots r → Contains (expressions_of r.ty) e → IsExpressionOf program e

-- a structure may be the outermost one around another: it is this one itself, or contains it at some depth
abbrev pub MayBeOutermost : Program → TypeId → TypeId → Type 0
MayBeOutermost program node outer = (outer ≡ node) ⊎ ContainsAtDepth program outer node

-- The structures at which the paths of an expression begin. For the length of a field, `%h` is the field's structure, and `%1` each that
-- contains it. For the `desc` of a union itself, `%h` is the union. For the `desc` of a field that holds a union, `%h` is the union, and
-- `%1` the field's structure. For the `desc` of a root, `%h` is the union. `%0` is each structure that may be the outermost one: around the
-- structure of the field, around the union whose `desc` it is, and for the `desc` of a root the union.
pub data BeginsAt (program : Program) (e : Expr) : Base → TypeId → Type 0 where
  own_here : {node : TypeId} {s : Structure} → HasStructure program node s → Contains (own_expressions s) e → BeginsAt program e Here node
  length_outer : (node : TypeId) {outer : TypeId} {s : Structure} {f : Field} → HasStructure program node s → Contains s.fields f → count_of f.ty ≡ Some e
      → ContainsStructure program outer node → BeginsAt program e Outer outer
  desc_here : (node : TypeId) {union : TypeId} {s : Structure} {f : Field} → HasStructure program node s → Contains s.fields f → innermost f.ty ≡ ty.Node union (Some e)
      → BeginsAt program e Here union
  desc_outer : {node union : TypeId} {s : Structure} {f : Field} → HasStructure program node s → Contains s.fields f → innermost f.ty ≡ ty.Node union (Some e)
      → BeginsAt program e Outer node
  root_here : {r : RootOf} {union : TypeId} → Contains program.roots r → innermost r.ty ≡ ty.Node union (Some e) → BeginsAt program e Here union
  own_outermost : (node : TypeId) {outer : TypeId} {s : Structure} → HasStructure program node s → Contains (own_expressions s) e → MayBeOutermost program node outer
      → BeginsAt program e Outermost outer
  desc_outermost : (node : TypeId) {outer union : TypeId} {s : Structure} {f : Field} → HasStructure program node s → Contains s.fields f → innermost f.ty ≡ ty.Node union (Some e)
      → MayBeOutermost program node outer → BeginsAt program e Outermost outer
  root_outermost : {r : RootOf} {union : TypeId} → Contains program.roots r → innermost r.ty ≡ ty.Node union (Some e) → BeginsAt program e Outermost union

-- ---- which paths may lead to a leaf

-- some expression has a path of these names from this base that begins at a structure
abbrev pub HasPath : Program → Base → TypeId → List (List ℕ) → Type 0
HasPath program base begin names = (e : Expr) × BeginsAt program e base begin × Contains (paths_of e) (base, names)

-- one of them may lead this way to a leaf of this name
abbrev pub ReadsFrom : Program → Base → TypeId → Way → List ℕ → Type 0
ReadsFrom program base begin way last = (names : List (List ℕ)) × HasPath program base begin names × LeadsAlong way last names

-- ---- the structures around a leaf

abbrev pub elem_of : Ty-F Ty → Option Ty
elem_of (part.Arr n elem) = Some elem
elem_of (part.Tail length elem) = Some elem
elem_of type = None

-- the type of the root at a place
abbrev pub root_at : Program → ℕ → Option Ty
root_at program i = slice_get program.roots i then λ r. Some r.ty

-- the type of the part at a place of a value: of a field, a member or an element
abbrev pub part_at : Program → Ty → ℕ → Option Ty
part_at program (ty.Node node desc) i = field_at program node i
part_at program type i = elem_of (out-Ty type)

-- a structure around a leaf, and the way from it to the leaf
abbrev pub Enclosing : Type 0
Enclosing = TypeId × Way

-- The structures around a leaf: from the innermost array on the way inwards, from the inside out; and the outermost of all, where there is
-- one.
pub record Around : Type 0 where
  pub structures : List Enclosing
  pub outermost : Option Enclosing

-- none from here inwards, where this is the outermost one
abbrev pub none_around : Option Enclosing → Around
none_around outermost = record { structures = []; outermost = outermost }

-- the outermost structure: the one that is known, else this first one
abbrev pub outermost_in : Option Enclosing → Enclosing → Enclosing
outermost_in (Some known) first = known
outermost_in None first = first

-- with this structure
abbrev pub with_enclosing : Around → Enclosing → Around
with_enclosing around outer = record { structures = outer ∷ around.structures; outermost = Some (outermost_in around.outermost outer) }

-- with a structure from which this path leads on
abbrev pub with_structure : Program → Around → TypeId → List ℕ → Around
with_structure program around node path = with_enclosing around (node, way_to program (Some node) path)

-- Those around a part of a value of this type, where these are around the value, and this path leads on: with the structure itself,
-- where it is one. An array has none around its elements but the outermost one, since no path of an expression leads into an array.
abbrev pub with_itself : Program → Around → Ty → List ℕ → Around
with_itself program around (ty.Node node desc) path = with_structure program around node path
with_itself program around type path = none_around around.outermost

-- the structures around the part at a path, where these are around the value and each union on the way has an active member
abbrev pub structures_from : Program → Around → Option Ty → List ℕ → Around
structures_from program around (Some type) (i ∷ path) = structures_from program (with_itself program around type (i ∷ path)) (part_at program type i) path
structures_from program around type path = around

-- so where none is around the value
abbrev pub structures_on : Program → Option Ty → List ℕ → Around
structures_on program type path = structures_from program (none_around None) type path

-- so in the static record, of which the first place of a path is that of a root
abbrev pub structures_in_statics : Program → List ℕ → Around
structures_in_statics program [] = none_around None
structures_in_statics program (i ∷ path) = structures_on program (root_at program i) path

-- a structure stands around a leaf, with this way to it: for paths from `%0` the outermost one does, for others each
abbrev pub StandsAround : Around → Base → Enclosing → Type 0
StandsAround around Outermost outer = around.outermost ≡ Some outer
StandsAround around base outer = Contains around.structures outer

-- A structure may stand around a leaf so: it does; or, where some union around the leaf has no active member, which hides what is inside
-- it, each may, and nothing is known of the way.
abbrev pub MayStandAround : Around → Bool → Base → Enclosing → Type 0
MayStandAround around true base outer = StandsAround around base outer
MayStandAround around false base outer = outer.1 ≡ hidden []

-- ---- what is read

-- expressions may read a leaf of this name inside these structures: some path may lead to it from one that may stand around it
abbrev pub IsReadName : Program → Around → Bool → List ℕ → Type 0
IsReadName program around active last = (base : Base) × (outer : Enclosing) × MayStandAround around active base outer × ReadsFrom program base outer.0 outer.1 last

abbrev pub name_of_number : Field → Option (List ℕ)
name_of_number f = if is_number f.ty then Some f.name else None

-- the name of the number at a place of a structure
abbrev pub number_name : Program → TypeId → ℕ → Option (List ℕ)
number_name program node i = slice_get program.structures node.0 then λ s. slice_get s.fields i then name_of_number

-- expressions may read the number at a place of a structure, inside these
abbrev pub IsReadField : Program → Around → Bool → TypeId → ℕ → Type 0
IsReadField program around active node i = (last : List ℕ) × (number_name program node i ≡ Some last) × IsReadName program around active last

-- some expression of the program names this root
abbrev pub IsReadRoot : Program → ℕ → Type 0
IsReadRoot program i = (e : Expr) × IsExpressionOf program e × Contains (roots_of e) i

-- No expression reads a leaf that lies in this, inside these structures. What is no number is never read. An element of a block lies in
-- neither a field nor a root.
abbrev pub IsUnread : Program → Around → Bool → Holder → Type 0
IsUnread program around active lies_in.Element = Unit {0}
IsUnread program around active (lies_in.Root i) = ¬ IsReadRoot program i
IsUnread program around active (lies_in.Field node i) = ¬ IsReadField program around active node i

-- ---- laws

-- A leaf may be replaced by another: where a union around it has no active member, by none but a number, bytes or null.
abbrev pub MayReplace : Part → Tree → Type 0
MayReplace p leaf = IsTrue (is_leaf p.tree) × IsTrue (is_leaf leaf) × ((p.active ≡ true) ⊎ (without_pointers leaf ≡ leaf))

-- Where a leaf of an element of a block is replaced that no expression reads, and the new one fits its place, the element with it fits.
abbrev pub UnreadElementsFit : Program → List Plane → Type 0
UnreadElementsFit program planes = (blocks : Blocks) (statics : Trees) (kind : Kind) (capacity : ℕ) (value leaf : Tree) (path : List ℕ) (p : Part) → MayHold program kind
    → Fits program blocks capacity (outside statics) (element_type program kind) value
    → PartLies program planes (outside statics) lies_in.Element true 0 (element_type program kind) value path p
    → IsUnread program (structures_on program (Some (element_type program kind)) path) p.active p.holder → MayReplace p leaf → Fits program blocks capacity p.scope p.type leaf
    → Fits program blocks capacity (outside statics) (element_type program kind) (with_part value path leaf)

-- so it is for the static record
abbrev pub UnreadStaticsFit : Program → List Plane → List FieldSpot → Type 0
UnreadStaticsFit program planes spots = (blocks : Blocks) (old new : Trees) (leaf : Tree) (path : List ℕ) (p : Part)
    → StaticsFit program blocks old → StaticPartLies program planes spots old path p
    → IsUnread program (structures_in_statics program path) p.active p.holder → MayReplace p leaf → Fits program blocks 0 p.scope p.type leaf
    → with_part (Rec old) path leaf ≡ Rec new → StaticsFit program blocks new
