-- Which rows serve which types: what the walks of a program are.
use Rattle.std.specs.Prelude.{◌≡◌, ◌≢◌, ◌<◌, ◌≤◌, ℕ, ◌+◌, ◌*◌, ◌/◌, ◌%◌, Bool, true, false, ℤ, List, [], ◌∷◌, ◌++◌, Option, Some, None, length, option_map, option_to_list, slice_get, All, Any, IsSome}
use Rattle.std.specs.Global.{Vec}
use Rattle.std.specs.Str.{bytes_eq}
use Rattle.std.specs.List.{position_from}
use Rattle.gt_types.specs.declared.expressions.Base.{Base}
use Rattle.gt_types.specs.declared.expressions.Base.TheVariants.{Here, Outer, Outermost}
use Rattle.gt_types.specs.declared.expressions.Op.{Op}
use Rattle.gt_types.specs.declared.expressions.Expr.{Expr}
use Rattle.gt_types.specs.declared.expressions.Expr.TheVariants as expr
use Rattle.gt_types.specs.declared.types.TypeId.{TypeId}
use Rattle.gt_types.specs.declared.types.Scalar.{Scalar}
use Rattle.gt_types.specs.declared.types.Target.{Target}
use Rattle.gt_types.specs.declared.types.Target.TheVariants as target
use Rattle.gt_types.specs.declared.types.PtrKind.{PtrKind}
use Rattle.gt_types.specs.declared.types.PtrKind.TheVariants as kind
use Rattle.gt_types.specs.declared.types.Ty.{Ty, out-Ty}
use Rattle.gt_types.specs.declared.types.Ty.TheOpen as part
use Rattle.gt_types.specs.declared.types.Ty.TheVariants as ty
use Rattle.gt_types.specs.declared.program.Field.{Field}
use Rattle.gt_types.specs.declared.program.Structure.{Structure}
use Rattle.gt_types.specs.declared.program.Root.{Root}
use Rattle.gt_types.specs.declared.program.Program.{Program}
use Rattle.gt_types.specs.Contains.{HasStructure, itself}
use Rattle.gt_types.specs.Paths.{MayStand}
use Rattle.gt_layout.specs.declared.planes.Plane.{Plane}
use Rattle.gt_layout.specs.declared.planes.FieldSpot.{FieldSpot}
use Rattle.gt_layout.specs.declared.planes.Layouts.{Layouts}
use Rattle.gt_layout.specs.Storages.{extent_of}
use Rattle.gt_layout.specs.Places.{begin_at}
use Rattle.gt_space.specs.Range.{statics_start}
use Rattle.gt_tree.specs.Blocks.{Blocks, Nodes, Pointers, Strings, Chars, Raw, MayName}
use Rattle.gt_tree.specs.Fits.{types_of}
use Rattle.gt_tree.specs.Scopes.{◌then◌}
use Rattle.gt_value.specs.declared.sources.Shape.{Shape}
use Rattle.gt_value.specs.Reading.{Place, place, shape_of}
use Rattle.gt_walk.specs.declared.rows.Origin.{Origin}
use Rattle.gt_walk.specs.declared.rows.Origin.TheVariants.{Inside, Zero}
use Rattle.gt_walk.specs.declared.rows.RowLeaf.{RowLeaf}
use Rattle.gt_walk.specs.declared.rows.RowExpr.{RowExpr}
use Rattle.gt_walk.specs.declared.rows.Count.TheVariants as count
use Rattle.gt_walk.specs.declared.rows.Arm.{Arm, out-Arm}
use Rattle.gt_walk.specs.declared.rows.WalkRow.{WalkRow}
use Rattle.gt_walk.specs.declared.rows.WalkRow.TheVariants as row
use Rattle.gt_walk.specs.declared.tables.Tables.{Tables}
use Rattle.gt_walk.specs.Rows.{rows_of}
use Rattle.gt_edges.specs.Numbers.{first_part, walk_of}
use Rattle.gt_edges.specs.Edges.{root_walk}

-- ---- the structures around

-- the structures around a place: the innermost, the one that contains it, and the outermost
pub record Around : Type 0 where
  pub here : Option TypeId
  pub outer : Option TypeId
  pub outermost : Option TypeId

-- outside every structure
abbrev pub outside : Around
outside = record { here = None; outer = None; outermost = None }

abbrev pub first_of : Option TypeId → TypeId → TypeId
first_of (Some node) other = node
first_of None other = other

-- inside a structure: what was the innermost contains it
abbrev pub inside : Around → TypeId → Around
inside around node = record { here = Some node; outer = around.here; outermost = Some (first_of around.outermost node) }

abbrev pub node_at : Around → Base → Option TypeId
node_at around Here = around.here
node_at around Outer = around.outer
node_at around Outermost = around.outermost

-- ---- the numbers that expressions read

-- the field of this name, at its bit from the begin of its structure
abbrev pub field_named : Program → List Plane → TypeId → List ℕ → Option Place
field_named program planes node name =
    slice_get program.structures node.0 then λ s.
    slice_get planes node.0 then λ plane.
    position_from (λ f. bytes_eq f.name name) 0 s.fields then λ i. slice_get s.fields i then λ f. slice_get plane.fields i then λ spot. Some (place f.ty (begin_at spot))

-- the place to which names lead from a place
abbrev pub place_after : Program → List Plane → Place → List (List ℕ) → Option Place
place_after program planes p [] = Some p
place_after program planes p (name ∷ names) = itself p.type then λ node. field_named program planes node name then λ next. place_after program planes (place next.type (p.at + next.at)) names

-- the place to which names, one at least, lead from the begin of a structure
abbrev pub place_named : Program → List Plane → TypeId → List (List ℕ) → Option Place
place_named program planes node [] = None
place_named program planes node (name ∷ names) = field_named program planes node name then λ p. place_after program planes p names

-- the leaf of a number at a place, which is counted from there
abbrev pub leaf_of : Origin → Place → Shape → RowLeaf
leaf_of origin p s = record { origin = origin; offset = p.at / 8; bit = p.at % 8; signed = s.signed; width = s.width }

abbrev pub leaf_at : Origin → Place → Option RowLeaf
leaf_at origin p = shape_of p.type then λ s. Some (leaf_of origin p s)

-- the leaf that a path reads inside some structures, where it leads to a number
abbrev pub path_leaf : Program → Layouts → Around → Base → List (List ℕ) → Option RowLeaf
path_leaf program layouts around base steps = node_at around base then λ node. place_named program layouts.structures node steps then leaf_at (Inside base)

-- the leaf of a root, where it is a number
abbrev pub root_leaf : Program → Layouts → ℕ → Option RowLeaf
root_leaf program layouts i =
    slice_get program.roots i then λ r. slice_get layouts.statics.fields i then λ spot. leaf_at Zero (place r.ty (8 * statics_start layouts.statics.size + begin_at spot))

-- An expression over leaves is one of the program: in place of each path and each root it reads the leaf of the number, and where there
-- is no number, a leaf that is not there.
pub data Translates (path : Base → List (List ℕ) → Option RowLeaf) (root : ℕ → Option RowLeaf) (leaves : List RowLeaf) : Expr → Expr → Type 0 where
  int : {n : ℤ} → Translates path root leaves (expr.Int n) (expr.Int n)
  of_path : {base : Base} {steps : List (List ℕ)} {i : ℕ} → slice_get leaves i ≡ path base steps → Translates path root leaves (expr.Path base steps) (expr.Root i)
  of_root : {place i : ℕ} → slice_get leaves i ≡ root place → Translates path root leaves (expr.Root place) (expr.Root i)
  one : {op : Op} {a b : Expr} → Translates path root leaves a b → Translates path root leaves (expr.One op a) (expr.One op b)
  two : {op : Op} {a b c d : Expr} → Translates path root leaves a c → Translates path root leaves b d → Translates path root leaves (expr.Two op a b) (expr.Two op c d)
  cond : {t a b u c d : Expr} → Translates path root leaves t u → Translates path root leaves a c → Translates path root leaves b d → Translates path root leaves (expr.Cond t a b) (expr.Cond u c d)

-- an expression where it stands in some structures
abbrev pub IsRowExpr : Program → Layouts → Around → Expr → RowExpr → Type 0
IsRowExpr program layouts around e r = Translates (path_leaf program layouts around) (root_leaf program layouts) r.leaves e r.expr

-- an expression that reads a leaf that is not there has no value
abbrev pub HasNoValue : RowExpr → Type 0
HasNoValue r = (i : ℕ) × (r.expr ≡ expr.Root i) × (slice_get r.leaves i ≡ None)

-- the expression that chooses a member; where there is none, one without a value
abbrev pub IsDescExpr : Program → Layouts → Around → Option Expr → RowExpr → Type 0
IsDescExpr program layouts around (Some e) r = IsRowExpr program layouts around e r
IsDescExpr program layouts around None r = HasNoValue r

-- ---- rows

-- the walk of the blocks that a pointer to a target names
abbrev pub target_walk : Program → Target → ℕ
target_walk program (target.Node node) = walk_of program (Nodes node)
target_walk program (target.Pointers node) = walk_of program (Pointers node)
target_walk program target.Strings = walk_of program Strings

-- a target is in the program
abbrev pub IsTarget : Program → Target → Type 0
IsTarget program (target.Node node) = node.0 < length program.structures
IsTarget program (target.Pointers node) = node.0 < length program.structures
IsTarget program target.Strings = Unit {0}

-- a pointer of this type names no block
abbrev pub NamesNothing : Ty → Type 0
NamesNothing type = (blocks : Blocks) (value : Expr → Option ℤ) (id : ℕ) → ¬ MayName blocks value type id

-- The row of a pointer at an offset: one of a single block, of as many elements as a length says, or of a block that is not walked.
-- A pointer that names no block has none.
pub data IsPointerRow (program : Program) (layouts : Layouts) (around : Around) : Ty → ℕ → Option WalkRow → Type 0 where
  string : {len : Option Expr} {offset : ℕ} → IsPointerRow program layouts around (ty.Str len) offset (Some (row.Ptr offset (walk_of program Chars) (count.Fixed 0) false))
  single : {t : Target} {reorder : Bool} {offset : ℕ} → IsTarget program t
      → IsPointerRow program layouts around (ty.Ptr (Some t) kind.Plain reorder) offset (Some (row.Ptr offset (target_walk program t) (count.Fixed 1) reorder))
  counted : {t : Target} {len : Expr} {e : RowExpr} {reorder : Bool} {offset : ℕ} → IsTarget program t → IsRowExpr program layouts around len e
      → IsPointerRow program layouts around (ty.Ptr (Some t) (kind.Length len) reorder) offset (Some (row.Ptr offset (target_walk program t) (count.Length e) reorder))
  atomic : {reorder : Bool} {offset : ℕ} → IsPointerRow program layouts around (ty.Ptr None kind.Atomic reorder) offset (Some (row.Ptr offset (walk_of program Raw) (count.Fixed 0) reorder))
  nothing : {t : Option Target} {k : PtrKind} {reorder : Bool} {offset : ℕ} → NamesNothing (ty.Ptr t k reorder) → IsPointerRow program layouts around (ty.Ptr t k reorder) offset None
  missing : {t : Target} {k : PtrKind} {reorder : Bool} {offset : ℕ} → ¬ IsTarget program t → IsPointerRow program layouts around (ty.Ptr (Some t) k reorder) offset None

mutual
  -- The row of a type at an offset, inside some structures; none where it has no edges.
  pub data IsRowOf (program : Program) (layouts : Layouts) (tables : Tables) : Around → Ty → ℕ → Option WalkRow → Type 0 where
    number : {around : Around} {scalar : Scalar} {offset : ℕ} → IsRowOf program layouts tables around (ty.Num scalar) offset None
    bits : {around : Around} {unit : Scalar} {width offset : ℕ} → IsRowOf program layouts tables around (ty.Bits unit width) offset None
    opaque : {around : Around} {size align offset : ℕ} → IsRowOf program layouts tables around (ty.Opaque size align) offset None
    pointer : {around : Around} {type : Ty} {offset : ℕ} {r : Option WalkRow} → IsPointerRow program layouts around type offset r → IsRowOf program layouts tables around type offset r
    structure : {around : Around} {node : TypeId} {desc : Option Expr} {offset : ℕ} {walk : Option ℕ} → IsPartOf program layouts tables around node desc walk
        → IsRowOf program layouts tables around (ty.Node node desc) offset (option_map (row.Sub offset) walk)
    array : {around : Around} {type elem : Ty} {n offset : ℕ} {r : Option WalkRow} → out-Ty type ≡ part.Arr n elem → IsRowOf program layouts tables around elem 0 r
        → IsRowOf program layouts tables around type offset (option_map (row.Rep offset n (extent_of layouts.structures elem).size) r)
    tail : {around : Around} {type elem : Ty} {len : Expr} {e : RowExpr} {offset : ℕ} {r : Option WalkRow} → out-Ty type ≡ part.Tail len elem → IsRowExpr program layouts around len e
        → IsRowOf program layouts tables around elem 0 r → IsRowOf program layouts tables around type offset (option_map (row.Tail offset e (extent_of layouts.structures elem).size) r)

  -- The walk of a structure by value, inside some structures: one after those of blocks, with the note of the structure, which has no
  -- chain, and a row at least; none where the structure has no rows.
  pub data IsPartOf (program : Program) (layouts : Layouts) (tables : Tables) : Around → TypeId → Option Expr → Option ℕ → Type 0 where
    walked : {around : Around} {node : TypeId} {desc : Option Expr} {walk : ℕ} {plane : Plane} {rows : List WalkRow} → first_part program ≤ walk
        → slice_get layouts.structures node.0 ≡ Some plane → rows ≢ [] → rows_of tables walk ≡ row.Note plane.size None ∷ rows
        → AreRowsOf program layouts tables (inside around node) node desc rows → IsPartOf program layouts tables around node desc (Some walk)
    empty : {around : Around} {node : TypeId} {desc : Option Expr} → AreRowsOf program layouts tables (inside around node) node desc [] → IsPartOf program layouts tables around node desc None

  -- The rows of a structure after its note: those of the fields of a struct, in order; of a union one by the value of its `desc`, with
  -- an arm for each member, of which one has a row at least; or none where no member has a row.
  pub data AreRowsOf (program : Program) (layouts : Layouts) (tables : Tables) : Around → TypeId → Option Expr → List WalkRow → Type 0 where
    struct : {around : Around} {node : TypeId} {desc : Option Expr} {s : Structure} {plane : Plane} {rows : List WalkRow} → HasStructure program node s → s.is_union ≡ false
        → slice_get layouts.structures node.0 ≡ Some plane → AreFieldRows program layouts tables around (types_of s.fields) plane.fields rows → AreRowsOf program layouts tables around node desc rows
    union : {around : Around} {node : TypeId} {desc : Option Expr} {s : Structure} {e : RowExpr} → (arms : Vec Arm) → HasStructure program node s → s.is_union ≡ true
        → AreArmsOf program layouts tables around s.fields arms.items → Any (λ arm. IsSome (out-Arm arm).row) arms.items → IsDescExpr program layouts around desc e → AreRowsOf program layouts tables around node desc (row.Switch e arms ∷ [])
    bare : {around : Around} {node : TypeId} {desc : Option Expr} {s : Structure} {arms : List Arm} → HasStructure program node s → s.is_union ≡ true
        → AreArmsOf program layouts tables around s.fields arms → All (λ arm. (out-Arm arm).row ≡ None) arms → AreRowsOf program layouts tables around node desc []

  -- the rows of fields at their places, in order
  pub data AreFieldRows (program : Program) (layouts : Layouts) (tables : Tables) : Around → List Ty → List FieldSpot → List WalkRow → Type 0 where
    none : {around : Around} → AreFieldRows program layouts tables around [] [] []
    more : {around : Around} {type : Ty} {types : List Ty} {spot : FieldSpot} {spots : List FieldSpot} {r : Option WalkRow} {rows : List WalkRow} → IsRowOf program layouts tables around type spot.offset r
        → AreFieldRows program layouts tables around types spots rows → AreFieldRows program layouts tables around (type ∷ types) (spot ∷ spots) (option_to_list r ++ rows)

  -- the arms of members, in order: each has the tag and the row of its member
  pub data AreArmsOf (program : Program) (layouts : Layouts) (tables : Tables) : Around → List Field → List Arm → Type 0 where
    no_arms : {around : Around} → AreArmsOf program layouts tables around [] []
    more_arms : {around : Around} {f : Field} {fields : List Field} {arm : Arm} {arms : List Arm} → (out-Arm arm).active ≡ f.active → IsRowOf program layouts tables around f.ty 0 (out-Arm arm).row
        → AreArmsOf program layouts tables around fields arms → AreArmsOf program layouts tables around (f ∷ fields) (arm ∷ arms)

-- ---- walks

-- a walk has the rows of a structure that stands alone
pub record HasRowsOf (program : Program) (layouts : Layouts) (tables : Tables) (node : TypeId) (desc : Option Expr) (walk : ℕ) : Type 0 where
  pub size : ℕ
  pub chain : Option ℕ
  pub rows : List WalkRow
  pub is : rows_of tables walk ≡ row.Note size chain ∷ rows
  pub are : AreRowsOf program layouts tables (inside outside node) node desc rows

-- a walk after those of blocks has the row of a root, which lies at an address; its note has the size of the static record, and no chain
pub record HasRowOfRoot (program : Program) (layouts : Layouts) (tables : Tables) (r : Root) (address walk : ℕ) : Type 0 where
  pub late : first_part program ≤ walk
  pub line : Option WalkRow
  pub is : rows_of tables walk ≡ row.Note layouts.statics.size None ∷ option_to_list line
  pub of_root : IsRowOf program layouts tables outside r.ty address line

-- The walks of blocks and roots have the rows of what they serve. Of what may not stand alone nothing is said.
pub record AreWalksOf (program : Program) (layouts : Layouts) (tables : Tables) : Type 0 where
  pub structures : (node : TypeId) (s : Structure) → MayStand program node → HasStructure program node s → HasRowsOf program layouts tables node s.desc (walk_of program (Nodes node))
  pub pointers : (node : TypeId) → MayStand program node → rows_of tables (walk_of program (Pointers node)) ≡ row.Note 8 None ∷ row.Ptr 0 (walk_of program (Nodes node)) (count.Fixed 1) false ∷ []
  pub strings : rows_of tables (walk_of program Strings) ≡ row.Note 8 None ∷ row.Ptr 0 (walk_of program Chars) (count.Fixed 0) false ∷ []
  pub unscanned : rows_of tables (walk_of program Chars) ≡ row.Note 1 None ∷ []
  pub roots : (place walk : ℕ) (r : Root) (spot : FieldSpot) → slice_get program.roots place ≡ Some r → r.deletable ≡ false → root_walk program tables place ≡ Some walk
      → slice_get layouts.statics.fields place ≡ Some spot → HasRowOfRoot program layouts tables r (statics_start layouts.statics.size + spot.offset) walk
