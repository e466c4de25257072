-- The part with which what is there in a union begins.
use Rattle.std.proofs.Common.{◌≡◌, ℕ, ◌+◌, ◌*◌, Bool, true, false, cond, List, [], ◌∷◌, refl, ap, sym, subst, ◌∙◌, arith, Option, Some, None}
use Rattle.std.specs.Prelude.{◌==◌, slice_get}
use Rattle.std.proofs.lemmas.Bool.{eqb-true, eq-eqb}
use Rattle.std.proofs.Math.Nat.{zero-mod}
use Rattle.gt_types.specs.declared.expressions.Expr.{Expr}
use Rattle.gt_types.specs.declared.types.TypeId.{TypeId}
use Rattle.gt_types.specs.declared.types.Ty.{Ty}
use Rattle.gt_types.specs.declared.types.Ty.TheVariants as ty
use Rattle.gt_types.specs.declared.program.Field.{Field}
use Rattle.gt_types.specs.declared.program.Structure.{Structure}
use Rattle.gt_types.specs.declared.program.Program.{Program}
use Rattle.gt_types.specs.Contains.{HasStructure}
use Rattle.gt_types.specs.Unions.{BeginsWith, is_it, by_first}
use Rattle.gt_layout.specs.declared.planes.Plane.{Plane}
use Rattle.gt_layout.specs.declared.planes.FieldSpot.{FieldSpot}
use Rattle.gt_layout.specs.declared.storages.Storage.{Storage}
use Rattle.gt_layout.specs.declared.storages.Storage.TheVariants.{Bytes}
use Rattle.gt_layout.specs.Storages.{extent_of, storage_of, storages_of}
use Rattle.gt_layout.specs.Places.{begin_at, Follow, Lie}
use Rattle.gt_layout.specs.Planes.{AreLaidOut}
use Rattle.gt_tree.specs.Trees.{Tree, Num, Null, To, Raw, Rec, Alt, Row, Trees, End, And, tree_at}
use Rattle.gt_tree.specs.Blocks.{Blocks}
use Rattle.gt_tree.specs.Scopes.{Scope, is_of_node, type_of_field, first_field_type, first_type, beginning, beginning_of}
use Rattle.gt_tree.specs.Fits.{Fits}
use Rattle.gt_tree.specs.Leaves.{Leaf, HasLeaves}
use Rattle.gt_tree.specs.PathLaws.{FitsWith}
use Rattle.gt_tree.proofs.PathParts.{NumbersIn, FieldPart, field-part}

pub same-number : (n : ℕ) → (n == n) ≡ true
same-number n = eq-eqb n n refl

pub one-number : (a b : ℕ) → (a == b) ≡ true → a ≡ b
one-number a b e = eqb-true a b e

one-node : (a b : TypeId) → a.0 ≡ b.0 → a ≡ b
one-node a b e = ap (λ n. let node : TypeId = record { 0 = n } in node) e

-- ---- what begins

-- a value that fits a structure by value, with its leaves
record FitsWithDesc (program : Program) (planes : List Plane) (node : TypeId) (desc : Option Expr) (value : Tree) (at : ℕ) (leaves : List Leaf) : Type 0 where
  blocks : Blocks
  capacity : ℕ
  scope : Scope
  fits : Fits program blocks capacity scope (ty.Node node desc) value
  has : HasLeaves program planes at (ty.Node node desc) value leaves

-- the begin of a value of a type: a part of another structure at the same bit
pub record Begun (program : Program) (planes : List Plane) (node : TypeId) (type : Ty) (tree : Tree) (at : ℕ) (leaves : List Leaf) : Type 0 where
  pub part : Tree
  pub first : List Leaf
  pub begins : beginning program node (Some type) tree ≡ Some part
  pub fits : FitsWith program planes node part at first
  pub numbers : NumbersIn first leaves

pub beginning-self : (program : Program) (node : TypeId) (type : Ty) (tree : Tree) → is_of_node node (Some type) ≡ true → beginning program node (Some type) tree ≡ Some tree
beginning-self program node type (Num n) e = ap (λ b. cond b (Some (Num n)) None) e
beginning-self program node type Null e = ap (λ b. cond b (Some Null) None) e
beginning-self program node type (To id) e = ap (λ b. cond b (Some (To id)) None) e
beginning-self program node type (Raw bytes) e = ap (λ b. cond b (Some (Raw bytes)) None) e
beginning-self program node type (Rec trees) e = ap (λ b. cond b (Some (Rec trees)) (beginning_of program node (first_type program type) trees)) e
beginning-self program node type (Alt member tree) e = ap (λ b. cond b (Some (Alt member tree)) None) e
beginning-self program node type (Row trees) e = ap (λ b. cond b (Some (Row trees)) None) e

beginning-first : (program : Program) (node : TypeId) (type : Option Ty) (trees : Trees) (tree : Tree) → tree_at trees 0 ≡ Some tree → beginning_of program node type trees ≡ beginning program node type tree
beginning-first program node type End tree e = absurd (cc)
beginning-first program node type (And first rest) tree e = let same : first ≡ tree = cc in ap (beginning program node type) same

beginning-inner : (program : Program) (node : TypeId) (type : Ty) (inner : Ty) (trees : Trees) (tree : Tree) → is_of_node node (Some type) ≡ false → first_type program type ≡ Some inner → tree_at trees 0 ≡ Some tree
    → beginning program node (Some type) (Rec trees) ≡ beginning program node (Some inner) tree
beginning-inner program node type inner trees tree e f h =
    ap (λ b. cond b (Some (Rec trees)) (beginning_of program node (first_type program type) trees)) e
    ∙ beginning-first program node (first_type program type) trees tree h
    ∙ ap (λ t. beginning program node t tree) f

-- the type of the first field
first-field : (program : Program) (outer : TypeId) (desc : Option Expr) (s : Structure) (f : Field) → HasStructure program outer s → slice_get s.fields 0 ≡ Some f → first_type program (ty.Node outer desc) ≡ Some f.ty
first-field program outer desc s f has got = ap first_field_type has ∙ ap type_of_field got

-- ---- where it begins

begins-bytes : (program : Program) (planes : List Plane) (type : Ty) (node : TypeId) → BeginsWith program type node → storage_of planes type ≡ Bytes (extent_of planes type)
begins-bytes program planes type node (is_it) = refl
begins-bytes program planes type node (by_first has struct e rest) = refl

first-zero : (storage : Storage) (storages : List Storage) (spots : List FieldSpot) (spot : FieldSpot) (e : _) → storage ≡ Bytes e → Follow 0 (storage ∷ storages) spots → slice_get spots 0 ≡ Some spot → begin_at spot ≡ 0
first-zero storage storages [] spot e is follow got = absurd follow
first-zero storage storages (s ∷ ss) spot e is follow got =
    let same : s ≡ spot = cc in
    let allowed : Rattle.gt_layout.specs.Places.MayBegin storage 0 = subst (λ x. Rattle.gt_layout.specs.Places.MayBegin x 0) (sym is) (zero-mod (8 * e.align)) in
    let le = follow.0.least 0 (omega arith) allowed in
    subst (λ x. begin_at x ≡ 0) same (omega (arith, le))

module _ (program : Program) (planes : List Plane) (laid : AreLaidOut program planes) where
  field-zero : (outer : TypeId) (s : Structure) (f : Field) (fs : List Field) (plane : Plane) (spot : FieldSpot) (node : TypeId) → HasStructure program outer s → s.is_union ≡ false → s.fields ≡ f ∷ fs → BeginsWith program f.ty node
      → slice_get planes outer.0 ≡ Some plane → slice_get plane.fields 0 ≡ Some spot → begin_at spot ≡ 0
  field-zero outer s f fs plane spot node has struct e begins got at =
      let follow : Follow 0 (storages_of planes s.fields) plane.fields = subst (λ u. Lie u (storages_of planes s.fields) plane.fields) struct (laid.each outer.0 s plane has got).places in
      first-zero (storage_of planes f.ty) (storages_of planes fs) plane.fields spot (extent_of planes f.ty) (begins-bytes program planes f.ty node begins)
      (subst (λ xs. Follow 0 (storages_of planes xs) plane.fields) e follow) at

  module _ (outer node : TypeId) (desc : Option Expr) (s : Structure) (f : Field) (fs : List Field) (structure : HasStructure program outer s) (struct : s.is_union ≡ false) (e : s.fields ≡ f ∷ fs)
      (begins : BeginsWith program f.ty node) (tree : Tree) (at : ℕ) (leaves : List Leaf) (whole : FitsWithDesc program planes outer desc tree at leaves) (p : FieldPart program planes outer 0 f.ty tree at leaves) where
    first-begun : Begun program planes node f.ty p.part (at + begin_at p.spot) p.first → Begun program planes node (ty.Node outer desc) tree at leaves
    first-begun inner = go (node.0 == outer.0) refl
      where
        got : slice_get s.fields 0 ≡ Some f
        got = ap (λ xs. slice_get xs 0) e

        zero_bit : begin_at p.spot ≡ 0
        zero_bit = field-zero outer s f fs p.plane p.spot node structure struct e begins p.laid p.spot_of

        here : at + begin_at p.spot ≡ at
        here = omega (arith, zero_bit)

        go : (b : Bool) → (node.0 == outer.0) ≡ b → Begun program planes node (ty.Node outer desc) tree at leaves
        go true same = record {
          part = tree;
          first = leaves;
          begins = beginning-self program node (ty.Node outer desc) tree same;
          fits = subst (λ n. FitsWith program planes n tree at leaves) (sym (one-node node outer (one-number node.0 outer.0 same)))
              (record { blocks = whole.blocks; capacity = whole.capacity; scope = whole.scope; desc = desc; fits = whole.fits; has = whole.has });
          numbers = λ a w n h. h;
        }
        go false other = record {
          part = inner.part;
          first = inner.first;
          begins = ap (beginning program node (Some (ty.Node outer desc))) p.is_rec
              ∙ beginning-inner program node (ty.Node outer desc) f.ty p.trees p.part other (first-field program outer desc s f structure got) p.there
              ∙ inner.begins;
          fits = subst (λ n. FitsWith program planes node inner.part n inner.first) here inner.fits;
          numbers = λ a w n h. p.numbers a w n (inner.numbers a w n h);
        }

  pub begun : {type : Ty} {node : TypeId} → BeginsWith program type node → (blocks : Blocks) (capacity : ℕ) (scope : Scope) (tree : Tree) (at : ℕ) (leaves : List Leaf)
      → Fits program blocks capacity scope type tree → HasLeaves program planes at type tree leaves → Begun program planes node type tree at leaves
  begun (is_it {node} {desc}) blocks capacity scope tree at leaves fits has = record {
    part = tree;
    first = leaves;
    begins = beginning-self program node (ty.Node node desc) tree (same-number node.0);
    fits = record { blocks = blocks; capacity = capacity; scope = scope; desc = desc; fits = fits; has = has };
    numbers = λ a w n h. h;
  }
  begun (by_first {outer} {node} {desc} {s} {f} {fs} structure struct e rest) blocks capacity scope tree at leaves fits has =
      let p = field-part outer desc s structure 0 f struct (ap (λ xs. slice_get xs 0) e) has fits in
      first-begun outer node desc s f fs structure struct e rest tree at leaves (record { blocks = blocks; capacity = capacity; scope = scope; fits = fits; has = has }) p
      (begun rest p.blocks p.capacity p.scope p.part (at + begin_at p.spot) p.first p.fits p.has)
