-- The parts of a value to which one step of a path leads.
use Rattle.std.proofs.Common.{◌≡◌, ℕ, zero, suc, ◌+◌, Bool, true, false, cond, List, [], ◌∷◌, ◌++◌, map, refl, ap, sym, subst, arith, Option, Some, ◌⊎◌, inl, inr}
use Rattle.std.specs.Prelude.{All, Contains, ℤ, slice_get}
use Rattle.std.specs.List.{filter}
use Rattle.std.proofs.lemmas.Option.{slice_get_within, get_or_from_slice_get}
use Rattle.gt_types.specs.declared.expressions.Expr.{Expr}
use Rattle.gt_types.specs.declared.types.TypeId.{TypeId}
use Rattle.gt_types.specs.declared.types.Ty.{Ty}
use Rattle.gt_types.specs.declared.types.Ty.TheVariants as ty
use Rattle.gt_types.specs.declared.types.Ty.TheVariants.{outs-Node}
use Rattle.gt_types.specs.declared.program.Field.{Field}
use Rattle.gt_types.specs.declared.program.Structure.{Structure}
use Rattle.gt_types.specs.declared.program.Program.{Program}
use Rattle.gt_types.specs.Contains.{HasStructure}
use Rattle.gt_layout.specs.declared.planes.Plane.{Plane}
use Rattle.gt_layout.specs.declared.planes.FieldSpot.{FieldSpot}
use Rattle.gt_layout.specs.Places.{begin_at}
use Rattle.gt_tree.specs.Trees.{Tree, Rec, Trees, tree_at}
use Rattle.gt_tree.specs.Blocks.{Blocks}
use Rattle.gt_tree.specs.Scopes.{Scope, inside}
use Rattle.gt_tree.specs.Fits.{Fits, AllFit, types_of}
use Rattle.gt_tree.specs.Leaves.{Leaf, leaf, Number, is_number, HasLeaves, FieldsHaveLeaves}
use Rattle.gt_tree.proofs.Fitting.{fits-struct, fits-more}
use Rattle.gt_tree.proofs.PathBits.{some-same}

-- ---- leaves among others

abbrev pub Has : List Leaf → Leaf → Type 0
Has [] l = ⊥
Has (m ∷ ms) l = (m ≡ l) ⊎ Has ms l

-- each number of some leaves is one of others
abbrev pub NumbersIn : List Leaf → List Leaf → Type 0
NumbersIn some all = (at width : ℕ) (n : ℤ) → Has some (leaf at width (Number n)) → Has all (leaf at width (Number n))

pub Has-left : (some rest : List Leaf) (l : Leaf) → Has some l → Has (some ++ rest) l
Has-left [] rest l h = absurd h
Has-left (m ∷ ms) rest l (inl e) = inl e
Has-left (m ∷ ms) rest l (inr h) = inr (Has-left ms rest l h)

pub Has-right : (some rest : List Leaf) (l : Leaf) → Has rest l → Has (some ++ rest) l
Has-right [] rest l h = h
Has-right (m ∷ ms) rest l h = inr (Has-right ms rest l h)

pub Has-numbers : (all : List Leaf) → NumbersIn all (filter is_number all)
Has-numbers [] at width n h = absurd h
Has-numbers (m ∷ ms) at width n (inl e) =
    let passes : is_number m ≡ true = ap is_number e in
    subst (λ b. Has (cond b (m ∷ filter is_number ms) (filter is_number ms)) (leaf at width (Number n))) (sym passes) (inl e)
Has-numbers (m ∷ ms) at width n (inr h) = go (is_number m) (Has-numbers ms at width n h)
  where
    go : (b : Bool) → Has (filter is_number ms) (leaf at width (Number n)) → Has (cond b (m ∷ filter is_number ms) (filter is_number ms)) (leaf at width (Number n))
    go true later = inr later
    go false later = later

pub Contains-has : (all : List Leaf) (l : Leaf) → Has all l → Contains all l
Contains-has [] l h = absurd h
Contains-has (m ∷ ms) l (inl e) = (0, omega arith, e)
Contains-has (m ∷ ms) l (inr h) = let found = Contains-has ms l h in (suc found.0, omega (arith, found.1), found.2)

-- ---- lists by place

pub get-map : {X Y : Type 0} (f : X → Y) (xs : List X) (i : ℕ) (x : X) → slice_get xs i ≡ Some x → slice_get (map f xs) i ≡ Some (f x)
get-map f [] i x h = absurd (cc)
get-map f (y ∷ ys) zero x h = let same : y ≡ x = cc in ap (λ z. Some (f z)) same
get-map f (y ∷ ys) (suc i) x h = get-map f ys i x h

pub All-at : {X : Type 0} (P : X → Type 0) (xs : List X) (i : ℕ) (x : X) → slice_get xs i ≡ Some x → All P xs → P x
All-at P xs i x h all = subst P (get_or_from_slice_get xs i x x h) (all i x (slice_get_within xs i x h))

-- ---- the field of a struct

-- a field of a struct's value, with its place and its leaves
pub record FieldPart (program : Program) (planes : List Plane) (node : TypeId) (place : ℕ) (type : Ty) (value : Tree) (at : ℕ) (leaves : List Leaf) : Type 0 where
  pub trees : Trees
  pub plane : Plane
  pub spot : FieldSpot
  pub part : Tree
  pub first : List Leaf
  pub blocks : Blocks
  pub capacity : ℕ
  pub scope : Scope
  pub is_rec : value ≡ Rec trees
  pub laid : slice_get planes node.0 ≡ Some plane
  pub spot_of : slice_get plane.fields place ≡ Some spot
  pub there : tree_at trees place ≡ Some part
  pub fits : Fits program blocks capacity scope type part
  pub has : HasLeaves program planes (at + begin_at spot) type part first
  pub numbers : NumbersIn first leaves

module _ {program : Program} {planes : List Plane} {blocks : Blocks} {capacity : ℕ} {scope : Scope} {at : ℕ} where
  fields-part : (types : List Ty) (place : ℕ) (type : Ty) {spots : List FieldSpot} {trees : Trees} {leaves : List Leaf} → FieldsHaveLeaves program planes at types spots trees leaves
      → AllFit program blocks capacity scope types trees → slice_get types place ≡ Some type
      → (spot : FieldSpot) × (part : Tree) × (first : List Leaf) × (slice_get spots place ≡ Some spot) × (tree_at trees place ≡ Some part) × Fits program blocks capacity scope type part
      × HasLeaves program planes (at + begin_at spot) type part first × NumbersIn first leaves
  fields-part types place type FieldsHaveLeaves.none fits got = absurd (cc)
  fields-part types zero type (FieldsHaveLeaves.more {type = here} {types = others} {s} {spots} {tree} {trees} {first} {rest} has others_have) fits got =
      let same : here ≡ type = cc in
      let fit = fits-more here others tree trees fits in (
        s,
        tree,
        first,
        refl,
        refl,
        subst (λ t. Fits program blocks capacity scope t tree) same fit.0,
        subst (λ t. HasLeaves program planes (at + begin_at s) t tree first) same has,
        λ a w n h. Has-left first rest (leaf a w (Number n)) h,
      )
  fields-part types (suc place) type (FieldsHaveLeaves.more {type = here} {types = others} {s} {spots} {tree} {trees} {first} {rest} has others_have) fits got =
      let fit = fits-more here others tree trees fits in
      let found = fields-part others place type others_have fit.1 got in
      (found.0, found.1, found.2, found.3, found.4, found.5, found.6, λ a w n h. Has-right first rest (leaf a w (Number n)) (found.7 a w n h))

module _ {program : Program} {planes : List Plane} {blocks : Blocks} {capacity : ℕ} {scope : Scope} (node : TypeId) (desc : Option Expr) (s : Structure) (has : HasStructure program node s) where
  pub field-part : (place : ℕ) (f : Field) {at : ℕ} {value : Tree} {leaves : List Leaf} → s.is_union ≡ false → slice_get s.fields place ≡ Some f
      → HasLeaves program planes at (ty.Node node desc) value leaves → Fits program blocks capacity scope (ty.Node node desc) value → FieldPart program planes node place f.ty value at leaves
  field-part place f struct got (HasLeaves.null p) fits = absurd (cc)
  field-part place f struct got (HasLeaves.to p) fits = absurd (cc)
  field-part place f struct got (HasLeaves.struct {at} {s = other} {plane} {trees} {leaves} h u laid fields) fits =
      let same : other ≡ s = some-same (slice_get program.structures node.0) other s h has in
      let all = fits-struct node desc s trees has fits in
      let leaf_fields = subst (λ x. FieldsHaveLeaves program planes at (types_of x.fields) plane.fields trees leaves) same fields in
      let found = fields-part (types_of s.fields) place f.ty leaf_fields all (get-map (λ g. g.ty) s.fields place f got) in
      record {
        trees = trees;
        plane = plane;
        spot = found.0;
        part = found.1;
        first = found.2;
        blocks = blocks;
        capacity = capacity;
        scope = inside scope node (Rec trees);
        is_rec = refl;
        laid = laid;
        spot_of = found.3;
        there = found.4;
        fits = found.5;
        has = found.6;
        numbers = found.7;
      }
  field-part place f struct got (HasLeaves.member {s = other} h u get part) fits = let same : other ≡ s = some-same (slice_get program.structures node.0) other s h has in let union = subst (λ x. x.is_union ≡ true) same u in absurd (cc)
  field-part place f struct got (HasLeaves.common {s = other} h u c part) fits = let same : other ≡ s = some-same (slice_get program.structures node.0) other s h has in let union = subst (λ x. x.is_union ≡ true) same u in absurd (cc)
  field-part place f struct got (HasLeaves.nothing {s = other} h u none) fits = let same : other ≡ s = some-same (slice_get program.structures node.0) other s h has in let union = subst (λ x. x.is_union ≡ true) same u in absurd (cc)
  field-part place f struct got (HasLeaves.array e each) fits = let o = outs-Node node desc in absurd (cc)
  field-part place f struct got (HasLeaves.tail e each) fits = let o = outs-Node node desc in absurd (cc)
