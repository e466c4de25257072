-- One field of a record: its place, its value, and its leaves among those of the record.
use Rattle.std.proofs.Common.{◌≡◌, ◌∙◌, ℕ, zero, suc, ◌+◌, ◌*◌, List, [], ◌∷◌, map, Some, refl, sym, ap, subst, arith}
use Rattle.std.specs.Prelude.{Contains, slice_get}
use Rattle.std.proofs.Math.Nat.{zero-mod}
use Rattle.std.proofs.lemmas.List.Elements.{Contains-append_left, Contains-append_right}
use Rattle.gt_types.specs.declared.types.Ty.{Ty}
use Rattle.gt_types.specs.declared.program.Field.{Field}
use Rattle.gt_types.specs.declared.program.Program.{Program}
use Rattle.gt_layout.specs.declared.planes.Extent.{Extent}
use Rattle.gt_layout.specs.declared.planes.Plane.{Plane}
use Rattle.gt_layout.specs.declared.planes.FieldSpot.{FieldSpot}
use Rattle.gt_layout.specs.declared.storages.Storage.{Storage}
use Rattle.gt_layout.specs.declared.storages.Storage.TheVariants.{Bytes}
use Rattle.gt_layout.specs.Places.{Follow, MayBegin, Overlap, begin_at, end_at, spot_of}
use Rattle.gt_layout.specs.Storages.{storage_of, storages_of}
use Rattle.gt_tree.specs.Trees.{Tree, Trees, tree_at}
use Rattle.gt_tree.specs.Blocks.{Blocks}
use Rattle.gt_tree.specs.Scopes.{Scope}
use Rattle.gt_tree.specs.Fits.{Fits, AllFit}
use Rattle.gt_tree.specs.Leaves.{Leaf, HasLeaves, FieldsHaveLeaves}
use Rattle.gt_tree.proofs.Fitting.{fits-more}

-- one field of a record, with its place, its value and its leaves
pub record FieldHas (program : Program) (planes : List Plane) (blocks : Blocks) (capacity : ℕ) (scope : Scope) (at i : ℕ) (spots : List FieldSpot) (type : Ty) (tree : Tree) (all : List Leaf) : Type 0 where
  pub spot : FieldSpot
  pub leaves : List Leaf
  pub there : slice_get spots i ≡ Some spot
  pub fits : Fits program blocks capacity scope type tree
  pub has : HasLeaves program planes (at + begin_at spot) type tree leaves
  pub inside : (l : Leaf) → Contains leaves l → Contains all l

module _ {program : Program} {planes : List Plane} (blocks : Blocks) (capacity : ℕ) (scope : Scope) where
  pub field_has : {at : ℕ} {types : List Ty} {spots : List FieldSpot} {trees : Trees} {leaves : List Leaf} → FieldsHaveLeaves program planes at types spots trees leaves → AllFit program blocks capacity scope types trees
      → (i : ℕ) (type : Ty) (tree : Tree) → slice_get types i ≡ Some type → tree_at trees i ≡ Some tree → FieldHas program planes blocks capacity scope at i spots type tree leaves
  field_has FieldsHaveLeaves.none fit i type tree e f = absurd (cc)
  field_has (FieldsHaveLeaves.more {at} {type = t} {types} {s} {spots} {tree = x} {trees} {first} {rest} has have) fit zero type tree e f =
      let same : t ≡ type = cc in
      let equal : x ≡ tree = cc in
      let fits = fits-more t types x trees fit in
      record {
        spot = s;
        leaves = first;
        there = refl;
        fits = subst (λ y. Fits program blocks capacity scope type y) equal (subst (λ y. Fits program blocks capacity scope y x) same fits.0);
        has = subst (λ y. HasLeaves program planes (at + begin_at s) type y first) equal (subst (λ y. HasLeaves program planes (at + begin_at s) y x first) same has);
        inside = λ l inner. Contains-append_left first rest l inner;
      }
  field_has (FieldsHaveLeaves.more {at} {type = t} {types} {s} {spots} {tree = x} {trees} {first} {rest} has have) fit (suc i) type tree e f =
      let found = field_has have (fits-more t types x trees fit).1 i type tree e f in
      record { spot = found.spot; leaves = found.leaves; there = found.there; fits = found.fits; has = found.has; inside = λ l inner. Contains-append_right first rest l (found.inside l inner) }

pub mapped : {X Y : Type 0} (f : X → Y) (xs : List X) (i : ℕ) (x : X) → slice_get xs i ≡ Some x → slice_get (map f xs) i ≡ Some (f x)
mapped f [] i x e = absurd (cc)
mapped f (y ∷ ys) zero x e = let same : y ≡ x = cc in ap (λ z. Some (f z)) same
mapped f (y ∷ ys) (suc i) x e = mapped f ys i x e

-- ---- places

module _ (planes : List Plane) where
  -- bytes begin at a byte
  bytes_begin : (storage : Storage) (e : Extent) (s : FieldSpot) → storage ≡ Bytes e → s ≡ spot_of storage (begin_at s) → begin_at s ≡ 8 * s.offset
  bytes_begin storage e s is lies =
      let there = subst (λ x. s ≡ spot_of x (begin_at s)) is lies in
      let bit : s.bit ≡ 0 = ap (λ (x : FieldSpot). x.bit) there in
      omega (arith, bit)

  pub field_byte : (fields : List Field) (spots : List FieldSpot) (from : ℕ) → Follow from (storages_of planes fields) spots → (i : ℕ) (f : Field) (s : FieldSpot) → slice_get fields i ≡ Some f → slice_get spots i ≡ Some s
      → (e : Extent) → storage_of planes f.ty ≡ Bytes e → begin_at s ≡ 8 * s.offset
  field_byte [] spots from follow i f s at there e is = absurd (cc)
  field_byte (g ∷ fs) [] from follow i f s at there e is = absurd follow
  field_byte (g ∷ fs) (r ∷ rs) from follow zero f s at there e is =
      let same : g ≡ f = cc in
      let equal : r ≡ s = cc in
      subst (λ x. begin_at x ≡ 8 * x.offset) equal (bytes_begin (storage_of planes g.ty) e r (ap (λ (x : Field). storage_of planes x.ty) same ∙ is) follow.1)
  field_byte (g ∷ fs) (r ∷ rs) from follow (suc i) f s at there e is = field_byte fs rs (end_at (storage_of planes g.ty) r) follow.2 i f s at there e is

  -- bytes that are the first field begin where the record does
  pub first_byte : (fields : List Field) (spots : List FieldSpot) → Follow 0 (storages_of planes fields) spots → (f : Field) (s : FieldSpot) → slice_get fields 0 ≡ Some f → slice_get spots 0 ≡ Some s
      → (e : Extent) → storage_of planes f.ty ≡ Bytes e → begin_at s ≡ 0
  first_byte [] spots follow f s at there e is = absurd (cc)
  first_byte (g ∷ fs) [] follow f s at there e is = absurd follow
  first_byte (g ∷ fs) (r ∷ rs) follow f s at there e is =
      let same : g ≡ f = cc in
      let equal : r ≡ s = cc in
      let bytes : storage_of planes g.ty ≡ Bytes e = ap (λ (x : Field). storage_of planes x.ty) same ∙ is in
      let le = follow.0.least 0 (omega arith) (subst (λ x. MayBegin x 0) (sym bytes) (zero-mod (8 * e.align))) in
      subst (λ x. begin_at x ≡ 0) equal (omega (arith, le))

  -- the members of a union begin where it does
  pub member_byte : (fields : List Field) (spots : List FieldSpot) → Overlap (storages_of planes fields) spots → (i : ℕ) (f : Field) → slice_get fields i ≡ Some f → (s : FieldSpot) × (slice_get spots i ≡ Some s) × (s.offset ≡ 0)
  member_byte [] spots overlap i f at = absurd (cc)
  member_byte (g ∷ fs) [] overlap i f at = absurd overlap
  member_byte (g ∷ fs) (r ∷ rs) overlap zero f at = (r, refl, ap (λ (x : FieldSpot). x.offset) overlap.0)
  member_byte (g ∷ fs) (r ∷ rs) overlap (suc i) f at = member_byte fs rs overlap.1 i f at
