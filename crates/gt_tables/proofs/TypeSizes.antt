-- No type of a program is too large.
use Rattle.std.proofs.Common.{◌≡◌, ℕ, zero, suc, ◌*◌, ◌≤◌, Bool, true, false, not, ◌&&◌, IsTrue, nat_le, List, [], ◌∷◌, length, refl, ap, sym, subst, ◌∙◌, arith, inl, inr, Some, None, Option, mul-le-mul_right}
use Rattle.std.specs.Prelude.{Contains, slice_get}
use Rattle.std.specs.List.{list_all}
use Rattle.std.specs.Option.{option_map}
use Rattle.std.proofs.lemmas.Bool.{leb-true}
use Rattle.std.proofs.lemmas.List.Elements.{All-contains}
use Rattle.std.proofs.lemmas.Option.{slice_get-get_or, slice_get-map, none-some, same_Some}
use Rattle.gt_types.specs.declared.expressions.Expr.{Expr}
use Rattle.gt_types.specs.declared.types.TypeId.{TypeId}
use Rattle.gt_types.specs.declared.types.Scalar.{Scalar}
use Rattle.gt_types.specs.declared.types.Scalar.TheVariants as scalar
use Rattle.gt_types.specs.declared.types.Width.TheVariants.{W1, W2, W4, W8}
use Rattle.gt_types.specs.declared.types.Ty.{Ty, out-Ty}
use Rattle.gt_types.specs.declared.types.Ty.TheFolds.{fold_out-Ty, map-Ty}
use Rattle.gt_types.specs.declared.types.Ty.TheOpen as part
use Rattle.gt_types.specs.declared.types.Ty.TheOpen.{Ty-F}
use Rattle.gt_types.specs.declared.types.Ty.TheVariants as ty
use Rattle.gt_types.specs.declared.types.Ty.TheVariants.{outs-Num, outs-Bits, outs-Opaque, outs-Str, outs-Ptr, outs-Node, outs-Arr', outs-Tail'}
use Rattle.gt_types.specs.declared.program.Field.{Field}
use Rattle.gt_types.specs.declared.program.Root.{Root}
use Rattle.gt_types.specs.declared.program.Structure.{Structure}
use Rattle.gt_types.specs.declared.program.Program.{Program}
use Rattle.gt_types.specs.Contains.{HasStructure}
use Rattle.gt_types.specs.Shapes.{is_bound, may_repeat, is_element, is_element_step, is_tail, field_type_at, root_type_at}
use Rattle.gt_types.specs.Tails.{elements_of, elements_at, tail_of, only_last_is_tail, no_tails}
use Rattle.gt_types.specs.Settled.{Settled, IsField, IsStruct, IsUnion, IsOfItsKind, IsRoot}
use Rattle.gt_layout.specs.declared.planes.TheConstants.{MAX_SIZE}
use Rattle.gt_layout.specs.declared.planes.Extent.{Extent}
use Rattle.gt_layout.specs.declared.planes.Plane.{Plane}
use Rattle.gt_layout.specs.declared.planes.FieldSpot.{FieldSpot}
use Rattle.gt_layout.specs.declared.planes.Layouts.{Layouts}
use Rattle.gt_layout.specs.declared.storages.Storage.{Storage}
use Rattle.gt_layout.specs.Storages.{bytes_of, extent_of, extent_of_plane, extent_step, storage_of, storages_of, held_extent}
use Rattle.gt_layout.specs.Places.{Overlap, Lie, end_at}
use Rattle.gt_layout.specs.Planes.{IsLaidOut, root_storages}
use Rattle.gt_layout.specs.Excess.{IsWithin}
use Rattle.gt_layout.proofs.Placed.{places_hold}
use Rattle.gt_tree.specs.Blocks.{Kind, Nodes, Pointers, Strings, Chars, Raw, desc_of, element_type}
use Rattle.gt_tree.specs.LeafLaws.{IsTypeIn}
use Rattle.gt_tree.proofs.Exists.{follow-long}
use Rattle.gt_tree.proofs.FixedTypes.{sound, sound_at, element-no_tail, tail_element-no_tail}
use Rattle.gt_tree.proofs.Structures.{get-as_long}
use Rattle.gt_tree.proofs.Types.{extent-array, extent-node, extent-number, extent-pointer}
use Rattle.gt_tables.proofs.Reaching.{at-most}

-- ---- places of fields

overlap-long : (fields : List Storage) (spots : List FieldSpot) → Overlap fields spots → length fields ≡ length spots
overlap-long [] [] lie = refl
overlap-long [] (s ∷ ss) lie = absurd lie
overlap-long (f ∷ fs) [] lie = absurd lie
overlap-long (f ∷ fs) (s ∷ ss) lie = let rest = overlap-long fs ss lie.1 in omega (arith, rest)

lie-long : (union : Bool) (fields : List Storage) (spots : List FieldSpot) → Lie union fields spots → length fields ≡ length spots
lie-long true fields spots lie = overlap-long fields spots lie
lie-long false fields spots lie = follow-long 0 fields spots lie

contains-at : {X : Type 0} (xs : List X) (x : X) → Contains xs x → (i : ℕ) × (slice_get xs i ≡ Some x)
contains-at xs x c = (c.0, slice_get-get_or xs c.0 x c.1 ∙ ap Some c.2)

-- ---- what ends inside is no larger

bytes-few : (unit : Scalar) → bytes_of unit ≤ 8
bytes-few scalar.Bool = omega arith
bytes-few (scalar.Int W1 signed) = omega arith
bytes-few (scalar.Int W2 signed) = omega arith
bytes-few (scalar.Int W4 signed) = omega arith
bytes-few (scalar.Int W8 signed) = omega arith

extent-bits : (planes : List Plane) (unit : Scalar) (width : ℕ) → (extent_of planes (ty.Bits unit width)).size ≡ bytes_of unit
extent-bits planes unit width =
    ap (λ e. e.size) (fold_out-Ty Extent (extent_step planes) (ty.Bits unit width) ∙ ap (λ y. extent_step planes (map-Ty Ty Extent (extent_of planes) y)) (outs-Bits unit width))

size-inside : (planes : List Plane) (type : Ty) (spot : FieldSpot) (size : ℕ) → size ≤ MAX_SIZE → end_at (storage_of planes type) spot ≤ 8 * size → (extent_of planes type).size ≤ MAX_SIZE
size-inside planes (ty.Bits unit width) spot size small inside = omega (arith, extent-bits planes unit width, bytes-few unit)
size-inside planes type spot size small inside = omega arith

-- an element is no larger than its array
element-small : (planes : List Plane) (type elem : Ty) (n : ℕ) → out-Ty type ≡ part.Arr n elem → 1 ≤ n → (extent_of planes type).size ≤ MAX_SIZE → (extent_of planes elem).size ≤ MAX_SIZE
element-small planes type elem n e some small =
    let whole = extent-array planes type elem n e in
    let times : 1 * (extent_of planes elem).size ≤ n * (extent_of planes elem).size = mul-le-mul_right (extent_of planes elem).size some in
    omega (arith, whole, times, small)

-- ---- the elements of an array at the end of fields

first-true : (a b : Bool) → IsTrue (a && b) → IsTrue a
first-true true b h = refl
first-true false b h = absurd (cc)

second-true : (a b : Bool) → IsTrue (a && b) → IsTrue b
second-true true b h = h
second-true false b h = absurd (cc)

tail-is : (type elem : Ty) (len : Expr) → out-Ty type ≡ part.Tail len elem → is_tail type ≡ true
tail-is (ty.Num scalar) elem len e = let o = outs-Num scalar in absurd (cc)
tail-is (ty.Bits unit width) elem len e = let o = outs-Bits unit width in absurd (cc)
tail-is (ty.Opaque size align) elem len e = let o = outs-Opaque size align in absurd (cc)
tail-is (ty.Str count) elem len e = let o = outs-Str count in absurd (cc)
tail-is (ty.Ptr target kind reorder) elem len e = let o = outs-Ptr target kind reorder in absurd (cc)
tail-is (ty.Node node desc) elem len e = let o = outs-Node node desc in absurd (cc)
tail-is (ty.Arr' n shape inner) elem len e = let o = outs-Arr' n shape inner in absurd (cc)
tail-is (ty.Tail' count shape inner) elem len e = refl

not-tail : (type elem : Ty) (len : Expr) → out-Ty type ≡ part.Tail len elem → ¬ IsTrue (not (is_tail type))
not-tail type elem len e h = let is = ap not (tail-is type elem len e) in cc

last-tail : (fields : List Field) (i : ℕ) (f : Field) (elem : Ty) (len : Expr) → slice_get fields i ≡ Some f → out-Ty f.ty ≡ part.Tail len elem → IsTrue (only_last_is_tail fields) → tail_of fields ≡ Some elem
last-tail [] i f elem len got e last = absurd (none-some f got)
last-tail (g ∷ []) zero f elem len got e last = ap (λ x. elements_of x.ty) (same_Some g f got) ∙ ap elements_at e
last-tail (g ∷ []) (suc i) f elem len got e last = absurd (none-some f got)
last-tail (g ∷ h ∷ hs) zero f elem len got e last =
    let is : out-Ty g.ty ≡ part.Tail len elem = ap (λ x. out-Ty x.ty) (same_Some g f got) ∙ e in
    absurd (not-tail g.ty elem len is (first-true (not (is_tail g.ty)) (only_last_is_tail (h ∷ hs)) last))
last-tail (g ∷ h ∷ hs) (suc i) f elem len got e last = last-tail (h ∷ hs) i f elem len got e (second-true (not (is_tail g.ty)) (only_last_is_tail (h ∷ hs)) last)

no-tail : (fields : List Field) (i : ℕ) (f : Field) (elem : Ty) (len : Expr) → slice_get fields i ≡ Some f → out-Ty f.ty ≡ part.Tail len elem → ¬ IsTrue (no_tails fields)
no-tail [] i f elem len got e none = none-some f got
no-tail (g ∷ gs) zero f elem len got e none =
    let is : out-Ty g.ty ≡ part.Tail len elem = ap (λ x. out-Ty x.ty) (same_Some g f got) ∙ e in
    not-tail g.ty elem len is (first-true (not (is_tail g.ty)) (list_all (λ x. not (is_tail x.ty)) gs) none)
no-tail (g ∷ gs) (suc i) f elem len got e none = no-tail gs i f elem len got e (second-true (not (is_tail g.ty)) (list_all (λ x. not (is_tail x.ty)) gs) none)

-- ---- the elements of blocks are no arrays

abbrev flat_at : Ty-F Ty → Bool
flat_at (part.Arr n elem) = false
flat_at (part.Tail len elem) = false
flat_at layer = true

flat-block : (program : Program) (kind : Kind) → flat_at (out-Ty (element_type program kind)) ≡ true
flat-block program (Nodes node) = ap flat_at (outs-Node node (desc_of (slice_get program.structures node.0)))
flat-block program (Pointers node) = ap flat_at (outs-Ptr _ _ _)
flat-block program Strings = ap flat_at (outs-Str None)
flat-block program Chars = ap flat_at (outs-Num _)
flat-block program Raw = ap flat_at (outs-Num _)

bound-one : (n : ℕ) (b : Bool) → IsTrue (is_bound n && b) → 1 ≤ n
bound-one n b h = leb-true 1 n (first-true (nat_le 1 n) (nat_le n 1048576) (first-true (is_bound n) b h))

-- an array that is an element has an element at least
bound-element : (type elem : Ty) (n : ℕ) → out-Ty type ≡ part.Arr n elem → IsTrue (is_element type) → 1 ≤ n
bound-element type elem n e h =
    let layer : is_element type ≡ (is_bound n && is_element elem) = fold_out-Ty Bool is_element_step type ∙ ap (λ x. is_element_step (map-Ty Ty Bool is_element x)) e in
    bound-one n (is_element elem) (sym layer ∙ h)

-- ---- in a program

module _ (program : Program) (layouts : Layouts) (settled : Settled program) (laid : IsLaidOut program layouts) (within : IsWithin program layouts) where
  plane-small : (node : TypeId) (s : Structure) (plane : Plane) → HasStructure program node s → slice_get layouts.structures node.0 ≡ Some plane → plane.size ≤ MAX_SIZE
  plane-small node s plane has got = at-most plane.size MAX_SIZE (λ lt. within.structures node.0 (s, plane, has, got, inl lt))

  -- a field is no larger than its structure
  field-small : (node : TypeId) (s : Structure) (f : Field) → HasStructure program node s → Contains s.fields f → (extent_of layouts.structures f.ty).size ≤ MAX_SIZE
  field-small node s f has contains =
      let planes = layouts.structures in
      let plane = get-as_long planes program.structures node.0 s laid.structures.all has in
      let at = contains-at s.fields f contains in
      let field : slice_get (storages_of planes s.fields) at.0 ≡ Some (storage_of planes f.ty) =
      slice_get-map (λ (g : Field). storage_of planes g.ty) s.fields at.0 ∙ ap (option_map (λ (g : Field). storage_of planes g.ty)) at.1 in
      let long = lie-long s.is_union (storages_of planes s.fields) plane.0.fields (laid.structures.each node.0 s plane.0 has plane.1).places in
      let spot = get-as_long plane.0.fields (storages_of planes s.fields) at.0 (storage_of planes f.ty) (sym long) field in
      size-inside planes f.ty spot.0 plane.0.size (plane-small node s plane.0 has plane.1)
      (((places_hold program layouts settled laid).structures node.0 s plane.0 has plane.1).inside at.0 (storage_of planes f.ty) spot.0 field spot.1)

  -- a root is no larger than the static record
  root-small : (r : Root) → Contains program.roots r → (extent_of layouts.structures r.ty).size ≤ MAX_SIZE
  root-small r contains =
      let planes = layouts.structures in
      let at = contains-at program.roots r contains in
      let field : slice_get (root_storages planes program.roots) at.0 ≡ Some (storage_of planes r.ty) =
      slice_get-map (λ (x : Root). storage_of planes x.ty) program.roots at.0 ∙ ap (option_map (λ (x : Root). storage_of planes x.ty)) at.1 in
      let long = lie-long false (root_storages planes program.roots) layouts.statics.fields laid.statics.places in
      let spot = get-as_long layouts.statics.fields (root_storages planes program.roots) at.0 (storage_of planes r.ty) (sym long) field in
      size-inside planes r.ty spot.0 layouts.statics.size within.statics
      ((places_hold program layouts settled laid).statics.inside at.0 (storage_of planes r.ty) spot.0 field spot.1)

  -- a structure that a block holds is no larger than the limit
  structure-small : (node : TypeId) (plane : Option Plane) (s : Option Structure) → slice_get layouts.structures node.0 ≡ plane → slice_get program.structures node.0 ≡ s → (extent_of_plane plane).size ≤ MAX_SIZE
  structure-small node None s got has = omega arith
  structure-small node (Some plane) (Some s) got has = plane-small node s plane has got
  structure-small node (Some plane) None got has =
      let s = get-as_long program.structures layouts.structures node.0 plane (sym laid.structures.all) got in
      absurd (none-some s.0 (sym has ∙ s.1))

  block-small : (kind : Kind) → (extent_of layouts.structures (element_type program kind)).size ≤ MAX_SIZE
  block-small (Nodes node) =
      let e = extent-node layouts.structures node (desc_of (slice_get program.structures node.0)) in
      let small = structure-small node (slice_get layouts.structures node.0) (slice_get program.structures node.0) refl refl in
      omega (arith, ap (λ x. x.size) e, small)
  block-small (Pointers node) = let e = extent-pointer layouts.structures (element_type program (Pointers node)) refl in omega (arith, e)
  block-small Strings = let e = extent-pointer layouts.structures (element_type program Strings) refl in omega (arith, e)
  block-small Chars = let e = extent-number layouts.structures (scalar.Int W1 false) in omega (arith, e)
  block-small Raw = let e = extent-number layouts.structures (scalar.Int W1 false) in omega (arith, e)

  -- an array has an element at least
  bound : {type : Ty} → IsTypeIn program type → (elem : Ty) (n : ℕ) → out-Ty type ≡ part.Arr n elem → 1 ≤ n
  bound (IsTypeIn.of_field node s f has contains) elem n e =
      bound-one n (may_repeat elem) (subst (λ x. IsTrue (field_type_at x)) e (All-contains (IsField program node s) s.fields f (settled.structures node s has).fields contains).shape)
  bound (IsTypeIn.of_root r contains) elem n e = bound-one n (may_repeat elem) (subst (λ x. IsTrue (root_type_at x)) e (All-contains (IsRoot program) program.roots r settled.roots contains).shape)
  bound (IsTypeIn.of_block kind) elem n e = let flat = flat-block program kind in let not_flat = ap flat_at e in absurd (cc)
  bound (IsTypeIn.of_array {elem = type} i o) elem n e = bound-element type elem n e (subst (λ x. IsTrue (sound_at x)) o (sound program settled i))
  bound (IsTypeIn.of_tail {elem = type} i o) elem n e = bound-element type elem n e (subst (λ x. IsTrue (sound_at x)) o (sound program settled i))

  -- an element of an array at the end of a structure is no larger than the limit
  last-small : (node : TypeId) (s : Structure) (f : Field) (elem : Ty) (len : Expr) → HasStructure program node s → Contains s.fields f → out-Ty f.ty ≡ part.Tail len elem → (union : Bool) → s.is_union ≡ union
      → (extent_of layouts.structures elem).size ≤ MAX_SIZE
  last-small node s f elem len has contains e true is =
      let at = contains-at s.fields f contains in
      let kind : IsUnion program node s = subst (IsOfItsKind program node s) is (settled.structures node s has).sort in
      absurd (no-tail s.fields at.0 f elem len at.1 e kind.tails)
  last-small node s f elem len has contains e false is =
      let at = contains-at s.fields f contains in
      let kind : IsStruct s = subst (IsOfItsKind program node s) is (settled.structures node s has).sort in
      let plane = get-as_long layouts.structures program.structures node.0 s laid.structures.all has in
      let last = last-tail s.fields at.0 f elem len at.1 e kind.last_tail in
      at-most (extent_of layouts.structures elem).size MAX_SIZE (λ lt. within.structures node.0 (s, plane.0, has, plane.1, inr (elem, last, lt)))

  tail-small : {type : Ty} → IsTypeIn program type → (elem : Ty) (len : Expr) → out-Ty type ≡ part.Tail len elem → (extent_of layouts.structures elem).size ≤ MAX_SIZE
  tail-small (IsTypeIn.of_field node s f has contains) elem len e = last-small node s f elem len has contains e s.is_union refl
  tail-small (IsTypeIn.of_root r contains) elem len e =
      let shape = subst (λ x. IsTrue (root_type_at x)) e (All-contains (IsRoot program) program.roots r settled.roots contains).shape in
      absurd (cc)
  tail-small (IsTypeIn.of_block kind) elem len e = let flat = flat-block program kind in let not_flat = ap flat_at e in absurd (cc)
  tail-small (IsTypeIn.of_array {type = outer} {n} i o) elem len e = absurd (element-no_tail program outer _ n settled i o len elem e)
  tail-small (IsTypeIn.of_tail {type = outer} {length = long} i o) elem len e = absurd (tail_element-no_tail program outer _ long settled i o len elem e)

  -- so is each type of the program
  pub type-small : {type : Ty} → IsTypeIn program type → (extent_of layouts.structures type).size ≤ MAX_SIZE
  type-small (IsTypeIn.of_field node s f has contains) = field-small node s f has contains
  type-small (IsTypeIn.of_root r contains) = root-small r contains
  type-small (IsTypeIn.of_block kind) = block-small kind
  type-small (IsTypeIn.of_array {type} {elem} {n} i e) = element-small layouts.structures type elem n e (bound i elem n e) (type-small i)
  type-small (IsTypeIn.of_tail {elem} {length = len} i e) = tail-small i elem len e

-- a size within the limit is held as it is
pub held-small : (e : Extent) → e.size ≤ MAX_SIZE → (held_extent e).size ≡ e.size
held-small e small = omega (arith, small)
