-- The fields of one structure of a draft, by planes.
use Rattle.std.proofs.Common.{◌≡◌, ◌∙◌, ℕ, zero, suc, ◌≤◌, ◌<◌, min, Bool, IsTrue, List, [], ◌∷◌, map, length, get_or, Option, Some, None, refl, sym, ap, subst, arith}
use Rattle.std.specs.Prelude.{Contains, filter_map, slice_get}
use Rattle.std.specs.Option.{option_map_or}
use Rattle.std.specs.List.{All, AllZip, cons_option}
use Rattle.std.proofs.lemmas.List.Elements.{All-head, All-tail, All-map}
use Rattle.gt_types.specs.declared.limits.TheConstants.{TOO_LARGE}
use Rattle.gt_types.specs.declared.program.Field.{Field}
use Rattle.gt_types.specs.declared.types.Ty.{Ty}
use Rattle.gt_types.specs.declared.types.TypeId.{TypeId}
use Rattle.gt_types.specs.Contains.{held_by}
use Rattle.gt_layout.specs.declared.planes.Extent.{Extent}
use Rattle.gt_layout.specs.declared.planes.Plane.{Plane}
use Rattle.gt_layout.specs.declared.storages.Storage.{Storage}
use Rattle.gt_layout.specs.declared.storages.Storage.TheVariants.{Bytes, Bits}
use Rattle.gt_layout.specs.Storages.{extent_at, storage_of, storages_of}
use Rattle.gt_layout.specs.Planes.{IsPlane, IsHeldPlane, held, is_alignment, is_placeable}
use Rattle.gt_layout.proofs.Placing.{IsPossible}
use Rattle.gt_layout.proofs.PlaneOf.{plane_only}
use Rattle.gt_layout.proofs.Agreement.{Alike, held-alike}
use Rattle.gt_layout.proofs.Drafting.{possible_from_placeable}
use Rattle.gt_layout.proofs.Types.{AreClose, alike_storages, same_storage}
use Rattle.gt_drafts.specs.declared.draft.Draft.{Draft}
use Rattle.gt_drafts.specs.declared.draft.DraftField.{DraftField}
use Rattle.gt_drafts.specs.declared.draft.DraftStructure.{DraftStructure}
use Rattle.gt_drafts.specs.Shapes.{IsNested, held_in, held_type}
use Rattle.gt_markers.specs.Expressions.{constants}
use Rattle.gt_markers.specs.Sound.{IsSoundField}
use Rattle.gt_declare.specs.Programs.{field_of, field_type, unchained}
use Rattle.gt_declare.proofs.FieldTypes.{IsAligned, field_part}
use Rattle.gt_declare.proofs.CloseTypes.{same_type}

-- ---- what fields hold

contains_more : (o : Option ℕ) (xs : List ℕ) (id : ℕ) → Contains xs id → Contains (cons_option o xs) id
contains_more None xs id there = there
contains_more (Some x) xs id there = let within = there.1 in (suc there.0, omega (arith, within), there.2)

contains_held : (fs : List DraftField) (k : ℕ) (d : DraftField) → k < length fs → (id : ℕ) → held_type (get_or fs k d).ty ≡ Some id → Contains (filter_map (λ f. held_type f.ty) fs) id
contains_held [] k d within id is = absurd (omega (arith, within))
contains_held (f ∷ fs) zero d within id is =
    subst (λ (o : Option ℕ). Contains (cons_option o (filter_map (λ g. held_type g.ty) fs)) id) (sym is) (0, omega arith, refl)
contains_held (f ∷ fs) (suc k) d within id is =
    contains_more (held_type f.ty) (filter_map (λ g. held_type g.ty) fs) id (contains_held fs k d (omega (arith, within)) id is)

-- something holds of each structure that a field holds
abbrev pub OfHeld : (ℕ → Type 0) → DraftField → Type 0
OfHeld Q f = (id : ℕ) → held_type f.ty ≡ Some id → Q id

-- what a structure holds is less deep
pub inner_shallow : (structures : List DraftStructure) (place n : ℕ) (s : DraftStructure) → slice_get structures place ≡ Some s → ¬ IsNested structures (suc n) place
    → All (OfHeld (λ id. ¬ IsNested structures n id)) s.fields
inner_shallow structures place n s there shallow k d within id is nested =
    let contains : Contains (held_in s) id = contains_held s.fields k d within id is in
    shallow (id, subst (λ (o : Option DraftStructure). Contains (option_map_or held_in o []) id) (sym there) contains, nested)

-- ---- one field

-- what the made type holds, the declared type does
held_made : (draft : Draft) (p : List Plane) (in_union : Bool) (f : DraftField) (inner : TypeId) → IsSoundField draft in_union f → held_by (field_type draft p f) ≡ Some inner → held_type f.ty ≡ Some inner.0
held_made draft p in_union f inner sound is = (field_part (λ n. Unit {0}) (λ n aligned. tt) p f.ty (λ id held. tt) (constants draft) draft f.options sound.type.bits).held inner is

aligned_placeable : (s : Storage) → IsAligned (λ n. IsTrue (is_alignment n)) s → IsTrue (is_placeable s)
aligned_placeable (Bytes e) aligned = aligned
aligned_placeable (Bits unit count) aligned = aligned

some_possible : (s : Storage) → IsAligned (λ n. 1 ≤ n) s → IsPossible s
some_possible (Bytes e) some = some
some_possible (Bits unit count) placeable = possible_from_placeable (Bits unit count) placeable

placeable_made : (draft : Draft) (p : List Plane) (in_union : Bool) (f : DraftField) → IsSoundField draft in_union f → OfHeld (λ id. IsTrue (is_alignment (extent_at p id).align)) f
    → IsTrue (is_placeable (storage_of p (field_type draft p f)))
placeable_made draft p in_union f sound aligned =
    aligned_placeable (storage_of p (field_type draft p f))
    (field_part (λ n. IsTrue (is_alignment n)) (λ n is. is) p f.ty aligned (constants draft) draft f.options sound.type.bits).stored

some_alignment : (n : ℕ) → IsTrue (is_alignment n) → 1 ≤ n
some_alignment n is = grind arith

possible_made : (draft : Draft) (p : List Plane) (in_union : Bool) (f : DraftField) → IsSoundField draft in_union f → OfHeld (λ id. 1 ≤ (extent_at p id).align) f
    → IsPossible (storage_of p (field_type draft p f))
possible_made draft p in_union f sound some =
    some_possible (storage_of p (field_type draft p f)) (field_part (λ n. 1 ≤ n) some_alignment p f.ty some (constants draft) draft f.options sound.type.bits).stored

close_same : (e d : Extent) → e ≡ d → AreClose e d
close_same e d is = (ap (λ (x : Extent). x.align) is, ap (λ (x : Extent). min x.size TOO_LARGE) is)

same_made : (draft : Draft) (p q : List Plane) (in_union : Bool) (f : DraftField) → IsSoundField draft in_union f → OfHeld (λ id. extent_at p id ≡ extent_at q id) f
    → storage_of p (field_type draft p f) ≡ storage_of q (field_type draft q f)
same_made draft p q in_union f sound same =
    ap (storage_of p) (same_type p q f.ty (λ id is. close_same (extent_at p id) (extent_at q id) (same id is)) (constants draft) draft f.options)
    ∙ same_storage p q (field_type draft q f) (λ inner is. same inner.0 (held_made draft q in_union f inner sound is))

alike_made : (draft : Draft) (p q : List Plane) (in_union : Bool) (f : DraftField) → IsSoundField draft in_union f → OfHeld (λ id. AreClose (extent_at p id) (extent_at q id)) f
    → Alike (storage_of p (field_type draft p f)) (storage_of q (field_type draft q f))
alike_made draft p q in_union f sound close =
    subst (λ (type : Ty). Alike (storage_of p type) (storage_of q (field_type draft q f))) (sym (same_type p q f.ty close (constants draft) draft f.options))
    (alike_storages p q (field_type draft q f) (λ inner is. close inner.0 (held_made draft q in_union f inner sound is)))

-- ---- all fields of a structure

-- what the fields of a structure take, by planes
abbrev pub takes : Draft → List Plane → Bool → List DraftField → List Storage
takes draft planes in_union fs = storages_of planes (map (field_of draft planes in_union) fs)

pub same_fields : (draft : Draft) (p q : List Plane) (in_union : Bool) (fs : List DraftField) → All (IsSoundField draft in_union) fs → All (OfHeld (λ id. extent_at p id ≡ extent_at q id)) fs
    → takes draft p in_union fs ≡ takes draft q in_union fs
same_fields draft p q in_union [] sound same = refl
same_fields draft p q in_union (f ∷ fs) sound same =
    let S = IsSoundField draft in_union in
    let Q = OfHeld (λ id. extent_at p id ≡ extent_at q id) in
    ap (λ (s : Storage). s ∷ takes draft p in_union fs) (same_made draft p q in_union f (All-head S f fs sound) (All-head Q f fs same))
    ∙ ap (λ (ss : List Storage). storage_of q (field_type draft q f) ∷ ss) (same_fields draft p q in_union fs (All-tail S f fs sound) (All-tail Q f fs same))

alike_fields : (draft : Draft) (p q : List Plane) (in_union : Bool) (fs : List DraftField) → All (IsSoundField draft in_union) fs → All (OfHeld (λ id. AreClose (extent_at p id) (extent_at q id))) fs
    → AllZip Alike (takes draft p in_union fs) (takes draft q in_union fs)
alike_fields draft p q in_union [] sound close = tt
alike_fields draft p q in_union (f ∷ fs) sound close =
    let S = IsSoundField draft in_union in
    let Q = OfHeld (λ id. AreClose (extent_at p id) (extent_at q id)) in (
      alike_made draft p q in_union f (All-head S f fs sound) (All-head Q f fs close),
      alike_fields draft p q in_union fs (All-tail S f fs sound) (All-tail Q f fs close),
    )

pub placeable_fields : (draft : Draft) (p : List Plane) (in_union : Bool) (fs : List DraftField) → All (IsSoundField draft in_union) fs → All (OfHeld (λ id. IsTrue (is_alignment (extent_at p id).align))) fs
    → All (λ (f : Field). IsTrue (is_placeable (storage_of p f.ty))) (map (field_of draft p in_union) fs)
placeable_fields draft p in_union fs sound aligned =
    All-map (λ (f : Field). IsTrue (is_placeable (storage_of p f.ty))) (field_of draft p in_union) fs
    (λ k d within. placeable_made draft p in_union (get_or fs k d) (sound k d within) (aligned k d within))

pub possible_fields : (draft : Draft) (p : List Plane) (in_union : Bool) (fs : List DraftField) → All (IsSoundField draft in_union) fs → All (OfHeld (λ id. 1 ≤ (extent_at p id).align)) fs
    → All IsPossible (takes draft p in_union fs)
possible_fields draft p in_union fs sound some =
    All-map IsPossible (λ (f : Field). storage_of p f.ty) (map (field_of draft p in_union) fs)
    (All-map (λ (f : Field). IsPossible (storage_of p f.ty)) (field_of draft p in_union) fs (λ k d within. possible_made draft p in_union (get_or fs k d) (sound k d within) (some k d within)))

-- what is made by planes that are held within the limit is held as the plane of the structure
pub made_held : (draft : Draft) (known planes : List Plane) (s : DraftStructure) (made plane : Plane) → All (IsSoundField draft s.is_union) s.fields
    → All (OfHeld (λ id. AreClose (extent_at known id) (extent_at planes id))) s.fields → All (OfHeld (λ id. IsTrue (is_alignment (extent_at known id).align))) s.fields
    → IsHeldPlane known (unchained draft known s) made → IsPlane planes (unchained draft planes s) plane → made ≡ held plane
made_held draft known planes s made plane sound close aligned is ideal =
    let ours = possible_fields draft known s.is_union s.fields sound (λ k d within id held. some_alignment _ (aligned k d within id held)) in
    let theirs = possible_fields draft planes s.is_union s.fields sound
    (λ k d within id held. subst (λ (n : ℕ). 1 ≤ n) (close k d within id held).0 (some_alignment _ (aligned k d within id held))) in
    is.same ∙ ap held (plane_only s.is_union (takes draft known s.is_union s.fields) is.plane ours is.ideal)
    ∙ held-alike s.is_union (takes draft known s.is_union s.fields) (takes draft planes s.is_union s.fields) (alike_fields draft known planes s.is_union s.fields sound close)
    ∙ sym (ap held (plane_only s.is_union (takes draft planes s.is_union s.fields) plane theirs ideal))
