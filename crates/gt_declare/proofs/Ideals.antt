-- A sound draft has one list of planes: laid out again and again from nothing, it changes no more after as many times as structures
-- stand one inside another.
use Rattle.std.proofs.Common.{◌≡◌, ◌∙◌, ℕ, zero, suc, ◌≤◌, ◌<◌, ◌⊎◌, inl, inr, false, List, [], map, length, get_or, Option, Some, None, option_map, refl, sym, ap, subst, arith}
use Rattle.std.specs.Prelude.{slice_get}
use Rattle.std.specs.List.{All}
use Rattle.std.proofs.lemmas.List.{length-map}
use Rattle.std.proofs.lemmas.Option.{same_Some, slice_get-map, slice_get-get_or, slice_get_cases, slice_get_past, slice_get_within, get_or_from_slice_get}
use Rattle.gt_types.specs.declared.limits.TheConstants.{MAX_DEPTH}
use Rattle.gt_layout.specs.declared.planes.Plane.{Plane}
use Rattle.gt_layout.specs.Storages.{extent_at, extent_of_plane}
use Rattle.gt_layout.specs.Planes.{IsPlane}
use Rattle.gt_layout.specs.Places.{align_of}
use Rattle.gt_layout.proofs.Placing.{IsPossible, plane_of, greatest_some}
use Rattle.gt_layout.proofs.PlaneOf.{plane_is, plane_only}
use Rattle.gt_layout.proofs.Ideal.{same_list}
use Rattle.gt_drafts.specs.declared.draft.Draft.{Draft}
use Rattle.gt_drafts.specs.declared.draft.DraftStructure.{DraftStructure}
use Rattle.gt_drafts.specs.Shapes.{IsNested}
use Rattle.gt_markers.specs.Sound.{IsSound, IsSoundStructure}
use Rattle.gt_declare.specs.Making.{AreLaidBy}
use Rattle.gt_declare.specs.Programs.{unchained}
use Rattle.gt_declare.proofs.StructurePlanes.{inner_shallow, takes, same_fields, possible_fields}

-- ---- one structure of a sound draft

at_place : {X : Type 0} (xs : List X) (i : ℕ) (x : X) → slice_get xs i ≡ Some x → get_or xs i x ≡ x
at_place xs i x there = get_or_from_slice_get xs i x x there

pub sound_at : (draft : Draft) (place : ℕ) (s : DraftStructure) → IsSound draft → slice_get draft.structures place ≡ Some s → IsSoundStructure draft s
sound_at draft place s sound there =
    subst (IsSoundStructure draft) (at_place draft.structures place s there) (sound.structures place s (slice_get_within draft.structures place s there))

-- the one plane of a structure, by planes
abbrev pub plane_by : Draft → List Plane → DraftStructure → Plane
plane_by draft planes s = plane_of s.is_union (takes draft planes s.is_union s.fields)

-- planes that are the same where structures are less deep give a structure the same plane
same_by : (draft : Draft) (p q : List Plane) (place n : ℕ) (s : DraftStructure) → IsSound draft → slice_get draft.structures place ≡ Some s → ¬ IsNested draft.structures (suc n) place
    → ((id : ℕ) → ¬ IsNested draft.structures n id → slice_get p id ≡ slice_get q id) → plane_by draft p s ≡ plane_by draft q s
same_by draft p q place n s sound there shallow same =
    ap (plane_of s.is_union) (
    same_fields draft p q s.is_union s.fields (sound_at draft place s sound there).fields
    (λ k d within id held. ap extent_of_plane (same id (inner_shallow draft.structures place n s there shallow k d within id held))))

-- ---- planes that are laid out

pub not_deep : (draft : Draft) (place : ℕ) → IsSound draft → ¬ IsNested draft.structures (suc MAX_DEPTH) place
not_deep draft place sound nested = let few = sound.depth (suc MAX_DEPTH) place nested in omega (arith, few)

align_by : (draft : Draft) (planes : List Plane) (place : ℕ) → AreLaidBy draft planes
    → ((p : Plane) × (place < length planes) × (slice_get planes place ≡ Some p) × (get_or planes place p ≡ p)) ⊎ ((length planes ≤ place) × (slice_get planes place ≡ None))
    → ((s : DraftStructure) × (place < length draft.structures) × (slice_get draft.structures place ≡ Some s) × (get_or draft.structures place s ≡ s)) ⊎ ((length draft.structures ≤ place) × (slice_get draft.structures place ≡ None))
    → 1 ≤ (extent_at planes place).align
align_by draft planes place laid (inr (past, none)) _ = subst (λ (o : Option Plane). 1 ≤ (extent_of_plane o).align) (sym none) (omega arith)
align_by draft planes place laid (inl (p, within, at, _)) (inr (past, none)) = absurd (omega (arith, within, past, laid.all))
align_by draft planes place laid (inl (p, within, at, _)) (inl (s, inside, there, _)) =
    let is = (laid.each place s p there at).align in
    let some : 1 ≤ p.align = omega (arith, is, greatest_some (map align_of (takes draft planes s.is_union s.fields))) in
    subst (λ (o : Option Plane). 1 ≤ (extent_of_plane o).align) (sym at) some

some_align : (draft : Draft) (planes : List Plane) (place : ℕ) → AreLaidBy draft planes → 1 ≤ (extent_at planes place).align
some_align draft planes place laid = align_by draft planes place laid (slice_get_cases planes place).1 (slice_get_cases draft.structures place).1

pub possible_of : (draft : Draft) (planes : List Plane) (s : DraftStructure) → IsSoundStructure draft s → ((place : ℕ) → 1 ≤ (extent_at planes place).align)
    → All IsPossible (takes draft planes s.is_union s.fields)
possible_of draft planes s sound some = possible_fields draft planes s.is_union s.fields sound.fields (λ k d within id held. some id)

-- a plane that is laid out is the one by all planes
only_plane : (draft : Draft) (planes : List Plane) (place : ℕ) (s : DraftStructure) (plane : Plane) → IsSound draft → AreLaidBy draft planes → slice_get draft.structures place ≡ Some s
    → slice_get planes place ≡ Some plane → plane ≡ plane_by draft planes s
only_plane draft planes place s plane sound laid there at =
    plane_only s.is_union (takes draft planes s.is_union s.fields) plane
    (possible_of draft planes s (sound_at draft place s sound there) (λ id. some_align draft planes id laid)) (laid.each place s plane there at)

-- ---- one list at most

agree_at : (draft : Draft) (p q : List Plane) (n place : ℕ) → IsSound draft → AreLaidBy draft p → AreLaidBy draft q → ¬ IsNested draft.structures (suc n) place
    → ((id : ℕ) → ¬ IsNested draft.structures n id → slice_get p id ≡ slice_get q id)
    → ((s : DraftStructure) × (place < length draft.structures) × (slice_get draft.structures place ≡ Some s) × (get_or draft.structures place s ≡ s)) ⊎ ((length draft.structures ≤ place) × (slice_get draft.structures place ≡ None))
    → slice_get p place ≡ slice_get q place
agree_at draft p q n place sound laid laid' shallow same (inr (past, none)) =
    slice_get_past p place (omega (arith, past, laid.all)) ∙ sym (slice_get_past q place (omega (arith, past, laid'.all)))
agree_at draft p q n place sound laid laid' shallow same (inl (s, inside, there, _)) =
    let d : Plane = plane_of false [] in
    let at = slice_get-get_or p place d (omega (arith, inside, laid.all)) in
    let at' = slice_get-get_or q place d (omega (arith, inside, laid'.all)) in
    at ∙ ap (λ (c : Plane). Some c) (
    only_plane draft p place s (get_or p place d) sound laid there at ∙ same_by draft p q place n s sound there shallow same
    ∙ sym (only_plane draft q place s (get_or q place d) sound laid' there at')) ∙ sym at'

agree : (draft : Draft) (p q : List Plane) (n place : ℕ) → IsSound draft → AreLaidBy draft p → AreLaidBy draft q → ¬ IsNested draft.structures n place → slice_get p place ≡ slice_get q place
agree draft p q zero place sound laid laid' shallow = absurd (shallow tt)
agree draft p q (suc n) place sound laid laid' shallow =
    agree_at draft p q n place sound laid laid' shallow (λ id other. agree draft p q n id sound laid laid' other) (slice_get_cases draft.structures place).1

pub one_planes : (draft : Draft) (p q : List Plane) → IsSound draft → AreLaidBy draft p → AreLaidBy draft q → p ≡ q
one_planes draft p q sound laid laid' = same_list p q (λ place. agree draft p q (suc MAX_DEPTH) place sound laid laid' (not_deep draft place sound))

-- ---- there is one

-- the planes by those that were found before
abbrev layer : Draft → List Plane → List Plane
layer draft planes = map (plane_by draft planes) draft.structures

abbrev after : ℕ → Draft → List Plane
after zero draft = []
after (suc n) draft = layer draft (after n draft)

layer_at : (draft : Draft) (planes : List Plane) (place : ℕ) → slice_get (layer draft planes) place ≡ option_map (plane_by draft planes) (slice_get draft.structures place)
layer_at draft planes place = slice_get-map (plane_by draft planes) draft.structures place

layers_same : (draft : Draft) (p q : List Plane) (n place : ℕ) → IsSound draft → ¬ IsNested draft.structures (suc n) place
    → ((id : ℕ) → ¬ IsNested draft.structures n id → slice_get p id ≡ slice_get q id) → (o : Option DraftStructure) → slice_get draft.structures place ≡ o
    → slice_get (layer draft p) place ≡ slice_get (layer draft q) place
layers_same draft p q n place sound shallow same None there =
    layer_at draft p place ∙ ap (option_map (plane_by draft p)) there ∙ sym (ap (option_map (plane_by draft q)) there) ∙ sym (layer_at draft q place)
layers_same draft p q n place sound shallow same (Some s) there =
    layer_at draft p place ∙ ap (option_map (plane_by draft p)) there ∙ ap (λ (c : Plane). Some c) (same_by draft p q place n s sound there shallow same)
    ∙ sym (ap (option_map (plane_by draft q)) there) ∙ sym (layer_at draft q place)

settles : (draft : Draft) (n place : ℕ) → IsSound draft → ¬ IsNested draft.structures n place → slice_get (after n draft) place ≡ slice_get (layer draft (after n draft)) place
settles draft zero place sound shallow = absurd (shallow tt)
settles draft (suc n) place sound shallow =
    layers_same draft (after n draft) (after (suc n) draft) n place sound shallow (λ id other. settles draft n id sound other) (slice_get draft.structures place) refl

some_by : (draft : Draft) (planes : List Plane) (o : Option DraftStructure) → 1 ≤ (extent_of_plane (option_map (plane_by draft planes) o)).align
some_by draft planes (Some s) = greatest_some _
some_by draft planes None = omega arith

some_fixed : (draft : Draft) (planes : List Plane) (place : ℕ) → planes ≡ layer draft planes → 1 ≤ (extent_at planes place).align
some_fixed draft planes place fixed =
    subst (λ (o : Option Plane). 1 ≤ (extent_of_plane o).align) (sym (ap (λ ps. slice_get ps place) fixed ∙ layer_at draft planes place)) (some_by draft planes (slice_get draft.structures place))

-- planes that are those by themselves are laid out
fixed_laid : (draft : Draft) (planes : List Plane) → IsSound draft → planes ≡ layer draft planes → AreLaidBy draft planes
fixed_laid draft planes sound fixed = record {
  all = ap length fixed ∙ length-map draft.structures (plane_by draft planes);
  each = λ place s plane there at.
      let is : plane_by draft planes s ≡ plane = same_Some (plane_by draft planes s) plane (sym (ap (λ ps. slice_get ps place) fixed ∙ layer_at draft planes place ∙ ap (option_map (plane_by draft planes)) there) ∙ at) in
      subst (IsPlane planes (unchained draft planes s)) is (
      plane_is s.is_union (takes draft planes s.is_union s.fields) (possible_of draft planes s (sound_at draft place s sound there) (λ id. some_fixed draft planes id fixed)));
}

-- the planes of a sound draft
pub ideal : Draft → List Plane
ideal draft = after (suc MAX_DEPTH) draft

pub ideal_laid : (draft : Draft) → IsSound draft → AreLaidBy draft (ideal draft)
unfolding ideal
ideal_laid draft sound =
    fixed_laid draft (after (suc MAX_DEPTH) draft) sound (
    same_list (after (suc MAX_DEPTH) draft) (layer draft (after (suc MAX_DEPTH) draft)) (λ place. settles draft (suc MAX_DEPTH) place sound (not_deep draft place sound)))
