-- Fields are aligned, inside and apart.
use Rattle.std.proofs.Common.{◌≡◌, ℕ, zero, suc, ◌+◌, ◌-◌, ◌*◌, ◌/◌, ◌%◌, ◌≤◌, ◌<◌, Bool, true, false, Some, List, [], ◌∷◌, take, get_or, add-zero, sym, ap, subst, ◌∙◌, refl, ◌⊎◌, inl, inr, arith}
use Rattle.std.specs.List.{All}
use Rattle.std.specs.Prelude.{slice_get}
use Rattle.std.proofs.Math.Nat.{zero-mod}
use Rattle.std.proofs.lemmas.Bool.{cases_order}
use Rattle.std.proofs.lemmas.Nat.{div-add-mod', mod_below, mod-mul-add}
use Rattle.std.proofs.lemmas.Option.{same_Some, none-some, slice_get_within, get_or_from_slice_get}
use Rattle.gt_types.specs.declared.program.Program.{Program}
use Rattle.gt_types.specs.Settled.{Settled}
use Rattle.gt_layout.specs.declared.planes.FieldSpot.{FieldSpot}
use Rattle.gt_layout.specs.declared.planes.Plane.{Plane}
use Rattle.gt_layout.specs.declared.planes.Layouts.{Layouts}
use Rattle.gt_layout.specs.declared.storages.Storage.{Storage}
use Rattle.gt_layout.specs.declared.storages.Storage.TheVariants.{Bytes, Bits}
use Rattle.gt_layout.specs.Places.{MayBegin, spot_of, begin_at, end_at, ends}
use Rattle.gt_layout.specs.Planes.{IsPlaneOf, IsLaidOut}
use Rattle.gt_layout.specs.Laws.{IsAligned, ArePlaced, PlacesHold}
use Rattle.gt_layout.proofs.Multiples.{whole, fits_unit}
use Rattle.gt_layout.proofs.Placing.{IsPossible, first_of, start, next, spots_from, reach, plane_of, first-lies, begin-spot}
use Rattle.gt_layout.proofs.PlaneOf.{plane_only, plane_is}
use Rattle.gt_layout.proofs.Beyond.{ends_from, ends-spots, end_before}
use Rattle.gt_layout.proofs.Ideal.{possible_of, possible_roots, some_align}

-- ---- one field

start-allowed : (is_union : Bool) (from : ℕ) (f : Storage) → IsPossible f → MayBegin f (start is_union from f)
start-allowed false from f possible = (first-lies from f possible).allowed
start-allowed true from (Bytes e) possible = zero-mod (8 * e.align)
start-allowed true from (Bits unit count) possible = fits_unit 0 (8 * unit) count possible.0 possible.1 (zero-mod (8 * unit))

eighth_multiple : (begin align q : ℕ) → 0 < align → q * (8 * align) ≡ begin → (begin / 8) % align ≡ 0
eighth_multiple begin align q some is =
    let half : begin / 8 ≡ q * align + 0 = omega (arith, is) in
    ap (λ (n : ℕ). n % align) half ∙ mod-mul-add q align 0 some

in_unit : (begin u count : ℕ) → 1 ≤ count → 0 < u → begin / u ≡ (begin + count - 1) / u → begin % u + count ≤ u
in_unit begin u count some more same =
    omega (arith, div-add-mod' begin u, div-add-mod' (begin + count - 1) u, mod_below (begin + count - 1) u more, ap (λ (q : ℕ). q * u) same)

aligned-spot : (f : Storage) (begin : ℕ) → IsPossible f → MayBegin f begin → IsAligned f (spot_of f begin)
aligned-spot (Bytes e) begin possible allowed = (eighth_multiple begin e.align (begin / (8 * e.align)) possible (whole begin (8 * e.align) allowed), refl)
aligned-spot (Bits unit count) begin possible allowed = (
  ap (λ (n : ℕ). n % unit) (sym (add-zero (begin / (8 * unit) * unit))) ∙ mod-mul-add (begin / (8 * unit)) unit 0 (omega (arith, possible)),
  in_unit begin (8 * unit) count possible.0 (omega (arith, possible)) allowed,
)

-- ---- the field at a place

spot_at : (is_union : Bool) (from : ℕ) (fs : List Storage) (i : ℕ) (f : Storage) (s : FieldSpot) → slice_get fs i ≡ Some f → slice_get (spots_from is_union from fs) i ≡ Some s → s ≡ spot_of f (start is_union (reach is_union from (take i fs)) f)
spot_at is_union from [] i f s there at = absurd (none-some f there)
spot_at is_union from (g ∷ fs) zero f s there at =
    let same : g ≡ f = same_Some g f there in
    subst (λ (h : Storage). s ≡ spot_of h (start is_union from h)) same (sym (same_Some (spot_of g (start is_union from g)) s at))
spot_at is_union from (g ∷ fs) (suc i) f s there at = spot_at is_union (next is_union from g) fs i f s there at

ends_at : (fs : List Storage) (ss : List FieldSpot) (i : ℕ) (f : Storage) (s : FieldSpot) → slice_get fs i ≡ Some f → slice_get ss i ≡ Some s → slice_get (ends fs ss) i ≡ Some (end_at f s)
ends_at [] ss i f s there at = absurd (none-some f there)
ends_at (g ∷ fs) [] i f s there at = absurd (none-some s at)
ends_at (g ∷ fs) (t ∷ ss) zero f s there at = ap (λ (h : Storage). Some (end_at h t)) (same_Some g f there) ∙ ap (λ (r : FieldSpot). Some (end_at f r)) (same_Some t s at)
ends_at (g ∷ fs) (t ∷ ss) (suc i) f s there at = ends_at fs ss i f s there at

possible_at : (fs : List Storage) (i : ℕ) (f : Storage) → All IsPossible fs → slice_get fs i ≡ Some f → IsPossible f
possible_at fs i f all there = subst IsPossible (get_or_from_slice_get fs i f f there) (all i f (slice_get_within fs i f there))

-- ---- all fields

aligned_all : (is_union : Bool) (fs : List Storage) (i : ℕ) (f : Storage) (s : FieldSpot) → All IsPossible fs → slice_get fs i ≡ Some f → slice_get (spots_from is_union 0 fs) i ≡ Some s → IsAligned f s
aligned_all is_union fs i f s all there at =
    let possible = possible_at fs i f all there in
    subst (IsAligned f) (sym (spot_at is_union 0 fs i f s there at))
    (aligned-spot f (start is_union (reach is_union 0 (take i fs)) f) possible (start-allowed is_union (reach is_union 0 (take i fs)) f possible))

inside_all : (fs : List Storage) (ss : List FieldSpot) (size i : ℕ) (f : Storage) (s : FieldSpot) → All (λ end. end ≤ 8 * size) (ends fs ss) → slice_get fs i ≡ Some f → slice_get ss i ≡ Some s → end_at f s ≤ 8 * size
inside_all fs ss size i f s inside there at =
    let here = ends_at fs ss i f s there at in
    subst (λ (n : ℕ). n ≤ 8 * size) (get_or_from_slice_get (ends fs ss) i (end_at f s) 0 here) (inside i 0 (slice_get_within (ends fs ss) i (end_at f s) here))

ordered_all : (fs : List Storage) (i j : ℕ) (f g : Storage) (s t : FieldSpot) → All IsPossible fs → i < j → slice_get fs i ≡ Some f → slice_get (spots_from false 0 fs) i ≡ Some s → slice_get fs j ≡ Some g
    → slice_get (spots_from false 0 fs) j ≡ Some t → end_at f s ≤ begin_at t
ordered_all fs i j f g s t all less there at there' at' =
    let possible = possible_at fs j g all there' in
    let from : ℕ = reach false 0 (take j fs) in
    let lies = first-lies from g possible in
    let begin : begin_at t ≡ first_of from g = ap begin_at (spot_at false 0 fs j g t there' at') ∙ begin-spot g (first_of from g) lies.allowed in
    let end : get_or (ends_from false 0 fs) i 0 ≡ end_at f s =
    sym (ap (λ (ns : List ℕ). get_or ns i 0) (ends-spots false 0 fs all)) ∙ get_or_from_slice_get (ends fs (spots_from false 0 fs)) i (end_at f s) 0 (ends_at fs (spots_from false 0 fs) i f s there at) in
    omega (arith, begin, end, lies.after, end_before 0 fs j i less)

-- the rising order keeps bits apart
apart_by : (i j bit : ℕ) (a b c d : ℕ) → a ≤ bit → bit < b → c ≤ bit → bit < d → (i < j → b ≤ c) → (j < i → d ≤ a) → (i ≡ j) ⊎ ((i < j) ⊎ (j < i)) → i ≡ j
apart_by i j bit a b c d low high low' high' before after (inl same) = same
apart_by i j bit a b c d low high low' high' before after (inr (inl less)) = absurd (omega (arith, low, high, low', high', before less))
apart_by i j bit a b c d low high low' high' before after (inr (inr more)) = absurd (omega (arith, low, high, low', high', after more))

ordered_by : (is_union : Bool) (fs : List Storage) → All IsPossible fs → is_union ≡ false → (i j : ℕ) (f g : Storage) (s t : FieldSpot) → i < j → slice_get fs i ≡ Some f → slice_get (spots_from is_union 0 fs) i ≡ Some s
    → slice_get fs j ≡ Some g → slice_get (spots_from is_union 0 fs) j ≡ Some t → end_at f s ≤ begin_at t
ordered_by true fs all union' i j f g s t less there at there' at' = let never : true ≡ false = union' in cc
ordered_by false fs all struct' i j f g s t less there at there' at' = ordered_all fs i j f g s t all less there at there' at'

placed_of : (is_union : Bool) (fs : List Storage) → All IsPossible fs → ArePlaced is_union fs (plane_of is_union fs)
placed_of is_union fs all = record {
  aligned = λ i f s there at. aligned_all is_union fs i f s all there at;
  inside = λ i f s there at. inside_all fs (spots_from is_union 0 fs) (plane_of is_union fs).size i f s (plane_is is_union fs all).size.room.inside there at;
  ordered = ordered_by is_union fs all;
  apart = λ struct' i j bit x y.
      apart_by i j bit (begin_at x.1) (end_at x.0 x.1) (begin_at y.1) (end_at y.0 y.1) x.4 x.5 y.4 y.5
      (λ less. ordered_by is_union fs all struct' i j x.0 y.0 x.1 y.1 less x.2 x.3 y.2 y.3) (λ more. ordered_by is_union fs all struct' j i y.0 x.0 y.1 x.1 more y.2 y.3 x.2 x.3) (cases_order i j);
}

pub placed : (is_union : Bool) (fs : List Storage) (plane : Plane) → All IsPossible fs → IsPlaneOf is_union fs plane → ArePlaced is_union fs plane
placed is_union fs plane all is = subst (ArePlaced is_union fs) (sym (plane_only is_union fs plane all is)) (placed_of is_union fs all)

pub places_hold : (program : Program) (layouts : Layouts) → Settled program → IsLaidOut program layouts → PlacesHold program layouts
places_hold program layouts settled is = record {
  structures = λ place s plane there at. placed s.is_union _ plane (possible_of program layouts.structures place s settled is.structures there) (is.structures.each place s plane there at);
  statics = placed false _ layouts.statics (possible_roots program layouts.structures settled (λ place. some_align program layouts.structures place is.structures)) is.statics;
}
