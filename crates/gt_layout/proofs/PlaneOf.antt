-- The plane as a function is the one plane that the rules allow, and large fields give a large plane.
use Rattle.std.proofs.Common.{◌≡◌, ◌≤◌, ◌<◌, ℕ, ◌+◌, ◌*◌, ◌/◌, ◌%◌, Bool, true, false, List, [], ◌∷◌, map, zero-mul, sym, ap, subst, ◌∙◌, refl, arith}
use Rattle.std.specs.List.{All}
use Rattle.std.proofs.Math.Nat.{zero-div, zero-mod}
use Rattle.std.proofs.lemmas.List.Elements.{All-nil, All-cons, All-head, All-tail}
use Rattle.gt_layout.specs.declared.planes.FieldSpot.{FieldSpot}
use Rattle.gt_layout.specs.declared.planes.Plane.{Plane}
use Rattle.gt_layout.specs.declared.storages.Storage.{Storage}
use Rattle.gt_layout.specs.declared.storages.Storage.TheVariants.{Bytes, Bits}
use Rattle.gt_layout.specs.Places.{LiesAfter, end_of, align_of, spot, spot_of, begin_at, end_at, Follow, Overlap, Lie, ends}
use Rattle.gt_layout.specs.Planes.{greatest, IsSize, IsPlaneOf}
use Rattle.gt_layout.proofs.Multiples.{least_multiple}
use Rattle.gt_layout.proofs.Placing.{up, up_multiple, up_after, IsPossible, first_of, start, next, spots_from, reach, plane_of, greatest_some, first-lies, first_only, begin-spot}

-- ---- places

spot-zero : (f : Storage) → spot_of f 0 ≡ spot 0 0
spot-zero (Bytes e) = refl
spot-zero (Bits unit count) =
    ap (λ (n : ℕ). spot (n * unit) (0 % (8 * unit))) (zero-div (8 * unit)) ∙ ap (λ (n : ℕ). spot n (0 % (8 * unit))) (zero-mul unit) ∙ ap (λ (n : ℕ). spot 0 n) (zero-mod (8 * unit))

-- the end of a field at its place
pub end-start : (is_union : Bool) (from : ℕ) (f : Storage) → IsPossible f → end_at f (spot_of f (start is_union from f)) ≡ end_of f (start is_union from f)
end-start true from f possible = ap (λ (s : FieldSpot). end_of f (begin_at s)) (spot-zero f)
end-start false from f possible = ap (end_of f) (begin-spot f (first_of from f) (first-lies from f possible).allowed)

end_after : (f : Storage) (begin : ℕ) → begin ≤ end_of f begin
end_after (Bytes e) begin = omega arith
end_after (Bits unit count) begin = omega arith

pub next-struct : (from : ℕ) (f : Storage) → IsPossible f → next false from f ≡ end_of f (first_of from f)
next-struct from f possible = omega (arith, (first-lies from f possible).after, end_after f (first_of from f))

follows : (from : ℕ) (fs : List Storage) → All IsPossible fs → Follow from fs (spots_from false from fs)
follows from [] all = tt
follows from (f ∷ fs) all =
    let possible = All-head IsPossible f fs all in
    let lies = first-lies from f possible in
    let is = begin-spot f (first_of from f) lies.allowed in (
      subst (λ (n : ℕ). LiesAfter from f n) (sym is) lies,
      ap (spot_of f) (sym is),
      subst (λ (n : ℕ). Follow n fs (spots_from false (next false from f) fs)) (next-struct from f possible ∙ sym (end-start false from f possible))
          (follows (next false from f) fs (All-tail IsPossible f fs all)),
    )

follows_only : (from : ℕ) (fs : List Storage) (ss : List FieldSpot) → All IsPossible fs → Follow from fs ss → ss ≡ spots_from false from fs
follows_only from [] [] all follow = refl
follows_only from [] (s ∷ ss) all follow = absurd follow
follows_only from (f ∷ fs) [] all follow = absurd follow
follows_only from (f ∷ fs) (s ∷ ss) all follow =
    let possible = All-head IsPossible f fs all in
    let is = first_only from f (begin_at s) possible follow.0 in
    let place = follow.1 ∙ ap (spot_of f) is in
    let to : end_at f s ≡ next false from f = ap (end_of f) is ∙ sym (next-struct from f possible) in
    let rest = follows_only (next false from f) fs ss (All-tail IsPossible f fs all) (subst (λ (n : ℕ). Follow n fs ss) to follow.2) in
    ap (λ (t : FieldSpot). t ∷ ss) place ∙ ap (λ (ts : List FieldSpot). spot_of f (first_of from f) ∷ ts) rest

overlaps : (from : ℕ) (fs : List Storage) → Overlap fs (spots_from true from fs)
overlaps from [] = tt
overlaps from (f ∷ fs) = (spot-zero f, overlaps (next true from f) fs)

overlaps_only : (from : ℕ) (fs : List Storage) (ss : List FieldSpot) → Overlap fs ss → ss ≡ spots_from true from fs
overlaps_only from [] [] overlap = refl
overlaps_only from [] (s ∷ ss) overlap = absurd overlap
overlaps_only from (f ∷ fs) [] overlap = absurd overlap
overlaps_only from (f ∷ fs) (s ∷ ss) overlap =
    ap (λ (t : FieldSpot). t ∷ ss) (overlap.0 ∙ sym (spot-zero f)) ∙ ap (λ (ts : List FieldSpot). spot_of f 0 ∷ ts) (overlaps_only (next true from f) fs ss overlap.1)

lie : (is_union : Bool) (fs : List Storage) → All IsPossible fs → Lie is_union fs (spots_from is_union 0 fs)
lie true fs all = overlaps 0 fs
lie false fs all = follows 0 fs all

lie_only : (is_union : Bool) (fs : List Storage) (ss : List FieldSpot) → All IsPossible fs → Lie is_union fs ss → ss ≡ spots_from is_union 0 fs
lie_only true fs ss all lies = overlaps_only 0 fs ss lies
lie_only false fs ss all lies = follows_only 0 fs ss all lies

-- ---- sizes

pub grow : (is_union : Bool) (from : ℕ) (fs : List Storage) → from ≤ reach is_union from fs
grow is_union from [] = omega arith
grow is_union from (f ∷ fs) = omega (arith, grow is_union (next is_union from f) fs)

pub ends_reach : (is_union : Bool) (from : ℕ) (fs : List Storage) → All IsPossible fs → All (λ end. end ≤ reach is_union from fs) (ends fs (spots_from is_union from fs))
ends_reach is_union from [] all = All-nil (λ end. end ≤ from)
ends_reach is_union from (f ∷ fs) all =
    All-cons (λ end. end ≤ reach is_union (next is_union from f) fs) (end_at f (spot_of f (start is_union from f))) (ends fs (spots_from is_union (next is_union from f) fs))
    (omega (arith, end-start is_union from f (All-head IsPossible f fs all), grow is_union (next is_union from f) fs))
    (ends_reach is_union (next is_union from f) fs (All-tail IsPossible f fs all))

reach_least : (is_union : Bool) (from : ℕ) (fs : List Storage) (bound : ℕ) → All IsPossible fs → from ≤ bound
    → All (λ end. end ≤ bound) (ends fs (spots_from is_union from fs)) → reach is_union from fs ≤ bound
reach_least is_union from [] bound all small inside = small
reach_least is_union from (f ∷ fs) bound all small inside =
    let first = All-head (λ end. end ≤ bound) (end_at f (spot_of f (start is_union from f))) (ends fs (spots_from is_union (next is_union from f) fs)) inside in
    reach_least is_union (next is_union from f) fs bound (All-tail IsPossible f fs all) (omega (arith, first, end-start is_union from f (All-head IsPossible f fs all)))
    (All-tail (λ end. end ≤ bound) (end_at f (spot_of f (start is_union from f))) (ends fs (spots_from is_union (next is_union from f) fs)) inside)

-- the rounding of the last of some ends is the least size that holds them
pub size_of_ends : (es : List ℕ) (last align : ℕ) → 0 < align → All (λ end. end ≤ last) es → ((bound : ℕ) → All (λ end. end ≤ bound) es → last ≤ bound) → IsSize align es (up ((last + 7) / 8) align)
size_of_ends es last align some inside least = record {
  room = record {
    whole = up_multiple ((last + 7) / 8) align some;
    inside = λ k d within. omega (arith, inside k d within, up_after ((last + 7) / 8) align some);
  };
  least = λ other room. least_multiple ((last + 7) / 8) align other some (omega (arith, least (8 * other) room.inside)) room.whole;
}

pub one_size : (es : List ℕ) (align a b : ℕ) → IsSize align es a → IsSize align es b → a ≡ b
one_size es align a b x y = omega (arith, x.least b y.room, y.least a x.room)

-- ---- the plane

pub plane_is : (is_union : Bool) (fs : List Storage) → All IsPossible fs → IsPlaneOf is_union fs (plane_of is_union fs)
plane_is is_union fs all = record {
  places = lie is_union fs all;
  align = refl;
  size = size_of_ends (ends fs (spots_from is_union 0 fs)) (reach is_union 0 fs) (greatest (map align_of fs)) (greatest_some (map align_of fs)) (ends_reach is_union 0 fs all)
      (λ bound inside. reach_least is_union 0 fs bound all (omega arith) inside);
}

same_plane : (size align size' align' : ℕ) (spots spots' : List FieldSpot) → size ≡ size' → align ≡ align' → spots ≡ spots'
    → ◌≡◌ {A = Plane} (record { size = size; align = align; fields = spots }) (record { size = size'; align = align'; fields = spots' })
same_plane size align size' align' spots spots' a b c =
    ap (λ (n : ℕ). let p : Plane = record { size = n; align = align; fields = spots } in p) a ∙
    ap (λ (n : ℕ). let p : Plane = record { size = size'; align = n; fields = spots } in p) b ∙
    ap (λ (ss : List FieldSpot). let p : Plane = record { size = size'; align = align'; fields = ss } in p) c

pub plane_only : (is_union : Bool) (fs : List Storage) (plane : Plane) → All IsPossible fs → IsPlaneOf is_union fs plane → plane ≡ plane_of is_union fs
plane_only is_union fs plane all is =
    let places = lie_only is_union fs plane.fields all is.places in
    let ours = plane_is is_union fs all in
    let size = subst (λ (n : ℕ). IsSize n (ends fs plane.fields) plane.size) is.align is.size in
    let size' = subst (λ (ss : List FieldSpot). IsSize (greatest (map align_of fs)) (ends fs ss) plane.size) places size in
    same_plane plane.size plane.align _ _ plane.fields _ (one_size (ends fs (spots_from is_union 0 fs)) (greatest (map align_of fs)) _ _ size' ours.size) is.align places
