-- The fields that were placed so far, in the loops over fields and roots.
use Rattle.std.proofs.Common.{◌≡◌, ◌≤◌, ◌<◌, ℕ, ◌+◌, ◌*◌, max, Bool, true, false, cond, IsTrue, List, [], ◌∷◌, ◌++◌, map, length, length-append, take, take_all, get_or, leb, sym, ap, subst, ◌∙◌, refl, ◌⊎◌, inl, inr, arith}
use Rattle.std.proofs.lemmas.Bool.{cases_lt}
use Rattle.std.specs.List.{All}
use Rattle.std.proofs.lemmas.List.{map-append, take_more}
use Rattle.std.proofs.lemmas.List.Elements.{All-map, All-weaker, All-get_or, All-same}
use Rattle.gt_types.specs.declared.limits.TheConstants.{TOO_LARGE}
use Rattle.gt_layout.specs.declared.planes.TheConstants.{MAX_SIZE}
use Rattle.gt_layout.specs.declared.planes.Plane.{Plane}
use Rattle.gt_layout.specs.declared.planes.FieldSpot.{FieldSpot}
use Rattle.gt_layout.specs.declared.storages.Storage.{Storage}
use Rattle.gt_layout.specs.declared.storages.Storage.TheVariants.{Bytes, Bits}
use Rattle.gt_layout.specs.Storages.{held_storage}
use Rattle.gt_layout.specs.Places.{end_of, align_of, spot_of}
use Rattle.gt_layout.specs.Planes.{greatest, held, is_alignment, is_placeable}
use Rattle.gt_layout.specs.Progress.{Starts, finished}
use Rattle.gt_layout.proofs.Agreement.{held-alike, all_held, large_plane}
use Rattle.gt_layout.proofs.Placing.{IsPossible, start, spots_from, reach, plane_of, reach-append, spots-append, greatest-append, first_only}

-- the fields so far are placed as the rules have it, and end within what so many fields can take
pub record IsDraft (is_union : Bool) (fs : List Storage) (last most : ℕ) (places : List FieldSpot) : Type 0 where
  pub end : last ≡ reach is_union 0 fs
  pub align : most ≡ greatest (map align_of fs)
  pub spots : places ≡ spots_from is_union 0 fs
  pub aligned : IsTrue (is_alignment most)
  pub small : last ≤ 8388680 * length fs

pub alignment_between : (n : ℕ) → IsTrue (is_alignment n) → (1 ≤ n) × (n ≤ 8)
alignment_between n is = (grind arith, grind arith)

pub align_placeable : (f : Storage) → IsTrue (is_placeable f) → IsTrue (is_alignment (align_of f))
align_placeable (Bytes e) placeable = placeable
align_placeable (Bits unit count) placeable = grind arith

bits_between : (unit count : ℕ) → IsTrue (is_placeable (Bits unit count)) → (1 ≤ count) × (count ≤ 8 * unit)
bits_between unit count placeable = (grind arith, grind arith)

pub possible_from_placeable : (f : Storage) → IsTrue (is_placeable f) → IsPossible f
possible_from_placeable (Bytes e) placeable = (alignment_between e.align placeable).0
possible_from_placeable (Bits unit count) placeable = bits_between unit count placeable

pub start_only : (is_union : Bool) (from : ℕ) (f : Storage) (begin : ℕ) → IsPossible f → Starts is_union from f begin → begin ≡ start is_union from f
start_only true from f begin possible starts = starts
start_only false from f begin possible starts = first_only from f begin possible starts

cases_aligned : (a b : ℕ) → (a < b) ⊎ (b ≤ a) → IsTrue (is_alignment a) → IsTrue (is_alignment b) → IsTrue (is_alignment (max a b))
cases_aligned a b (inl less) x y = let is : b ≡ max a b = omega arith in subst (λ (n : ℕ). IsTrue (is_alignment n)) is y
cases_aligned a b (inr least) x y = let is : a ≡ max a b = omega arith in subst (λ (n : ℕ). IsTrue (is_alignment n)) is x

pub max_aligned : (a b : ℕ) → IsTrue (is_alignment a) → IsTrue (is_alignment b) → IsTrue (is_alignment (max a b))
max_aligned a b x y = cases_aligned a b (cases_lt a b) x y

end_held : (f : Storage) (begin : ℕ) → IsTrue (is_placeable f) → end_of (held_storage f) begin ≤ begin + 8 * TOO_LARGE
end_held (Bytes e) begin placeable = omega arith
end_held (Bits unit count) begin placeable = omega (arith, bits_between unit count placeable, alignment_between unit (align_placeable (Bits unit count) placeable))

held_placeable : (f : Storage) → IsTrue (is_placeable f) → IsTrue (is_placeable (held_storage f))
held_placeable (Bytes e) placeable = placeable
held_placeable (Bits unit count) placeable = placeable

-- one more field, which is held within the limit
pub draft_more : (is_union : Bool) (fs : List Storage) (last most : ℕ) (places : List FieldSpot) (f : Storage) (begin last' most' : ℕ) (places' : List FieldSpot)
    → IsDraft is_union fs last most places → IsTrue (is_placeable f) → Starts is_union last (held_storage f) begin → begin < last + 64
    → last' ≡ max last (end_of (held_storage f) begin) → most' ≡ max most (align_of (held_storage f)) → places' ≡ places ++ spot_of (held_storage f) begin ∷ []
    → IsDraft is_union (fs ++ held_storage f ∷ []) last' most' places'
draft_more is_union fs last most places f begin last' most' places' draft placeable starts near more_end more_align more_spots =
    let g : Storage = held_storage f in
    let good : IsTrue (is_placeable g) = held_placeable f placeable in
    let at : begin ≡ start is_union last g = start_only is_union last g begin (possible_from_placeable g good) starts in
    let here : begin ≡ start is_union (reach is_union 0 fs) g = at ∙ ap (λ (n : ℕ). start is_union n g) draft.end in
    let align_g = align_placeable g good in
    record {
      end = more_end ∙ ap (λ (n : ℕ). max last (end_of g n)) here ∙ ap (λ (n : ℕ). max n (end_of g (start is_union (reach is_union 0 fs) g))) draft.end ∙ sym (reach-append is_union 0 fs g);
      align = more_align ∙ ap (λ (n : ℕ). max n (align_of g)) draft.align ∙ sym (greatest-append (map align_of fs) (align_of g) (alignment_between (align_of g) align_g).0)
          ∙ ap greatest (sym (map-append align_of fs (g ∷ [])));
      spots = more_spots ∙ ap (λ (n : ℕ). places ++ spot_of g n ∷ []) here ∙ ap (λ (ss : List FieldSpot). ss ++ spot_of g (start is_union (reach is_union 0 fs) g) ∷ []) draft.spots
          ∙ sym (spots-append is_union 0 fs g);
      aligned = subst (λ (n : ℕ). IsTrue (is_alignment n)) (sym more_align) (max_aligned most (align_of g) draft.aligned align_g);
      small = omega (arith, draft.small, near, more_end, end_held f begin placeable, length-append fs (g ∷ []));
    }

-- no field
pub draft_none : (is_union : Bool) (last most : ℕ) (places : List FieldSpot) → last ≡ 0 → most ≡ 1 → places ≡ [] → IsDraft is_union [] last most places
draft_none is_union last most places end align spots = record {
  end = end;
  align = align;
  spots = spots;
  aligned = subst (λ (n : ℕ). IsTrue (is_alignment n)) (sym align) refl;
  small = omega arith;
}

-- ---- lists of what has a type

pub possible_all : {X : Type 0} (s : X → Storage) (xs : List X) → All (λ x. IsTrue (is_placeable (s x))) xs → All IsPossible (map s xs)
possible_all {X} s xs all = All-map IsPossible s xs (All-weaker (λ (x : X). IsTrue (is_placeable (s x))) (λ (x : X). IsPossible (s x)) (λ x placeable. possible_from_placeable (s x) placeable) xs all)

held_more : {X : Type 0} (s : X → Storage) (xs : List X) (i : ℕ) (x : X) → i < length xs → x ≡ get_or xs i x
    → map held_storage (map s (take (i + 1) xs)) ≡ map held_storage (map s (take i xs)) ++ held_storage (s x) ∷ []
held_more {X} s xs i x within at =
    ap (λ (ys : List X). map held_storage (map s ys)) (take_more xs i x within ∙ ap (λ (y : X). take i xs ++ y ∷ []) (sym at))
    ∙ ap (map held_storage) (map-append s (take i xs) (x ∷ [])) ∙ map-append held_storage (map s (take i xs)) (s x ∷ [])

-- the next of what has a type is placed
pub one_more : {X : Type 0} (s : X → Storage) (xs : List X) (i : ℕ) (x : X) (is_union : Bool) (last most : ℕ) (places : List FieldSpot) (g : Storage) (begin last' most' : ℕ) (places' : List FieldSpot)
    → i < length xs → x ≡ get_or xs i x → g ≡ held_storage (s x) → IsTrue (is_placeable (s x))
    → IsDraft is_union (map held_storage (map s (take i xs))) last most places → Starts is_union last g begin → begin < last + 64
    → last' ≡ max last (end_of g begin) → most' ≡ max most (align_of g) → places' ≡ places ++ spot_of g begin ∷ []
    → IsDraft is_union (map held_storage (map s (take (i + 1) xs))) last' most' places'
one_more {X} s xs i x is_union last most places g begin last' most' places' within at is placeable draft starts near more_end more_align more_spots =
    subst (λ (fs : List Storage). IsDraft is_union fs last' most' places') (sym (held_more s xs i x within at))
    (draft_more is_union (map held_storage (map s (take i xs))) last most places (s x) begin last' most' places' draft placeable (subst (λ (h : Storage). Starts is_union last h begin) is starts) near
    (more_end ∙ ap (λ (h : Storage). max last (end_of h begin)) is) (more_align ∙ ap (λ (h : Storage). max most (align_of h)) is)
    (more_spots ∙ ap (λ (h : Storage). places ++ spot_of h begin ∷ []) is))

-- what holds of all of a list holds of one that was read from it
pub one_of : {X : Type 0} (P : X → Type 0) (xs ys : List X) (i : ℕ) (x : X) → All P ys → xs ≡ ys → i < length xs → x ≡ get_or xs i x → P x
one_of {X} P xs ys i x all same within at = subst P (sym at) (All-get_or P xs i x within (All-same P xs ys same all))

draft-plane : (is_union : Bool) (fs : List Storage) (last most : ℕ) (places : List FieldSpot) → IsDraft is_union fs last most places → held (finished last most places) ≡ held (plane_of is_union fs)
draft-plane is_union fs last most places draft =
    ap (λ (n : ℕ). held (finished n most places)) draft.end ∙ ap (λ (n : ℕ). held (finished (reach is_union 0 fs) n places)) draft.align
    ∙ ap (λ (ss : List FieldSpot). held (finished (reach is_union 0 fs) (greatest (map align_of fs)) ss)) draft.spots

-- when all are placed, the plane is held as the one of the fields without a limit
pub made_plane : {X : Type 0} (s : X → Storage) (xs ys : List X) (i : ℕ) (is_union : Bool) (last most : ℕ) (places : List FieldSpot) (result : Plane)
    → IsDraft is_union (map held_storage (map s (take i xs))) last most places → length xs ≤ i → xs ≡ ys → result ≡ held (finished last most places)
    → result ≡ held (plane_of is_union (map s ys))
made_plane {X} s xs ys i is_union last most places result draft all same is =
    is ∙ draft-plane is_union (map held_storage (map s (take i xs))) last most places draft
    ∙ ap (λ (zs : List X). held (plane_of is_union (map held_storage (map s zs)))) (take_all i xs all ∙ same)
    ∙ held-alike is_union (map held_storage (map s ys)) (map s ys) (all_held (map s ys))

pub align-held : (p : Plane) → (held p).align ≡ p.align
align-held p = elim (leb p.size MAX_SIZE) as (λ b. (cond b p (large_plane p.align)).align ≡ p.align) [ true ↦ refl | false ↦ refl ]
