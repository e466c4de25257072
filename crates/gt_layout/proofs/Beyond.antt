-- The first field that ends beyond the limit.
use Rattle.std.proofs.Common.{◌≡◌, ℕ, zero, suc, ◌+◌, ◌*◌, ◌%◌, ◌≤◌, ◌<◌, max, Bool, false, IsTrue, List, [], ◌∷◌, length, take, get_or, add-one, sym, ap, subst, ◌∙◌, refl, inl, inr, arith}
use Rattle.std.specs.List.{All, AllZip}
use Rattle.std.proofs.lemmas.List.Elements.{All-head, All-tail}
use Rattle.gt_layout.specs.declared.planes.TheConstants.{MAX_SIZE}
use Rattle.gt_layout.specs.declared.storages.Storage.{Storage}
use Rattle.gt_layout.specs.Places.{end_of, ends}
use Rattle.gt_layout.specs.Planes.{is_alignment}
use Rattle.gt_layout.proofs.Placing.{IsPossible, start, next, spots_from, reach}
use Rattle.gt_layout.proofs.PlaneOf.{grow, end-start, next-struct}
use Rattle.gt_layout.proofs.Agreement.{Alike}

-- the bits after the last ones of fields, as they are placed
abbrev pub ends_from : Bool → ℕ → List Storage → List ℕ
ends_from is_union from [] = []
ends_from is_union from (f ∷ fs) = end_of f (start is_union from f) ∷ ends_from is_union (next is_union from f) fs

pub ends-spots : (is_union : Bool) (from : ℕ) (fs : List Storage) → All IsPossible fs → ends fs (spots_from is_union from fs) ≡ ends_from is_union from fs
ends-spots is_union from [] all = refl
ends-spots is_union from (f ∷ fs) all =
    ap (λ (n : ℕ). n ∷ ends fs (spots_from is_union (next is_union from f) fs)) (end-start is_union from f (All-head IsPossible f fs all))
    ∙ ap (λ (ns : List ℕ). end_of f (start is_union from f) ∷ ns) (ends-spots is_union (next is_union from f) fs (All-tail IsPossible f fs all))

-- where a field ends beyond the limit
abbrev pub Beyond : List Storage → ℕ → ℕ → Type 0
Beyond fs from place = 8 * MAX_SIZE < get_or (ends_from false from fs) place 0

-- fields that are placed before one end no later
pub end_before : (from : ℕ) (fs : List Storage) (n i : ℕ) → i < n → get_or (ends_from false from fs) i 0 ≤ reach false from (take n fs)
end_before from [] n i less = omega arith
end_before from (f ∷ fs) zero i less = absurd (omega (arith, less))
end_before from (f ∷ fs) (suc n) zero less = omega (arith, grow false (next false from f) (take n fs))
end_before from (f ∷ fs) (suc n) (suc i) less = end_before (next false from f) fs n i (omega (arith, less))

-- one more field reaches no further than where it ends
pub reach_next : (from : ℕ) (fs : List Storage) (i : ℕ) → reach false from (take (suc i) fs) ≤ max (reach false from (take i fs)) (get_or (ends_from false from fs) i 0)
reach_next from [] zero = omega arith
reach_next from [] (suc i) = omega arith
reach_next from (f ∷ fs) zero = omega arith
reach_next from (f ∷ fs) (suc i) = reach_next (next false from f) fs i

-- ---- fields that are alike end beyond the limit at the same places

end_first : (from : ℕ) (f : Storage) → IsPossible f → from ≤ end_of f (start false from f)
end_first from f possible = omega (arith, next-struct from f possible)

later_large : (from : ℕ) (fs : List Storage) (i : ℕ) → 8 * MAX_SIZE < from → All IsPossible fs → i < length fs → Beyond fs from i
later_large from [] i large all within = absurd (omega (arith, within))
later_large from (f ∷ fs) zero large all within = omega (arith, large, end_first from f (All-head IsPossible f fs all))
later_large from (f ∷ fs) (suc i) large all within = later_large (next false from f) fs i (omega (arith, large)) (All-tail IsPossible f fs all) (omega (arith, within))

past_none : (from : ℕ) (fs : List Storage) (i : ℕ) → Beyond fs from i → i < length fs
past_none from [] i beyond = absurd (omega (arith, beyond))
past_none from (f ∷ fs) zero beyond = omega arith
past_none from (f ∷ fs) (suc i) beyond = omega (arith, past_none (next false from f) fs i beyond)

lengths : (fs gs : List Storage) → AllZip Alike fs gs → length fs ≡ length gs
lengths [] [] all = refl
lengths [] (g ∷ gs) all = absurd all
lengths (f ∷ fs) [] all = absurd all
lengths (f ∷ fs) (g ∷ gs) all = omega (arith, lengths fs gs all.1)

pub beyond_alike : (from : ℕ) (fs gs : List Storage) (i : ℕ) → All IsPossible gs → AllZip Alike fs gs → Beyond fs from i → Beyond gs from i
beyond_alike from [] [] i possible all beyond = beyond
beyond_alike from [] (g ∷ gs) i possible all beyond = absurd all
beyond_alike from (f ∷ fs) [] i possible all beyond = absurd all
beyond_alike from (f ∷ fs) (g ∷ gs) zero possible (inl same, rest) beyond = subst (λ (h : Storage). 8 * MAX_SIZE < end_of h (start false from h)) same beyond
beyond_alike from (f ∷ fs) (g ∷ gs) (suc i) possible (inl same, rest) beyond =
    beyond_alike (next false from g) fs gs i (All-tail IsPossible g gs possible) rest (subst (λ (h : Storage). Beyond fs (next false from h) i) same beyond)
beyond_alike from (f ∷ fs) (g ∷ gs) zero possible (inr (_, _, large), rest) beyond = large (start false from g)
beyond_alike from (f ∷ fs) (g ∷ gs) (suc i) possible (inr (_, _, large), rest) beyond =
    later_large (next false from g) gs i (omega (arith, large (start false from g))) (All-tail IsPossible g gs possible) (omega (arith, past_none (next false from f) fs i beyond, lengths fs gs rest))

pub alike_back : (fs gs : List Storage) → AllZip Alike fs gs → AllZip Alike gs fs
alike_back [] [] all = tt
alike_back [] (g ∷ gs) all = absurd all
alike_back (f ∷ fs) [] all = absurd all
alike_back (f ∷ fs) (g ∷ gs) (inl same, rest) = (inl (sym same), alike_back fs gs rest)
alike_back (f ∷ fs) (g ∷ gs) (inr (align, large, large'), rest) = (inr (sym align, large', large), alike_back fs gs rest)

-- ---- the loop over the roots

-- the field at a place ends beyond the limit, and those before it do not
pub record IsFirstBeyond (fs : List Storage) (place : ℕ) : Type 0 where
  pub here : Beyond fs 0 place
  pub before : (other : ℕ) → other < place → ¬ Beyond fs 0 other

pub first_beyond : (fs : List Storage) (i : ℕ) → reach false 0 (take i fs) ≤ 8 * MAX_SIZE → 8 * MAX_SIZE < reach false 0 (take (i + 1) fs) → IsFirstBeyond fs i
first_beyond fs i small large =
    let next_large : 8 * MAX_SIZE < reach false 0 (take (suc i) fs) = subst (λ (n : ℕ). 8 * MAX_SIZE < reach false 0 (take n fs)) (add-one i) large in
    record {
      here = omega (arith, small, next_large, reach_next 0 fs i);
      before = λ other less beyond. omega (arith, small, beyond, end_before 0 fs i other less);
    }

pub none_beyond : (fs : List Storage) (n : ℕ) → length fs ≤ n → reach false 0 (take n fs) ≤ 8 * MAX_SIZE → (place : ℕ) → ¬ Beyond fs 0 place
none_beyond fs n all small place beyond = omega (arith, small, beyond, end_before 0 fs n place (omega (arith, all, past_none 0 fs place beyond)))

pub first_alike : (fs gs : List Storage) (place : ℕ) → All IsPossible fs → All IsPossible gs → AllZip Alike fs gs → IsFirstBeyond fs place → IsFirstBeyond gs place
first_alike fs gs place possible possible' all first = record {
  here = beyond_alike 0 fs gs place possible' all first.here;
  before = λ other less beyond. first.before other less (beyond_alike 0 gs fs other possible (alike_back fs gs all) beyond);
}

-- ---- the limit is a multiple of each alignment

pub limit_whole : (align : ℕ) → IsTrue (is_alignment align) → MAX_SIZE % align ≡ 0
limit_whole align is = grind arith
