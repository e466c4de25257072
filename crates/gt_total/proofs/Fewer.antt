-- Different names that are all in another list are at most as many.
use Rattle.std.proofs.Common.{◌≡◌, ℕ, ◌≤◌, Bool, true, List, length, sym, subst}
use Rattle.std.specs.Prelude.{Contains, nat_eq}
use Rattle.std.specs.List.{IsDistinct}
use Rattle.std.specs.Bool.{Decides}
use Rattle.std.specs.Ordering.{nat_cmp, eq_by_cmp}
use Rattle.std.specs.Cmp.{IsEquivalence, nat_cmp_total, eq_by_cmp_equiv, unsigned_tied, unsigned_Decides}
use Rattle.std.proofs.lemmas.Map.Made.{AllPairs-from_IsDistinct, IsDistinct-from_AllPairs, length-le_from_is_member}
use Rattle.std.proofs.lemmas.Map.Views.{list_any-from_Contains, Contains-from_any}

abbrev same : ℕ → ℕ → Bool
same = eq_by_cmp nat_cmp

laws : IsEquivalence same
laws = eq_by_cmp_equiv nat_cmp_total

decides : (a b : ℕ) → Decides (same a b) (a ≡ b)
decides a b = subst (λ t. Decides t (a ≡ b)) (sym (unsigned_tied a b)) (unsigned_Decides a b)

tells : (a b : ℕ) → same a b ≡ true → a ≡ b
tells a b = (decides a b).0

distinct_back : (xs : List ℕ) → IsDistinct nat_eq xs → IsDistinct same xs
distinct_back xs d = IsDistinct-from_AllPairs decides xs (AllPairs-from_IsDistinct unsigned_Decides xs d)

pub fewer : (xs ys : List ℕ) → IsDistinct nat_eq xs → ((x : ℕ) → Contains xs x → Contains ys x) → length xs ≤ length ys
fewer xs ys d h = length-le_from_is_member laws xs ys (distinct_back xs d) (λ q m. list_any-from_Contains laws q ys (h q (Contains-from_any tells q xs m)))
