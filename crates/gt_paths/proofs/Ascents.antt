-- The steps of a climb from structures to those that contain them.
use Rattle.std.proofs.Common.{◌≡◌, ◌⊎◌, inl, inr, ℕ, suc, ◌+◌, ◌<◌, ◌≤◌, Bool, true, false, cond, List, [], ◌∷◌, ◌++◌, length, get_or, Some, None, slice_get, refl, sym, ap, subst, ◌∙◌, arith, nat_eq}
use Rattle.std.specs.Prelude.{All, Contains}
use Rattle.std.specs.Cmp.{nat_eq_equiv}
use Rattle.std.specs.List.{IsDistinct, list_any, range_with_len}
use Rattle.std.specs.Set.{is_member}
use Rattle.std.proofs.lemmas.Bool.{cases_lt}
use Rattle.std.proofs.lemmas.Bool.Decides.{Decides-eqb}
use Rattle.std.proofs.lemmas.List.{get_or_append_left, length-append}
use Rattle.std.proofs.lemmas.List.Elements.{All-nil, All-cons, All-contains, Contains-append_left, Contains-append_right, Contains-append_cases}
use Rattle.std.proofs.lemmas.List.FromFn.{length-range_with_len, get_or-range_with_len}
use Rattle.std.proofs.lemmas.Map.Made.{length-le_from_is_member}
use Rattle.std.proofs.lemmas.Map.Views.{Contains-from_any, list_any-from_Contains}
use Rattle.std.proofs.lemmas.Option.{slice_get_within, slice_get-get_or, get_or_from_slice_get}
use Rattle.indexmap.specs.IndexSet.{insert_all, insert_key}
use Rattle.gt_types.specs.declared.types.TypeId.{TypeId}
use Rattle.gt_types.specs.declared.program.Program.{Program}
use Rattle.gt_types.specs.Contains.{ContainsStructure, Nests, once, deeper}
use Rattle.gt_paths.specs.declared.containers.Containers.{Containers}
use Rattle.gt_paths.specs.Climbs.{AreAbove, IsAbove}
use Rattle.gt_paths.specs.Containers.{AreContainersOf, containers_of}
use Rattle.gt_paths.specs.Numbers.{numbered}

-- ---- numbers that are inserted where they are new

pub nat_same : (x y : ℕ) → nat_eq x y ≡ true → x ≡ y
nat_same x y e = (Decides-eqb x y).0 e

slice_get_left : (xs ys : List ℕ) (i x : ℕ) → slice_get xs i ≡ Some x → slice_get (xs ++ ys) i ≡ Some x
slice_get_left xs ys i x at =
    let within = slice_get_within xs i x at in
    slice_get-get_or (xs ++ ys) i x (omega (arith, within, length-append xs ys))
    ∙ ap (λ (z : ℕ). Some z) (get_or_append_left xs ys x i within ∙ get_or_from_slice_get xs i x x at)

pub kept : (ks : List ℕ) (k x : ℕ) → Contains ks x → Contains (insert_key nat_eq ks k) x
kept ks k x there = by (list_any (nat_eq k) ks) where
  by : (b : Bool) → Contains (cond b ks (ks ++ k ∷ [])) x
  by true = there
  by false = Contains-append_left ks (k ∷ []) x there

pub is_one : (k x : ℕ) → Contains (k ∷ []) x → x ≡ k
is_one k x (i, within, same) =
    let first : i ≡ 0 = omega (arith, within) in
    sym (subst (λ (j : ℕ). get_or (k ∷ []) j x ≡ x) first same)

pub old_or_new : (ks : List ℕ) (k x : ℕ) → Contains (insert_key nat_eq ks k) x → Contains ks x ⊎ (x ≡ k)
old_or_new ks k x there = by (list_any (nat_eq k) ks) there where
  by : (b : Bool) → Contains (cond b ks (ks ++ k ∷ [])) x → Contains ks x ⊎ (x ≡ k)
  by true there = inl there
  by false there = elim (Contains-append_cases ks (k ∷ []) x there) [
    | inl old ↦ inl old
    | inr new ↦ inr (is_one k x new)
  ]

pub inserted : (ks : List ℕ) (k : ℕ) → Contains (insert_key nat_eq ks k) k
inserted ks k = by (list_any (nat_eq k) ks) refl where
  by : (b : Bool) → list_any (nat_eq k) ks ≡ b → Contains (cond b ks (ks ++ k ∷ [])) k
  by true is = Contains-from_any nat_same k ks is
  by false is = Contains-append_right ks (k ∷ []) k (0, omega arith, refl)

same_place : (ks : List ℕ) (k i x : ℕ) → slice_get ks i ≡ Some x → slice_get (insert_key nat_eq ks k) i ≡ Some x
same_place ks k i x at = by (list_any (nat_eq k) ks) where
  by : (b : Bool) → slice_get (cond b ks (ks ++ k ∷ [])) i ≡ Some x
  by true = at
  by false = slice_get_left ks (k ∷ []) i x at

pub all_kept : (xs ks : List ℕ) (x : ℕ) → Contains ks x → Contains (insert_all nat_eq ks xs) x
all_kept [] ks x there = there
all_kept (y ∷ ys) ks x there = all_kept ys (insert_key nat_eq ks y) x (kept ks y x there)

all_in : (xs ks : List ℕ) → All (λ x. Contains (insert_all nat_eq ks xs) x) xs
all_in [] ks = All-nil (λ x. Contains ks x)
all_in (y ∷ ys) ks =
    All-cons (λ x. Contains (insert_all nat_eq ks (y ∷ ys)) x) y ys (all_kept ys (insert_key nat_eq ks y) y (inserted ks y)) (all_in ys (insert_key nat_eq ks y))

head_in : (y x : ℕ) (ys : List ℕ) → x ≡ y → Contains (y ∷ ys) x
head_in y x ys same = (0, omega arith, sym same)

pub old_or_among : (xs ks : List ℕ) (x : ℕ) → Contains (insert_all nat_eq ks xs) x → Contains ks x ⊎ Contains xs x
old_or_among [] ks x there = inl there
old_or_among (y ∷ ys) ks x there = elim (old_or_among ys (insert_key nat_eq ks y) x there) [
  | inl old ↦ elim (old_or_new ks y x old) [
    | inl before ↦ inl before
    | inr same ↦ inr (head_in y x ys same)
  ]
  | inr later ↦ inr (Contains-append_right (y ∷ []) ys x later)
]

pub same_places : (xs ks : List ℕ) (i x : ℕ) → slice_get ks i ≡ Some x → slice_get (insert_all nat_eq ks xs) i ≡ Some x
same_places [] ks i x at = at
same_places (y ∷ ys) ks i x at = same_places ys (insert_key nat_eq ks y) i x (same_place ks y i x at)

-- ---- a climb

-- What is found is what the climb began with, or contains it; and what contains one of the first is found.
pub record Climbing (program : Program) (from : List ℕ) (i : ℕ) (found : List ℕ) : Type 0 where
  pub begun : (x : ℕ) → Contains from x → Contains found x
  pub only : (x : ℕ) → Contains found x → IsAbove program from x
  pub closed : (k x : ℕ) → k < i → slice_get found k ≡ Some x → (outer : TypeId) → ContainsStructure program outer (numbered x) → Contains found outer.0

pub begins : (program : Program) (from : List ℕ) → Climbing program from 0 from
begins program from = record { begun = λ x there. there; only = λ x there. (x, there, inl refl); closed = λ k x below. absurd (omega (arith, below)) }

above_more : (program : Program) (from : List ℕ) (x y : ℕ) → IsAbove program from x → ContainsStructure program (numbered y) (numbered x) → IsAbove program from y
above_more program from x y (s, there, inl same) contains = (s, there, inr (1, once (subst (λ (z : ℕ). ContainsStructure program (numbered y) (numbered z)) same contains)))
above_more program from x y (s, there, inr (n, nests)) contains = (s, there, inr (suc n, deeper contains nests))

same_number : (x y : ℕ) → Some x ≡ Some y → x ≡ y
same_number x y e = cc

pub last_or_before : (i k : ℕ) → k < i + 1 → (k < i) ⊎ (k ≡ i)
last_or_before i k below = elim (cases_lt k i) [
  | inl before ↦ inl before
  | inr after ↦ inr (omega (arith, below, after))
]

pub climbs : (program : Program) (containers : Containers) (from : List ℕ) (i : ℕ) (found : List ℕ) (x : ℕ) → AreContainersOf program containers → slice_get found i ≡ Some x
    → Climbing program from i found → Climbing program from (i + 1) (insert_all nat_eq found (containers_of containers x))
climbs program containers from i found x are at so_far = record {
  begun = λ y there. all_kept (containers_of containers x) found y (so_far.begun y there);
  only = λ y there. elim (old_or_among (containers_of containers x) found y there) [
    | inl old ↦ so_far.only y old
    | inr new ↦ above_more program from x y (so_far.only x (i, slice_get_within found i x at, get_or_from_slice_get found i x x at)) (are.only y x new)
  ];
  closed = λ k y below there outer contains. elim (last_or_before i k below) [
    | inl before ↦
        let within : k < length found = omega (arith, before, slice_get_within found i x at) in
        let old = slice_get-get_or found k y within in
        let same = same_number (get_or found k y) y (sym (same_places (containers_of containers x) found k (get_or found k y) old) ∙ there) in
        all_kept (containers_of containers x) found outer.0 (so_far.closed k y before (old ∙ ap (λ (z : ℕ). Some z) same) outer contains)
    | inr last ↦
        let here = subst (λ (j : ℕ). slice_get found j ≡ Some x) (sym last) at in
        let same = same_number x y (sym (same_places (containers_of containers x) found k x here) ∙ there) in
        let listed = are.listed outer (numbered x) (subst (λ (z : ℕ). ContainsStructure program outer (numbered z)) (sym same) contains) in
        All-contains (λ z. Contains (insert_all nat_eq found (containers_of containers x)) z) (containers_of containers x) outer.0 (all_in (containers_of containers x) found) listed
  ];
}

climbed : (program : Program) (found : List ℕ) → ((x : ℕ) → Contains found x → (outer : TypeId) → ContainsStructure program outer (numbered x) → Contains found outer.0)
    → {n : ℕ} {outer inner : TypeId} → Nests program n outer inner → Contains found inner.0 → Contains found outer.0
climbed program found closed (once {outer = outer} {inner = inner} contains) there = closed inner.0 there outer contains
climbed program found closed (deeper {outer = outer} {next = next} contains nests) there = closed next.0 (climbed program found closed nests there) outer contains

pub all_found : (program : Program) (from : List ℕ) (i : ℕ) (found : List ℕ) → length found ≤ i → Climbing program from i found → AreAbove program from found
all_found program from i found past so_far =
    let closed : (x : ℕ) → Contains found x → (outer : TypeId) → ContainsStructure program outer (numbered x) → Contains found outer.0 =
    λ x (k, within, same) outer contains.
    so_far.closed k x (omega (arith, within, past)) (slice_get-get_or found k x within ∙ ap (λ (z : ℕ). Some z) same) outer contains in
    record {
      all = λ id (x, there, above). elim above [
        | inl same ↦ subst (λ (z : ℕ). Contains found z) (sym same) (so_far.begun x there)
        | inr (n, nests) ↦ climbed program found closed nests (so_far.begun x there)
      ];
      only = so_far.only;
    }

-- ---- how many are found

there_within : (program : Program) (n : ℕ) (outer inner : TypeId) → Nests program n outer inner → outer.0 < length program.structures
there_within program n outer inner (once (s, f, there, at, held)) = slice_get_within program.structures outer.0 s there
there_within program n outer inner (deeper (s, f, there, at, held) nests) = slice_get_within program.structures outer.0 s there

zero_and : (q : ℕ) → 0 + q ≡ q
zero_and q = omega arith

numbered_in : (n q : ℕ) → q < n → Contains (range_with_len 0 n) q
numbered_in n q below = (q, subst (λ (m : ℕ). q < m) (sym (length-range_with_len 0 n)) below, get_or-range_with_len 0 n q q below ∙ zero_and q)

pub few_found : (program : Program) (from : List ℕ) (i : ℕ) (found : List ℕ) → IsDistinct nat_eq found → Climbing program from i found
    → length found ≤ length from + length program.structures
few_found program from i found distinct so_far =
    let all = from ++ range_with_len 0 (length program.structures) in
    let few = length-le_from_is_member nat_eq_equiv found all distinct (λ q member. among q (so_far.only q (Contains-from_any nat_same q found member))) in
    subst (λ (n : ℕ). length found ≤ n) (length-append from (range_with_len 0 (length program.structures)) ∙ ap (λ (n : ℕ). length from + n) (length-range_with_len 0 (length program.structures))) few
  where
    among : (q : ℕ) → IsAbove program from q → is_member nat_eq (from ++ range_with_len 0 (length program.structures)) q ≡ true
    among q (x, there, inl same) =
        list_any-from_Contains nat_eq_equiv q (from ++ range_with_len 0 (length program.structures))
        (Contains-append_left from (range_with_len 0 (length program.structures)) q (subst (λ (z : ℕ). Contains from z) (sym same) there))
    among q (x, there, inr (n, nests)) =
        list_any-from_Contains nat_eq_equiv q (from ++ range_with_len 0 (length program.structures))
        (Contains-append_right from (range_with_len 0 (length program.structures)) q
        (numbered_in (length program.structures) q (there_within program n (numbered q) (numbered x) nests)))

-- ---- the loop

pub ends_at : (found : List ℕ) (i : ℕ) → slice_get found i ≡ None → length found ≤ i
ends_at found i none = elim (cases_lt i (length found)) [
  | inl within ↦ let never : None ≡ Some (get_or found i 0) = sym none ∙ slice_get-get_or found i 0 within in absurd (cc)
  | inr past ↦ past
]

pub insert_same : (ks xs ys : List ℕ) → xs ≡ ys → insert_all nat_eq ks xs ≡ insert_all nat_eq ks ys
insert_same ks xs ys same = ap (insert_all nat_eq ks) same
