-- How many pairs caches have together.
use Rattle.std.proofs.Common.{◌≡◌, ℕ, zero, suc, ◌+◌, ◌-◌, ◌<◌, ◌≤◌, List, [], ◌∷◌, length, map, replicate, get_or, set, refl, ap, arith}
use Rattle.std.proofs.lemmas.List.{length-map}
use Rattle.std.proofs.lemmas.List.Sums.{sum_by-cons}
use Rattle.gt_graph.specs.Objects.{pairs_in}
use Rattle.gt_caches.specs.Pairs.{Entry, Entries, pair_of, pairs_of}

pub pairs_in-cons : (x : List Entry) (xs : Entries) → pairs_in (pairs_of (x ∷ xs)) ≡ length x + pairs_in (pairs_of xs)
pairs_in-cons x xs =
    let a = sum_by-cons (λ n. n) (length (map pair_of x)) (map (λ pairs. length pairs) (pairs_of xs)) in
    let b = length-map x pair_of in
    omega (arith, a, b)

pub pairs_in-none : (n : ℕ) → pairs_in (pairs_of (replicate n [])) ≡ 0
pairs_in-none zero = refl
pairs_in-none (suc n) =
    let a = pairs_in-cons [] (replicate n []) in
    let rest = pairs_in-none n in
    omega (arith, a, rest)

-- a cache in the place of another: the pairs of the one come, and those of the other go
pub pairs_in-set : (xs : Entries) (i : ℕ) (z d : List Entry) → i < length xs → pairs_in (pairs_of (set xs i z)) + length (get_or xs i d) ≡ pairs_in (pairs_of xs) + length z
pairs_in-set [] i z d h = absurd (omega arith)
pairs_in-set (x ∷ xs) zero z d h =
    let a = pairs_in-cons z xs in
    let b = pairs_in-cons x xs in
    omega (arith, a, b)
pairs_in-set (x ∷ xs) (suc i) z d h =
    let rest = pairs_in-set xs i z d (omega arith) in
    let a = pairs_in-cons x (set xs i z) in
    let b = pairs_in-cons x xs in
    omega (arith, rest, a, b)

-- a cache in the place of another that has no more pairs than it
pub total-more : (xs : Entries) (i total after before : ℕ) (z x : List Entry) → i < length xs → x ≡ get_or xs i x → total ≡ pairs_in (pairs_of xs) → after ≡ length z → before ≡ length x → before ≤ after
    → total + (after - before) ≡ pairs_in (pairs_of (set xs i z))
total-more xs i total after before z x h e t a b le =
    let s = pairs_in-set xs i z x h in
    let l = ap (λ y. length y) e in
    omega (arith, s, l, t, a, b, le)

pub total-same : (xs : Entries) (i total : ℕ) (z x : List Entry) → i < length xs → x ≡ get_or xs i x → total ≡ pairs_in (pairs_of xs) → length z ≡ length x → total ≡ pairs_in (pairs_of (set xs i z))
total-same xs i total z x h e t a =
    let s = pairs_in-set xs i z x h in
    let l = ap (λ y. length y) e in
    omega (arith, s, l, t, a)

pub total-fewer : (xs : Entries) (i dropped here all : ℕ) (z d : List Entry) → i < length xs → pairs_in (pairs_of xs) + dropped ≡ all → length z + here ≡ length (get_or xs i d)
    → pairs_in (pairs_of (set xs i z)) + (dropped + here) ≡ all
total-fewer xs i dropped here all z d h t a =
    let s = pairs_in-set xs i z d h in
    omega (arith, s, t, a)

-- a cache has no more pairs than all have
pub part-of-all : (xs : Entries) (i : ℕ) (d : List Entry) → i < length xs → length (get_or xs i d) ≤ pairs_in (pairs_of xs)
part-of-all xs i d h =
    let s = pairs_in-set xs i [] d h in
    omega (arith, s)
