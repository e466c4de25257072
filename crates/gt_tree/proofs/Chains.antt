-- Leaves that lie one after another between two bits.
use Rattle.std.proofs.Common.{◌≡◌, ℕ, suc, ◌+◌, ◌*◌, ◌≤◌, Bool, List, [], ◌∷◌, ◌++◌, length, subst, arith, inl}
use Rattle.std.specs.Prelude.{All, AllPairs}
use Rattle.std.specs.List.{filter}
use Rattle.std.proofs.lemmas.Bool.{cond_both}
use Rattle.std.proofs.lemmas.List.Elements.{All-nil, All-cons, All-weaker}
use Rattle.std.proofs.lemmas.List.Kept.{AllPairs-cons}
use Rattle.gt_tree.specs.Leaves.{Leaf, byte_leaves, AreApart, LiesBetween}

-- each leaf begins at or after the end of the one before it
abbrev pub Chain : ℕ → List Leaf → ℕ → Type 0
Chain from [] end = from ≤ end
Chain from (l ∷ ls) end = (from ≤ l.at) × Chain (l.at + l.width) ls end

pub Chain-le : (from : ℕ) (ls : List Leaf) (end : ℕ) → Chain from ls end → from ≤ end
Chain-le from [] end h = h
Chain-le from (l ∷ ls) end h =
    let rest : l.at + l.width ≤ end = Chain-le (l.at + l.width) ls end h.1 in
    let first : from ≤ l.at = h.0 in
    omega arith

pub Chain-from : (low from : ℕ) (ls : List Leaf) (end : ℕ) → low ≤ from → Chain from ls end → Chain low ls end
Chain-from low from [] end le h = omega arith
Chain-from low from (l ∷ ls) end le h = let first : from ≤ l.at = h.0 in (omega arith, h.1)

pub Chain-end : (from : ℕ) (ls : List Leaf) (end high : ℕ) → end ≤ high → Chain from ls end → Chain from ls high
Chain-end from [] end high le h = omega arith
Chain-end from (l ∷ ls) end high le h = (h.0, Chain-end (l.at + l.width) ls end high le h.1)

pub Chain-append : (from : ℕ) (ls : List Leaf) (middle : ℕ) (ms : List Leaf) (end : ℕ) → Chain from ls middle → Chain middle ms end → Chain from (ls ++ ms) end
Chain-append from [] middle ms end h k = Chain-from from middle ms end h k
Chain-append from (l ∷ ls) middle ms end h k = (h.0, Chain-append (l.at + l.width) ls middle ms end h.1 k)

pub Chain-filter : (p : Leaf → Bool) (from : ℕ) (ls : List Leaf) (end : ℕ) → Chain from ls end → Chain from (filter p ls) end
Chain-filter p from [] end h = h
Chain-filter p from (l ∷ ls) end h =
    let first : from ≤ l.at = h.0 in
    let rest = Chain-filter p (l.at + l.width) ls end h.1 in
    cond_both (p l) (l ∷ filter p ls) (filter p ls) (λ xs. Chain from xs end) (λ _. (first, rest)) (λ _. Chain-from from (l.at + l.width) (filter p ls) end (omega arith) rest)

-- bytes that are never scanned
pub Chain-bytes : (at : ℕ) (bytes : List ℕ) → Chain at (byte_leaves at bytes) (at + 8 * length bytes)
Chain-bytes at [] = omega arith
Chain-bytes at (byte ∷ bytes) =
    let here : at ≤ at = omega arith in
    let same : (at + 8) + 8 * length bytes ≡ at + 8 * suc (length bytes) = omega arith in
    (here, subst (λ end. Chain (at + 8) (byte_leaves (at + 8) bytes) end) same (Chain-bytes (at + 8) bytes))

-- all lie between the bits
pub between-Chain : (from : ℕ) (ls : List Leaf) (end : ℕ) → Chain from ls end → All (LiesBetween from end) ls
between-Chain from [] end h = All-nil (LiesBetween from end)
between-Chain from (l ∷ ls) end h =
    let first : from ≤ l.at = h.0 in
    let last : l.at + l.width ≤ end = Chain-le (l.at + l.width) ls end h.1 in
    let rest = between-Chain (l.at + l.width) ls end h.1 in
    let here : LiesBetween from end l = (first, last) in
    All-cons (LiesBetween from end) l ls here (All-weaker (LiesBetween (l.at + l.width) end) (LiesBetween from end) (λ m b. let low : l.at + l.width ≤ m.at = b.0 in (omega arith, b.1)) ls rest)

-- each lies before all later ones
abbrev pub Before : Leaf → Leaf → Type 0
Before a b = a.at + a.width ≤ b.at

pub before-Chain : (from : ℕ) (ls : List Leaf) (end : ℕ) → Chain from ls end → AllPairs Before ls
before-Chain from [] end h = λ i j d lt within. absurd (omega arith)
before-Chain from (l ∷ ls) end h =
    AllPairs-cons Before l ls
    (All-weaker (LiesBetween (l.at + l.width) end) (Before l) (λ m b. b.0) ls (between-Chain (l.at + l.width) ls end h.1))
    (before-Chain (l.at + l.width) ls end h.1)

-- no two have a bit in common
pub apart-Chain : (from : ℕ) (ls : List Leaf) (end : ℕ) → Chain from ls end → AllPairs AreApart ls
apart-Chain from ls end h = λ i j d lt within. inl (before-Chain from ls end h i j d lt within)
