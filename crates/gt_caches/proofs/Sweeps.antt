-- A walk over caches that drops what does not stay.
use Rattle.std.proofs.Common.{◌≡◌, ℕ, zero, suc, ◌+◌, ◌<◌, List, [], ◌∷◌, ◌++◌, length, map, take, drop, get_or, set, refl, ap, sym, ◌∙◌, arith}
use Rattle.gt_caches.specs.Pairs.{Entry, Entries, pair_of, pairs_of, staying}
use Rattle.gt_caches.specs.Kept.{staying_in}

-- the caches, of which the first ones have only what stays
abbrev pub swept : ℕ → Entries → Entries
swept i caches = map staying_in (take i caches) ++ drop i caches

pub swept-next : (xs : Entries) (i : ℕ) (d : List Entry) → i < length xs → set (swept i xs) i (staying_in (get_or (swept i xs) i d)) ≡ swept (suc i) xs
swept-next [] i d h = absurd (omega arith)
swept-next (x ∷ xs) zero d h = refl
swept-next (x ∷ xs) (suc i) d h = ap (λ ys. staying_in x ∷ ys) (swept-next xs i d (omega arith))

pub swept-all : (xs : Entries) → swept (length xs) xs ≡ map staying_in xs
swept-all [] = refl
swept-all (x ∷ xs) = ap (λ ys. staying_in x ∷ ys) (swept-all xs)

pub staying-map : (xs : Entries) → pairs_of (map staying_in xs) ≡ staying xs
staying-map [] = refl
staying-map (x ∷ xs) = ap (λ ys. map pair_of (staying_in x) ∷ ys) (staying-map xs)

pub sweep-one : (xs ys : Entries) (i : ℕ) (z d : List Entry) → i < length ys → xs ≡ swept i ys → z ≡ staying_in (get_or xs i d) → set xs i z ≡ swept (i + 1) ys
sweep-one xs ys i z d h e g =
    let next : i + 1 ≡ suc i = omega arith in
    ap (λ y. set xs i y) g ∙ ap (λ l. set l i (staying_in (get_or l i d))) e ∙ swept-next ys i d h ∙ ap (λ n. swept n ys) (sym next)
