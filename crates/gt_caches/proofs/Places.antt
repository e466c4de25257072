-- A cache at a place of all.
use Rattle.std.proofs.Common.{◌≡◌, ℕ, zero, suc, ◌<◌, Bool, List, [], ◌∷◌, ◌++◌, length, map, take, get_or, set, refl, ap, sym, ◌∙◌, arith, Option, Some, None}
use Rattle.std.specs.Prelude.{slice_get}
use Rattle.std.specs.Option.{option_map_or}
use Rattle.std.proofs.lemmas.List.{map-set, length-set}
use Rattle.gt_next.specs.Caching.{with_pair}
use Rattle.gt_caches.specs.Pairs.{Entry, Entries, pair_of, pairs_of, decided_at, decided}

pub cache-at : (xs : Entries) (i : ℕ) (x : List Entry) → i < length xs → x ≡ get_or xs i x → slice_get xs i ≡ Some x
cache-at [] i x h e = absurd (omega arith)
cache-at (y ∷ xs) zero x h e = ap Some (sym e)
cache-at (y ∷ xs) (suc i) x h e = cache-at xs i x (omega arith) e

pub pairs-at : (xs : Entries) (i : ℕ) (x : List Entry) (pairs : List (ℕ × ℕ)) → i < length xs → x ≡ get_or xs i x → slice_get (pairs_of xs) i ≡ Some pairs → pairs ≡ map pair_of x
pairs-at [] i x pairs h e at = absurd (omega arith)
pairs-at (y ∷ xs) zero x pairs h e at = let here : map pair_of y ≡ pairs = cc in sym here ∙ ap (λ z. map pair_of z) (sym e)
pairs-at (y ∷ xs) (suc i) x pairs h e at = pairs-at xs i x pairs (omega arith) e at

pub pairs-put : (xs : Entries) (i key value : ℕ) (z x : List Entry) (pairs : List (ℕ × ℕ)) → i < length xs → x ≡ get_or xs i x → map pair_of z ≡ with_pair key value (map pair_of x) → slice_get (pairs_of xs) i ≡ Some pairs
    → pairs_of (set xs i z) ≡ set (pairs_of xs) i (with_pair key value pairs)
pairs-put xs i key value z x pairs h e p at =
    map-set (λ entries. map pair_of entries) xs i z ∙ ap (λ y. set (pairs_of xs) i y) (p ∙ ap (with_pair key value) (sym (pairs-at xs i x pairs h e at)))

pub decided-here : (xs : Entries) (cache i : ℕ) (stays : Bool) (z x : List Entry) → cache < length xs → x ≡ get_or xs cache x → z ≡ decided_at x i stays → set xs cache z ≡ decided xs cache i stays
decided-here xs cache i stays z x h e d =
    ap (λ y. set xs cache y) d ∙ sym (ap (λ o. option_map_or (λ entries. set xs cache (decided_at entries i stays)) o xs) (cache-at xs cache x h e))

pub length-decided : (xs : List Entry) (i : ℕ) (stays : Bool) → length (decided_at xs i stays) ≡ length xs
length-decided xs i stays = by (slice_get xs i)
  where
    by : (o : Option Entry) → length (option_map_or (λ e. set xs i (record e { stays = stays })) o xs) ≡ length xs
    by None = refl
    by (Some e) = length-set xs i _

-- whoever knows an entry at a place knows that the place is below the length
pub below : {X : Type 0} (xs : List X) (i : ℕ) (x : X) → slice_get xs i ≡ Some x → i < length xs
below [] i x e = absurd (cc)
below (y ∷ xs) zero x e = omega arith
below (y ∷ xs) (suc i) x e = let less = below xs i x e in omega arith

-- what was written back over the whole of a list is all of it
pub whole : {X : Type 0} (n : ℕ) (new rest : List X) → n ≡ length new → take n (new ++ rest) ≡ new
whole {X} n new rest e = ap (λ m. take m (new ++ rest)) e ∙ front new
  where
    front : (xs : List X) → take (length xs) (xs ++ rest) ≡ xs
    front [] = refl
    front (x ∷ xs) = ap (λ ys. x ∷ ys) (front xs)
