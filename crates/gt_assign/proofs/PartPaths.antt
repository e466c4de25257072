-- The part at a path, in a list of values.
use Rattle.std.proofs.Common.{◌≡◌, ℕ, zero, suc, ◌<◌, ◌≤◌, List, [], ◌∷◌, length, map, set, get_or, refl, ap, ◌∙◌, arith, Some, None}
use Rattle.gt_tree.specs.Trees.{Tree, Trees, End, And, tree_at, part_at, part_of, with_part, with_part_of}
use Rattle.gt_value.specs.declared.values.Value.{Value}
use Rattle.gt_value.specs.Values.{trees, tree_of}

pub part-nowhere : (ts : Trees) (i : ℕ) (path : List ℕ) → tree_at ts i ≡ None → part_of ts i path ≡ None
part-nowhere End i path e = refl
part-nowhere (And t ts) zero path e = absurd (cc)
part-nowhere (And t ts) (suc i) path e = part-nowhere ts i path e

pub part-there : (ts : Trees) (i : ℕ) (path : List ℕ) (t : Tree) → tree_at ts i ≡ Some t → part_of ts i path ≡ part_at t path
part-there End i path t e = absurd (cc)
part-there (And first ts) zero path t e = let same : first ≡ t = cc in ap (λ x. part_at x path) same
part-there (And first ts) (suc i) path t e = part-there ts i path t e

pub placed-beyond : (values : List Value) (i : ℕ) (path : List ℕ) (part : Tree) → length values ≤ i → with_part_of (trees (map tree_of values)) i path part ≡ trees (map tree_of values)
placed-beyond [] i path part h = refl
placed-beyond (value ∷ values) zero path part h = absurd (omega arith)
placed-beyond (value ∷ values) (suc i) path part h = ap (And (tree_of value)) (placed-beyond values i path part (omega arith))

pub placed-within : (values : List Value) (i : ℕ) (path : List ℕ) (part : Tree) (old made : Value) → i < length values → old ≡ get_or values i old → tree_of made ≡ with_part (tree_of old) path part
    → trees (map tree_of (set values i made)) ≡ with_part_of (trees (map tree_of values)) i path part
placed-within [] i path part old made h e f = absurd (omega arith)
placed-within (value ∷ values) zero path part old made h e f = ap (λ t. And t (trees (map tree_of values))) (f ∙ ap (λ v. with_part (tree_of v) path part) e)
placed-within (value ∷ values) (suc i) path part old made h e f = ap (And (tree_of value)) (placed-within values i path part old made (omega arith) e f)

-- what was put at a place is replaced there
pub set-twice : (xs : List Value) (i : ℕ) (x y : Value) → set (set xs i x) i y ≡ set xs i y
set-twice [] i x y = refl
set-twice (v ∷ xs) zero x y = refl
set-twice (v ∷ xs) (suc i) x y = ap (λ ys. v ∷ ys) (set-twice xs i x y)
