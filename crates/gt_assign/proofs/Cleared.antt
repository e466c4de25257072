-- Values that lose their pointers one after another.
use Rattle.std.proofs.Common.{◌≡◌, ℕ, zero, suc, ◌+◌, ◌<◌, ◌≤◌, List, [], ◌∷◌, length, map, max, drop, set, get_or, refl, ap, sym, ◌∙◌, add-one, subst, arith}
use Rattle.std.proofs.Math.Nat.{le-max_right}
use Rattle.gt_tree.specs.Trees.{Tree, without_pointers}
use Rattle.gt_value.specs.declared.values.Value.{Value}
use Rattle.gt_value.specs.Values.{tree_of}
use Rattle.gt_assign.proofs.Nested.{most, depth_of}

-- the values before a place as they are, and those from there on without their pointers
abbrev pub cleared : ℕ → List Value → List Tree
cleared i [] = []
cleared zero (value ∷ values) = without_pointers (tree_of value) ∷ cleared zero values
cleared (suc i) (value ∷ values) = tree_of value ∷ cleared i values

pub cleared-from : (values : List Value) → cleared 0 values ≡ map (λ (x : Value). without_pointers (tree_of x)) values
cleared-from [] = refl
cleared-from (value ∷ values) = ap (λ ts. without_pointers (tree_of value) ∷ ts) (cleared-from values)

pub cleared-all : (values : List Value) (i : ℕ) → length values ≤ i → cleared i values ≡ map tree_of values
cleared-all [] i h = refl
cleared-all (value ∷ values) zero h = absurd (omega arith)
cleared-all (value ∷ values) (suc i) h = ap (λ ts. tree_of value ∷ ts) (cleared-all values i (omega arith))

-- how deep the values nest from a place on
abbrev pub deep_from : ℕ → List Value → ℕ
deep_from i values = most (map depth_of (drop i values))

module _ (old made : Value) where
  cleared-one : (values : List Value) (i : ℕ) → i < length values → old ≡ get_or values i old → tree_of made ≡ without_pointers (tree_of old) → cleared (suc i) (set values i made) ≡ cleared i values
  cleared-one [] i h e f = absurd (omega arith)
  cleared-one (value ∷ values) zero h e f = ap (λ t. t ∷ cleared 0 values) (f ∙ ap (λ v. without_pointers (tree_of v)) e)
  cleared-one (value ∷ values) (suc i) h e f = ap (λ ts. tree_of value ∷ ts) (cleared-one values i (omega arith) e f)

  pub cleared-next : (values : List Value) (i : ℕ) → i < length values → old ≡ get_or values i old → tree_of made ≡ without_pointers (tree_of old) → cleared (i + 1) (set values i made) ≡ cleared i values
  cleared-next values i h e f = ap (λ n. cleared n (set values i made)) (add-one i) ∙ cleared-one values i h e f

  deep-one : (values : List Value) (i : ℕ) → i < length values → old ≡ get_or values i old → deep_from i values ≡ max (depth_of old) (deep_from (suc i) (set values i made))
  deep-one [] i h e = absurd (omega arith)
  deep-one (value ∷ values) zero h e = ap (λ v. max (depth_of v) (most (map depth_of values))) (sym e)
  deep-one (value ∷ values) (suc i) h e = deep-one values i (omega arith) e

  pub deep-next : (values : List Value) (i : ℕ) → i < length values → old ≡ get_or values i old → deep_from (i + 1) (set values i made) ≤ deep_from i values
  deep-next values i h e =
      let one = deep-one values i h e in
      let right = le-max_right (depth_of old) (deep_from (suc i) (set values i made)) in
      subst (λ n. deep_from n (set values i made) ≤ deep_from i values) (sym (add-one i)) (omega (arith, one, right))
