-- How deep values nest.
use Rattle.std.proofs.Common.{◌≡◌, ℕ, suc, ◌≤◌, List, [], ◌∷◌, map, max, ap, subst, arith}
use Rattle.std.proofs.Math.Nat.{le-max_left, le-max_right}
use Rattle.gt_value.specs.declared.values.Value.{Value}
use Rattle.gt_value.specs.declared.values.Value.TheOpen as part
use Rattle.gt_value.specs.declared.values.Value.TheOpen.{Value-F}
use Rattle.gt_value.specs.declared.values.Value.TheFolds.{fold-Value}

abbrev pub most : List ℕ → ℕ
most [] = 0
most (x ∷ xs) = max x (most xs)

-- each of some things nests no deeper than all
module _ {X : Type 0} (depth : X → ℕ) (all left : List X) where
  pub same-most : left ≡ all → most (map depth left) ≤ most (map depth all)
  same-most e = let h = ap (λ (xs : List X). most (map depth xs)) e in omega (arith, h)

  module _ (x : X) (xs : List X) (e : left ≡ x ∷ xs) (h : most (map depth left) ≤ most (map depth all)) where
    here : max (depth x) (most (map depth xs)) ≤ most (map depth all)
    here = subst (λ (ys : List X). most (map depth ys) ≤ most (map depth all)) e h

    pub first-most : depth x ≤ most (map depth all)
    first-most = let a = here in let b = le-max_left (depth x) (most (map depth xs)) in omega (arith, a, b)

    pub next-most : most (map depth xs) ≤ most (map depth all)
    next-most = let a = here in let b = le-max_right (depth x) (most (map depth xs)) in omega (arith, a, b)

abbrev pub depth_step : Value-F ℕ → ℕ
depth_step (part.Rec parts) = suc (most parts.items)
depth_step (part.Row parts) = suc (most parts.items)
depth_step (part.Alt member inner) = suc inner
depth_step layer = 0

abbrev pub depth_of : Value → ℕ
depth_of = fold-Value ℕ depth_step
