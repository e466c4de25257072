-- What rows of each form have, and lists beside one another.
use Rattle.std.specs.Global.{Vec}
use Rattle.std.proofs.Common.{◌≡◌, ◌∙◌, ℕ, ◌≤◌, Bool, true, false, List, [], ◌∷◌, length, drop, get_or, ap, sym, subst, Option, arith}
use Rattle.gt_walk.specs.declared.rows.Count.{Count}
use Rattle.gt_walk.specs.declared.rows.RowExpr.{RowExpr}
use Rattle.gt_walk.specs.declared.rows.Arm.{Arm}
use Rattle.gt_walk.specs.declared.rows.WalkRow.{WalkRow, out-WalkRow}
use Rattle.gt_walk.specs.declared.rows.WalkRow.TheFolds.{fold-Arm, fold_out-WalkRow, map-WalkRow}
use Rattle.gt_walk.specs.declared.rows.WalkRow.TheOpen.{WalkRow-F}
use Rattle.gt_walk.specs.declared.rows.WalkRow.TheVariants as row
use Rattle.gt_walk.specs.declared.rows.WalkRow.TheVariants.{outs-Note, outs-Ptr, outs-Sub, outs-Rep, outs-Tail, outs-Switch}
use Rattle.gt_alike.specs.Alike.{Pairs, switch_at, switch_in_arm, has_switch}

layer : (r : WalkRow) (x : WalkRow-F WalkRow Arm) → out-WalkRow r ≡ x → has_switch r ≡ switch_at (map-WalkRow WalkRow Arm Bool Bool has_switch (fold-Arm Bool Bool switch_at switch_in_arm) x)
layer r x e = fold_out-WalkRow Bool Bool switch_at switch_in_arm r ∙ ap (λ y. switch_at (map-WalkRow WalkRow Arm Bool Bool has_switch (fold-Arm Bool Bool switch_at switch_in_arm) y)) e

pub note-plain : (size : ℕ) (chain : Option ℕ) → has_switch (row.Note size chain) ≡ false
note-plain size chain = layer (row.Note size chain) _ (outs-Note size chain)

pub ptr-plain : (offset walk : ℕ) (count : Count) (reorder : Bool) → has_switch (row.Ptr offset walk count reorder) ≡ false
ptr-plain offset walk count reorder = layer (row.Ptr offset walk count reorder) _ (outs-Ptr offset walk count reorder)

pub sub-plain : (offset walk : ℕ) → has_switch (row.Sub offset walk) ≡ false
sub-plain offset walk = layer (row.Sub offset walk) _ (outs-Sub offset walk)

pub rep-plain : (offset n size : ℕ) (elem : WalkRow) → has_switch (row.Rep offset n size elem) ≡ has_switch elem
rep-plain offset n size elem = layer (row.Rep offset n size elem) _ (outs-Rep offset n size elem)

pub tail-plain : (offset : ℕ) (len : RowExpr) (size : ℕ) (elem : WalkRow) → has_switch (row.Tail offset len size elem) ≡ has_switch elem
tail-plain offset len size elem = layer (row.Tail offset len size elem) _ (outs-Tail offset len size elem)

pub switch-there : (desc : RowExpr) (arms : Vec Arm) → has_switch (row.Switch desc arms) ≡ true
switch-there desc arms = layer (row.Switch desc arms) _ (outs-Switch desc arms)

-- ---- lists beside one another

module _ {X : Type 0} (R : X → X → Type 0) where
  pub pairs-more : (xs ys : List X) (x y : X) → 1 ≤ length xs → 1 ≤ length ys → x ≡ get_or xs 0 x → y ≡ get_or ys 0 y → R x y → Pairs R (drop 1 xs) (drop 1 ys) → Pairs R xs ys
  pairs-more [] ys x y some any here there r rest = absurd (omega (arith, some))
  pairs-more (a ∷ xs) [] x y some any here there r rest = absurd (omega (arith, any))
  pairs-more (a ∷ xs) (b ∷ ys) x y some any here there r rest = (subst (λ b. R a b) there (subst (λ a. R a y) here r), rest)

  pub pairs-first : (xs ys : List X) (x y : X) → 1 ≤ length xs → 1 ≤ length ys → x ≡ get_or xs 0 x → y ≡ get_or ys 0 y → Pairs R xs ys → R x y
  pairs-first [] ys x y some any here there p = absurd (omega (arith, some))
  pairs-first (a ∷ xs) [] x y some any here there p = absurd (omega (arith, any))
  pairs-first (a ∷ xs) (b ∷ ys) x y some any here there p = subst (λ b. R x b) (sym there) (subst (λ a. R a b) (sym here) p.0)

  pub pairs-rest : (xs ys : List X) → 1 ≤ length xs → 1 ≤ length ys → Pairs R xs ys → Pairs R (drop 1 xs) (drop 1 ys)
  pairs-rest [] ys some any p = absurd (omega (arith, some))
  pairs-rest (a ∷ xs) [] some any p = absurd (omega (arith, any))
  pairs-rest (a ∷ xs) (b ∷ ys) some any p = p.1

  pub pairs-weaker : (S : X → X → Type 0) → ((x y : X) → R x y → S x y) → (xs ys : List X) → Pairs R xs ys → Pairs S xs ys
  pairs-weaker S to [] ys p = p
  pairs-weaker S to (x ∷ xs) [] p = p
  pairs-weaker S to (x ∷ xs) (y ∷ ys) p = (to x y p.0, pairs-weaker S to xs ys p.1)
