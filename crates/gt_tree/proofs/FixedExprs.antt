-- What an expression is worth in scopes with other roots.
use Rattle.std.proofs.Common.{◌≡◌, ℕ, ℤ, if◌then◌else◌, List, [], ◌∷◌, ◌++◌, All, refl, ap, sym, subst, ◌∙◌, Option}
use Rattle.std.proofs.lemmas.List.Elements.{All-nil, All-cons, All-head, All-tail}
use Rattle.gt_types.specs.declared.expressions.Base.{Base}
use Rattle.gt_types.specs.declared.expressions.Expr.{Expr, roll-Expr}
use Rattle.gt_types.specs.declared.expressions.Expr.TheFolds.{fold-roll-Expr, ind-Expr, map-Expr}
use Rattle.gt_types.specs.declared.expressions.Expr.TheOpen as part
use Rattle.gt_types.specs.declared.expressions.Expr.TheOpen.{Expr-F}
use Rattle.gt_types.specs.Paths.{roots_of, roots_step}
use Rattle.gt_types.specs.Values.{value_of, value_of_one, joined, ◌>>=◌, is_nonzero, value_step}

All-front : {X : Type 0} (P : X → Type 0) (xs ys : List X) → All P (xs ++ ys) → All P xs
All-front P [] ys h = All-nil P
All-front P (x ∷ xs) ys h = All-cons P x xs (All-head P x (xs ++ ys) h) (All-front P xs ys (All-tail P x (xs ++ ys) h))

All-back : {X : Type 0} (P : X → Type 0) (xs ys : List X) → All P (xs ++ ys) → All P ys
All-back P [] ys h = h
All-back P (x ∷ xs) ys h = All-back P xs ys (All-tail P x (xs ++ ys) h)

module _ (leaf other : Base → List (List ℕ) → Option ℤ) (root like : ℕ → Option ℤ) (leaves : (base : Base) (steps : List (List ℕ)) → leaf base steps ≡ other base steps) where
  abbrev IsSameRoot : ℕ → Type 0
  IsSameRoot i = root i ≡ like i

  abbrev IsWorthSame : Expr → Type 0
  IsWorthSame e = All IsSameRoot (roots_of e) → value_of leaf root e ≡ value_of other like e

  abbrev first : Expr-F ((e : Expr) × IsWorthSame e) → Expr-F Expr
  first y = map-Expr ((e : Expr) × IsWorthSame e) Expr (λ e. e.0) y

  roots-layer : (x : Expr-F Expr) → All IsSameRoot (roots_of (roll-Expr x)) → All IsSameRoot (roots_step (map-Expr Expr (List ℕ) roots_of x))
  roots-layer x all = subst (All IsSameRoot) (fold-roll-Expr (List ℕ) roots_step x) all

  layer : (y : Expr-F ((e : Expr) × IsWorthSame e)) → All IsSameRoot (roots_step (map-Expr Expr (List ℕ) roots_of (first y)))
      → value_step leaf root (map-Expr Expr (Option ℤ) (value_of leaf root) (first y)) ≡ value_step other like (map-Expr Expr (Option ℤ) (value_of other like) (first y))
  layer (part.Int n) all = refl
  layer (part.Path base steps) all = leaves base steps
  layer (part.Root i) all = All-head IsSameRoot i [] all
  layer (part.One op a) all = ap (λ v. v >>= value_of_one op) (a.1 all)
  layer (part.Two op a b) all =
      let one = a.1 (All-front IsSameRoot (roots_of a.0) (roots_of b.0) all) in
      let two = b.1 (All-back IsSameRoot (roots_of a.0) (roots_of b.0) all) in
      ap (λ v. joined op v (value_of leaf root b.0)) one ∙ ap (joined op (value_of other like a.0)) two
  layer (part.Cond t a b) all =
      let rest = All-front IsSameRoot (roots_of t.0 ++ roots_of a.0) (roots_of b.0) all in
      let test = t.1 (All-front IsSameRoot (roots_of t.0) (roots_of a.0) rest) in
      let one = a.1 (All-back IsSameRoot (roots_of t.0) (roots_of a.0) rest) in
      let two = b.1 (All-back IsSameRoot (roots_of t.0 ++ roots_of a.0) (roots_of b.0) all) in
      ap (λ v. v >>= λ n. if is_nonzero n then value_of leaf root a.0 else value_of leaf root b.0) test
      ∙ ap (λ v. value_of other like t.0 >>= λ n. if is_nonzero n then v else value_of leaf root b.0) one
      ∙ ap (λ v. value_of other like t.0 >>= λ n. if is_nonzero n then value_of other like a.0 else v) two

  whole : (y : Expr-F ((e : Expr) × IsWorthSame e)) → IsWorthSame (roll-Expr (first y))
  whole y all =
      fold-roll-Expr (Option ℤ) (value_step leaf root) (first y)
      ∙ layer y (roots-layer (first y) all)
      ∙ sym (fold-roll-Expr (Option ℤ) (value_step other like) (first y))

  -- an expression is worth the same where its roots are
  pub roots-worth : (e : Expr) → IsWorthSame e
  roots-worth = ind-Expr IsWorthSame (λ x y is. subst (λ z. IsWorthSame (roll-Expr z)) is (whole y))
