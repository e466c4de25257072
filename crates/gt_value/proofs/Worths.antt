-- An expression whose paths and roots all read 0 is worth what it is where every number is 0.
use Rattle.std.proofs.Common.{◌≡◌, ℕ, ℤ, if◌then◌else◌, List, [], ◌∷◌, ◌++◌, All, refl, ap, sym, subst, ◌∙◌, Option, Some}
use Rattle.std.specs.Prelude.{pos}
use Rattle.std.proofs.lemmas.List.Elements.{All-nil, All-cons, All-head, All-tail}
use Rattle.gt_types.specs.declared.expressions.Base.{Base}
use Rattle.gt_types.specs.declared.expressions.Expr.{Expr, roll-Expr}
use Rattle.gt_types.specs.declared.expressions.Expr.TheFolds.{fold-roll-Expr, ind-Expr, map-Expr}
use Rattle.gt_types.specs.declared.expressions.Expr.TheOpen as part
use Rattle.gt_types.specs.declared.expressions.Expr.TheOpen.{Expr-F}
use Rattle.gt_types.specs.Paths.{Way, paths_of, paths_step, roots_of, roots_step}
use Rattle.gt_types.specs.Values.{value_of, value_of_one, joined, ◌>>=◌, is_nonzero, value_step}
use Rattle.gt_value.specs.Noughts.{zero_worth}

All-front : {X : Type 0} (P : X → Type 0) (xs ys : List X) → All P (xs ++ ys) → All P xs
All-front P [] ys h = All-nil P
All-front P (x ∷ xs) ys h = All-cons P x xs (All-head P x (xs ++ ys) h) (All-front P xs ys (All-tail P x (xs ++ ys) h))

All-back : {X : Type 0} (P : X → Type 0) (xs ys : List X) → All P (xs ++ ys) → All P ys
All-back P [] ys h = h
All-back P (x ∷ xs) ys h = All-back P xs ys (All-tail P x (xs ++ ys) h)

module _ (leaf : Base → List (List ℕ) → Option ℤ) (root : ℕ → Option ℤ) where
  abbrev other : Base → List (List ℕ) → Option ℤ
  other base steps = Some (pos 0)

  abbrev like : ℕ → Option ℤ
  like i = Some (pos 0)

  abbrev PathIsZero : Way → Type 0
  PathIsZero path = leaf path.0 path.1 ≡ Some (pos 0)

  abbrev RootIsZero : ℕ → Type 0
  RootIsZero i = root i ≡ Some (pos 0)

  abbrev IsWorthZero : Expr → Type 0
  IsWorthZero e = All PathIsZero (paths_of e) → All RootIsZero (roots_of e) → value_of leaf root e ≡ value_of other like e

  abbrev first : Expr-F ((e : Expr) × IsWorthZero e) → Expr-F Expr
  first y = map-Expr ((e : Expr) × IsWorthZero e) Expr (λ e. e.0) y

  paths-layer : (x : Expr-F Expr) → All PathIsZero (paths_of (roll-Expr x)) → All PathIsZero (paths_step (map-Expr Expr (List Way) paths_of x))
  paths-layer x all = subst (All PathIsZero) (fold-roll-Expr (List Way) paths_step x) all

  roots-layer : (x : Expr-F Expr) → All RootIsZero (roots_of (roll-Expr x)) → All RootIsZero (roots_step (map-Expr Expr (List ℕ) roots_of x))
  roots-layer x all = subst (All RootIsZero) (fold-roll-Expr (List ℕ) roots_step x) all

  layer : (y : Expr-F ((e : Expr) × IsWorthZero e)) → All PathIsZero (paths_step (map-Expr Expr (List Way) paths_of (first y))) → All RootIsZero (roots_step (map-Expr Expr (List ℕ) roots_of (first y)))
      → value_step leaf root (map-Expr Expr (Option ℤ) (value_of leaf root) (first y)) ≡ value_step other like (map-Expr Expr (Option ℤ) (value_of other like) (first y))
  layer (part.Int n) all roots = refl
  layer (part.Path base steps) all roots = All-head PathIsZero (base, steps) [] all
  layer (part.Root i) all roots = All-head RootIsZero i [] roots
  layer (part.One op a) all roots = ap (λ v. v >>= value_of_one op) (a.1 all roots)
  layer (part.Two op a b) all roots =
      let one = a.1 (All-front PathIsZero (paths_of a.0) (paths_of b.0) all) (All-front RootIsZero (roots_of a.0) (roots_of b.0) roots) in
      let two = b.1 (All-back PathIsZero (paths_of a.0) (paths_of b.0) all) (All-back RootIsZero (roots_of a.0) (roots_of b.0) roots) in
      ap (λ v. joined op v (value_of leaf root b.0)) one ∙ ap (joined op (value_of other like a.0)) two
  layer (part.Cond t a b) all roots =
      let rest = All-front PathIsZero (paths_of t.0 ++ paths_of a.0) (paths_of b.0) all in
      let left = All-front RootIsZero (roots_of t.0 ++ roots_of a.0) (roots_of b.0) roots in
      let test = t.1 (All-front PathIsZero (paths_of t.0) (paths_of a.0) rest) (All-front RootIsZero (roots_of t.0) (roots_of a.0) left) in
      let one = a.1 (All-back PathIsZero (paths_of t.0) (paths_of a.0) rest) (All-back RootIsZero (roots_of t.0) (roots_of a.0) left) in
      let two = b.1 (All-back PathIsZero (paths_of t.0 ++ paths_of a.0) (paths_of b.0) all) (All-back RootIsZero (roots_of t.0 ++ roots_of a.0) (roots_of b.0) roots) in
      ap (λ v. v >>= λ n. if is_nonzero n then value_of leaf root a.0 else value_of leaf root b.0) test
      ∙ ap (λ v. value_of other like t.0 >>= λ n. if is_nonzero n then v else value_of leaf root b.0) one
      ∙ ap (λ v. value_of other like t.0 >>= λ n. if is_nonzero n then value_of other like a.0 else v) two

  whole : (y : Expr-F ((e : Expr) × IsWorthZero e)) → IsWorthZero (roll-Expr (first y))
  whole y all roots =
      fold-roll-Expr (Option ℤ) (value_step leaf root) (first y)
      ∙ layer y (paths-layer (first y) all) (roots-layer (first y) roots)
      ∙ sym (fold-roll-Expr (Option ℤ) (value_step other like) (first y))

  pub worth-zero : (e : Expr) → All PathIsZero (paths_of e) → All RootIsZero (roots_of e) → value_of leaf root e ≡ zero_worth e
  worth-zero = ind-Expr IsWorthZero (λ x y is. subst (λ z. IsWorthZero (roll-Expr z)) is (whole y))
