-- The paths of an expression are those of its operands, or itself.
use Rattle.std.proofs.Common.{◌≡◌, ℕ, true, List, [], ◌∷◌, ◌++◌, refl, ap, sym, subst, ◌∙◌, ◌⊎◌, inl, inr}
use Rattle.std.specs.Prelude.{◌↔◌, Result, Ok, Err, OnOk, Contains}
use Rattle.gt_types.specs.declared.expressions.Base.{Base}
use Rattle.gt_types.specs.declared.expressions.Base.TheVariants.{Here, Outer, Outermost}
use Rattle.gt_types.specs.declared.expressions.Expr.{Expr}
use Rattle.gt_types.specs.declared.expressions.Expr.TheVariants.{Path}
use Rattle.gt_types.specs.Paths.{Way, paths_of}
use Rattle.gt_paths.proofs.PartLists.{paths-path}
use Rattle.gt_leaf.specs.Seeking.{PathStarts, Gains, same_base, PathsOf}
use Rattle.gt_leaf.proofs.Members.{nothing, first, first-or-later, contains-append}
use Rattle.gt_leaf.proofs.Gaining.{gains-both, gains-same}

-- what follows on success
pub on-ok : {A E P Q : Type 0} (r : Result A E) → (P → Q) → OnOk r P → OnOk r Q
on-ok (Ok a) f p = f p
on-ok (Err e) f p = p

same-base : (a b : Base) → same_base a b ≡ true → a ≡ b
same-base Here Here e = refl
same-base Outer Outer e = refl
same-base Outermost Outermost e = refl
same-base a b e = absurd (cc)

module _ (base : Base) (begins : ℕ → Type 0) where
  -- the paths of a list of them from a base, where they begin at each of some structures
  abbrev pub WaysFrom : List Way → PathStarts
  WaysFrom ways names begin = Contains ways (base, names) × begins begin

  both-from : (xs ys : List Way) (names : List (List ℕ)) (begin : ℕ) → WaysFrom (xs ++ ys) names begin ↔ (WaysFrom xs names begin ⊎ WaysFrom ys names begin)
  both-from xs ys names begin = (there, back)
    where
      there : WaysFrom (xs ++ ys) names begin → WaysFrom xs names begin ⊎ WaysFrom ys names begin
      there (c, b) = elim ((contains-append xs ys (base, names)).0 c) [ inl d ↦ inl (d, b) | inr d ↦ inr (d, b) ]

      back : WaysFrom xs names begin ⊎ WaysFrom ys names begin → WaysFrom (xs ++ ys) names begin
      back (inl (c, b)) = ((contains-append xs ys (base, names)).1 (inl c), b)
      back (inr (c, b)) = ((contains-append xs ys (base, names)).1 (inr c), b)

  ways-two : (x y z : PathStarts) (e : Expr) (xs ys : List Way) → paths_of e ≡ xs ++ ys → Gains x y (WaysFrom xs) → Gains y z (WaysFrom ys) → Gains x z (PathsOf base begins e)
  ways-two x y z e xs ys is p q = gains-both x y z (WaysFrom xs) (WaysFrom ys) (PathsOf base begins e) p q (λ names begin. subst (λ ways. WaysFrom ways names begin ↔ (WaysFrom xs names begin ⊎ WaysFrom ys names begin)) (sym is) (both-from xs ys names begin))

  pub gains-two : (x y z : PathStarts) (e a b : Expr) → paths_of e ≡ paths_of a ++ paths_of b → Gains x y (PathsOf base begins a) → Gains y z (PathsOf base begins b) → Gains x z (PathsOf base begins e)
  gains-two x y z e a b is p q = ways-two x y z e (paths_of a) (paths_of b) is p q

  pub gains-three : (w x y z : PathStarts) (e t a b : Expr) → paths_of e ≡ (paths_of t ++ paths_of a) ++ paths_of b → Gains w x (PathsOf base begins t) → Gains x y (PathsOf base begins a) → Gains y z (PathsOf base begins b) → Gains w z (PathsOf base begins e)
  gains-three w x y z e t a b is p q r =
      ways-two w y z e (paths_of t ++ paths_of a) (paths_of b) is (gains-both w x y (WaysFrom (paths_of t)) (WaysFrom (paths_of a)) (WaysFrom (paths_of t ++ paths_of a)) p q (both-from (paths_of t) (paths_of a))) r

  -- an expression that is a path from the base has this one
  pub gains-path : (own : Base) (e : Expr) (names steps : List (List ℕ)) (x y : PathStarts) → same_base own base ≡ true → e ≡ Path own steps → names ≡ steps
      → ((path : List (List ℕ)) (begin : ℕ) → y path begin ↔ (x path begin ⊎ ((path ≡ names) × begins begin))) → Gains x y (PathsOf base begins e)
  gains-path own e names steps x y same is listed more =
      gains-same x y (λ path begin. (path ≡ names) × begins begin) (PathsOf base begins e) (record { each = more }) (λ path begin. (λ (at, b). (there path at, b), λ (c, b). (back path c, b)))
    where
      one : paths_of e ≡ (base, names) ∷ []
      one = ap paths_of is ∙ paths-path own steps ∙ ap (λ (b : Base). (b, steps) ∷ []) (same-base own base same) ∙ ap (λ (ns : List (List ℕ)). (base, ns) ∷ []) (sym listed)

      there : (path : List (List ℕ)) → path ≡ names → Contains (paths_of e) (base, path)
      there path at = subst (λ (ways : List Way). Contains ways (base, path)) (sym one) (subst (λ (ns : List (List ℕ)). Contains {X = Way} ((base, ns) ∷ []) (base, path)) at (first (base, path) []))

      back : (path : List (List ℕ)) → Contains (paths_of e) (base, path) → path ≡ names
      back path c = elim (first-or-later (base, names) (base, path) [] (subst (λ (ways : List Way). Contains ways (base, path)) one c)) [ inl at ↦ ap (λ (way : Way). way.1) (sym at) | inr d ↦ absurd (nothing (base, path) d) ]
