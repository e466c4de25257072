-- An expression over leaves is worth what the expression of the program is, where each leaf reads the number of its path or root.
use Rattle.std.proofs.Common.{◌≡◌, ℕ, ℤ, if◌then◌else◌, List, [], ◌∷◌, ◌++◌, All, ap, sym, subst, ◌∙◌, Option}
use Rattle.std.specs.Prelude.{slice_get}
use Rattle.std.proofs.lemmas.List.Elements.{All-nil, All-cons, All-head, All-tail}
use Rattle.gt_types.specs.declared.expressions.Base.{Base}
use Rattle.gt_types.specs.declared.expressions.Op.{Op}
use Rattle.gt_types.specs.declared.expressions.Expr.{Expr, out-Expr}
use Rattle.gt_types.specs.declared.expressions.Expr.TheFolds.{fold_out-Expr, map-Expr}
use Rattle.gt_types.specs.declared.expressions.Expr.TheOpen as part
use Rattle.gt_types.specs.declared.expressions.Expr.TheOpen.{Expr-F}
use Rattle.gt_types.specs.declared.expressions.Expr.TheVariants as expr
use Rattle.gt_types.specs.declared.expressions.Expr.TheVariants.{outs-Int, outs-Path, outs-Root, outs-One, outs-Two, outs-Cond}
use Rattle.gt_types.specs.Paths.{roots_of, roots_step}
use Rattle.gt_types.specs.Values.{value_of, value_of_one, joined, ◌>>=◌, is_nonzero, value_step}
use Rattle.gt_tree.specs.Scopes.{◌then◌}
use Rattle.gt_walk.specs.declared.rows.RowLeaf.{RowLeaf}
use Rattle.gt_walk.specs.Rows.{no_path}
use Rattle.gt_edges.specs.Walks.{Translates}

All-front : {X : Type 0} (P : X → Type 0) (xs ys : List X) → All P (xs ++ ys) → All P xs
All-front P [] ys h = All-nil P
All-front P (x ∷ xs) ys h = All-cons P x xs (All-head P x (xs ++ ys) h) (All-front P xs ys (All-tail P x (xs ++ ys) h))

All-back : {X : Type 0} (P : X → Type 0) (xs ys : List X) → All P (xs ++ ys) → All P ys
All-back P [] ys h = h
All-back P (x ∷ xs) ys h = All-back P xs ys (All-tail P x (xs ++ ys) h)

-- ---- layers

pub value-layer : (leaf : Base → List (List ℕ) → Option ℤ) (root : ℕ → Option ℤ) (e : Expr) (x : Expr-F Expr) → out-Expr e ≡ x → value_of leaf root e ≡ value_step leaf root (map-Expr Expr (Option ℤ) (value_of leaf root) x)
value-layer leaf root e x out = fold_out-Expr (Option ℤ) (value_step leaf root) e ∙ ap (λ y. value_step leaf root (map-Expr Expr (Option ℤ) (value_of leaf root) y)) out

roots-layer : (P : ℕ → Type 0) (e : Expr) (x : Expr-F Expr) → out-Expr e ≡ x → All P (roots_of e) → All P (roots_step (map-Expr Expr (List ℕ) roots_of x))
roots-layer P e x out = subst (All P) (fold_out-Expr (List ℕ) roots_step e ∙ ap (λ y. roots_step (map-Expr Expr (List ℕ) roots_of y)) out)

joined-same : (op : Op) (a b c d : Option ℤ) → a ≡ c → b ≡ d → joined op a b ≡ joined op c d
joined-same op a b c d e f = ap (λ v. joined op v b) e ∙ ap (joined op c) f

chosen-same : (t u a b c d : Option ℤ) → t ≡ u → a ≡ c → b ≡ d → (t >>= λ n. if is_nonzero n then a else b) ≡ (u >>= λ n. if is_nonzero n then c else d)
chosen-same t u a b c d e f g =
    ap (λ v. v >>= λ n. if is_nonzero n then a else b) e
    ∙ ap (λ v. u >>= λ n. if is_nonzero n then v else b) f
    ∙ ap (λ v. u >>= λ n. if is_nonzero n then c else v) g

-- ---- expressions

module _ (path : Base → List (List ℕ) → Option RowLeaf) (root : ℕ → Option RowLeaf) (leaves : List RowLeaf) (read : RowLeaf → Option ℤ) (worth : Base → List (List ℕ) → Option ℤ) (root_worth : ℕ → Option ℤ)
    (paths : (base : Base) (steps : List (List ℕ)) → (path base steps then read) ≡ worth base steps) where
  -- the leaf of a root reads the number of the root
  abbrev pub IsRead : ℕ → Type 0
  IsRead place = (root place then read) ≡ root_worth place

  abbrev leaf_read : ℕ → Option ℤ
  leaf_read i = slice_get leaves i then read

  pub translated : {e r : Expr} → Translates path root leaves e r → All IsRead (roots_of e) → value_of no_path leaf_read r ≡ value_of worth root_worth e
  translated (Translates.int {n}) all = value-layer no_path leaf_read (expr.Int n) (part.Int n) (outs-Int n) ∙ sym (value-layer worth root_worth (expr.Int n) (part.Int n) (outs-Int n))
  translated (Translates.of_path {base} {steps} {i} got) all =
      value-layer no_path leaf_read (expr.Root i) (part.Root i) (outs-Root i)
      ∙ ap (λ o. o then read) got
      ∙ paths base steps
      ∙ sym (value-layer worth root_worth (expr.Path base steps) (part.Path base steps) (outs-Path base steps))
  translated (Translates.of_root {place} {i} got) all =
      value-layer no_path leaf_read (expr.Root i) (part.Root i) (outs-Root i)
      ∙ ap (λ o. o then read) got
      ∙ All-head IsRead place [] (roots-layer IsRead (expr.Root place) (part.Root place) (outs-Root place) all)
      ∙ sym (value-layer worth root_worth (expr.Root place) (part.Root place) (outs-Root place))
  translated (Translates.one {op} {a} {b} t) all =
      let inner = roots-layer IsRead (expr.One op a) (part.One op a) (outs-One op a) all in
      value-layer no_path leaf_read (expr.One op b) (part.One op b) (outs-One op b)
      ∙ ap (λ v. v >>= value_of_one op) (translated t inner)
      ∙ sym (value-layer worth root_worth (expr.One op a) (part.One op a) (outs-One op a))
  translated (Translates.two {op} {a} {b} {c} {d} t u) all =
      let inner = roots-layer IsRead (expr.Two op a b) (part.Two op a b) (outs-Two op a b) all in
      value-layer no_path leaf_read (expr.Two op c d) (part.Two op c d) (outs-Two op c d)
      ∙ joined-same op _ _ _ _ (translated t (All-front IsRead (roots_of a) (roots_of b) inner)) (translated u (All-back IsRead (roots_of a) (roots_of b) inner))
      ∙ sym (value-layer worth root_worth (expr.Two op a b) (part.Two op a b) (outs-Two op a b))
  translated (Translates.cond {t} {a} {b} {u} {c} {d} x y z) all =
      let inner = roots-layer IsRead (expr.Cond t a b) (part.Cond t a b) (outs-Cond t a b) all in
      let front = All-front IsRead (roots_of t ++ roots_of a) (roots_of b) inner in
      value-layer no_path leaf_read (expr.Cond u c d) (part.Cond u c d) (outs-Cond u c d)
      ∙ chosen-same _ _ _ _ _ _ (translated x (All-front IsRead (roots_of t) (roots_of a) front)) (translated y (All-back IsRead (roots_of t) (roots_of a) front)) (translated z (All-back IsRead (roots_of t ++ roots_of a) (roots_of b) inner))
      ∙ sym (value-layer worth root_worth (expr.Cond t a b) (part.Cond t a b) (outs-Cond t a b))
