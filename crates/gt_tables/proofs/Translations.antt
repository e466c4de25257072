-- Each expression is one over leaves.
use Rattle.std.proofs.Common.{◌≡◌, ◌∙◌, ℕ, ◌+◌, ◌≤◌, List, [], ◌∷◌, ◌++◌, length, refl, ap, sym, subst, Option, Some, None, arith}
use Rattle.std.specs.Prelude.{slice_get}
use Rattle.std.proofs.lemmas.List.{length-append}
use Rattle.std.proofs.lemmas.Option.{slice_get_past}
use Rattle.gt_types.specs.declared.expressions.Base.{Base}
use Rattle.gt_types.specs.declared.expressions.Op.{Op}
use Rattle.gt_types.specs.declared.expressions.Expr.{Expr, roll-Expr}
use Rattle.gt_types.specs.declared.expressions.Expr.TheFolds.{ind-Expr, map-Expr}
use Rattle.gt_types.specs.declared.expressions.Expr.TheOpen as part
use Rattle.gt_types.specs.declared.expressions.Expr.TheOpen.{Expr-F}
use Rattle.gt_types.specs.declared.expressions.Expr.TheVariants as expr
use Rattle.gt_types.specs.declared.expressions.Expr.TheVariants.{rolls-Int, rolls-Path, rolls-Root, rolls-One, rolls-Two, rolls-Cond}
use Rattle.gt_walk.specs.declared.rows.RowLeaf.{RowLeaf}
use Rattle.gt_walk.specs.declared.rows.RowExpr.{RowExpr}
use Rattle.gt_edges.specs.Walks.{Translates, int, of_path, of_root, one, two, cond}
use Rattle.gt_tables.proofs.Growing.{append-assoc}

get-seam : {X : Type 0} (xs ys : List X) (x : X) → slice_get (xs ++ x ∷ ys) (length xs) ≡ Some x
get-seam [] ys x = refl
get-seam (y ∷ xs) ys x = get-seam xs ys x

-- the leaf of a read, where there is one
abbrev leaf_list : Option RowLeaf → List RowLeaf
leaf_list (Some leaf) = leaf ∷ []
leaf_list None = []

-- the number of a read, where so many leaves stand before its own; beyond all of them where it has none
abbrev read_at : Option RowLeaf → ℕ → ℕ → ℕ
read_at (Some leaf) beyond before = before
read_at None beyond before = beyond

reads : (leaf : Option RowLeaf) (beyond : ℕ) (front back : List RowLeaf) → length (front ++ (leaf_list leaf ++ back)) ≤ beyond
    → slice_get (front ++ (leaf_list leaf ++ back)) (read_at leaf beyond (length front)) ≡ leaf
reads (Some leaf) beyond front back most = get-seam front back leaf
reads None beyond front back most = slice_get_past (front ++ back) beyond most

module _ (path : Base → List (List ℕ) → Option RowLeaf) (root : ℕ → Option RowLeaf) where
  -- among any leaves with these, an expression has a translation, by the number that is beyond them and how many stand before them
  abbrev IsAmong : List RowLeaf → (ℕ → ℕ → Expr) → Expr → Type 0
  IsAmong leaves made e = (beyond : ℕ) (front back : List RowLeaf) → length (front ++ (leaves ++ back)) ≤ beyond → Translates path root (front ++ (leaves ++ back)) e (made beyond (length front))

  record HasLeaves (e : Expr) : Type 0 where
    leaves : List RowLeaf
    made : ℕ → ℕ → Expr
    is : IsAmong leaves made e

  ahead : (e : Expr) (leaves after : List RowLeaf) (made : ℕ → ℕ → Expr) → IsAmong leaves made e → IsAmong (leaves ++ after) made e
  ahead e leaves after made is beyond front back most =
      let same = ap (λ l. front ++ l) (append-assoc leaves after back) in
      subst (λ l. Translates path root l e (made beyond (length front))) (sym same) (is beyond front (after ++ back) (subst (λ l. length l ≤ beyond) same most))

  following : (e : Expr) (leaves first : List RowLeaf) (made : ℕ → ℕ → Expr) → IsAmong leaves made e → IsAmong (first ++ leaves) (λ beyond before. made beyond (before + length first)) e
  following e leaves first made is beyond front back most =
      let same = ap (λ l. front ++ l) (append-assoc first leaves back) ∙ sym (append-assoc front first (leaves ++ back)) in
      subst (λ n. Translates path root (front ++ ((first ++ leaves) ++ back)) e (made beyond n)) (length-append front first)
      (subst (λ l. Translates path root l e (made beyond (length (front ++ first)))) (sym same) (is beyond (front ++ first) back (subst (λ l. length l ≤ beyond) same most)))

  has-two : (op : Op) (a b : Expr) → HasLeaves a → HasLeaves b → HasLeaves (expr.Two op a b)
  has-two op a b x y = record {
    leaves = x.leaves ++ y.leaves;
    made = λ beyond before. expr.Two op (x.made beyond before) (y.made beyond (before + length x.leaves));
    is = λ beyond front back most. two (ahead a x.leaves y.leaves x.made x.is beyond front back most) (following b y.leaves x.leaves y.made y.is beyond front back most);
  }

  has-cond : (t a b : Expr) → HasLeaves t → HasLeaves a → HasLeaves b → HasLeaves (expr.Cond t a b)
  has-cond t a b x y z = record {
    leaves = x.leaves ++ (y.leaves ++ z.leaves);
    made = λ beyond before. expr.Cond (x.made beyond before) (y.made beyond (before + length x.leaves)) (z.made beyond (before + length x.leaves + length y.leaves));
    is = λ beyond front back most.
        cond (ahead t x.leaves (y.leaves ++ z.leaves) x.made x.is beyond front back most)
        (following a (y.leaves ++ z.leaves) x.leaves y.made (ahead a y.leaves z.leaves y.made y.is) beyond front back most)
        (following b (y.leaves ++ z.leaves) x.leaves (λ over before. z.made over (before + length y.leaves)) (following b z.leaves y.leaves z.made z.is) beyond front back most);
  }

  layer : (y : Expr-F ((e : Expr) × HasLeaves e)) → HasLeaves (roll-Expr (map-Expr ((e : Expr) × HasLeaves e) Expr (λ e. e.0) y))
  layer (part.Int n) = subst HasLeaves (sym (rolls-Int n)) (record { leaves = []; made = λ beyond before. expr.Int n; is = λ beyond front back most. int })
  layer (part.Path base steps) = subst HasLeaves (sym (rolls-Path base steps)) (record {
    leaves = leaf_list (path base steps);
    made = λ beyond before. expr.Root (read_at (path base steps) beyond before);
    is = λ beyond front back most. of_path (reads (path base steps) beyond front back most);
  })
  layer (part.Root i) = subst HasLeaves (sym (rolls-Root i)) (record {
    leaves = leaf_list (root i);
    made = λ beyond before. expr.Root (read_at (root i) beyond before);
    is = λ beyond front back most. of_root (reads (root i) beyond front back most);
  })
  layer (part.One op a) = subst HasLeaves (sym (rolls-One op a.0)) (record {
    leaves = a.1.leaves;
    made = λ beyond before. expr.One op (a.1.made beyond before);
    is = λ beyond front back most. one (a.1.is beyond front back most);
  })
  layer (part.Two op a b) = subst HasLeaves (sym (rolls-Two op a.0 b.0)) (has-two op a.0 b.0 a.1 b.1)
  layer (part.Cond t a b) = subst HasLeaves (sym (rolls-Cond t.0 a.0 b.0)) (has-cond t.0 a.0 b.0 t.1 a.1 b.1)

  leaves-of : (e : Expr) → HasLeaves e
  leaves-of = ind-Expr HasLeaves (λ x y is. subst (λ z. HasLeaves (roll-Expr z)) is (layer y))

-- each expression has a translation
pub translation : (path : Base → List (List ℕ) → Option RowLeaf) (root : ℕ → Option RowLeaf) (e : Expr) → (r : RowExpr) × Translates path root r.leaves e r.expr
translation path root e =
    let h = leaves-of path root e in
    let all = h.leaves ++ [] in
    (record { expr = h.made (length all) 0; leaves = all }, h.is (length all) [] [] (omega arith))
