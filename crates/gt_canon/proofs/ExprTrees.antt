-- The plain tree of an expression: it has the text of the expression, and the expression is read from it.
use Rattle.std.proofs.Common.{◌≡◌, ℕ, true, ℤ, List, [], ◌∷◌, ◌++◌, Option, Some, None, slice_get, refl, sym, ap, ◌∙◌, subst, append_assoc}
use Rattle.std.specs.List.{list_all}
use Rattle.std.specs.Prelude.{All, codes, encode_utf8_all}
use Rattle.std.proofs.lemmas.Bool.{and_parts, and_from}
use Rattle.std.proofs.lemmas.List.Elements.{All-head, All-tail, All-cons, All-nil}
use Rattle.gt_types.specs.declared.expressions.Base.{Base}
use Rattle.gt_types.specs.declared.expressions.Op.{Op}
use Rattle.gt_types.specs.declared.expressions.Expr.{Expr}
use Rattle.gt_types.specs.declared.expressions.Expr.TheFolds.{fold-Expr, fold-roll-Expr}
use Rattle.gt_types.specs.declared.expressions.Expr.TheOpen as part
use Rattle.gt_types.specs.declared.expressions.Expr.TheOpen.{Expr-F}
use Rattle.gt_types.specs.declared.expressions.Expr.TheVariants.{Int, Path, Root, One, Two, Cond, rolls-Int, rolls-Path, rolls-Root, rolls-One, rolls-Two, rolls-Cond}
use Rattle.gt_types.specs.declared.program.Root.{Root as RootOf}
use Rattle.gt_types.specs.declared.program.Program.{Program}
use Rattle.gt_types.specs.Names.{IsName, is_name_character}
use Rattle.gt_types.specs.Operators.{HasOperators, operators_step}
use Rattle.gt_types.specs.Paths.{Way, paths_of, paths_step, roots_of, roots_step}
use Rattle.gt_canon.specs.Lines.{spaced}
use Rattle.gt_canon.specs.Names.{name_if_root}
use Rattle.gt_canon.specs.Expressions.{base_text, operator_text, dotted, bracketed, expression_step, expression_text}
use Rattle.gt_canon.proofs.Trees.{Tree, num, path, root, one, two, choice, dots, written, is_good}
use Rattle.gt_canon.proofs.Inductions.{each_expr}

-- ---- the tree

abbrev pub raw_root : Option RootOf → List ℕ
raw_root (Some r) = r.name
raw_root None = []

-- the characters of a root's name
abbrev pub root_at : Program → ℕ → List ℕ
root_at program i = raw_root (slice_get program.roots i)

abbrev pub tree_step : Program → Expr-F Tree → Tree
tree_step program (part.Int n) = num n
tree_step program (part.Path base steps) = path base steps
tree_step program (part.Root i) = root (root_at program i)
tree_step program (part.One op a) = one op a
tree_step program (part.Two op a b) = two op a b
tree_step program (part.Cond test a b) = choice test a b

abbrev pub tree_of : Program → Expr → Tree
tree_of program = fold-Expr Tree (tree_step program)

-- ---- folds at each variant

at-int : {A : Type 0} (step : Expr-F A → A) (n : ℤ) → fold-Expr A step (Int n) ≡ step (part.Int n)
at-int {A} step n = ap (fold-Expr A step) (sym (rolls-Int n)) ∙ fold-roll-Expr A step (part.Int n)

at-path : {A : Type 0} (step : Expr-F A → A) (base : Base) (steps : List (List ℕ)) → fold-Expr A step (Path base steps) ≡ step (part.Path base steps)
at-path {A} step base steps = ap (fold-Expr A step) (sym (rolls-Path base steps)) ∙ fold-roll-Expr A step (part.Path base steps)

at-root : {A : Type 0} (step : Expr-F A → A) (i : ℕ) → fold-Expr A step (Root i) ≡ step (part.Root i)
at-root {A} step i = ap (fold-Expr A step) (sym (rolls-Root i)) ∙ fold-roll-Expr A step (part.Root i)

at-one : {A : Type 0} (step : Expr-F A → A) (op : Op) (a : Expr) → fold-Expr A step (One op a) ≡ step (part.One op (fold-Expr A step a))
at-one {A} step op a = ap (fold-Expr A step) (sym (rolls-One op a)) ∙ fold-roll-Expr A step (part.One op a)

at-two : {A : Type 0} (step : Expr-F A → A) (op : Op) (a b : Expr) → fold-Expr A step (Two op a b) ≡ step (part.Two op (fold-Expr A step a) (fold-Expr A step b))
at-two {A} step op a b = ap (fold-Expr A step) (sym (rolls-Two op a b)) ∙ fold-roll-Expr A step (part.Two op a b)

at-cond :
    {A : Type 0} (step : Expr-F A → A) (t a b : Expr)
    → fold-Expr A step (Cond t a b) ≡ step (part.Cond (fold-Expr A step t) (fold-Expr A step a) (fold-Expr A step b))
at-cond {A} step t a b = ap (fold-Expr A step) (sym (rolls-Cond t a b)) ∙ fold-roll-Expr A step (part.Cond t a b)

-- ---- its text

dots-dotted : (ws : List (List ℕ)) (s : List ℕ) → dots ws s ≡ dotted ws ++ s
dots-dotted [] s = refl
dots-dotted (w ∷ ws) s =
    ap (λ l. 46 ∷ l) (ap (λ l. encode_utf8_all w ++ l) (dots-dotted ws s) ∙ sym (append_assoc (encode_utf8_all w) (dotted ws) s))

encoded_root : (r : Option RootOf) → encode_utf8_all (raw_root r) ≡ name_if_root r
encoded_root (Some r) = refl
encoded_root None = refl

-- each word after a space, and what follows
pub spaced-cons : (w : List ℕ) (ws : List (List ℕ)) (s : List ℕ) → spaced (w ∷ ws) ++ s ≡ 32 ∷ (w ++ (spaced ws ++ s))
spaced-cons w ws s = append_assoc (32 ∷ w) (spaced ws) s

closed : (op x s : List ℕ) → 40 ∷ (op ++ (x ++ (41 ∷ s))) ≡ (codes "(" ++ op ++ x ++ codes ")") ++ s
closed op x s = ap (λ l. 40 ∷ l) (sym (append_assoc (op ++ x) (41 ∷ []) s ∙ append_assoc op x (41 ∷ s)))

one_text : (op a s : List ℕ) → 40 ∷ (op ++ (32 ∷ (a ++ (41 ∷ s)))) ≡ bracketed op (a ∷ []) ++ s
one_text op a s = ap (λ l. 40 ∷ (op ++ l)) (sym (spaced-cons a [] (41 ∷ s))) ∙ closed op (spaced (a ∷ [])) s

two_text : (op a b s : List ℕ) → 40 ∷ (op ++ (32 ∷ (a ++ (32 ∷ (b ++ (41 ∷ s)))))) ≡ bracketed op (a ∷ b ∷ []) ++ s
two_text op a b s =
    ap (λ l. 40 ∷ (op ++ l)) (sym (spaced-cons a (b ∷ []) (41 ∷ s) ∙ ap (λ l. 32 ∷ (a ++ l)) (spaced-cons b [] (41 ∷ s))))
    ∙ closed op (spaced (a ∷ b ∷ [])) s

three_text :
    (op a b c s : List ℕ) → 40 ∷ (op ++ (32 ∷ (a ++ (32 ∷ (b ++ (32 ∷ (c ++ (41 ∷ s)))))))) ≡ bracketed op (a ∷ b ∷ c ∷ []) ++ s
three_text op a b c s =
    ap (λ l. 40 ∷ (op ++ l))
    (sym (spaced-cons a (b ∷ c ∷ []) (41 ∷ s)
    ∙ ap (λ l. 32 ∷ (a ++ l)) (spaced-cons b (c ∷ []) (41 ∷ s))
    ∙ ap (λ l. 32 ∷ (a ++ (32 ∷ (b ++ l)))) (spaced-cons c [] (41 ∷ s))))
    ∙ closed op (spaced (a ∷ b ∷ c ∷ [])) s

abbrev HasText : Program → Expr → Type 0
HasText program e = (s : List ℕ) → written (tree_of program e) s ≡ expression_text program e ++ s

pub tree_text : (program : Program) (e : Expr) → HasText program e
tree_text program =
    let tree = tree_step program in
    let text = expression_step program in
    each_expr (HasText program) (record {
      int = λ n s. ap (λ x. written x s) (at-int tree n) ∙ sym (ap (λ l. l ++ s) (at-int text n));
      path = λ base ws s.
          ap (λ x. written x s) (at-path tree base ws)
          ∙ ap (λ l. base_text base ++ l) (dots-dotted ws s)
          ∙ sym (append_assoc (base_text base) (dotted ws) s)
          ∙ sym (ap (λ l. l ++ s) (at-path text base ws));
      root = λ i s.
          ap (λ x. written x s) (at-root tree i)
          ∙ ap (λ l. 64 ∷ (l ++ s)) (encoded_root (slice_get program.roots i))
          ∙ sym (ap (λ l. l ++ s) (at-root text i));
      one = λ op a ha s.
          ap (λ x. written x s) (at-one tree op a)
          ∙ ap (λ l. 40 ∷ (operator_text op ++ (32 ∷ l))) (ha (41 ∷ s))
          ∙ one_text (operator_text op) (expression_text program a) s
          ∙ sym (ap (λ l. l ++ s) (at-one text op a));
      two = λ op a b ha hb s.
          ap (λ x. written x s) (at-two tree op a b)
          ∙ ap (λ l. 40 ∷ (operator_text op ++ (32 ∷ written (tree_of program a) (32 ∷ l)))) (hb (41 ∷ s))
          ∙ ap (λ l. 40 ∷ (operator_text op ++ (32 ∷ l))) (ha (32 ∷ (expression_text program b ++ (41 ∷ s))))
          ∙ two_text (operator_text op) (expression_text program a) (expression_text program b) s
          ∙ sym (ap (λ l. l ++ s) (at-two text op a b));
      cond = λ t a b ht ha hb s.
          ap (λ x. written x s) (at-cond tree t a b)
          ∙ ap (λ l. 40 ∷ 63 ∷ 32 ∷ written (tree_of program t) (32 ∷ written (tree_of program a) (32 ∷ l))) (hb (41 ∷ s))
          ∙ ap (λ l. 40 ∷ 63 ∷ 32 ∷ written (tree_of program t) (32 ∷ l)) (ha (32 ∷ (expression_text program b ++ (41 ∷ s))))
          ∙ ap (λ l. 40 ∷ 63 ∷ 32 ∷ l) (ht (32 ∷ (expression_text program a ++ (32 ∷ (expression_text program b ++ (41 ∷ s))))))
          ∙ three_text (codes "?") (expression_text program t) (expression_text program a) (expression_text program b) s
          ∙ sym (ap (λ l. l ++ s) (at-cond text t a b));
    })

-- ---- the expression of a tree, by the place of each root's name

abbrev pub expr_of : (List ℕ → ℕ) → Tree → Expr
expr_of place (num n) = Int n
expr_of place (path base ws) = Path base ws
expr_of place (root w) = Root (place w)
expr_of place (one op a) = One op (expr_of place a)
expr_of place (two op a b) = Two op (expr_of place a) (expr_of place b)
expr_of place (choice t a b) = Cond (expr_of place t) (expr_of place a) (expr_of place b)

All-left : {X : Type 0} (P : X → Type 0) (xs ys : List X) → All P (xs ++ ys) → All P xs
All-left P [] ys all = All-nil P
All-left P (x ∷ xs) ys all = All-cons P x xs (All-head P x (xs ++ ys) all) (All-left P xs ys (All-tail P x (xs ++ ys) all))

All-right : {X : Type 0} (P : X → Type 0) (xs ys : List X) → All P (xs ++ ys) → All P ys
All-right P [] ys all = all
All-right P (x ∷ xs) ys all = All-right P xs ys (All-tail P x (xs ++ ys) all)

-- each root of the expression is found at its place
abbrev pub FindsRoots : Program → (List ℕ → ℕ) → Expr → Type 0
FindsRoots program place e = All (λ i. place (root_at program i) ≡ i) (roots_of e)

two_back : (op : Op) (a b c d : Expr) → a ≡ c → b ≡ d → Two op a b ≡ Two op c d
two_back op a b c d e f = ap (λ x. Two op x b) e ∙ ap (λ x. Two op c x) f

cond_back : (t a b u c d : Expr) → t ≡ u → a ≡ c → b ≡ d → Cond t a b ≡ Cond u c d
cond_back t a b u c d e f g = ap (λ x. Cond x a b) e ∙ ap (λ x. Cond u x b) f ∙ ap (λ x. Cond u c x) g

pub expr_of-tree : (program : Program) (place : List ℕ → ℕ) (e : Expr) → FindsRoots program place e → expr_of place (tree_of program e) ≡ e
expr_of-tree program place =
    let tree = tree_step program in
    let Fits : ℕ → Type 0 = λ i. place (root_at program i) ≡ i in
    each_expr (λ e. FindsRoots program place e → expr_of place (tree_of program e) ≡ e) (record {
      int = λ n h. ap (expr_of place) (at-int tree n);
      path = λ base ws h. ap (expr_of place) (at-path tree base ws);
      root = λ i h. ap (expr_of place) (at-root tree i) ∙ ap Root (All-head Fits i [] (subst (All Fits) (at-root roots_step i) h));
      one = λ op a ha h. ap (expr_of place) (at-one tree op a) ∙ ap (λ x. One op x) (ha (subst (All Fits) (at-one roots_step op a) h));
      two = λ op a b ha hb h.
          let all = subst (All Fits) (at-two roots_step op a b) h in
          ap (expr_of place) (at-two tree op a b)
          ∙ two_back op _ _ a b (ha (All-left Fits (roots_of a) (roots_of b) all)) (hb (All-right Fits (roots_of a) (roots_of b) all));
      cond = λ t a b ht ha hb h.
          let all = subst (All Fits) (at-cond roots_step t a b) h in
          let left = All-left Fits (roots_of t ++ roots_of a) (roots_of b) all in
          ap (expr_of place) (at-cond tree t a b)
          ∙ cond_back _ _ _ t a b (ht (All-left Fits (roots_of t) (roots_of a) left)) (ha (All-right Fits (roots_of t) (roots_of a) left))
          (hb (All-right Fits (roots_of t ++ roots_of a) (roots_of b) all));
    })

-- ---- its names and operators

pub name_characters : (w : List ℕ) → IsName w → list_all is_name_character w ≡ true
name_characters [] n = refl
name_characters (c ∷ w) n = n

steps_good : (ws : List (List ℕ)) → All IsName ws → list_all (list_all is_name_character) ws ≡ true
steps_good [] all = refl
steps_good (w ∷ ws) all = and_from _ _ (name_characters w (All-head IsName w ws all)) (steps_good ws (All-tail IsName w ws all))

-- the operators of an expression have their operands, and its names are names
pub record IsWritable (program : Program) (e : Expr) : Type 0 where
  pub operators : HasOperators e
  pub steps : All (λ way. All IsName way.1) (paths_of e)
  pub roots : All (λ i. list_all is_name_character (root_at program i) ≡ true) (roots_of e)

pub tree_good : (program : Program) (e : Expr) → IsWritable program e → is_good (tree_of program e) ≡ true
tree_good program =
    let tree = tree_step program in
    let Steps : Way → Type 0 = λ way. All IsName way.1 in
    let Roots : ℕ → Type 0 = λ i. list_all is_name_character (root_at program i) ≡ true in
    each_expr (λ e. IsWritable program e → is_good (tree_of program e) ≡ true) (record {
      int = λ n h. ap is_good (at-int tree n);
      path = λ base ws h.
          ap is_good (at-path tree base ws) ∙ steps_good ws (All-head Steps (base, ws) [] (subst (All Steps) (at-path paths_step base ws) h.steps));
      root = λ i h. ap is_good (at-root tree i) ∙ All-head Roots i [] (subst (All Roots) (at-root roots_step i) h.roots);
      one = λ op a ha h.
          let both = and_parts _ _ (sym (at-one operators_step op a) ∙ h.operators) in
          ap is_good (at-one tree op a)
          ∙ and_from _ _ both.0
          (ha (record {
            operators = both.1;
            steps = subst (All Steps) (at-one paths_step op a) h.steps;
            roots = subst (All Roots) (at-one roots_step op a) h.roots;
          }));
      two = λ op a b ha hb h.
          let outer = and_parts _ _ (sym (at-two operators_step op a b) ∙ h.operators) in
          let inner = and_parts _ _ outer.0 in
          let steps = subst (All Steps) (at-two paths_step op a b) h.steps in
          let roots = subst (All Roots) (at-two roots_step op a b) h.roots in
          ap is_good (at-two tree op a b)
          ∙ and_from _ _
          (and_from _ _ inner.0
          (ha (record {
            operators = inner.1;
            steps = All-left Steps (paths_of a) (paths_of b) steps;
            roots = All-left Roots (roots_of a) (roots_of b) roots;
          })))
          (hb (record {
            operators = outer.1;
            steps = All-right Steps (paths_of a) (paths_of b) steps;
            roots = All-right Roots (roots_of a) (roots_of b) roots;
          }));
      cond = λ t a b ht ha hb h.
          let outer = and_parts _ _ (sym (at-cond operators_step t a b) ∙ h.operators) in
          let inner = and_parts _ _ outer.0 in
          let steps = subst (All Steps) (at-cond paths_step t a b) h.steps in
          let roots = subst (All Roots) (at-cond roots_step t a b) h.roots in
          let left_steps = All-left Steps (paths_of t ++ paths_of a) (paths_of b) steps in
          let left_roots = All-left Roots (roots_of t ++ roots_of a) (roots_of b) roots in
          ap is_good (at-cond tree t a b)
          ∙ and_from _ _
          (and_from _ _
          (ht (record {
            operators = inner.0;
            steps = All-left Steps (paths_of t) (paths_of a) left_steps;
            roots = All-left Roots (roots_of t) (roots_of a) left_roots;
          }))
          (ha (record {
            operators = inner.1;
            steps = All-right Steps (paths_of t) (paths_of a) left_steps;
            roots = All-right Roots (roots_of t) (roots_of a) left_roots;
          })))
          (hb (record {
            operators = outer.1;
            steps = All-right Steps (paths_of t ++ paths_of a) (paths_of b) steps;
            roots = All-right Roots (roots_of t ++ roots_of a) (roots_of b) roots;
          }));
    })
