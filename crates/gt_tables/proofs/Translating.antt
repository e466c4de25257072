-- Expressions over leaves, whichever leaves are added after them.
use Rattle.std.proofs.Common.{◌≡◌, ℕ, ◌-◌, ◌^◌, ◌<◌, List, [], ◌∷◌, ◌++◌, ◌+◌, zero, suc, not, cond as choose, true, false, length, refl, ap, sym, subst, ◌∙◌, arith, Option, Some, None, append_assoc, length-append}
use Rattle.std.specs.Prelude.{filter, slice_get}
use Rattle.std.specs.List.{range_with_len}
use Rattle.std.proofs.lemmas.Bool.{ne_eqb, eq-eqb}
use Rattle.std.proofs.lemmas.List.Elements.{filter-append}
use Rattle.std.proofs.lemmas.Option.{slice_get_past}
use Rattle.gt_types.specs.declared.expressions.Base.{Base}
use Rattle.gt_types.specs.declared.expressions.Op.{Op}
use Rattle.gt_types.specs.declared.expressions.Expr.{Expr}
use Rattle.gt_types.specs.declared.expressions.Expr.TheFolds.{fold-roll-Expr}
use Rattle.gt_types.specs.declared.expressions.Expr.TheOpen as part
use Rattle.gt_types.specs.declared.expressions.Expr.TheVariants as expr
use Rattle.gt_types.specs.declared.expressions.Expr.TheVariants.{rolls-Int, rolls-Root, rolls-One, rolls-Two, rolls-Cond}
use Rattle.gt_types.specs.Paths.{roots_of, roots_step}
use Rattle.gt_walk.specs.declared.rows.RowLeaf.{RowLeaf}
use Rattle.gt_edges.specs.Walks.{Translates, int, of_path, of_root, one, two, cond, path_leaf, root_leaf}
use Rattle.gt_tables.specs.Building.{around_of}
use Rattle.gt_tables.specs.Leaves.{GetLeaves, AreReads, IsRead, IsTranslated}
use Rattle.gt_tables.specs.Ordered.{is_leaf, IsOrdered}
use Rattle.gt_tables.specs.declared.sources.Around.{Around}
use Rattle.gt_tables.specs.declared.sources.Source.{Source}

-- ---- leaves that are added

nothing-after : (xs : List RowLeaf) → xs ++ [] ≡ xs
nothing-after [] = refl
nothing-after (x ∷ xs) = ap (λ ys. x ∷ ys) (nothing-after xs)

get-none : (xs : List RowLeaf) → GetLeaves xs xs
get-none xs = record { more = []; is = sym (nothing-after xs); few = λ few. few }

get-one : (xs ys : List RowLeaf) (leaf : RowLeaf) → ys ≡ xs ++ leaf ∷ [] → length xs < 2 ^ 32 - 1 → GetLeaves xs ys
get-one xs ys leaf is small = record {
  more = leaf ∷ [];
  is = is;
  few = λ few. let long = ap length is ∙ length-append xs (leaf ∷ []) in omega (arith, long, small);
}

get-more : (xs ys zs : List RowLeaf) → GetLeaves xs ys → GetLeaves ys zs → GetLeaves xs zs
get-more xs ys zs a b = record { more = a.more ++ b.more; is = b.is ∙ ap (λ l. l ++ b.more) a.is ∙ append_assoc xs a.more b.more; few = λ few. b.few (a.few few) }

-- ---- the numbers that are read

roots-int : (n : _) → roots_of (expr.Int n) ≡ []
roots-int n = ap roots_of (sym (rolls-Int n)) ∙ fold-roll-Expr (List ℕ) roots_step (part.Int n)

roots-root : (i : ℕ) → roots_of (expr.Root i) ≡ i ∷ []
roots-root i = ap roots_of (sym (rolls-Root i)) ∙ fold-roll-Expr (List ℕ) roots_step (part.Root i)

roots-one : (op : Op) (a : Expr) → roots_of (expr.One op a) ≡ roots_of a
roots-one op a = ap roots_of (sym (rolls-One op a)) ∙ fold-roll-Expr (List ℕ) roots_step (part.One op a)

roots-two : (op : Op) (a b : Expr) → roots_of (expr.Two op a b) ≡ roots_of a ++ roots_of b
roots-two op a b = ap roots_of (sym (rolls-Two op a b)) ∙ fold-roll-Expr (List ℕ) roots_step (part.Two op a b)

roots-cond : (t a b : Expr) → roots_of (expr.Cond t a b) ≡ roots_of t ++ roots_of a ++ roots_of b
roots-cond t a b = ap roots_of (sym (rolls-Cond t a b)) ∙ fold-roll-Expr (List ℕ) roots_step (part.Cond t a b)

range-append : (from n m : ℕ) → range_with_len from n ++ range_with_len (from + n) m ≡ range_with_len from (n + m)
range-append from zero m =
    let none : from + 0 ≡ from = omega arith in
    let same : m ≡ 0 + m = omega arith in
    ap (λ k. range_with_len k m) none ∙ ap (range_with_len from) same
range-append from (suc n) m =
    let next : from + suc n ≡ from + 1 + n = omega arith in
    let more : suc (n + m) ≡ suc n + m = omega arith in
    ap (λ k. from ∷ (range_with_len (from + 1) n ++ range_with_len k m)) next ∙ ap (λ l. from ∷ l) (range-append (from + 1) n m) ∙ ap (range_with_len from) more

-- those of two expressions, of which the second gets its leaves after the first
reads-both : (xs ys more after : List RowLeaf) (is js : List ℕ) → ys ≡ xs ++ more → AreReads xs more is → AreReads ys after js → AreReads xs (more ++ after) (is ++ js)
reads-both xs ys more after is js grown first second =
    let long : length ys ≡ length xs + length more = ap length grown ∙ length-append xs more in
    filter-append is_leaf is js ∙ ap (λ l. l ++ filter is_leaf js) first ∙ ap (λ l. range_with_len (length xs) (length more) ++ l) (second ∙ ap (λ n. range_with_len n (length after)) long)
    ∙ range-append (length xs) (length more) (length after) ∙ ap (range_with_len (length xs)) (sym (length-append more after))

-- and those of three. A sum of lists stands as it is written: the first two, then the third.
reads-cond : (ws xs ys zs : List RowLeaf) (f : GetLeaves ws xs) (g : GetLeaves xs ys) (h : GetLeaves ys zs) (is js ks : List ℕ) → AreReads ws f.more is → AreReads xs g.more js → AreReads ys h.more ks
    → AreReads ws (f.more ++ (g.more ++ h.more)) (is ++ js ++ ks)
reads-cond ws xs ys zs f g h is js ks first second third =
    ap (filter is_leaf) (append_assoc is js ks) ∙ reads-both ws xs f.more (g.more ++ h.more) is (js ++ ks) f.is first (reads-both xs ys g.more h.more js ks g.is second third)

no-leaf : is_leaf 4294967295 ≡ false
no-leaf = ap not (eq-eqb 4294967295 4294967295 refl)

a-leaf : (n : ℕ) → n < 2 ^ 32 - 1 → is_leaf n ≡ true
a-leaf n small = ap not (ne_eqb n 4294967295 (omega (arith, small)))

-- ---- the read of a leaf

added-at : (xs rest : List RowLeaf) (leaf : RowLeaf) → slice_get ((xs ++ leaf ∷ []) ++ rest) (length xs) ≡ Some leaf
added-at [] rest leaf = refl
added-at (x ∷ xs) rest leaf = added-at xs rest leaf

pub read-none : (xs : List RowLeaf) (leaf : Option RowLeaf) → leaf ≡ None → IsRead xs xs leaf (expr.Root 4294967295)
unfolding get-none
read-none xs leaf none = record {
  get = get-none xs;
  place = 4294967295;
  order = ap (λ b. choose b (4294967295 ∷ []) []) no-leaf;
  is = refl;
  reads = λ rest few. slice_get_past (xs ++ rest) 4294967295 (omega (arith, few)) ∙ sym none;
}

pub read-one : (xs ys : List RowLeaf) (o : Option RowLeaf) (leaf : RowLeaf) (n : ℕ) → o ≡ Some leaf → ys ≡ xs ++ leaf ∷ [] → n ≡ length xs → n < 2 ^ 32 - 1 → IsRead xs ys o (expr.Root n)
unfolding get-one
read-one xs ys o leaf n some is long small = record {
  get = get-one xs ys leaf is (omega (arith, long, small));
  place = n;
  order = ap (λ b. choose b (n ∷ []) []) (a-leaf n small) ∙ ap (λ k. k ∷ []) long;
  is = refl;
  reads = λ rest few. ap (λ l. slice_get (l ++ rest) n) is ∙ ap (λ k. slice_get ((xs ++ leaf ∷ []) ++ rest) k) long ∙ added-at xs rest leaf ∙ sym some;
}

-- ---- expressions of each form

module _ (source : Source) (around : Around) where
  -- those that are translated, with leaves that come after
  abbrev Are : List RowLeaf → Expr → Expr → Type 0
  Are leaves e x = Translates (path_leaf source.program.now source.layouts.now (around_of around)) (root_leaf source.program.now source.layouts.now) leaves e x

  later : (xs ys zs : List RowLeaf) (e x : Expr) → GetLeaves ys zs → IsTranslated source around xs ys e x → (rest : List RowLeaf) → length (zs ++ rest) < 2 ^ 32 → Are (zs ++ rest) e x
  later xs ys zs e x get is rest few =
      let same : ys ++ (get.more ++ rest) ≡ zs ++ rest = sym (append_assoc ys get.more rest) ∙ ap (λ l. l ++ rest) (sym get.is) in
      subst (λ l. Are l e x) same (is.same (get.more ++ rest) (subst (λ l. length l < 2 ^ 32) (sym same) few))

  pub moved : (xs ys : List RowLeaf) (e e' x x' : Expr) → e' ≡ e → x' ≡ x → IsTranslated source around xs ys e x → IsTranslated source around xs ys e' x'
  moved xs ys e e' x x' p q is = subst (λ y. IsTranslated source around xs ys e' y) (sym q) (subst (λ y. IsTranslated source around xs ys y x) (sym p) is)

  pub of-int : (xs : List RowLeaf) (n : _) → IsTranslated source around xs xs (expr.Int n) (expr.Int n)
  unfolding get-none
  of-int xs n = record { get = get-none xs; order = ap (filter is_leaf) (roots-int n); same = λ rest few. int }

  pub of-path : (xs ys : List RowLeaf) (base : Base) (steps : List (List ℕ)) (leaf : Option RowLeaf) (x : Expr) → leaf ≡ path_leaf source.program.now source.layouts.now (around_of around) base steps
      → IsRead xs ys leaf x → IsTranslated source around xs ys (expr.Path base steps) x
  of-path xs ys base steps leaf x is read = record {
    get = read.get;
    order = ap (λ y. filter is_leaf (roots_of y)) read.is ∙ ap (filter is_leaf) (roots-root read.place) ∙ read.order;
    same = λ rest few. subst (λ y. Are (ys ++ rest) (expr.Path base steps) y) (sym read.is) (of_path (read.reads rest few ∙ is));
  }

  pub of-root : (xs ys : List RowLeaf) (place : ℕ) (leaf : Option RowLeaf) (x : Expr) → leaf ≡ root_leaf source.program.now source.layouts.now place
      → IsRead xs ys leaf x → IsTranslated source around xs ys (expr.Root place) x
  of-root xs ys place leaf x is read = record {
    get = read.get;
    order = ap (λ y. filter is_leaf (roots_of y)) read.is ∙ ap (filter is_leaf) (roots-root read.place) ∙ read.order;
    same = λ rest few. subst (λ y. Are (ys ++ rest) (expr.Root place) y) (sym read.is) (of_root (read.reads rest few ∙ is));
  }

  pub of-one : (xs ys : List RowLeaf) (op : Op) (a b : Expr) → IsTranslated source around xs ys a b → IsTranslated source around xs ys (expr.One op a) (expr.One op b)
  of-one xs ys op a b is = record { get = is.get; order = ap (filter is_leaf) (roots-one op b) ∙ is.order; same = λ rest few. one (is.same rest few) }

  pub of-two : (xs ys zs : List RowLeaf) (op : Op) (a b c d : Expr) → IsTranslated source around xs ys a c → IsTranslated source around ys zs b d
      → IsTranslated source around xs zs (expr.Two op a b) (expr.Two op c d)
  unfolding get-more
  of-two xs ys zs op a b c d first second = record {
    get = get-more xs ys zs first.get second.get;
    order =
        ap (filter is_leaf) (roots-two op c d) ∙ reads-both xs ys first.get.more second.get.more (roots_of c) (roots_of d) first.get.is first.order second.order;
    same = λ rest few. two (later xs ys zs a c second.get first rest few) (second.same rest few);
  }

  pub of-cond : (ws xs ys zs : List RowLeaf) (t a b u c d : Expr) → IsTranslated source around ws xs t u → IsTranslated source around xs ys a c → IsTranslated source around ys zs b d
      → IsTranslated source around ws zs (expr.Cond t a b) (expr.Cond u c d)
  unfolding get-more
  of-cond ws xs ys zs t a b u c d test then' else' = record {
    get = get-more ws xs zs test.get (get-more xs ys zs then'.get else'.get);
    order =
        ap (filter is_leaf) (roots-cond u c d)
        ∙ reads-cond ws xs ys zs test.get then'.get else'.get (roots_of u) (roots_of c) (roots_of d) test.order then'.order else'.order;
    same = λ rest few. cond (later ws xs zs t u (get-more xs ys zs then'.get else'.get) test rest few) (later xs ys zs a c else'.get then' rest few) (else'.same rest few);
  }

  -- the leaves of a whole expression
  pub of-all : (ys : List RowLeaf) (e x : Expr) → IsTranslated source around [] ys e x → Are ys e x
  of-all ys e x is =
      let same : ys ++ [] ≡ ys = nothing-after ys in
      let few : length ys < 2 ^ 32 = is.get.few (omega arith) in
      subst (λ l. Are l e x) same (is.same [] (subst (λ l. length l < 2 ^ 32) (sym same) few))

-- it reads them in order
pub ordered-all : (source : Source) (around : Around) (ys : List RowLeaf) (e x : Expr) → IsTranslated source around [] ys e x → IsOrdered (record { expr = x; leaves = ys })
ordered-all source around ys e x is = is.order ∙ ap (λ (l : List RowLeaf). range_with_len 0 (length l)) (sym is.get.is)

-- an expression that reads nothing
pub ordered-none : IsOrdered (record { expr = expr.Root 4294967295; leaves = [] })
ordered-none = ap (filter is_leaf) (roots-root 4294967295) ∙ ap (λ b. choose b (4294967295 ∷ []) []) no-leaf
