-- What expressions of options name, as headers spell them and as the program has them.
use Rattle.std.proofs.Common.{◌≡◌, ◌∙◌, inl, inr, ℕ, ℤ, pos, Bool, true, false, ◌||◌, List, [], ◌∷◌, ◌++◌, Option, Some, None, refl, sym, ap, subst, arith}
use Rattle.std.specs.Prelude.{Any, if◌then◌else◌, is_none, option_map}
use Rattle.std.specs.Bool.{Decides}
use Rattle.gt_types.specs.declared.expressions.Base.{Base}
use Rattle.gt_types.specs.declared.expressions.Base.TheVariants.{Here, Outer, Outermost}
use Rattle.gt_types.specs.declared.expressions.Op.{Op}
use Rattle.gt_types.specs.declared.expressions.Expr.TheFolds.{fold-roll-Expr}
use Rattle.gt_types.specs.declared.expressions.Expr.TheOpen as part
use Rattle.gt_types.specs.declared.expressions.Expr.TheVariants as expr
use Rattle.gt_types.specs.Paths.{NamesOuter, Way, paths_of, paths_step}
use Rattle.gt_paths.proofs.PartLists.{paths-path, paths-one, paths-two, paths-cond}
use Rattle.gt_paths.proofs.Walks.{any_joins, some_of_one}
use Rattle.gt_expr.specs.declared.raw.RawExpr.{RawExpr, roll-RawExpr}
use Rattle.gt_expr.specs.declared.raw.RawExpr.TheFolds.{fold-RawExpr, fold-roll-RawExpr, ind-RawExpr, map-RawExpr}
use Rattle.gt_expr.specs.declared.raw.RawExpr.TheOpen as layer
use Rattle.gt_expr.specs.declared.raw.RawExpr.TheOpen.{RawExpr-F}
use Rattle.gt_expr.specs.declared.raw.RawExpr.TheVariants as raw
use Rattle.gt_items.specs.declared.items.Parameter.{Parameter}
use Rattle.gt_items.specs.declared.items.Parameter.TheVariants.{Absent, Expression, Text}
use Rattle.gt_drafts.specs.declared.draft.Draft.{Draft}
use Rattle.gt_drafts.specs.Amounts.{amount_of_value, has_path, path_step, with_values}
use Rattle.gt_drafts.specs.declared.types.Amount.TheVariants.{NoExpression}
use Rattle.gt_markers.specs.Expressions.{constant_of, constant_value, constants, expression_of, named_step, or_zero, value_of_amount, with_names}
use Rattle.gt_rules.specs.Inner.{is_outer, names_container, outer_step, parameter_names_container}

-- ---- each expression

-- what holds of each variant of an expression as it is spelled, where it holds of the parts
record OfRaw (P : RawExpr → Type 0) : Type 0 where
  int : (n : ℤ) → P (raw.Int n)
  path : (base : Base) (steps : List (List ℕ)) → P (raw.Path base steps)
  named : (word : List ℕ) → P (raw.Named word)
  one : (op : Op) (a : RawExpr) → P a → P (raw.One op a)
  two : (op : Op) (a b : RawExpr) → P a → P b → P (raw.Two op a b)
  cond : (test a b : RawExpr) → P test → P a → P b → P (raw.Cond test a b)

raw_layer : (P : RawExpr → Type 0) → OfRaw P → (y : RawExpr-F ((e : RawExpr) × P e)) → P (roll-RawExpr (map-RawExpr ((e : RawExpr) × P e) RawExpr (λ e. e.0) y))
raw_layer P h (layer.Int n) = subst P (sym (raw.rolls-Int n)) (h.int n)
raw_layer P h (layer.Path base steps) = subst P (sym (raw.rolls-Path base steps)) (h.path base steps)
raw_layer P h (layer.Named word) = subst P (sym (raw.rolls-Named word)) (h.named word)
raw_layer P h (layer.One op a) = subst P (sym (raw.rolls-One op a.0)) (h.one op a.0 a.1)
raw_layer P h (layer.Two op a b) = subst P (sym (raw.rolls-Two op a.0 b.0)) (h.two op a.0 b.0 a.1 b.1)
raw_layer P h (layer.Cond t a b) = subst P (sym (raw.rolls-Cond t.0 a.0 b.0)) (h.cond t.0 a.0 b.0 t.1 a.1 b.1)

each_raw : (P : RawExpr → Type 0) → OfRaw P → (e : RawExpr) → P e
each_raw P h = ind-RawExpr P (λ x y is. subst (λ z. P (roll-RawExpr z)) is (raw_layer P h y))

-- ---- folds at each variant

module _ {A : Type 0} (step : RawExpr-F A → A) where
  raw-int : (n : ℤ) → fold-RawExpr A step (raw.Int n) ≡ step (layer.Int n)
  raw-int n = ap (fold-RawExpr A step) (sym (raw.rolls-Int n)) ∙ fold-roll-RawExpr A step (layer.Int n)

  raw-path : (base : Base) (steps : List (List ℕ)) → fold-RawExpr A step (raw.Path base steps) ≡ step (layer.Path base steps)
  raw-path base steps = ap (fold-RawExpr A step) (sym (raw.rolls-Path base steps)) ∙ fold-roll-RawExpr A step (layer.Path base steps)

  raw-named : (word : List ℕ) → fold-RawExpr A step (raw.Named word) ≡ step (layer.Named word)
  raw-named word = ap (fold-RawExpr A step) (sym (raw.rolls-Named word)) ∙ fold-roll-RawExpr A step (layer.Named word)

  raw-one : (op : Op) (a : RawExpr) → fold-RawExpr A step (raw.One op a) ≡ step (layer.One op (fold-RawExpr A step a))
  raw-one op a = ap (fold-RawExpr A step) (sym (raw.rolls-One op a)) ∙ fold-roll-RawExpr A step (layer.One op a)

  raw-two : (op : Op) (a b : RawExpr) → fold-RawExpr A step (raw.Two op a b) ≡ step (layer.Two op (fold-RawExpr A step a) (fold-RawExpr A step b))
  raw-two op a b = ap (fold-RawExpr A step) (sym (raw.rolls-Two op a b)) ∙ fold-roll-RawExpr A step (layer.Two op a b)

  raw-cond : (t a b : RawExpr) → fold-RawExpr A step (raw.Cond t a b) ≡ step (layer.Cond (fold-RawExpr A step t) (fold-RawExpr A step a) (fold-RawExpr A step b))
  raw-cond t a b = ap (fold-RawExpr A step) (sym (raw.rolls-Cond t a b)) ∙ fold-roll-RawExpr A step (layer.Cond t a b)

-- ---- paths from the structure that contains the own

abbrev StartsOuter : Way → Type 0
StartsOuter path = path.0 ≡ Outer

outer_base : (base : Base) → Decides (is_outer base) (base ≡ Outer)
outer_base Here = (λ e. absurd (cc), λ e. absurd (cc))
outer_base Outer = (λ e. refl, λ e. refl)
outer_base Outermost = (λ e. absurd (cc), λ e. absurd (cc))

in_either : (a b : Bool) (xs ys : List Way) → Decides a (Any StartsOuter xs) → Decides b (Any StartsOuter ys) → Decides (a || b) (Any StartsOuter (xs ++ ys))
in_either true b xs ys one two = (λ e. (any_joins StartsOuter).first xs ys (one.0 refl), λ any. refl)
in_either false b xs ys one two = (
  λ e. (any_joins StartsOuter).second xs ys (two.0 e),
  λ any. elim ((any_joins StartsOuter).cases xs ys any) [
    | inl first ↦ let never = one.1 first in absurd (cc)
    | inr second ↦ two.1 second
  ],
)

moved : (a b : Bool) (xs ys : List Way) → a ≡ b → xs ≡ ys → Decides b (Any StartsOuter ys) → Decides a (Any StartsOuter xs)
moved a b xs ys same are decides = subst (λ (x : Bool). Decides x (Any StartsOuter xs)) (sym same) (subst (λ (zs : List Way). Decides b (Any StartsOuter zs)) (sym are) decides)

none_outer : Decides false (Any StartsOuter [])
none_outer = (λ e. absurd (cc), λ any. absurd (omega (arith, any.2)))

module _ (draft : Draft) where
  abbrev Same : RawExpr → Type 0
  Same e = Decides (names_container e) (NamesOuter (with_names (constants draft) e))

  int_ways : (n : ℤ) → paths_of (expr.Int n) ≡ []
  int_ways n = ap paths_of (sym (expr.rolls-Int n)) ∙ fold-roll-Expr (List Way) paths_step (part.Int n)

  constant_ways : (o : Option ℤ) → paths_of (or_zero (option_map expr.Int o)) ≡ []
  constant_ways None = int_ways (pos 0)
  constant_ways (Some n) = int_ways n

  same : OfRaw Same
  same = record {
    int = λ n. moved _ false _ [] (raw-int outer_step n) (ap paths_of (raw-int (named_step (constants draft)) n) ∙ int_ways n) none_outer;
    path = λ base steps. moved _ (is_outer base) _ ((base, steps) ∷ []) (raw-path outer_step base steps)
        (ap paths_of (raw-path (named_step (constants draft)) base steps) ∙ paths-path base steps)
        (some_of_one StartsOuter (base, steps) (is_outer base) (outer_base base));
    named = λ word. moved _ false _ [] (raw-named outer_step word) (ap paths_of (raw-named (named_step (constants draft)) word) ∙ constant_ways (constant_of draft word)) none_outer;
    one = λ op a of_a. moved _ (names_container a) _ (paths_of (with_names (constants draft) a)) (raw-one outer_step op a)
        (ap paths_of (raw-one (named_step (constants draft)) op a) ∙ paths-one op (with_names (constants draft) a)) of_a;
    two = λ op a b of_a of_b.
        let x = with_names (constants draft) a in
        let y = with_names (constants draft) b in
        moved _ (names_container a || names_container b) _ (paths_of x ++ paths_of y) (raw-two outer_step op a b)
        (ap paths_of (raw-two (named_step (constants draft)) op a b) ∙ paths-two op x y) (in_either (names_container a) (names_container b) (paths_of x) (paths_of y) of_a of_b);
    cond = λ t a b of_t of_a of_b.
        let z = with_names (constants draft) t in
        let x = with_names (constants draft) a in
        let y = with_names (constants draft) b in
        moved _ (names_container t || names_container a || names_container b) _ (paths_of z ++ paths_of x ++ paths_of y) (raw-cond outer_step t a b)
        (ap paths_of (raw-cond (named_step (constants draft)) t a b) ∙ paths-cond z x y)
        (in_either (names_container t || names_container a) (names_container b) (paths_of z ++ paths_of x) (paths_of y)
        (in_either (names_container t) (names_container a) (paths_of z) (paths_of x) of_t of_a) of_b);
  }

  -- an expression names the structure that contains its own, with its constants for their names, where it does so as it is spelled
  pub outer_same : (p : Parameter) → Decides (parameter_names_container p) (NamesOuter (expression_of (constants draft) p))
  outer_same (Expression e) = each_raw Same same e
  outer_same Absent = moved false false _ [] refl (int_ways (pos 0)) none_outer
  outer_same (Text text) = moved false false _ [] refl (int_ways (pos 0)) none_outer

-- ---- an expression with a path is no constant

abbrev Follows : Bool → Bool → Type 0
Follows a b = a ≡ true → b ≡ true

follow_either : (a b c d : Bool) → Follows a c → Follows b d → Follows (a || b) (c || d)
follow_either true b true d one two e = refl
follow_either true b false d one two e = let never = one refl in absurd (cc)
follow_either false b true d one two e = refl
follow_either false b false d one two e = two e

follow_same : (a b c d : Bool) → a ≡ b → c ≡ d → Follows b d → Follows a c
follow_same a b c d left right follows e = right ∙ follows (sym left ∙ e)

pathed : OfRaw (λ e. Follows (names_container e) (has_path e))
pathed = record {
  int = λ n. follow_same _ false _ false (raw-int outer_step n) (raw-int path_step n) (λ e. e);
  path = λ base steps. follow_same _ (is_outer base) _ true (raw-path outer_step base steps) (raw-path path_step base steps) (λ e. refl);
  named = λ word. follow_same _ false _ false (raw-named outer_step word) (raw-named path_step word) (λ e. e);
  one = λ op a of_a. follow_same _ (names_container a) _ (has_path a) (raw-one outer_step op a) (raw-one path_step op a) of_a;
  two = λ op a b of_a of_b. follow_same _ (names_container a || names_container b) _ (has_path a || has_path b) (raw-two outer_step op a b) (raw-two path_step op a b)
      (follow_either (names_container a) (names_container b) (has_path a) (has_path b) of_a of_b);
  cond = λ t a b of_t of_a of_b.
      follow_same _ (names_container t || names_container a || names_container b) _ (has_path t || has_path a || has_path b) (raw-cond outer_step t a b) (raw-cond path_step t a b)
      (follow_either (names_container t || names_container a) (names_container b) (has_path t || has_path a) (has_path b)
      (follow_either (names_container t) (names_container a) (has_path t) (has_path a) of_t of_a) of_b);
}

pub outer_no_constant : (draft : Draft) (p : Parameter) → parameter_names_container p ≡ true → is_none (constant_value draft p) ≡ true
outer_no_constant draft (Expression e) outer =
    let path = each_raw (λ x. Follows (names_container x) (has_path x)) pathed e outer in
    ap (λ (b : Bool). is_none (value_of_amount (if b then NoExpression else amount_of_value (with_values (constant_of draft) e)))) path
outer_no_constant draft Absent outer = refl
outer_no_constant draft (Text text) outer = refl
