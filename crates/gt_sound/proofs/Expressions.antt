-- What the grammar of expressions gives is well formed: operators have their operands, and paths go by names.
use Rattle.std.proofs.Common.{◌≡◌, ◌∙◌, ℕ, suc, ℤ, pos, true, not, List, [], ◌∷◌, ◌++◌, Option, Some, None, refl, sym, ap, subst, arith}
use Rattle.std.specs.Prelude.{All, IfSome}
use Rattle.std.proofs.lemmas.Bool.{and_from}
use Rattle.std.proofs.lemmas.List.Elements.{All-nil, All-cons, All-append}
use Rattle.gt_types.specs.Names.{IsName}
use Rattle.gt_types.specs.Operators.{HasOperators, has_one_operand, operators_step}
use Rattle.gt_types.specs.Paths.{paths_of, paths_step, Way}
use Rattle.gt_types.specs.declared.expressions.Base.{Base}
use Rattle.gt_types.specs.declared.expressions.Expr.{Expr}
use Rattle.gt_types.specs.declared.expressions.Expr.TheFolds.{fold-Expr, fold-roll-Expr}
use Rattle.gt_types.specs.declared.expressions.Expr.TheOpen as part
use Rattle.gt_types.specs.declared.expressions.Expr.TheOpen.{Expr-F}
use Rattle.gt_types.specs.declared.expressions.Expr.TheVariants as expr
use Rattle.gt_types.specs.declared.expressions.Op.{Op}
use Rattle.gt_types.specs.declared.expressions.Op.TheVariants.{Neg, Not}
use Rattle.gt_expr.specs.declared.part.Line.{Line}
use Rattle.gt_expr.specs.declared.part.Part.{Part}
use Rattle.gt_expr.specs.declared.part.Part.TheVariants.{Operator, Question, Colon, Dot, Close, Name}
use Rattle.gt_expr.specs.declared.raw.RawExpr.{RawExpr}
use Rattle.gt_expr.specs.declared.raw.RawExpr.TheFolds.{fold-roll-RawExpr}
use Rattle.gt_expr.specs.declared.raw.RawExpr.TheOpen as open_raw
use Rattle.gt_expr.specs.declared.raw.RawExpr.TheVariants as raw
use Rattle.gt_expr.specs.Expression.{IsExpression}
use Rattle.gt_expr.specs.Grammar.{level_of, IsPlace, Derives}
use Rattle.gt_items.specs.declared.items.Parameter.{Parameter}
use Rattle.gt_items.specs.declared.items.Parameter.TheVariants.{Absent, Expression, Text}
use Rattle.gt_markers.specs.Expressions.{Names, with_names, named_step, or_zero}
use Rattle.gt_markers.specs.Sound.{IsWellFormed}
use Rattle.gt_sound.proofs.Words.{AreParts, parts_named}

parts_left : (xs ys : List Part) → AreParts (xs ++ ys) → AreParts xs
parts_left [] ys h = tt
parts_left (x ∷ xs) ys h = (h.0, parts_left xs ys h.1)

parts_right : (xs ys : List Part) → AreParts (xs ++ ys) → AreParts ys
parts_right [] ys h = h
parts_right (x ∷ xs) ys h = parts_right xs ys h.1

steps_named : {ps : List Part} {base : Base} {steps : List (List ℕ)} → IsPlace ps base steps → AreParts ps → All IsName steps
steps_named IsPlace.at_base named = All-nil IsName
steps_named (IsPlace.in_brackets {ps} p) named = steps_named p (parts_left ps (Close ∷ []) named.1)
steps_named (IsPlace.with_step {ps} {steps = steps} name p) named =
    let right = parts_right ps (Dot ∷ Name name ∷ []) named in
    All-append IsName steps (name ∷ []) (steps_named p (parts_left ps (Dot ∷ Name name ∷ []) named)) (All-cons IsName name [] right.1.0 (All-nil IsName))

two_operands : (op : Op) (level : ℕ) → level_of op ≡ suc level → not (has_one_operand op) ≡ true
two_operands Neg level e = absurd (omega (arith, e))
two_operands Not level e = absurd (omega (arith, e))
two_operands op level e = refl

-- names stand for expressions that are well formed, without paths
abbrev AreGood : Names → Type 0
AreGood names = (word : List ℕ) → IfSome (names word) (λ e. HasOperators e × (paths_of e ≡ []))

abbrev PathNamed : Way → Type 0
PathNamed path = All IsName path.1

abbrev IsFormed : Expr → Type 0
IsFormed e = HasOperators e × All PathNamed (paths_of e)

-- ---- folds at each variant

expr-int : {A : Type 0} (step : Expr-F A → A) (n : ℤ) → fold-Expr A step (expr.Int n) ≡ step (part.Int n)
expr-int {A} step n = ap (fold-Expr A step) (sym (expr.rolls-Int n)) ∙ fold-roll-Expr A step (part.Int n)

expr-path : {A : Type 0} (step : Expr-F A → A) (base : Base) (steps : List (List ℕ)) → fold-Expr A step (expr.Path base steps) ≡ step (part.Path base steps)
expr-path {A} step base steps = ap (fold-Expr A step) (sym (expr.rolls-Path base steps)) ∙ fold-roll-Expr A step (part.Path base steps)

expr-one : {A : Type 0} (step : Expr-F A → A) (op : Op) (a : Expr) → fold-Expr A step (expr.One op a) ≡ step (part.One op (fold-Expr A step a))
expr-one {A} step op a = ap (fold-Expr A step) (sym (expr.rolls-One op a)) ∙ fold-roll-Expr A step (part.One op a)

expr-two : {A : Type 0} (step : Expr-F A → A) (op : Op) (a b : Expr) → fold-Expr A step (expr.Two op a b) ≡ step (part.Two op (fold-Expr A step a) (fold-Expr A step b))
expr-two {A} step op a b = ap (fold-Expr A step) (sym (expr.rolls-Two op a b)) ∙ fold-roll-Expr A step (part.Two op a b)

expr-cond : {A : Type 0} (step : Expr-F A → A) (t a b : Expr) → fold-Expr A step (expr.Cond t a b) ≡ step (part.Cond (fold-Expr A step t) (fold-Expr A step a) (fold-Expr A step b))
expr-cond {A} step t a b = ap (fold-Expr A step) (sym (expr.rolls-Cond t a b)) ∙ fold-roll-Expr A step (part.Cond t a b)

int_formed : (n : ℤ) → IsFormed (expr.Int n)
int_formed n = (expr-int operators_step n, subst (All PathNamed) (sym (expr-int paths_step n)) (All-nil PathNamed))

path_formed : (base : Base) (steps : List (List ℕ)) → All IsName steps → IsFormed (expr.Path base steps)
path_formed base steps named =
    (expr-path operators_step base steps, subst (All PathNamed) (sym (expr-path paths_step base steps)) (All-cons PathNamed (base, steps) [] named (All-nil PathNamed)))

one_formed : (op : Op) (a : Expr) → has_one_operand op ≡ true → IsFormed a → IsFormed (expr.One op a)
one_formed op a h x = (expr-one operators_step op a ∙ and_from _ _ h x.0, subst (All PathNamed) (sym (expr-one paths_step op a)) x.1)

two_formed : (op : Op) (a b : Expr) → not (has_one_operand op) ≡ true → IsFormed a → IsFormed b → IsFormed (expr.Two op a b)
two_formed op a b h x y = (
  expr-two operators_step op a b ∙ and_from _ _ (and_from _ _ h x.0) y.0,
  subst (All PathNamed) (sym (expr-two paths_step op a b)) (All-append PathNamed (paths_of a) (paths_of b) x.1 y.1),
)

cond_formed : (t a b : Expr) → IsFormed t → IsFormed a → IsFormed b → IsFormed (expr.Cond t a b)
cond_formed t a b x y z = (
  expr-cond operators_step t a b ∙ and_from _ _ (and_from _ _ x.0 y.0) z.0,
  subst (All PathNamed) (sym (expr-cond paths_step t a b)) (All-append PathNamed (paths_of t ++ paths_of a) (paths_of b) (All-append PathNamed (paths_of t) (paths_of a) x.1 y.1) z.1),
)

name_formed : (o : Option Expr) → IfSome o (λ e. HasOperators e × (paths_of e ≡ [])) → IsFormed (or_zero o)
name_formed None h = int_formed (pos 0)
name_formed (Some e) h = (h.0, subst (All PathNamed) (sym h.1) (All-nil PathNamed))

module _ (names : Names) (good : AreGood names) where
  raw-int : (n : ℤ) → with_names names (raw.Int n) ≡ expr.Int n
  raw-int n = ap (with_names names) (sym (raw.rolls-Int n)) ∙ fold-roll-RawExpr Expr (named_step names) (open_raw.Int n)

  raw-path : (base : Base) (steps : List (List ℕ)) → with_names names (raw.Path base steps) ≡ expr.Path base steps
  raw-path base steps = ap (with_names names) (sym (raw.rolls-Path base steps)) ∙ fold-roll-RawExpr Expr (named_step names) (open_raw.Path base steps)

  raw-named : (word : List ℕ) → with_names names (raw.Named word) ≡ or_zero (names word)
  raw-named word = ap (with_names names) (sym (raw.rolls-Named word)) ∙ fold-roll-RawExpr Expr (named_step names) (open_raw.Named word)

  raw-one : (op : Op) (a : RawExpr) → with_names names (raw.One op a) ≡ expr.One op (with_names names a)
  raw-one op a = ap (with_names names) (sym (raw.rolls-One op a)) ∙ fold-roll-RawExpr Expr (named_step names) (open_raw.One op a)

  raw-two : (op : Op) (a b : RawExpr) → with_names names (raw.Two op a b) ≡ expr.Two op (with_names names a) (with_names names b)
  raw-two op a b = ap (with_names names) (sym (raw.rolls-Two op a b)) ∙ fold-roll-RawExpr Expr (named_step names) (open_raw.Two op a b)

  raw-cond : (t a b : RawExpr) → with_names names (raw.Cond t a b) ≡ expr.Cond (with_names names t) (with_names names a) (with_names names b)
  raw-cond t a b = ap (with_names names) (sym (raw.rolls-Cond t a b)) ∙ fold-roll-RawExpr Expr (named_step names) (open_raw.Cond t a b)

  formed : {line : Line} {ps : List Part} {t : RawExpr} → Derives line ps t → AreParts ps → IsFormed (with_names names t)
  formed (Derives.no_choice d) named = formed d named
  formed (Derives.choice {xs} {ys} {zs} {test} {first} {second} d e f) named =
      let front = parts_left (xs ++ Question ∷ ys) (Colon ∷ zs) named in
      subst IsFormed (sym (raw-cond test first second))
      (cond_formed (with_names names test) (with_names names first) (with_names names second)
      (formed d (parts_left xs (Question ∷ ys) front))
      (formed e (parts_right xs (Question ∷ ys) front).1)
      (formed f (parts_right (xs ++ Question ∷ ys) (Colon ∷ zs) named).1))
  formed (Derives.operand d) named = formed d named
  formed (Derives.operation {level} {xs} {ys} {op} {a} {b} e d f) named =
      subst IsFormed (sym (raw-two op a b))
      (two_formed op (with_names names a) (with_names names b) (two_operands op level e) (formed d (parts_left xs (Operator op ∷ ys) named)) (formed f (parts_right xs (Operator op ∷ ys) named).1))
  formed (Derives.negated {a = a} d) named = subst IsFormed (sym (raw-one Not a)) (one_formed Not (with_names names a) refl (formed d named.1))
  formed (Derives.negative {a = a} d) named = subst IsFormed (sym (raw-one Neg a)) (one_formed Neg (with_names names a) refl (formed d named.1))
  formed (Derives.integer {value}) named = subst IsFormed (sym (raw-int value)) (int_formed value)
  formed (Derives.named {name}) named = subst IsFormed (sym (raw-named name)) (name_formed (names name) (good name))
  formed (Derives.place {base = base} {steps = steps} p) named = subst IsFormed (sym (raw-path base steps)) (path_formed base steps (steps_named p named))
  formed (Derives.bracketed {ps} d) named = formed d (parts_left ps (Close ∷ []) named.1)

-- a parameter is well formed, whatever names stand for
abbrev pub IsFormedParameter : Parameter → Type 0
IsFormedParameter p = (names : Names) → AreGood names → IsWellFormed names p

pub absent_formed : IsFormedParameter Absent
absent_formed names good = tt

pub text_formed : (text : List ℕ) → IsFormedParameter (Text text)
text_formed text names good = tt

pub expression_formed : (text : List ℕ) (tree : RawExpr) → IsExpression text tree → IsFormedParameter (Expression tree)
expression_formed text tree is names good = formed names good is.has_tree (parts_named 0 text)
