-- Each structure of the sample keeps the rules.
use Rattle.std.proofs.Common.{◌≡◌, ℕ, Bool, true, false, List, [], ◌∷◌, ap, sym, subst, ◌∙◌, arith, refl}
use Rattle.std.specs.Prelude.{Option, Some, None, is_some, IsTrue, All, Any, Contains, slice_get, ◌==◌, codes}
use Rattle.std.proofs.lemmas.Bool.{eqb-true}
use Rattle.std.proofs.lemmas.List.Elements.{All-from_recursion, All-contains}
use Rattle.gt_types.specs.declared.expressions.Base.{Base}
use Rattle.gt_types.specs.declared.expressions.Expr.{Expr}
use Rattle.gt_types.specs.declared.expressions.Expr.TheFolds.{fold-Expr, fold-roll-Expr}
use Rattle.gt_types.specs.declared.expressions.Expr.TheOpen as part
use Rattle.gt_types.specs.declared.expressions.Expr.TheVariants as expr
use Rattle.gt_types.specs.declared.types.TypeId.{TypeId}
use Rattle.gt_types.specs.declared.types.Ty.{Ty}
use Rattle.gt_types.specs.declared.types.Ty.TheVariants as ty
use Rattle.gt_types.specs.declared.program.Field.{Field}
use Rattle.gt_types.specs.declared.program.Structure.{Structure}
use Rattle.gt_types.specs.Operators.{HasOperators, operators_step}
use Rattle.gt_types.specs.Contains.{ContainsStructure, Nests, once, deeper}
use Rattle.gt_types.specs.Tails.{tail_of}
use Rattle.gt_types.specs.Unions.{may_be_active, BeginsWith, is_it, IsPlainStruct, IsCommon}
use Rattle.gt_types.specs.Paths.{Way, paths_of, paths_step, roots_of, roots_step, own_expressions, NamesOuter, IsInner, MayStand}
use Rattle.sample_program.specs.Sample.{sample, structures, item, base, wide, lone, node, held, member}
use Rattle.sample_program.proofs.Lists.{all_from, at_index, place_of, fact_of, none_in}
use Rattle.sample_program.proofs.Facts.{held_of, HoldsAsTold, IsTold, all_told}

-- ---- expressions

at-path : {A : Type 0} (step : part.Expr-F A → A) (b : Base) (steps : List (List ℕ)) → fold-Expr A step (expr.Path b steps) ≡ step (part.Path b steps)
at-path {A} step b steps = ap (fold-Expr A step) (sym (expr.rolls-Path b steps)) ∙ fold-roll-Expr A step (part.Path b steps)

-- what an expression that is a path alone is
pub path-operators : (b : Base) (steps : List (List ℕ)) → HasOperators (expr.Path b steps)
path-operators b steps = at-path operators_step b steps

pub path-paths : (b : Base) (steps : List (List ℕ)) → paths_of (expr.Path b steps) ≡ (b, steps) ∷ []
path-paths b steps = at-path paths_step b steps

pub path-roots : (b : Base) (steps : List (List ℕ)) → roots_of (expr.Path b steps) ≡ []
path-roots b steps = at-path roots_step b steps

-- one path of names is good where it is so for that path
pub one-path : (P : Way → Type 0) (b : Base) (steps : List (List ℕ)) → P (b, steps) → All P (paths_of (expr.Path b steps))
one-path P b steps p = subst (All P) (sym (path-paths b steps)) (All-from_recursion P ((b, steps) ∷ []) (p, tt))

-- ---- item may stand alone, and is all that pointers name

own-item : own_expressions item ≡ []
own-item = refl

pub item_stands : MayStand sample (node 0)
item_stands = (item, refl, not_inner, λ u. absurd (cc))
  where
    not_inner : ¬ IsInner sample (node 0)
    not_inner (s, has, some) =
        let same : item ≡ s = cc in
        none_in NamesOuter (subst (λ t. Any NamesOuter (own_expressions t)) (sym same) some)

-- ---- base is what unions begin with

abbrev is_none_of : Option TypeId → Bool
is_none_of None = true
is_none_of (Some n) = false

base_holds_none : all_from (λ i f. is_none_of (held_of f)) 0 base.fields ≡ true
base_holds_none = refl

base_contains_none : (inner : TypeId) → ¬ ContainsStructure sample (node 1) inner
base_contains_none inner (s, f, has, c, h) =
    let same : base ≡ s = cc in
    let in_base : Contains base.fields f = subst (λ t. Contains t.fields f) (sym same) c in
    let at = place_of base.fields f in_base in
    let none = at_index (λ i g. is_none_of (held_of g)) base.fields base_holds_none at.0 f at.1 in
    let told = All-contains HoldsAsTold base.fields f (fact_of IsTold structures all_told 1 base refl).held in_base in
    let some : held_of f ≡ Some inner = sym told ∙ h in
    let wrong : is_none_of (Some inner) ≡ true = subst (λ o. is_none_of o ≡ true) some none in
    absurd (cc)

base_nests_none : (n : ℕ) (inner : TypeId) → ¬ Nests sample n (node 1) inner
base_nests_none n inner (once c) = base_contains_none inner c
base_nests_none n inner (deeper {next = next} c rest) = base_contains_none next c

no_tail : (o : Option Ty) → is_some o ≡ false → o ≡ None
no_tail None h = refl
no_tail (Some t) h = absurd (cc)

-- each of two members of a union begins with base
pub common_base : (s : Structure) (f g : Field) (desc : Option Expr) → s.is_union ≡ true → s.fields ≡ f ∷ g ∷ [] → f.ty ≡ ty.Node (node 1) desc → BeginsWith sample f.ty (node 1) → BeginsWith sample g.ty (node 1)
    → IsCommon sample s (node 1)
common_base s f g desc union fields is first second = record {
  union = union;
  member = (f, desc, subst (λ fs. Contains fs f) (sym fields) (0, omega arith, refl), is);
  plain = (base, refl, refl, no_tail (tail_of base.fields) (fact_of IsTold structures all_told 1 base refl).tail);
  plain_inside = λ inner inside. absurd (base_nests_none inside.0 inner inside.1);
  begun = subst (All (λ h. IsTrue (may_be_active h.active) → BeginsWith sample h.ty (node 1))) (sym fields) (All-from_recursion (λ h. IsTrue (may_be_active h.active) → BeginsWith sample h.ty (node 1)) (f ∷ g ∷ []) (λ a. first, (λ a. second, tt)));
}

-- ---- wide is what lone begins with

pub plain_base : IsPlainStruct sample (node 1)
plain_base = (base, refl, refl, no_tail (tail_of base.fields) (fact_of IsTold structures all_told 1 base refl).tail)

-- a field holds this structure or none
abbrev is_at_most : ℕ → Option TypeId → Bool
is_at_most i None = true
is_at_most i (Some n) = n.0 == i

-- a structure whose fields hold this one or none contains no other
contains_at_most : (outer : ℕ) (s : Structure) (i : ℕ) → slice_get structures outer ≡ Some s → all_from (λ k f. is_at_most i (held_of f)) 0 s.fields ≡ true → (inner : TypeId) → ContainsStructure sample (node outer) inner → inner ≡ node i
contains_at_most outer s i there holds inner (t, f, has, c, h) =
    let same : s ≡ t = cc in
    let in_it : Contains s.fields f = subst (λ u. Contains u.fields f) (sym same) c in
    let at = place_of s.fields f in_it in
    let one = at_index (λ k g. is_at_most i (held_of g)) s.fields holds at.0 f at.1 in
    let told = All-contains HoldsAsTold s.fields f (fact_of IsTold structures all_told outer s there).held in_it in
    let some : held_of f ≡ Some inner = sym told ∙ h in
    let number : (inner.0 == i) ≡ true = subst (λ o. is_at_most i o ≡ true) some one in
    ap node (eqb-true inner.0 i number)

wide_contains : (inner : TypeId) → ContainsStructure sample (node 2) inner → inner ≡ node 1
wide_contains = contains_at_most 2 wide 1 refl refl

pub lone_contains : (inner : TypeId) → ContainsStructure sample (node 19) inner → inner ≡ node 2
lone_contains = contains_at_most 19 lone 2 refl refl

wide_inside : (n : ℕ) (inner : TypeId) → Nests sample n (node 2) inner → IsPlainStruct sample inner
wide_inside n inner (once c) = subst (IsPlainStruct sample) (sym (wide_contains inner c)) plain_base
wide_inside n inner (deeper {n = m} {next = next} c rest) = absurd (base_nests_none m inner (subst (λ k. Nests sample m k inner) (wide_contains next c) rest))

pub lone_common : IsCommon sample lone (node 2)
lone_common = record {
  union = refl;
  member = (member (codes "w") (held 2) 1, None, (0, omega arith, refl), refl);
  plain = (wide, refl, refl, no_tail (tail_of wide.fields) (fact_of IsTold structures all_told 2 wide refl).tail);
  plain_inside = λ inner inside. wide_inside inside.0 inner inside.1;
  begun = All-from_recursion (λ h. IsTrue (may_be_active h.active) → BeginsWith sample h.ty (node 2)) lone.fields (λ a. is_it, tt);
}
