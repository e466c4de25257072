-- A type that is made from a declarator and has no fault is sound.
use Rattle.std.proofs.Common.{◌≡◌, ◌∙◌, ℕ, ◌≤◌, ℤ, pos, negsuc, int_le, Bool, true, false, not, ◌&&◌, ◌||◌, List, [], ◌∷◌, length, map, Option, Some, None, Result, Ok, Err, refl, sym, ap, nat_lt, nat_le, if◌then◌else◌}
use Rattle.std.specs.Prelude.{All, IfSome}
use Rattle.std.specs.Option.{option_map_or}
use Rattle.std.specs.List.{list_any}
use Rattle.std.proofs.lemmas.Bool.{or_parts, and_parts, true≢false, not-false, ltb-false, leb-true}
use Rattle.std.proofs.lemmas.List.Elements.{All-nil, All-cons, All-head, All-tail}
use Rattle.gt_types.specs.declared.types.Scalar.{Scalar}
use Rattle.gt_types.specs.Shapes.{bits_of}
use Rattle.gt_expr.specs.declared.raw.RawExpr.{RawExpr}
use Rattle.gt_expr.specs.Expression.{expression_of}
use Rattle.gt_types.specs.declared.expressions.Expr.{Expr}
use Rattle.gt_items.specs.declared.items.RawOption.{RawOption}
use Rattle.gt_items.specs.declared.items.Stars.{Stars}
use Rattle.gt_items.specs.declared.items.Stars.TheVariants.{Zero, One, Two, More}
use Rattle.gt_types.specs.declared.limits.TheConstants.{MAX_DIMENSIONS}
use Rattle.gt_drafts.specs.declared.types.Amount.{Amount}
use Rattle.gt_drafts.specs.declared.types.Amount.TheVariants.{Unread, NoExpression, NoValue, Is}
use Rattle.gt_drafts.specs.declared.types.Amount.TheVariants as amount
use Rattle.gt_drafts.specs.declared.types.BaseType.{BaseType}
use Rattle.gt_drafts.specs.declared.types.BaseType.TheVariants.{Number, Float, Double, Sizeless, Structure, Undefined, Unknown}
use Rattle.gt_drafts.specs.declared.types.DeclaredType.{DeclaredType}
use Rattle.gt_scope.specs.declared.declaration.Declaration.{Declaration}
use Rattle.gt_drafts.specs.declared.draft.Draft.{Draft}
use Rattle.gt_drafts.specs.Amounts.{has_path, with_values, constant_value, amount_of, amount_of_value, amount_of_reading}
use Rattle.gt_scope.specs.Declarations.{constant_in}
use Rattle.gt_drafts.specs.Options.{has_length}
use Rattle.gt_resolve.specs.Drafts.{amount_in, bounds_of}
use Rattle.gt_resolve.specs.Faults.{is_bad_bound, is_bad_count, is_bad_field, unit_bits, is_misused_tail, is_bad_type}
use Rattle.gt_drafts.specs.Shapes.{AreShapes, is_nil}
use Rattle.gt_markers.specs.Sound.{IsBound, AreBounds, IsBitCount, NamesStructure, IsSoundType}
use Rattle.gt_sound.proofs.Distinct.{any_none}
use Rattle.gt_sound.proofs.Shapes.{IsFree, keeps_tail}

-- ---- amounts that are read

abbrev pub IsRead : Amount → Type 0
IsRead Unread = ⊥
IsRead NoExpression = Unit {0}
IsRead amount.Undefined = Unit {0}
IsRead NoValue = Unit {0}
IsRead (Is n) = Unit {0}

read_number : (value : Option ℤ) → IsRead (option_map_or Is value NoValue)
read_number None = tt
read_number (Some n) = tt

read_value : (e : Option Expr) → IsRead (amount_of_value e)
read_value None = tt
read_value (Some e) = read_number (constant_value e)

read_if : (b : Bool) (a c : Amount) → IsRead a → IsRead c → IsRead (if b then a else c)
read_if true a c h k = h
read_if false a c h k = k

read_reading : (value : List ℕ → Option ℤ) (r : Result RawExpr ℕ) → IsRead (amount_of_reading value r)
read_reading value (Ok tree) = read_if (has_path tree) NoExpression (amount_of_value (with_values value tree)) tt (read_value (with_values value tree))
read_reading value (Err number) = tt

pub read_amount : (ds : List Declaration) (text : List ℕ) → IsRead (amount_in ds text)
unfolding amount_of
read_amount ds text = read_reading (constant_in ds) (expression_of text)

-- the outermost bound is not read where `length` replaces it; the others are
abbrev pub AreRead : Bool → List Amount → Type 0
AreRead replaced [] = Unit {0}
AreRead true (bound ∷ bounds) = (bound ≡ Unread) × All IsRead bounds
AreRead false (bound ∷ bounds) = All IsRead (bound ∷ bounds)

all_read : (ds : List Declaration) (texts : List (List ℕ)) → All IsRead (map (amount_in ds) texts)
all_read ds [] = All-nil IsRead
all_read ds (text ∷ texts) = All-cons IsRead (amount_in ds text) (map (amount_in ds) texts) (read_amount ds text) (all_read ds texts)

pub read_bounds : (ds : List Declaration) (replaced : Bool) (texts : List (List ℕ)) → AreRead replaced (bounds_of ds replaced texts)
read_bounds ds true [] = tt
read_bounds ds false [] = tt
read_bounds ds true (text ∷ texts) = (refl, all_read ds texts)
read_bounds ds false (text ∷ texts) = all_read ds (text ∷ texts)

-- ---- numbers in a range

abbrev IsFrom1 : ℕ → ℤ → Type 0
IsFrom1 most n = (k : ℕ) × (n ≡ pos k) × (1 ≤ k) × (k ≤ most)

from1 : (most : ℕ) (n : ℤ) → not (int_le (pos 1) n && int_le n (pos most)) ≡ false → IsFrom1 most n
from1 most (pos k) h =
    let both = and_parts (nat_le 1 k) (nat_le k most) (not-false (nat_le 1 k && nat_le k most) h) in
    (k, refl, leb-true 1 k both.0, leb-true k most both.1)
from1 most (negsuc k) h = absurd (true≢false h)

-- ---- bounds

bound_good : (a : Amount) → IsRead a → is_bad_bound a ≡ false → IsBound a
bound_good Unread r h = absurd r
bound_good NoExpression r h = absurd (true≢false h)
bound_good amount.Undefined r h = absurd (true≢false h)
bound_good NoValue r h = absurd (true≢false h)
bound_good (Is n) r h = let k = from1 1048576 n h in (k.0, ap (λ m. Is m) k.1, k.2, k.3)

bounds_good : (bounds : List Amount) → All IsRead bounds → All (λ a. is_bad_bound a ≡ false) bounds → All IsBound bounds
bounds_good [] r h = All-nil IsBound
bounds_good (a ∷ bounds) r h =
    All-cons IsBound a bounds (bound_good a (All-head IsRead a bounds r) (All-head (λ x. is_bad_bound x ≡ false) a bounds h))
    (bounds_good bounds (All-tail IsRead a bounds r) (All-tail (λ x. is_bad_bound x ≡ false) a bounds h))

are_bounds : (replaced : Bool) (bounds : List Amount) → AreRead replaced bounds → All (λ a. is_bad_bound a ≡ false) bounds → AreBounds replaced bounds
are_bounds true [] r h = tt
are_bounds false [] r h = tt
are_bounds true (bound ∷ bounds) r h = (r.0, bounds_good bounds r.1 (All-tail (λ x. is_bad_bound x ≡ false) bound bounds h))
are_bounds false (bound ∷ bounds) r h = bounds_good (bound ∷ bounds) r h

-- ---- bits

-- the count of a bit-field of a number
abbrev IsCount : BaseType → Stars → Amount → Type 0
IsCount base stars a = (n : ℕ) × (a ≡ Is (pos n)) × (1 ≤ n) × (stars ≡ Zero) × ((s : Scalar) × (is_char : Bool) × (base ≡ Number s is_char) × (n ≤ bits_of s))

no_count : (a : Amount) → is_bad_count None a ≡ true
no_count Unread = refl
no_count NoExpression = refl
no_count amount.Undefined = refl
no_count NoValue = refl
no_count (Is n) = refl

number_count : (s : Scalar) (is_char : Bool) (a : Amount) → is_bad_count (Some (bits_of s)) a ≡ false → IsCount (Number s is_char) Zero a
number_count s is_char Unread h = absurd (true≢false h)
number_count s is_char NoExpression h = absurd (true≢false h)
number_count s is_char amount.Undefined h = absurd (true≢false h)
number_count s is_char NoValue h = absurd (true≢false h)
number_count s is_char (Is n) h =
    let k = from1 (bits_of s) n h in
    (k.0, ap (λ m. Is m) k.1, k.2, refl, (s, is_char, refl, k.3))

count_good : (base : BaseType) (stars : Stars) (a : Amount) → is_bad_count (unit_bits (record { base = base; stars = stars })) a ≡ false → IsCount base stars a
count_good (Number s is_char) Zero a h = number_count s is_char a h
count_good Float Zero a h = absurd (true≢false (sym (no_count a) ∙ h))
count_good Double Zero a h = absurd (true≢false (sym (no_count a) ∙ h))
count_good Sizeless Zero a h = absurd (true≢false (sym (no_count a) ∙ h))
count_good (Structure id) Zero a h = absurd (true≢false (sym (no_count a) ∙ h))
count_good (Undefined k tag) Zero a h = absurd (true≢false (sym (no_count a) ∙ h))
count_good Unknown Zero a h = absurd (true≢false (sym (no_count a) ∙ h))
count_good base One a h = absurd (true≢false (sym (no_count a) ∙ h))
count_good base Two a h = absurd (true≢false (sym (no_count a) ∙ h))
count_good base More a h = absurd (true≢false (sym (no_count a) ∙ h))

nil_is : {X : Type 0} (xs : List X) → not (is_nil xs) ≡ false → xs ≡ []
nil_is [] h = refl
nil_is (x ∷ xs) h = absurd (true≢false h)

some_none : {X : Type 0} (x : X) → Some x ≡ None → ⊥
some_none x e = cc

no_function : (b : Bool) (bits : Option Amount) (a : Amount) → (b ≡ true → bits ≡ None) → bits ≡ Some a → b ≡ false
no_function true bits a plain is = absurd (some_none a (sym is ∙ plain refl))
no_function false bits a plain is = refl

bits_good : (t : DeclaredType) (bits : Option Amount) → (t.is_function ≡ true → bits ≡ None) → option_map_or (is_bad_field t) bits false ≡ false → IfSome bits (IsBitCount t)
bits_good t None plain h = tt
bits_good t (Some a) plain h =
    let parts = or_parts (not (is_nil t.bounds)) (is_bad_count (unit_bits t.resolved) a) h in
    let count = count_good t.resolved.base t.resolved.stars a parts.1 in
    (count.0, count.1, count.2, nil_is t.bounds parts.0, count.3, no_function t.is_function (Some a) a plain refl, count.4)

-- ---- types

-- how the type of a declarator is made, in a draft
pub record IsMadeType (draft : Draft) (options : List RawOption) (t : DeclaredType) : Type 0 where
  pub bounds : AreRead (has_length options) t.bounds
  pub plain : t.is_function ≡ true → t.bits ≡ None
  pub there : NamesStructure draft t.resolved.base

pub sound_type : (draft : Draft) (cyclic deep tails : List Bool) → AreShapes draft.structures cyclic deep tails → (in_union : Bool) (options : List RawOption) (t : DeclaredType)
    → IsMadeType draft options t → IsFree tails in_union options t → IsSoundType draft in_union options t
unfolding is_bad_type
sound_type draft cyclic deep tails shapes in_union options t made free =
    let many = nat_lt MAX_DIMENSIONS (length t.bounds) in
    let bound = list_any is_bad_bound t.bounds in
    let bits = option_map_or (is_bad_field t) t.bits false in
    let three = or_parts (many || bound || bits) (is_misused_tail tails in_union options t) free.1 in
    let two = or_parts (many || bound) bits three.0 in
    let one = or_parts many bound two.0 in
    record {
      bounds = are_bounds (has_length options) t.bounds made.bounds (any_none is_bad_bound t.bounds one.1);
      few = ltb-false MAX_DIMENSIONS (length t.bounds) one.0;
      bits = bits_good t t.bits made.plain two.1;
      defined = free.0;
      there = made.there;
      tail = keeps_tail draft.structures cyclic deep tails shapes in_union options t three.1;
    }
