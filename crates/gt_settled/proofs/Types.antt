-- The types that options give, case by case.
use Rattle.std.proofs.Common.{◌≡◌, ◌∙◌, ℕ, ◌≤◌, Bool, true, false, not, ◌&&◌, List, [], ◌∷◌, Option, Some, None, IfSome, refl, sym, ap, subst, arith}
use Rattle.std.specs.Prelude.{codes, if◌then◌else◌, option_map, is_none}
use Rattle.std.proofs.lemmas.Option.{same_Some, none-some}
use Rattle.gt_types.specs.declared.expressions.Expr.{Expr}
use Rattle.gt_types.specs.declared.types.Scalar.{Scalar}
use Rattle.gt_types.specs.declared.types.Target.TheVariants as target
use Rattle.gt_types.specs.declared.types.PtrKind.TheVariants as kind
use Rattle.gt_types.specs.declared.types.Ty.{Ty}
use Rattle.gt_types.specs.declared.types.Ty.TheVariants as ty
use Rattle.gt_types.specs.Shapes.{bits_of}
use Rattle.gt_items.specs.declared.items.Keyword.{Keyword}
use Rattle.gt_items.specs.declared.items.RawOption.{RawOption}
use Rattle.gt_items.specs.declared.items.Stars.{Stars}
use Rattle.gt_items.specs.declared.items.Stars.TheVariants.{Zero, One, Two, More}
use Rattle.gt_layout.specs.declared.planes.Plane.{Plane}
use Rattle.gt_drafts.specs.declared.types.Amount.{Amount}
use Rattle.gt_drafts.specs.declared.types.BaseType.{BaseType}
use Rattle.gt_drafts.specs.declared.types.BaseType.TheVariants as base
use Rattle.gt_drafts.specs.declared.types.DeclaredType.{DeclaredType}
use Rattle.gt_drafts.specs.declared.draft.Draft.{Draft}
use Rattle.gt_drafts.specs.Options.{has_skip}
use Rattle.gt_drafts.specs.Undefined.{is_zero}
use Rattle.gt_markers.specs.declared.type_options.TypeOptions.{TypeOptions}
use Rattle.gt_markers.specs.Expressions.{Names}
use Rattle.gt_markers.specs.Sound.{IsBitCount}
use Rattle.gt_markers.specs.Typing.{amount, arrays, array_type, bits_type, declared_type, desc_at, expression_named, kind_by, node, of_elements, opaque_type, or_faulty, or_opaque, pointer_or_atomic, pointer_type, says, single_type, skipped_by, skipped_single, skipped_type, type_by, value_type, walked_by, walked_type}

-- ---- what is no array

pub data Single (draft : Draft) (o : TypeOptions) (t : DeclaredType) : Ty → Type 0 where
  number : {s : Scalar} {is_char : Bool} → t.resolved.base ≡ base.Number s is_char → t.resolved.stars ≡ Zero → Single draft o t (ty.Num s)
  structure : {id : ℕ} → t.resolved.base ≡ base.Structure id → t.resolved.stars ≡ Zero → Single draft o t (ty.Node (node id) (desc_at draft id o.desc))
  atomic : o.atomic ≡ true → is_zero t.resolved.stars ≡ false → Single draft o t (ty.Ptr None kind.Atomic o.reorder)
  pointer : {id : ℕ} → t.resolved.base ≡ base.Structure id → t.resolved.stars ≡ One → Single draft o t (ty.Ptr (Some (target.Node (node id))) (kind_by o.length) o.reorder)
  pointers : {id : ℕ} {count : Expr} → t.resolved.base ≡ base.Structure id → t.resolved.stars ≡ Two → o.length ≡ Some count
      → Single draft o t (ty.Ptr (Some (target.Pointers (node id))) (kind.Length count) o.reorder)
  string : {s : Scalar} → t.resolved.base ≡ base.Number s true → t.resolved.stars ≡ One → Single draft o t (ty.Str o.string_length)
  strings : {s : Scalar} {count : Expr} → t.resolved.base ≡ base.Number s true → t.resolved.stars ≡ Two → o.length ≡ Some count
      → Single draft o t (ty.Ptr (Some target.Strings) (kind.Length count) o.reorder)
  undefined : {keyword : Keyword} {tag : List ℕ} → t.resolved.base ≡ base.Undefined keyword tag → t.resolved.stars ≡ One → o.maybe_undef ≡ true
      → Single draft o t (ty.Ptr None kind.Undef o.reorder)

module _ (draft : Draft) (o : TypeOptions) (t : DeclaredType) (type : Ty) where
  abbrev S : Type 0
  S = Single draft o t type

  it : (made : Ty) → Single draft o t made → Some made ≡ Some type → S
  it made single e = subst (λ (x : Ty). Single draft o t x) (same_Some made type e) single

  value_by : (b : BaseType) → t.resolved.base ≡ b → t.resolved.stars ≡ Zero → value_type draft o b ≡ Some type → S
  value_by (base.Number s is_char) b zero e = it (ty.Num s) (number b zero) e
  value_by (base.Structure id) b zero e = it (ty.Node (node id) (desc_at draft id o.desc)) (structure b zero) e
  value_by other b zero e = absurd (none-some type e)

  pointers_by : (id : ℕ) (length : Option Expr) → o.length ≡ length → t.resolved.base ≡ base.Structure id → t.resolved.stars ≡ Two
      → option_map (λ count. ty.Ptr (Some (target.Pointers (node id))) (kind.Length count) o.reorder) length ≡ Some type → S
  pointers_by id None l b two e = absurd (none-some type e)
  pointers_by id (Some count) l b two e = it (ty.Ptr (Some (target.Pointers (node id))) (kind.Length count) o.reorder) (pointers b two l) e

  strings_by : (s : Scalar) (length : Option Expr) → o.length ≡ length → t.resolved.base ≡ base.Number s true → t.resolved.stars ≡ Two
      → option_map (λ count. ty.Ptr (Some target.Strings) (kind.Length count) o.reorder) length ≡ Some type → S
  strings_by s None l b two e = absurd (none-some type e)
  strings_by s (Some count) l b two e = it (ty.Ptr (Some target.Strings) (kind.Length count) o.reorder) (strings b two l) e

  undefined_by : (keyword : Keyword) (tag : List ℕ) (m : Bool) → o.maybe_undef ≡ m → t.resolved.base ≡ base.Undefined keyword tag → t.resolved.stars ≡ One
      → (if m then Some (ty.Ptr None kind.Undef o.reorder) else None) ≡ Some type → S
  undefined_by keyword tag false m b one e = absurd (none-some type e)
  undefined_by keyword tag true m b one e = it (ty.Ptr None kind.Undef o.reorder) (undefined b one m) e

  pointer_by : (b : BaseType) (stars : Stars) → t.resolved.base ≡ b → t.resolved.stars ≡ stars → pointer_type o b stars ≡ Some type → S
  pointer_by (base.Structure id) One b one e = it (ty.Ptr (Some (target.Node (node id))) (kind_by o.length) o.reorder) (pointer b one) e
  pointer_by (base.Structure id) Two b two e = pointers_by id o.length refl b two e
  pointer_by (base.Number s true) One b one e = it (ty.Str o.string_length) (string b one) e
  pointer_by (base.Number s true) Two b two e = strings_by s o.length refl b two e
  pointer_by (base.Undefined keyword tag) One b one e = undefined_by keyword tag o.maybe_undef refl b one e
  pointer_by other stars b s e = absurd (none-some type e)

  atomic_by : (a : Bool) (b : BaseType) (stars : Stars) → o.atomic ≡ a → is_zero stars ≡ false → t.resolved.base ≡ b → t.resolved.stars ≡ stars
      → (if a then Some (ty.Ptr None kind.Atomic o.reorder) else pointer_type o b stars) ≡ Some type → S
  atomic_by true b stars a some b_is stars_are e = it (ty.Ptr None kind.Atomic o.reorder) (atomic a (ap is_zero stars_are ∙ some)) e
  atomic_by false b stars a some b_is stars_are e = pointer_by b stars b_is stars_are e

  single_by : (function : Bool) (stars : Stars) (b : BaseType) → t.is_function ≡ function → t.resolved.base ≡ b → t.resolved.stars ≡ stars
      → (if function then None else (if is_zero stars then value_type draft o b else pointer_or_atomic o b stars)) ≡ Some type → (t.is_function ≡ false) × S
  single_by true stars b f b_is stars_are e = absurd (none-some type e)
  single_by false Zero b f b_is stars_are e = (f, value_by b b_is stars_are e)
  single_by false One b f b_is stars_are e = (f, atomic_by o.atomic b One refl refl b_is stars_are e)
  single_by false Two b f b_is stars_are e = (f, atomic_by o.atomic b Two refl refl b_is stars_are e)
  single_by false More b f b_is stars_are e = (f, atomic_by o.atomic b More refl refl b_is stars_are e)

  pub single_view : single_type draft o t ≡ Some type → (t.is_function ≡ false) × S
  single_view e = single_by t.is_function t.resolved.stars t.resolved.base refl refl refl e

-- ---- what is walked

pub data Walked (draft : Draft) (o : TypeOptions) (t : DeclaredType) : Ty → Type 0 where
  bits : {s : Scalar} {n : ℕ} {count : Amount} → t.bits ≡ Some count → 1 ≤ n → n ≤ bits_of s → Walked draft o t (ty.Bits s n)
  single : {type : Ty} → t.is_function ≡ false → t.bounds ≡ [] → Single draft o t type → Walked draft o t type
  array : {bound : Amount} {bounds : List Amount} {elem : Ty} → t.is_function ≡ false → t.bounds ≡ bound ∷ bounds → o.length ≡ None
      → Single draft (of_elements o) t elem → Walked draft o t (ty.Arr (amount bound) (arrays bounds elem))
  tail : {count : Expr} {bound : Amount} {bounds : List Amount} {elem : Ty} → t.is_function ≡ false → t.bounds ≡ bound ∷ bounds → o.length ≡ Some count
      → Single draft (of_elements o) t elem → Walked draft o t (ty.Tail count (arrays bounds elem))

module _ (draft : Draft) (o : TypeOptions) (t : DeclaredType) (type : Ty) where
  abbrev W : Type 0
  W = Walked draft o t type

  walks : (made : Ty) → Walked draft o t made → Some made ≡ Some type → W
  walks made is e = subst (λ (x : Ty). Walked draft o t x) (same_Some made type e) is

  array_by : (bound : Amount) (bounds : List Amount) (elem : Ty) (length : Option Expr) → t.is_function ≡ false → t.bounds ≡ bound ∷ bounds → o.length ≡ length
      → Single draft (of_elements o) t elem → Some (array_type length bound bounds elem) ≡ Some type → W
  array_by bound bounds elem (Some count) f b l is e = walks (ty.Tail count (arrays bounds elem)) (tail f b l is) e
  array_by bound bounds elem None f b l is e = walks (ty.Arr (amount bound) (arrays bounds elem)) (array f b l is) e

  elements_by : (bound : Amount) (bounds : List Amount) (elem : Option Ty) → single_type draft (of_elements o) t ≡ elem → t.bounds ≡ bound ∷ bounds
      → option_map (array_type o.length bound bounds) elem ≡ Some type → W
  elements_by bound bounds None is b e = absurd (none-some type e)
  elements_by bound bounds (Some elem) is b e =
      let made = single_view draft (of_elements o) t elem is in array_by bound bounds elem o.length made.0 b refl made.1 e

  bits_by : (count : Amount) → t.bits ≡ Some count → IsBitCount t count → bits_type t.resolved.base (amount count) ≡ Some type → W
  bits_by count has is e =
      let same : amount count ≡ is.0 = ap amount is.1 in
      let some = is.2 in
      let unit = is.6 in
      let few = unit.3 in
      walks (ty.Bits unit.0 (amount count)) (bits has (omega (arith, same, some)) (omega (arith, same, few)))
      (sym (ap (λ (b : BaseType). bits_type b (amount count)) unit.2) ∙ e)

  walked_by' : (bits : Option Amount) (bounds : List Amount) → t.bits ≡ bits → t.bounds ≡ bounds → IfSome bits (IsBitCount t) → walked_by draft o t bits bounds ≡ Some type → W
  walked_by' (Some count) bounds has b is e = bits_by count has is e
  walked_by' None [] has b is e = let made = single_view draft o t type e in single made.0 b made.1
  walked_by' None (bound ∷ bounds) has b is e = elements_by bound bounds (single_type draft (of_elements o) t) refl b e

  pub walked_view : IfSome t.bits (IsBitCount t) → walked_type draft o t ≡ Some type → W
  walked_view is e = walked_by' t.bits t.bounds refl refl is e

-- ---- the type of a field or a root

pub data OfField (draft : Draft) (planes : List Plane) (names : Names) (options : List RawOption) (t : DeclaredType) : Ty → Type 0 where
  walked : {type : Ty} → has_skip options ≡ false → Walked draft (says names options) t type → OfField draft planes names options t type
  skipped_number : {s : Scalar} → has_skip options ≡ true → OfField draft planes names options t (ty.Num s)
  skipped_bits : {s : Scalar} {n : ℕ} → has_skip options ≡ true → 1 ≤ n → n ≤ bits_of s → OfField draft planes names options t (ty.Bits s n)
  opaque : has_skip options ≡ true → OfField draft planes names options t (opaque_type planes t)

module _ (draft : Draft) (planes : List Plane) (names : Names) (options : List RawOption) (t : DeclaredType) where
  abbrev F : Ty → Type 0
  F type = OfField draft planes names options t type

  number_by : (b : Bool) (s : Scalar) → has_skip options ≡ true → F (if b then ty.Num s else opaque_type planes t)
  number_by true s skip = skipped_number skip
  number_by false s skip = opaque skip

  skipped_single_by : (b : BaseType) → has_skip options ≡ true → F (skipped_single planes t b)
  skipped_single_by (base.Number s is_char) skip = number_by _ s skip
  skipped_single_by b skip = opaque skip

  skipped_bits_by : (count : Amount) → IsBitCount t count → has_skip options ≡ true → F (or_opaque planes t (bits_type t.resolved.base (amount count)))
  skipped_bits_by count is skip =
      let same : amount count ≡ is.0 = ap amount is.1 in
      let some = is.2 in
      let unit = is.6 in
      let few = unit.3 in
      subst (λ (b : BaseType). F (or_opaque planes t (bits_type b (amount count)))) (sym unit.2)
      (skipped_bits {s = unit.0} {n = amount count} skip (omega (arith, same, some)) (omega (arith, same, few)))

  skips : (bits : Option Amount) (bounds : List Amount) → IfSome bits (IsBitCount t) → has_skip options ≡ true → F (skipped_by planes t bits bounds)
  skips (Some count) bounds is skip = skipped_bits_by count is skip
  skips None [] is skip = skipped_single_by t.resolved.base skip
  skips None (bound ∷ bounds) is skip = opaque skip

  abbrev length : Option Expr
  length = expression_named names (codes "length") options

  walks_by : (made : Option Ty) → walked_type draft (says names options) t ≡ made → IfSome t.bits (IsBitCount t) → has_skip options ≡ false → is_none made ≡ false → F (or_faulty planes t length made)
  walks_by None e is skip some = absurd (cc)
  walks_by (Some type) e is skip some = walked skip (walked_view draft (says names options) t type is e)

  by_skip : (skip : Bool) → has_skip options ≡ skip → IfSome t.bits (IsBitCount t) → (not skip && is_none (walked_type draft (says names options) t)) ≡ false
      → F (or_faulty planes t length (if skip then Some (skipped_type planes t) else walked_type draft (says names options) t))
  by_skip true skip is typed = skips t.bits t.bounds is skip
  by_skip false skip is typed = walks_by (walked_type draft (says names options) t) refl is skip typed

  pub field_view : IfSome t.bits (IsBitCount t) → (not (has_skip options) && is_none (walked_type draft (says names options) t)) ≡ false
      → F (declared_type names draft planes options t)
  field_view is typed = by_skip (has_skip options) refl is typed
