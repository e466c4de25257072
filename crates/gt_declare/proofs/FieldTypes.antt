-- The types of fields and roots that a draft declares: what they hold by value, and how they are aligned.
use Rattle.std.proofs.Common.{◌≡◌, ◌∙◌, ℕ, ◌≤◌, Bool, true, false, IsTrue, List, [], ◌∷◌, Option, Some, None, IfSome, refl, sym, ap, subst, arith}
use Rattle.std.specs.Prelude.{codes, if◌then◌else◌, option_map}
use Rattle.std.proofs.lemmas.Option.{same_Some, none-some}
use Rattle.gt_types.specs.declared.expressions.Expr.{Expr}
use Rattle.gt_types.specs.declared.types.Width.TheVariants.{W1, W2, W4, W8}
use Rattle.gt_types.specs.declared.types.Scalar.{Scalar}
use Rattle.gt_types.specs.declared.types.Scalar.TheVariants as scalar
use Rattle.gt_types.specs.declared.types.Target.{Target}
use Rattle.gt_types.specs.declared.types.PtrKind.{PtrKind}
use Rattle.gt_types.specs.declared.types.PtrKind.TheVariants as kind
use Rattle.gt_types.specs.declared.types.Target.TheVariants as target
use Rattle.gt_types.specs.declared.types.TypeId.{TypeId}
use Rattle.gt_types.specs.declared.types.Ty.{Ty, out-Ty}
use Rattle.gt_types.specs.declared.types.Ty.TheOpen as part
use Rattle.gt_types.specs.declared.types.Ty.TheVariants as ty
use Rattle.gt_types.specs.declared.types.Ty.TheFolds.{fold-roll-Ty}
use Rattle.gt_types.specs.Shapes.{innermost, innermost_step, bits_of}
use Rattle.gt_types.specs.Contains.{itself, held_by}
use Rattle.gt_items.specs.declared.items.RawOption.{RawOption}
use Rattle.gt_items.specs.declared.items.Stars.{Stars}
use Rattle.gt_items.specs.declared.items.Stars.TheVariants.{Zero, One, Two}
use Rattle.gt_layout.specs.declared.planes.Extent.{Extent}
use Rattle.gt_layout.specs.declared.planes.Plane.{Plane}
use Rattle.gt_layout.specs.declared.storages.Storage.{Storage}
use Rattle.gt_layout.specs.declared.storages.Storage.TheVariants.{Bytes, Bits}
use Rattle.gt_layout.specs.Storages.{bytes_of, extent, extent_at, extent_of, extent_step, storage_of}
use Rattle.gt_layout.specs.Planes.{is_alignment, is_placeable}
use Rattle.gt_drafts.specs.declared.types.Amount.{Amount}
use Rattle.gt_drafts.specs.declared.types.BaseType.{BaseType}
use Rattle.gt_drafts.specs.declared.types.BaseType.TheVariants as base
use Rattle.gt_drafts.specs.declared.types.DeclaredType.{DeclaredType}
use Rattle.gt_drafts.specs.declared.draft.Draft.{Draft}
use Rattle.gt_drafts.specs.Options.{has_skip}
use Rattle.gt_drafts.specs.Undefined.{is_zero}
use Rattle.gt_drafts.specs.Shapes.{held_type, structure_by_value}
use Rattle.gt_markers.specs.declared.type_options.TypeOptions.{TypeOptions}
use Rattle.gt_markers.specs.Expressions.{Names}
use Rattle.gt_markers.specs.Sound.{IsBitCount}
use Rattle.gt_markers.specs.Typing.{amount, arrays, array_type, bits_type, declared_type, desc_at, expression_named, faulty_by, opaque_element, or_faulty, base_extent, pointer_extent, node, of_elements, opaque_type, or_opaque, pointer_or_atomic, pointer_type, says, single_type, skipped_by, skipped_single, skipped_type, type_by, value_type, walked_by, walked_type}

-- ---- what types take and hold, one constructor after another

extent_num : (p : List Plane) (s : Scalar) → extent_of p (ty.Num s) ≡ extent (bytes_of s) (bytes_of s)
extent_num p s = ap (extent_of p) (sym (ty.rolls-Num s)) ∙ fold-roll-Ty Extent (extent_step p) (part.Num s)

extent_bits : (p : List Plane) (s : Scalar) (n : ℕ) → extent_of p (ty.Bits s n) ≡ extent (bytes_of s) (bytes_of s)
extent_bits p s n = ap (extent_of p) (sym (ty.rolls-Bits s n)) ∙ fold-roll-Ty Extent (extent_step p) (part.Bits s n)

extent_opaque : (p : List Plane) (size align : ℕ) → extent_of p (ty.Opaque size align) ≡ extent size align
extent_opaque p size align = ap (extent_of p) (sym (ty.rolls-Opaque size align)) ∙ fold-roll-Ty Extent (extent_step p) (part.Opaque size align)

extent_str : (p : List Plane) (count : Option Expr) → extent_of p (ty.Str count) ≡ extent 8 8
extent_str p count = ap (extent_of p) (sym (ty.rolls-Str count)) ∙ fold-roll-Ty Extent (extent_step p) (part.Str count)

extent_ptr : (p : List Plane) (t : Option Target) (k : PtrKind) (r : Bool) → extent_of p (ty.Ptr t k r) ≡ extent 8 8
extent_ptr p t k r = ap (extent_of p) (sym (ty.rolls-Ptr t k r)) ∙ fold-roll-Ty Extent (extent_step p) (part.Ptr t k r)

extent_node : (p : List Plane) (i : TypeId) (d : Option Expr) → extent_of p (ty.Node i d) ≡ extent_at p i.0
extent_node p i d = ap (extent_of p) (sym (ty.rolls-Node i d)) ∙ fold-roll-Ty Extent (extent_step p) (part.Node i d)

extent_arr : (p : List Plane) (n : ℕ) (e : Ty) → (extent_of p (ty.Arr n e)).align ≡ (extent_of p e).align
extent_arr p n e = ap (λ (d : Extent). d.align) (ap (extent_of p) (sym (ty.rolls-Arr n e)) ∙ fold-roll-Ty Extent (extent_step p) (part.Arr n e))

extent_tail : (p : List Plane) (c : Expr) (e : Ty) → (extent_of p (ty.Tail c e)).align ≡ (extent_of p e).align
extent_tail p c e = ap (λ (d : Extent). d.align) (ap (extent_of p) (sym (ty.rolls-Tail c e)) ∙ fold-roll-Ty Extent (extent_step p) (part.Tail c e))

held_num : (s : Scalar) → held_by (ty.Num s) ≡ None
held_num s = ap itself (ap innermost (sym (ty.rolls-Num s)) ∙ fold-roll-Ty Ty innermost_step (part.Num s))

held_bits : (s : Scalar) (n : ℕ) → held_by (ty.Bits s n) ≡ None
held_bits s n = ap itself (ap innermost (sym (ty.rolls-Bits s n)) ∙ fold-roll-Ty Ty innermost_step (part.Bits s n))

held_opaque : (size align : ℕ) → held_by (ty.Opaque size align) ≡ None
held_opaque size align = ap itself (ap innermost (sym (ty.rolls-Opaque size align)) ∙ fold-roll-Ty Ty innermost_step (part.Opaque size align))

held_str : (count : Option Expr) → held_by (ty.Str count) ≡ None
held_str count = ap itself (ap innermost (sym (ty.rolls-Str count)) ∙ fold-roll-Ty Ty innermost_step (part.Str count))

held_ptr : (t : Option Target) (k : PtrKind) (r : Bool) → held_by (ty.Ptr t k r) ≡ None
held_ptr t k r = ap itself (ap innermost (sym (ty.rolls-Ptr t k r)) ∙ fold-roll-Ty Ty innermost_step (part.Ptr t k r))

held_node : (i : TypeId) (d : Option Expr) → held_by (ty.Node i d) ≡ Some i
held_node i d = ap itself (ap innermost (sym (ty.rolls-Node i d)) ∙ fold-roll-Ty Ty innermost_step (part.Node i d))

held_arr : (n : ℕ) (e : Ty) → held_by (ty.Arr n e) ≡ held_by e
held_arr n e = ap itself (ap innermost (sym (ty.rolls-Arr n e)) ∙ fold-roll-Ty Ty innermost_step (part.Arr n e))

held_tail : (c : Expr) (e : Ty) → held_by (ty.Tail c e) ≡ held_by e
held_tail c e = ap itself (ap innermost (sym (ty.rolls-Tail c e)) ∙ fold-roll-Ty Ty innermost_step (part.Tail c e))

arr_no_bits : (n : ℕ) (e : Ty) (unit : Scalar) (count : ℕ) → ty.Arr n e ≡ ty.Bits unit count → ⊥
arr_no_bits n e unit count is = let o = ty.outs-Arr n e in let b = ty.outs-Bits unit count in let same = ap out-Ty is in cc

tail_no_bits : (c : Expr) (e : Ty) (unit : Scalar) (count : ℕ) → ty.Tail c e ≡ ty.Bits unit count → ⊥
tail_no_bits c e unit count is = let o = ty.outs-Tail c e in let b = ty.outs-Bits unit count in let same = ap out-Ty is in cc

-- ---- alignments

bytes_aligned : (number : Scalar) → IsTrue (is_alignment (bytes_of number))
bytes_aligned scalar.Bool = refl
bytes_aligned (scalar.Int W1 signed) = refl
bytes_aligned (scalar.Int W2 signed) = refl
bytes_aligned (scalar.Int W4 signed) = refl
bytes_aligned (scalar.Int W8 signed) = refl

bits_placeable : (unit : Scalar) (count : ℕ) → 1 ≤ count → count ≤ bits_of unit → IsTrue (is_placeable (Bits (bytes_of unit) count))
bits_placeable scalar.Bool count some few = grind arith
bits_placeable (scalar.Int W1 signed) count some few = grind arith
bits_placeable (scalar.Int W2 signed) count some few = grind arith
bits_placeable (scalar.Int W4 signed) count some few = grind arith
bits_placeable (scalar.Int W8 signed) count some few = grind arith

-- A holds of the alignment, and bits can be placed
abbrev pub IsAligned : (ℕ → Type 0) → Storage → Type 0
IsAligned A (Bytes e) = A e.align
IsAligned A (Bits unit count) = IsTrue (is_placeable (Bits unit count))

-- a type holds what the declared type does, and A holds of its alignment
pub record IsPart (A : ℕ → Type 0) (p : List Plane) (t : DeclaredType) (type : Ty) : Type 0 where
  pub held : (inner : TypeId) → held_by type ≡ Some inner → held_type t ≡ Some inner.0
  pub align : A (extent_of p type).align
  pub stored : IsAligned A (storage_of p type)

-- A holds of each alignment of numbers, and of those of the structures that are held
module _ (A : ℕ → Type 0) (good : (n : ℕ) → IsTrue (is_alignment n) → A n) (p : List Plane) (t : DeclaredType) (inner_good : (id : ℕ) → held_type t ≡ Some id → A (extent_at p id).align) where
  abbrev P : Ty → Type 0
  P type = IsPart A p t type

  holds_none : (type : Ty) → held_by type ≡ None → (inner : TypeId) → held_by type ≡ Some inner → held_type t ≡ Some inner.0
  holds_none type none inner some = absurd (none-some inner (sym none ∙ some))

  aligned_as : (e d : Extent) → e ≡ d → A d.align → A e.align
  aligned_as e d is a = subst (λ (x : Extent). A x.align) (sym is) a

  part_num : (s : Scalar) → P (ty.Num s)
  part_num s =
      let a : A (extent_of p (ty.Num s)).align = aligned_as (extent_of p (ty.Num s)) (extent (bytes_of s) (bytes_of s)) (extent_num p s) (good (bytes_of s) (bytes_aligned s)) in
      record { held = holds_none (ty.Num s) (held_num s); align = a; stored = a }

  part_bits : (s : Scalar) (n : ℕ) → 1 ≤ n → n ≤ bits_of s → P (ty.Bits s n)
  part_bits s n some few =
      record {
        held = holds_none (ty.Bits s n) (held_bits s n);
        align = aligned_as (extent_of p (ty.Bits s n)) (extent (bytes_of s) (bytes_of s)) (extent_bits p s n) (good (bytes_of s) (bytes_aligned s));
        stored = bits_placeable s n some few;
      }

  part_opaque : (size align : ℕ) → A align → P (ty.Opaque size align)
  part_opaque size align aligned =
      let a : A (extent_of p (ty.Opaque size align)).align = aligned_as (extent_of p (ty.Opaque size align)) (extent size align) (extent_opaque p size align) aligned in
      record { held = holds_none (ty.Opaque size align) (held_opaque size align); align = a; stored = a }

  part_str : (count : Option Expr) → P (ty.Str count)
  part_str count =
      let a : A (extent_of p (ty.Str count)).align = aligned_as (extent_of p (ty.Str count)) (extent 8 8) (extent_str p count) (good 8 refl) in
      record { held = holds_none (ty.Str count) (held_str count); align = a; stored = a }

  part_ptr : (to : Option Target) (k : PtrKind) (r : Bool) → P (ty.Ptr to k r)
  part_ptr to k r =
      let a : A (extent_of p (ty.Ptr to k r)).align = aligned_as (extent_of p (ty.Ptr to k r)) (extent 8 8) (extent_ptr p to k r) (good 8 refl) in
      record { held = holds_none (ty.Ptr to k r) (held_ptr to k r); align = a; stored = a }

  part_node : (id : ℕ) (d : Option Expr) → held_type t ≡ Some id → P (ty.Node (node id) d)
  part_node id d held =
      let a : A (extent_of p (ty.Node (node id) d)).align = aligned_as (extent_of p (ty.Node (node id) d)) (extent_at p id) (extent_node p (node id) d) (inner_good id held) in
      record {
        held = λ inner some. let same : node id ≡ inner = same_Some (node id) inner (sym (held_node (node id) d) ∙ some) in held ∙ ap (λ (n : TypeId). Some n.0) same;
        align = a;
        stored = a;
      }

  stored_by : (type : Ty) → A (extent_of p type).align → ((unit : Scalar) (count : ℕ) → type ≡ ty.Bits unit count → ⊥) → IsAligned A (storage_of p type)
  stored_by (ty.Bits unit count) a none = absurd (none unit count refl)
  stored_by type a none = a

  part_arr : (n : ℕ) (e : Ty) → P e → P (ty.Arr n e)
  part_arr n e part =
      let a : A (extent_of p (ty.Arr n e)).align = subst A (sym (extent_arr p n e)) part.align in
      record { held = λ inner some. part.held inner (sym (held_arr n e) ∙ some); align = a; stored = stored_by (ty.Arr n e) a (arr_no_bits n e) }

  part_tail : (c : Expr) (e : Ty) → P e → P (ty.Tail c e)
  part_tail c e part =
      let a : A (extent_of p (ty.Tail c e)).align = subst A (sym (extent_tail p c e)) part.align in
      record { held = λ inner some. part.held inner (sym (held_tail c e) ∙ some); align = a; stored = stored_by (ty.Tail c e) a (tail_no_bits c e) }

  part_arrays : (bounds : List Amount) (e : Ty) → P e → P (arrays bounds e)
  part_arrays [] e part = part
  part_arrays (bound ∷ bounds) e part = part_arr (amount bound) (arrays bounds e) (part_arrays bounds e part)

  part_array : (count : Option Expr) (bound : Amount) (bounds : List Amount) (e : Ty) → P e → P (array_type count bound bounds e)
  part_array (Some c) bound bounds e part = part_tail c (arrays bounds e) (part_arrays bounds e part)
  part_array None bound bounds e part = part_arr (amount bound) (arrays bounds e) (part_arrays bounds e part)

  -- ---- options of types

  mapped : {X : Type 0} (f : X → Ty) (o : Option X) → ((x : X) → P (f x)) → IfSome (option_map f o) P
  mapped f None parts = tt
  mapped f (Some x) parts = parts x

  arrays_of : (f : Ty → Ty) (o : Option Ty) → ((e : Ty) → P e → P (f e)) → IfSome o P → IfSome (option_map f o) P
  arrays_of f None more part = tt
  arrays_of f (Some e) more part = more e part

  where_true : (b : Bool) (type : Ty) → P type → IfSome (if b then Some type else None) P
  where_true true type part = part
  where_true false type part = tt

  either : (b : Bool) (type : Ty) (o : Option Ty) → P type → IfSome o P → IfSome (if b then Some type else o) P
  either true type o part other = part
  either false type o part other = other

  -- ---- what is walked

  pointer_parts : (o : TypeOptions) (b : BaseType) (stars : Stars) → IfSome (pointer_type o b stars) P
  pointer_parts o (base.Structure id) One = part_ptr _ _ _
  pointer_parts o (base.Structure id) Two = mapped (λ count. ty.Ptr (Some (target.Pointers (node id))) (kind.Length count) o.reorder) o.length (λ count. part_ptr _ _ _)
  pointer_parts o (base.Number s true) One = part_str o.string_length
  pointer_parts o (base.Number s true) Two = mapped (λ count. ty.Ptr (Some target.Strings) (kind.Length count) o.reorder) o.length (λ count. part_ptr _ _ _)
  pointer_parts o (base.Undefined keyword tag) One = where_true o.maybe_undef (ty.Ptr None kind.Undef o.reorder) (part_ptr _ _ _)
  pointer_parts o b stars = tt

  atomic_parts : (o : TypeOptions) (b : BaseType) (stars : Stars) → IfSome (pointer_or_atomic o b stars) P
  atomic_parts o b stars = either o.atomic (ty.Ptr None kind.Atomic o.reorder) (pointer_type o b stars) (part_ptr _ _ _) (pointer_parts o b stars)

  value_parts : (draft : Draft) (o : TypeOptions) (b : BaseType) → ((id : ℕ) → structure_by_value b Zero ≡ Some id → held_type t ≡ Some id) → IfSome (value_type draft o b) P
  value_parts draft o (base.Number s is_char) held = part_num s
  value_parts draft o (base.Structure id) held = part_node id (desc_at draft id o.desc) (held id refl)
  value_parts draft o b held = tt

  single_by : (draft : Draft) (o : TypeOptions) (function : Bool) (stars : Stars) (b : BaseType)
      → ((id : ℕ) → (if function then None else structure_by_value b stars) ≡ Some id → held_type t ≡ Some id)
      → IfSome (if function then None else (if is_zero stars then value_type draft o b else pointer_or_atomic o b stars)) P
  single_by draft o true stars b held = tt
  single_by draft o false Zero b held = value_parts draft o b held
  single_by draft o false stars b held = atomic_parts o b stars

  single_parts : (draft : Draft) (o : TypeOptions) → IfSome (single_type draft o t) P
  single_parts draft o = single_by draft o t.is_function t.resolved.stars t.resolved.base (λ id is. is)

  bits_parts : (count : Amount) → IsBitCount t count → IfSome (bits_type t.resolved.base (amount count)) P
  bits_parts count is =
      let same : amount count ≡ is.0 = ap amount is.1 in
      let some = is.2 in
      let unit = is.6 in
      let few = unit.3 in
      subst (λ (b : BaseType). IfSome (bits_type b (amount count)) P) (sym unit.2) (part_bits unit.0 (amount count) (omega (arith, same, some)) (omega (arith, same, few)))

  walked_parts : (draft : Draft) (o : TypeOptions) (bits : Option Amount) (bounds : List Amount) → IfSome bits (IsBitCount t) → IfSome (walked_by draft o t bits bounds) P
  walked_parts draft o (Some count) bounds is = bits_parts count is
  walked_parts draft o None [] is = single_parts draft o
  walked_parts draft o None (bound ∷ bounds) is =
      arrays_of (array_type o.length bound bounds) (single_type draft (of_elements o) t) (part_array o.length bound bounds) (single_parts draft (of_elements o))

  -- ---- what is passed over

  opaque_by : (function : Bool) (stars : Stars) (b : BaseType) → ((id : ℕ) → (if function then None else structure_by_value b stars) ≡ Some id → held_type t ≡ Some id)
      → A (if function then pointer_extent else (if is_zero stars then base_extent p b else pointer_extent)).align
  opaque_by true stars b held = good 8 refl
  opaque_by false Zero (base.Number s is_char) held = good (bytes_of s) (bytes_aligned s)
  opaque_by false Zero base.Float held = good 4 refl
  opaque_by false Zero base.Double held = good 8 refl
  opaque_by false Zero (base.Structure id) held = inner_good id (held id refl)
  opaque_by false Zero b held = good 1 refl
  opaque_by false stars b held = good 8 refl

  opaque_part : P (opaque_type p t)
  opaque_part = part_opaque _ _ (opaque_by t.is_function t.resolved.stars t.resolved.base (λ id is. is))

  or_part : (o : Option Ty) → IfSome o P → P (or_opaque p t o)
  or_part None part = opaque_part
  or_part (Some type) part = part

  number_part : (b : Bool) (s : Scalar) → P (if b then ty.Num s else opaque_type p t)
  number_part true s = part_num s
  number_part false s = opaque_part

  skipped_part : (b : BaseType) → P (skipped_single p t b)
  skipped_part (base.Number s is_char) = number_part _ s
  skipped_part b = opaque_part

  skipped_parts : (bits : Option Amount) (bounds : List Amount) → IfSome bits (IsBitCount t) → P (skipped_by p t bits bounds)
  skipped_parts (Some count) bounds is = or_part (bits_type t.resolved.base (amount count)) (bits_parts count is)
  skipped_parts None [] is = skipped_part t.resolved.base
  skipped_parts None (bound ∷ bounds) is = opaque_part

  -- ---- what is a fault

  element_part : P (opaque_element p t)
  element_part = part_opaque _ _ (opaque_by t.is_function t.resolved.stars t.resolved.base (λ id is. is))

  faulty_part : (length : Option Expr) (bits : Option Amount) (bounds : List Amount) → P (faulty_by p t length bits bounds)
  faulty_part (Some count) None (bound ∷ bounds) = part_array (Some count) bound bounds (opaque_element p t) element_part
  faulty_part (Some count) None [] = opaque_part
  faulty_part (Some count) (Some bits) bounds = opaque_part
  faulty_part None bits bounds = opaque_part

  or_faulty_part : (length : Option Expr) (o : Option Ty) → IfSome o P → P (or_faulty p t length o)
  or_faulty_part length None part = faulty_part length t.bits t.bounds
  or_faulty_part length (Some type) part = part

  -- the type of a field or a root
  pub field_part : (names : Names) (draft : Draft) (options : List RawOption) → IfSome t.bits (IsBitCount t) → P (declared_type names draft p options t)
  field_part names draft options is =
      or_faulty_part (expression_named names (codes "length") options) (type_by names draft p options t)
      (either (has_skip options) (skipped_type p t) (walked_type draft (says names options) t) (skipped_parts t.bits t.bounds is) (walked_parts draft (says names options) t.bits t.bounds is))
