-- The types of fields and roots have the shapes that they may have.
use Rattle.std.proofs.Common.{◌≡◌, ◌∙◌, ◌⊎◌, inl, inr, ℕ, ◌+◌, ◌≤◌, Bool, true, false, not, ◌&&◌, nat_le, List, [], ◌∷◌, length, Option, Some, None, refl, sym, ap, subst, arith}
use Rattle.std.specs.Prelude.{All, codes, option_map, is_some}
use Rattle.std.proofs.lemmas.Bool.{le-leb}
use Rattle.std.proofs.lemmas.List.Elements.{All-head, All-tail}
use Rattle.gt_types.specs.declared.expressions.Expr.{Expr}
use Rattle.gt_types.specs.declared.limits.TheConstants.{MAX_BOUND, MAX_DIMENSIONS}
use Rattle.gt_types.specs.declared.types.Scalar.{Scalar}
use Rattle.gt_types.specs.declared.types.Target.TheVariants as target
use Rattle.gt_types.specs.declared.types.TypeId.{TypeId}
use Rattle.gt_types.specs.declared.types.PtrKind.TheVariants as kind
use Rattle.gt_types.specs.declared.types.Ty.{Ty, out-Ty}
use Rattle.gt_types.specs.declared.types.Ty.TheVariants as ty
use Rattle.gt_types.specs.declared.types.Ty.TheOpen as part
use Rattle.gt_types.specs.declared.types.Ty.TheFolds.{fold-roll-Ty}
use Rattle.gt_types.specs.Shapes.{bits_of, dimensions, dimensions_step, field_type_at, has_target, is_bound, is_element, is_element_step, is_field_type, is_root_type, may_repeat, root_type_at}
use Rattle.gt_items.specs.declared.items.Keyword.{Keyword}
use Rattle.gt_items.specs.declared.items.RawOption.{RawOption}
use Rattle.gt_items.specs.declared.items.Stars.{Stars}
use Rattle.gt_items.specs.declared.items.Stars.TheVariants.{One}
use Rattle.gt_drafts.specs.declared.types.Amount.{Amount}
use Rattle.gt_drafts.specs.declared.types.BaseType.{BaseType}
use Rattle.gt_drafts.specs.declared.types.BaseType.TheVariants as base
use Rattle.gt_drafts.specs.declared.types.DeclaredType.{DeclaredType}
use Rattle.gt_drafts.specs.declared.draft.Draft.{Draft}
use Rattle.gt_drafts.specs.Options.{has_option, has_skip, has_length}
use Rattle.gt_markers.specs.declared.type_options.TypeOptions.{TypeOptions}
use Rattle.gt_markers.specs.Expressions.{Names, expression_of}
use Rattle.gt_markers.specs.Options.{option_named}
use Rattle.gt_markers.specs.Sites.{is_single, is_sorted, is_sorted_base}
use Rattle.gt_markers.specs.Sound.{IsBound, AreBounds}
use Rattle.gt_markers.specs.Typing.{amount, arrays, expression_named, kind_by, node, of_elements, says}
use Rattle.gt_settled.proofs.Markers.{has_is}
use Rattle.gt_settled.proofs.Types.{Single, number, structure, atomic, pointer, pointers, string, strings, undefined, Walked, bits, single, array, tail}

-- ---- truth

pub and_true : (a b : Bool) → a ≡ true → b ≡ true → (a && b) ≡ true
and_true true true p q = refl
and_true true false p q = q
and_true false b p q = absurd (cc)

pub and_first : (a b : Bool) → (a && b) ≡ true → a ≡ true
and_first true b e = refl
and_first false b e = absurd (cc)

pub and_second : (a b : Bool) → (a && b) ≡ true → b ≡ true
and_second true b e = e
and_second false b e = absurd (cc)

pub not_true : (b : Bool) → not b ≡ true → b ≡ false
not_true true e = absurd (cc)
not_true false e = refl

mapped : {X Y : Type 0} (f : X → Y) (o : Option X) → is_some (option_map f o) ≡ is_some o
mapped f None = refl
mapped f (Some x) = refl

-- an option stands there where its expression does
pub is_said : (names : Names) (name : List ℕ) (options : List RawOption) → is_some (expression_named names name options) ≡ has_option name options
is_said names name options = mapped (λ (o : RawOption). expression_of names o.parameter) (option_named name options) ∙ sym (has_is name options)

-- ---- bounds and elements

bound_good : (bound : Amount) → IsBound bound → is_bound (amount bound) ≡ true
bound_good bound (n, is, some, few) =
    subst (λ (m : ℕ). is_bound m ≡ true) (sym (ap amount is)) (and_true (nat_le 1 n) (nat_le n MAX_BOUND) (le-leb 1 n some) (le-leb n MAX_BOUND few))

element-arr : (n : ℕ) (e : Ty) → is_element (ty.Arr n e) ≡ (is_bound n && is_element e)
element-arr n e = ap is_element (sym (ty.rolls-Arr n e)) ∙ fold-roll-Ty Bool is_element_step (part.Arr n e)

dimensions-arr : (n : ℕ) (e : Ty) → dimensions (ty.Arr n e) ≡ 1 + dimensions e
dimensions-arr n e = ap dimensions (sym (ty.rolls-Arr n e)) ∙ fold-roll-Ty ℕ dimensions_step (part.Arr n e)

elements_good : (bounds : List Amount) (elem : Ty) → All IsBound bounds → is_element elem ≡ true → is_element (arrays bounds elem) ≡ true
elements_good [] elem all e = e
elements_good (bound ∷ bounds) elem all e =
    element-arr (amount bound) (arrays bounds elem)
    ∙ and_true (is_bound (amount bound)) (is_element (arrays bounds elem)) (bound_good bound (All-head IsBound bound bounds all)) (elements_good bounds elem (All-tail IsBound bound bounds all) e)

arrays_dimensions : (bounds : List Amount) (elem : Ty) → dimensions (arrays bounds elem) ≡ length bounds + dimensions elem
arrays_dimensions [] elem = omega arith
arrays_dimensions (bound ∷ bounds) elem =
    let more = arrays_dimensions bounds elem in let one = dimensions-arr (amount bound) (arrays bounds elem) in omega (arith, one, more)

-- what is no array is an element, with the options of elements
single_element : (draft : Draft) (o : TypeOptions) (t : DeclaredType) {elem : Ty} → Single draft (of_elements o) t elem → (is_element elem ≡ true) × (dimensions elem ≡ 0)
single_element draft o t (number {s = s} b z) = (
  ap is_element (sym (ty.rolls-Num s)) ∙ fold-roll-Ty Bool is_element_step (part.Num s),
  ap dimensions (sym (ty.rolls-Num s)) ∙ fold-roll-Ty ℕ dimensions_step (part.Num s),
)
single_element draft o t (structure {id = id} b z) = (
  ap is_element (sym (ty.rolls-Node (node id) _)) ∙ fold-roll-Ty Bool is_element_step (part.Node (node id) _),
  ap dimensions (sym (ty.rolls-Node (node id) _)) ∙ fold-roll-Ty ℕ dimensions_step (part.Node (node id) _),
)
single_element draft o t (atomic a z) = absurd (cc)
single_element draft o t (pointer {id = id} b z) = (
  ap is_element (sym (ty.rolls-Ptr (Some (target.Node (node id))) kind.Plain false)) ∙ fold-roll-Ty Bool is_element_step (part.Ptr (Some (target.Node (node id))) kind.Plain false),
  ap dimensions (sym (ty.rolls-Ptr (Some (target.Node (node id))) kind.Plain false)) ∙ fold-roll-Ty ℕ dimensions_step (part.Ptr (Some (target.Node (node id))) kind.Plain false),
)
single_element draft o t (pointers b z l) = absurd (cc)
single_element draft o t (string b z) = (
  ap is_element (sym (ty.rolls-Str None)) ∙ fold-roll-Ty Bool is_element_step (part.Str None),
  ap dimensions (sym (ty.rolls-Str None)) ∙ fold-roll-Ty ℕ dimensions_step (part.Str None),
)
single_element draft o t (strings b z l) = absurd (cc)
single_element draft o t (undefined b z m) = absurd (cc)

repeats : (draft : Draft) (o : TypeOptions) (t : DeclaredType) (bounds : List Amount) {elem : Ty} → Single draft (of_elements o) t elem → All IsBound bounds → 1 + length bounds ≤ MAX_DIMENSIONS
    → may_repeat (arrays bounds elem) ≡ true
repeats draft o t bounds {elem} is all few =
    let good = single_element draft o t is in
    let many = arrays_dimensions bounds elem in
    let none = good.1 in
    and_true (is_element (arrays bounds elem)) (nat_le (1 + dimensions (arrays bounds elem)) MAX_DIMENSIONS) (elements_good bounds elem all good.0)
    (le-leb (1 + dimensions (arrays bounds elem)) MAX_DIMENSIONS (omega (arith, many, none, few)))

bounds_true : (bound : Amount) (bounds : List Amount) (b : Bool) → b ≡ true → AreBounds b (bound ∷ bounds) → All IsBound bounds
bounds_true bound bounds true e (unread, all) = all
bounds_true bound bounds false e all = absurd (cc)

pub bounds_false : (bound : Amount) (bounds : List Amount) (b : Bool) → b ≡ false → AreBounds b (bound ∷ bounds) → All IsBound (bound ∷ bounds)
bounds_false bound bounds true e all = absurd (cc)
bounds_false bound bounds false e all = all

-- the bounds of an array without a length
pub array_bounds : (names : Names) (options : List RawOption) (t : DeclaredType) → has_skip options ≡ false → AreBounds (has_length options) t.bounds → (bound : Amount) (bounds : List Amount)
    → t.bounds ≡ bound ∷ bounds → (says names options).length ≡ None → All IsBound (bound ∷ bounds)
array_bounds names options t skip all bound bounds e none =
    let said : has_option (codes "length") options ≡ false = sym (is_said names (codes "length") options) ∙ ap is_some none in
    bounds_false bound bounds (has_length options) (ap (λ (a : Bool). a && not (has_skip options)) said) (subst (λ (bs : List Amount). AreBounds (has_length options) bs) e all)

-- ---- pointers

not_sorted-one : (counted : Bool) (id : ℕ) (count : Option Expr) → counted ≡ is_some count → count ≡ None ⊎ (is_sorted_base counted (base.Structure id) One ≡ false)
not_sorted-one counted id None e = inl refl
not_sorted-one true id (Some c) e = inr refl
not_sorted-one false id (Some c) e = absurd (cc)

not_sorted-string : (counted : Bool) (s : Scalar) (is_char : Bool) (stars : Stars) → is_sorted_base counted (base.Number s is_char) stars ≡ false
not_sorted-string true s is_char stars = refl
not_sorted-string false s is_char stars = refl

not_sorted-undefined : (counted : Bool) (keyword : Keyword) (tag : List ℕ) (stars : Stars) → is_sorted_base counted (base.Undefined keyword tag) stars ≡ false
not_sorted-undefined true keyword tag stars = refl
not_sorted-undefined false keyword tag stars = refl

pub bits_shape : (s : Scalar) (n : ℕ) → 1 ≤ n → n ≤ bits_of s → is_field_type (ty.Bits s n) ≡ true
bits_shape s n some most = ap field_type_at (ty.outs-Bits s n) ∙ and_true (nat_le 1 n) (nat_le n (bits_of s)) (le-leb 1 n some) (le-leb n (bits_of s) most)

module _ (draft : Draft) (names : Names) (options : List RawOption) (t : DeclaredType) (sorted : has_option (codes "reorder") options ≡ true → is_sorted options t ≡ true) where
  abbrev o : TypeOptions
  o = says names options

  not_reordered : (r : Bool) → has_option (codes "reorder") options ≡ r
      → (is_sorted_base (has_option (codes "length") options) t.resolved.base t.resolved.stars ≡ false) ⊎ (has_option (codes "atomic") options ≡ true) → not r ≡ true
  not_reordered false e why = refl
  not_reordered true e (inl other) =
      let both = and_first (is_single t && is_sorted_base (has_option (codes "length") options) t.resolved.base t.resolved.stars) (not (has_option (codes "atomic") options)) (sorted e) in
      let yes : is_sorted_base (has_option (codes "length") options) t.resolved.base t.resolved.stars ≡ true = and_second (is_single t) (is_sorted_base (has_option (codes "length") options) t.resolved.base t.resolved.stars) both in
      let never : true ≡ false = sym yes ∙ other in
      absurd (cc)
  not_reordered true e (inr a) =
      let yes = and_second (is_single t && is_sorted_base (has_option (codes "length") options) t.resolved.base t.resolved.stars) (not (has_option (codes "atomic") options)) (sorted e) in
      let never : false ≡ true = sym (not_true (has_option (codes "atomic") options) yes) ∙ a in absurd (cc)

  unsorted : (is_sorted_base (has_option (codes "length") options) t.resolved.base t.resolved.stars ≡ false) ⊎ (has_option (codes "atomic") options ≡ true) → not o.reorder ≡ true
  unsorted why = not_reordered (has_option (codes "reorder") options) refl why

  one_target : (id : TypeId) (count : Option Expr) (r : Bool) → (count ≡ None) ⊎ (not r ≡ true) → has_target (Some (target.Node id)) (kind_by count) r ≡ true
  one_target id None r e = refl
  one_target id (Some c) r (inl e) = absurd (cc)
  one_target id (Some c) r (inr e) = e

  pointer_target : (id : ℕ) → t.resolved.base ≡ base.Structure id → t.resolved.stars ≡ One → has_target (Some (target.Node (node id))) (kind_by o.length) o.reorder ≡ true
  pointer_target id b one = elim (not_sorted-one (has_option (codes "length") options) id o.length (sym (is_said names (codes "length") options))) [
    | inl none ↦ one_target (node id) o.length o.reorder (inl none)
    | inr other ↦ one_target (node id) o.length o.reorder (inr (unsorted (inl (
        ap (λ (x : BaseType). is_sorted_base (has_option (codes "length") options) x t.resolved.stars) b ∙ ap (λ (x : Stars). is_sorted_base (has_option (codes "length") options) (base.Structure id) x) one ∙ other))))
  ]

  string_target : (s : Scalar) → t.resolved.base ≡ base.Number s true → not o.reorder ≡ true
  string_target s b = unsorted (inl (ap (λ (x : BaseType). is_sorted_base (has_option (codes "length") options) x t.resolved.stars) b ∙ not_sorted-string (has_option (codes "length") options) s true t.resolved.stars))

  undefined_target : (keyword : Keyword) (tag : List ℕ) → t.resolved.base ≡ base.Undefined keyword tag → not o.reorder ≡ true
  undefined_target keyword tag is =
      unsorted (inl (ap (λ (x : BaseType). is_sorted_base (has_option (codes "length") options) x t.resolved.stars) is ∙ not_sorted-undefined (has_option (codes "length") options) keyword tag t.resolved.stars))

  -- what is no array is a field's type
  single_field : {type : Ty} → Single draft o t type → is_field_type type ≡ true
  single_field (number {s = s} b z) = ap field_type_at (ty.outs-Num s)
  single_field (structure {id = id} b z) = ap field_type_at (ty.outs-Node (node id) _)
  single_field (atomic a z) = ap field_type_at (ty.outs-Ptr None kind.Atomic o.reorder) ∙ unsorted (inr a)
  single_field (pointer {id = id} b one) = ap field_type_at (ty.outs-Ptr (Some (target.Node (node id))) (kind_by o.length) o.reorder) ∙ pointer_target id b one
  single_field (pointers {id = id} {count = count} b two l) = ap field_type_at (ty.outs-Ptr (Some (target.Pointers (node id))) (kind.Length count) o.reorder)
  single_field (string {s = s} b one) = ap field_type_at (ty.outs-Str o.string_length)
  single_field (strings {s = s} {count = count} b two l) = ap field_type_at (ty.outs-Ptr (Some target.Strings) (kind.Length count) o.reorder) ∙ string_target s b
  single_field (undefined {keyword = keyword} {tag = tag} b one m) = ap field_type_at (ty.outs-Ptr None kind.Undef o.reorder) ∙ undefined_target keyword tag b

  module _ (skip : has_skip options ≡ false) (all : AreBounds (has_length options) t.bounds) (few : length t.bounds ≤ MAX_DIMENSIONS) where
    counted : (b : Bool) → is_some o.length ≡ b → has_length options ≡ b
    counted b e =
        ap (λ (a : Bool). a && not (has_skip options)) (sym (is_said names (codes "length") options) ∙ e) ∙ ap (λ (s : Bool). b && not s) skip ∙ last b
      where
        last : (b : Bool) → (b && true) ≡ b
        last true = refl
        last false = refl

    few_of : (bound : Amount) (bounds : List Amount) → t.bounds ≡ bound ∷ bounds → 1 + length bounds ≤ MAX_DIMENSIONS
    few_of bound bounds e = let same : length t.bounds ≡ length (bound ∷ bounds) = ap (λ xs. length xs) e in omega (arith, same, few)

    bounds_of : (bound : Amount) (bounds : List Amount) → t.bounds ≡ bound ∷ bounds → AreBounds (has_length options) (bound ∷ bounds)
    bounds_of bound bounds e = subst (λ (bs : List Amount). AreBounds (has_length options) bs) e all

    array_good : {bound : Amount} {bounds : List Amount} {elem : Ty} → t.bounds ≡ bound ∷ bounds → o.length ≡ None → Single draft (of_elements o) t elem
        → (is_bound (amount bound) && may_repeat (arrays bounds elem)) ≡ true
    array_good {bound} {bounds} {elem} e none is =
        let every = bounds_false bound bounds (has_length options) (counted false (ap is_some none)) (bounds_of bound bounds e) in
        and_true (is_bound (amount bound)) (may_repeat (arrays bounds elem)) (bound_good bound (All-head IsBound bound bounds every))
        (repeats draft o t bounds is (All-tail IsBound bound bounds every) (few_of bound bounds e))

    pub walked_field : {type : Ty} → Walked draft o t type → is_field_type type ≡ true
    walked_field (bits {s = s} {n = n} has some most) =
        bits_shape s n some most
    walked_field (single f b is) = single_field is
    walked_field (array {bound = bound} {bounds = bounds} {elem = elem} f e none is) = ap field_type_at (ty.outs-Arr (amount bound) (arrays bounds elem)) ∙ array_good e none is
    walked_field (tail {count = count} {bound = bound} {bounds = bounds} {elem = elem} f e l is) =
        ap field_type_at (ty.outs-Tail count (arrays bounds elem))
        ∙ repeats draft o t bounds is (bounds_true bound bounds (has_length options) (counted true (ap is_some l)) (bounds_of bound bounds e)) (few_of bound bounds e)

    -- a root is no bit-field, no string with a length, no array with a length, and no pointer to what is not defined
    module _ (no_bits : t.bits ≡ None) (no_length : o.string_length ≡ None) (no_undefined : o.maybe_undef ≡ false) (one_count : has_option (codes "length") options ≡ true → t.bounds ≡ []) where
      single_root : {type : Ty} → Single draft o t type → is_root_type type ≡ true
      single_root (number {s = s} b z) = ap root_type_at (ty.outs-Num s)
      single_root (structure {id = id} b z) = ap root_type_at (ty.outs-Node (node id) _)
      single_root (atomic a z) = ap root_type_at (ty.outs-Ptr None kind.Atomic o.reorder) ∙ unsorted (inr a)
      single_root (pointer {id = id} b one) =
          ap root_type_at (ty.outs-Ptr (Some (target.Node (node id))) (kind_by o.length) o.reorder) ∙ by_kind (node id) o.length o.reorder ∙ pointer_target id b one
        where
          by_kind : (to : TypeId) (count : Option Expr) (r : Bool) → root_type_at (part.Ptr (Some (target.Node to)) (kind_by count) r) ≡ has_target (Some (target.Node to)) (kind_by count) r
          by_kind to None r = refl
          by_kind to (Some c) r = refl
      single_root (pointers {id = id} {count = count} b two l) = ap root_type_at (ty.outs-Ptr (Some (target.Pointers (node id))) (kind.Length count) o.reorder)
      single_root (string {s = s} b one) = ap root_type_at (ap (λ (l : Option Expr). out-Ty (ty.Str l)) no_length ∙ ty.outs-Str None)
      single_root (strings {s = s} {count = count} b two l) = ap root_type_at (ty.outs-Ptr (Some target.Strings) (kind.Length count) o.reorder) ∙ string_target s b
      single_root (undefined b one m) = absurd (cc)

      pub walked_root : {type : Ty} → Walked draft o t type → is_root_type type ≡ true
      walked_root (bits has some most) = absurd (cc)
      walked_root (single f b is) = single_root is
      walked_root (array {bound = bound} {bounds = bounds} {elem = elem} f e none is) = ap root_type_at (ty.outs-Arr (amount bound) (arrays bounds elem)) ∙ array_good e none is
      walked_root (tail {bound = bound} {bounds = bounds} f e l is) =
          let empty = one_count (sym (is_said names (codes "length") options) ∙ ap is_some l) in
          let never : [] ≡ bound ∷ bounds = sym empty ∙ e in absurd (cc)
