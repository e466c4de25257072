-- What the types of fields and roots name: the parts that rest on the type alone.
use Rattle.std.proofs.Common.{◌≡◌, ◌∙◌, ◌⊎◌, inl, inr, ℕ, Bool, true, false, List, [], ◌∷◌, Option, Some, None, refl, sym, ap, subst}
use Rattle.std.specs.Prelude.{IfSome}
use Rattle.std.proofs.lemmas.Option.{none-some}
use Rattle.gt_types.specs.declared.expressions.Expr.{Expr}
use Rattle.gt_types.specs.declared.types.Scalar.{Scalar}
use Rattle.gt_types.specs.declared.types.Target.{Target}
use Rattle.gt_types.specs.declared.types.PtrKind.{PtrKind}
use Rattle.gt_types.specs.declared.types.Target.TheVariants as target
use Rattle.gt_types.specs.declared.types.PtrKind.TheVariants as kind
use Rattle.gt_types.specs.declared.types.TypeId.{TypeId}
use Rattle.gt_types.specs.declared.types.Ty.{Ty}
use Rattle.gt_types.specs.declared.types.Ty.TheVariants as ty
use Rattle.gt_types.specs.declared.types.Ty.TheOpen as part
use Rattle.gt_types.specs.declared.types.Ty.TheFolds.{fold-roll-Ty}
use Rattle.gt_types.specs.declared.program.Structure.{Structure}
use Rattle.gt_types.specs.declared.program.Program.{Program}
use Rattle.gt_types.specs.Shapes.{count_of, innermost, innermost_step, is_pointer, is_structure, is_tail}
use Rattle.gt_types.specs.Contains.{held_by, itself}
use Rattle.gt_types.specs.Paths.{MayStand}
use Rattle.gt_types.specs.Tails.{elements_of, elements_at}
use Rattle.gt_types.specs.Settled.{EndsInPointers, NamesStanding, NamesSortable, NamesDescribed}
use Rattle.gt_items.specs.declared.items.Stars.{Stars}
use Rattle.gt_items.specs.declared.items.Stars.TheVariants.{Zero, One, Two, More}
use Rattle.gt_drafts.specs.declared.types.Amount.{Amount}
use Rattle.gt_drafts.specs.declared.types.BaseType.TheVariants as base
use Rattle.gt_drafts.specs.declared.types.DeclaredType.{DeclaredType}
use Rattle.gt_drafts.specs.declared.draft.Draft.{Draft}
use Rattle.gt_drafts.specs.Undefined.{is_zero}
use Rattle.gt_markers.specs.declared.type_options.TypeOptions.{TypeOptions}
use Rattle.gt_markers.specs.Typing.{amount, arrays, desc_at, kind_by, node, of_elements}
use Rattle.gt_settled.proofs.Types.{Single, number, structure, atomic, pointer, pointers, string, strings, undefined, Walked, bits, single, array, tail}

-- ---- the innermost type

inner-arr : (n : ℕ) (e : Ty) → innermost (ty.Arr n e) ≡ innermost e
inner-arr n e = ap innermost (sym (ty.rolls-Arr n e)) ∙ fold-roll-Ty Ty innermost_step (part.Arr n e)

inner-tail : (c : Expr) (e : Ty) → innermost (ty.Tail c e) ≡ innermost e
inner-tail c e = ap innermost (sym (ty.rolls-Tail c e)) ∙ fold-roll-Ty Ty innermost_step (part.Tail c e)

inner-arrays : (bounds : List Amount) (e : Ty) → innermost (arrays bounds e) ≡ innermost e
inner-arrays [] e = refl
inner-arrays (bound ∷ bounds) e = inner-arr (amount bound) (arrays bounds e) ∙ inner-arrays bounds e

inner-ptr : (t : Option Target) (k : PtrKind) (r : Bool) → innermost (ty.Ptr t k r) ≡ ty.Ptr t k r
inner-ptr t k r = ap innermost (sym (ty.rolls-Ptr t k r)) ∙ fold-roll-Ty Ty innermost_step (part.Ptr t k r)

pub inner-bits : (s : Scalar) (n : ℕ) → innermost (ty.Bits s n) ≡ ty.Bits s n
inner-bits s n = ap innermost (sym (ty.rolls-Bits s n)) ∙ fold-roll-Ty Ty innermost_step (part.Bits s n)

pub inner-num : (s : Scalar) → innermost (ty.Num s) ≡ ty.Num s
inner-num s = ap innermost (sym (ty.rolls-Num s)) ∙ fold-roll-Ty Ty innermost_step (part.Num s)

pub inner-opaque : (size align : ℕ) → innermost (ty.Opaque size align) ≡ ty.Opaque size align
inner-opaque size align = ap innermost (sym (ty.rolls-Opaque size align)) ∙ fold-roll-Ty Ty innermost_step (part.Opaque size align)

inner-str : (c : Option Expr) → innermost (ty.Str c) ≡ ty.Str c
inner-str c = ap innermost (sym (ty.rolls-Str c)) ∙ fold-roll-Ty Ty innermost_step (part.Str c)

inner-node : (id : TypeId) (d : Option Expr) → innermost (ty.Node id d) ≡ ty.Node id d
inner-node id d = ap innermost (sym (ty.rolls-Node id d)) ∙ fold-roll-Ty Ty innermost_step (part.Node id d)

-- what is no array is its own innermost type
pub own_inner : (draft : Draft) (o : TypeOptions) (t : DeclaredType) {type : Ty} → Single draft o t type → innermost type ≡ type
own_inner draft o t (number {s = s} b z) = inner-num s
own_inner draft o t (structure {id = id} b z) = inner-node (node id) _
own_inner draft o t (atomic a z) = inner-ptr None kind.Atomic o.reorder
own_inner draft o t (pointer {id = id} b z) = inner-ptr (Some (target.Node (node id))) (kind_by o.length) o.reorder
own_inner draft o t (pointers {id = id} {count = count} b z l) = inner-ptr (Some (target.Pointers (node id))) (kind.Length count) o.reorder
own_inner draft o t (string b z) = inner-str o.string_length
own_inner draft o t (strings {count = count} b z l) = inner-ptr (Some target.Strings) (kind.Length count) o.reorder
own_inner draft o t (undefined b z m) = inner-ptr None kind.Undef o.reorder

-- ---- properties of the innermost type

-- what holds of a bit-field, and of what is no array, holds of the innermost type
pub of_inner : (draft : Draft) (o : TypeOptions) (t : DeclaredType) (P : Ty → Type 0) (type : Ty) → Walked draft o t type → ((s : Scalar) (n : ℕ) → P (ty.Bits s n))
    → ((elem : Ty) → innermost type ≡ elem → t.is_function ≡ false → Single draft o t elem → P elem)
    → ((elem : Ty) → innermost type ≡ elem → t.is_function ≡ false → Single draft (of_elements o) t elem → P elem) → P (innermost type)
of_inner draft o t P type (bits {s = s} {n = n} has some most) bit one elements = subst P (sym (inner-bits s n)) (bit s n)
of_inner draft o t P type (single f b is) bit one elements = let e = own_inner draft o t is in subst P (sym e) (one type e f is)
of_inner draft o t P type (array {bound = bound} {bounds = bounds} {elem = elem} f b none is) bit one elements =
    let e = inner-arr (amount bound) (arrays bounds elem) ∙ inner-arrays bounds elem ∙ own_inner draft (of_elements o) t is in subst P (sym e) (elements elem e f is)
of_inner draft o t P type (tail {count = count} {bounds = bounds} {elem = elem} f b l is) bit one elements =
    let e = inner-tail count (arrays bounds elem) ∙ inner-arrays bounds elem ∙ own_inner draft (of_elements o) t is in subst P (sym e) (elements elem e f is)

-- ---- where a pointer may lead

pub standing : (draft : Draft) (o : TypeOptions) (t : DeclaredType) (program : Program) → ((id : ℕ) (stars : Stars) → t.resolved.base ≡ base.Structure id → t.resolved.stars ≡ stars → is_zero stars ≡ false → ¬ (stars ≡ More) → MayStand program (node id))
    → {type : Ty} → Single draft o t type → NamesStanding program type
standing draft o t program stands (number b z) = tt
standing draft o t program stands (structure b z) = tt
standing draft o t program stands (atomic a z) = tt
standing draft o t program stands (pointer {id = id} b one) = stands id One b one refl (λ e. cc)
standing draft o t program stands (pointers {id = id} b two l) = stands id Two b two refl (λ e. cc)
standing draft o t program stands (string b one) = tt
standing draft o t program stands (strings b two l) = tt
standing draft o t program stands (undefined b one m) = tt

sort_by : (program : Program) (id : TypeId) (count : Option Expr) (r : Bool) → (r ≡ true → NamesSortable program (ty.Ptr (Some (target.Node id)) (kind_by count) r))
    → NamesSortable program (ty.Ptr (Some (target.Node id)) (kind_by count) r)
sort_by program id count true h = h refl
sort_by program id None false h = tt
sort_by program id (Some c) false h = tt

sortable : (draft : Draft) (o : TypeOptions) (t : DeclaredType) (program : Program) {type : Ty} → (o.reorder ≡ true → NamesSortable program type) → Single draft o t type → NamesSortable program type
sortable draft o t program h (number b z) = tt
sortable draft o t program h (structure b z) = tt
sortable draft o t program h (atomic a z) = tt
sortable draft o t program h (pointer {id = id} b one) = sort_by program (node id) o.length o.reorder h
sortable draft o t program h (pointers b two l) = tt
sortable draft o t program h (string b one) = tt
sortable draft o t program h (strings b two l) = tt
sortable draft o t program h (undefined b one m) = tt

pub walked_sortable : (draft : Draft) (o : TypeOptions) (t : DeclaredType) (program : Program) (type : Ty) → (o.reorder ≡ true → NamesSortable program type) → Walked draft o t type
    → NamesSortable program (innermost type)
walked_sortable draft o t program type h (bits {s = s} {n = n} has some most) = subst (NamesSortable program) (sym (inner-bits s n)) tt
walked_sortable draft o t program type h (single f b is) = subst (NamesSortable program) (sym (own_inner draft o t is)) (sortable draft o t program h is)
walked_sortable draft o t program type h (array {bound = bound} {bounds = bounds} {elem = elem} f b none is) =
    subst (NamesSortable program) (sym (inner-arr (amount bound) (arrays bounds elem) ∙ inner-arrays bounds elem ∙ own_inner draft (of_elements o) t is))
    (sortable draft (of_elements o) t program (λ r. absurd (cc)) is)
walked_sortable draft o t program type h (tail {count = count} {bounds = bounds} {elem = elem} f b l is) =
    subst (NamesSortable program) (sym (inner-tail count (arrays bounds elem) ∙ inner-arrays bounds elem ∙ own_inner draft (of_elements o) t is))
    (sortable draft (of_elements o) t program (λ r. absurd (cc)) is)

plain_sortable : (program : Program) (id : TypeId) (count : Option Expr) (r : Bool) → (count ≡ None → r ≡ true → EndsInPointers program id)
    → NamesSortable program (ty.Ptr (Some (target.Node id)) (kind_by count) r)
plain_sortable program id None true h = h refl refl
plain_sortable program id (Some c) true h = tt
plain_sortable program id None false h = tt
plain_sortable program id (Some c) false h = tt

-- what is sorted is a plain pointer, where this one names a struct that ends in plain pointers
pub pointer_sortable : (draft : Draft) (o : TypeOptions) (t : DeclaredType) (program : Program)
    → ((id : ℕ) → t.resolved.base ≡ base.Structure id → t.resolved.stars ≡ One → o.length ≡ None → o.reorder ≡ true → EndsInPointers program (node id))
    → {type : Ty} → Single draft o t type → NamesSortable program type
pointer_sortable draft o t program h (number b z) = tt
pointer_sortable draft o t program h (structure b z) = tt
pointer_sortable draft o t program h (atomic a z) = tt
pointer_sortable draft o t program h (pointer {id = id} b one) = plain_sortable program (node id) o.length o.reorder (h id b one)
pointer_sortable draft o t program h (pointers b two l) = tt
pointer_sortable draft o t program h (string b one) = tt
pointer_sortable draft o t program h (strings b two l) = tt
pointer_sortable draft o t program h (undefined b one m) = tt

pub described : (draft : Draft) (o : TypeOptions) (t : DeclaredType) (program : Program) (good : TypeId → Structure → Expr → Type 0) (type : Ty)
    → ((id : ℕ) → t.resolved.base ≡ base.Structure id → t.resolved.stars ≡ Zero → type ≡ ty.Node (node id) (desc_at draft id o.desc) → NamesDescribed program good (ty.Node (node id) (desc_at draft id o.desc)))
    → Single draft o t type → NamesDescribed program good type
described draft o t program good type h (number b z) = tt
described draft o t program good type h (structure {id = id} b z) = h id b z refl
described draft o t program good type h (atomic a z) = tt
described draft o t program good type h (pointer b one) = tt
described draft o t program good type h (pointers b two l) = tt
described draft o t program good type h (string b one) = tt
described draft o t program good type h (strings b two l) = tt
described draft o t program good type h (undefined b one m) = tt

-- ---- counts

string_count : (Good : Expr → Type 0) (l : Option Expr) → ((e : Expr) → l ≡ Some e → Good e) → IfSome (count_of (ty.Str l)) Good
string_count Good None h = tt
string_count Good (Some e) h = h e refl

pointer_count : (Good : Expr → Type 0) (id : TypeId) (l : Option Expr) (r : Bool) → ((e : Expr) → l ≡ Some e → Good e) → IfSome (count_of (ty.Ptr (Some (target.Node id)) (kind_by l) r)) Good
pointer_count Good id None r h = tt
pointer_count Good id (Some e) r h = h e refl

single_count : (draft : Draft) (o : TypeOptions) (t : DeclaredType) (Good : Expr → Type 0) → ((e : Expr) → o.length ≡ Some e → Good e) → ((e : Expr) → o.string_length ≡ Some e → Good e)
    → {type : Ty} → Single draft o t type → IfSome (count_of type) Good
single_count draft o t Good h k (number b z) = tt
single_count draft o t Good h k (structure b z) = tt
single_count draft o t Good h k (atomic a z) = tt
single_count draft o t Good h k (pointer {id = id} b one) = pointer_count Good (node id) o.length o.reorder h
single_count draft o t Good h k (pointers {count = count} b two l) = h count l
single_count draft o t Good h k (string b one) = string_count Good o.string_length k
single_count draft o t Good h k (strings {count = count} b two l) = h count l
single_count draft o t Good h k (undefined b one m) = tt

pub counted : (draft : Draft) (o : TypeOptions) (t : DeclaredType) (Good : Expr → Type 0) → ((e : Expr) → o.length ≡ Some e → Good e) → ((e : Expr) → o.string_length ≡ Some e → Good e)
    → {type : Ty} → Walked draft o t type → IfSome (count_of type) Good
counted draft o t Good h k (bits has some most) = tt
counted draft o t Good h k (single f b is) = single_count draft o t Good h k is
counted draft o t Good h k (array f b none is) = tt
counted draft o t Good h k (tail {count = count} f b l is) = h count l

-- ---- what a type holds by value

single_held : (draft : Draft) (o : TypeOptions) (t : DeclaredType) (id : TypeId) {type : Ty} → Single draft o t type → itself type ≡ Some id → is_structure type ≡ true
single_held draft o t id (number b z) e = absurd (none-some id e)
single_held draft o t id (structure b z) e = refl
single_held draft o t id (atomic a z) e = absurd (none-some id e)
single_held draft o t id (pointer b one) e = absurd (none-some id e)
single_held draft o t id (pointers b two l) e = absurd (none-some id e)
single_held draft o t id (string b one) e = absurd (none-some id e)
single_held draft o t id (strings b two l) e = absurd (none-some id e)
single_held draft o t id (undefined b one m) e = absurd (none-some id e)

-- what holds a structure by value and is no array is one
pub held_whole : (draft : Draft) (o : TypeOptions) (t : DeclaredType) (id : TypeId) {type : Ty} → Walked draft o t type → t.bounds ≡ [] → held_by type ≡ Some id → is_structure type ≡ true
held_whole draft o t id (bits {s = s} {n = n} has some most) e held = absurd (none-some id (sym (ap itself (inner-bits s n)) ∙ held))
held_whole draft o t id (single f b is) e held = single_held draft o t id is (sym (ap itself (own_inner draft o t is)) ∙ held)
held_whole draft o t id (array {bound = bound} {bounds = bounds} f b none is) e held = let never : [] ≡ bound ∷ bounds = sym e ∙ b in absurd (cc)
held_whole draft o t id (tail {bound = bound} {bounds = bounds} f b l is) e held = let never : [] ≡ bound ∷ bounds = sym e ∙ b in absurd (cc)

-- ---- pointers

pub points : (draft : Draft) (o : TypeOptions) (t : DeclaredType) {type : Ty} → is_zero t.resolved.stars ≡ false → Single draft o t type → is_pointer type ≡ true
points draft o t some (number b z) = let never : true ≡ false = sym (ap is_zero z) ∙ some in absurd (cc)
points draft o t some (structure b z) = let never : true ≡ false = sym (ap is_zero z) ∙ some in absurd (cc)
points draft o t some (atomic a z) = refl
points draft o t some (pointer b one) = refl
points draft o t some (pointers b two l) = refl
points draft o t some (string b one) = refl
points draft o t some (strings b two l) = refl
points draft o t some (undefined b one m) = refl

-- ---- arrays with a length

pub single_no_tail : (draft : Draft) (o : TypeOptions) (t : DeclaredType) {type : Ty} → Single draft o t type → (is_tail type ≡ false) × (elements_of type ≡ None)
single_no_tail draft o t (number {s = s} b z) = (refl, ap elements_at (ty.outs-Num s))
single_no_tail draft o t (structure {id = id} b z) = (refl, ap elements_at (ty.outs-Node (node id) _))
single_no_tail draft o t (atomic a z) = (refl, ap elements_at (ty.outs-Ptr None kind.Atomic o.reorder))
single_no_tail draft o t (pointer {id = id} b one) = (refl, ap elements_at (ty.outs-Ptr (Some (target.Node (node id))) (kind_by o.length) o.reorder))
single_no_tail draft o t (pointers {id = id} {count = count} b two l) = (refl, ap elements_at (ty.outs-Ptr (Some (target.Pointers (node id))) (kind.Length count) o.reorder))
single_no_tail draft o t (string b one) = (refl, ap elements_at (ty.outs-Str o.string_length))
single_no_tail draft o t (strings {count = count} b two l) = (refl, ap elements_at (ty.outs-Ptr (Some target.Strings) (kind.Length count) o.reorder))
single_no_tail draft o t (undefined b one m) = (refl, ap elements_at (ty.outs-Ptr None kind.Undef o.reorder))

-- an array with a length has one by its options
pub tail_options : (draft : Draft) (o : TypeOptions) (t : DeclaredType) {type : Ty} → Walked draft o t type → (is_tail type ≡ true) ⊎ ((x : Ty) × (elements_of type ≡ Some x))
    → (t.is_function ≡ false) × ¬ (t.bounds ≡ []) × ((count : Expr) × (o.length ≡ Some count))
tail_options draft o t (bits {s = s} {n = n} has some most) (inl e) = absurd (cc)
tail_options draft o t (bits {s = s} {n = n} has some most) (inr (x, e)) = absurd (none-some x (sym (ap elements_at (ty.outs-Bits s n)) ∙ e))
tail_options draft o t (single f b is) (inl e) = let no = (single_no_tail draft o t is).0 in absurd (cc)
tail_options draft o t (single f b is) (inr (x, e)) = absurd (none-some x (sym (single_no_tail draft o t is).1 ∙ e))
tail_options draft o t (array f b none is) (inl e) = absurd (cc)
tail_options draft o t (array {bound = bound} {bounds = bounds} {elem = elem} f b none is) (inr (x, e)) = absurd (none-some x (sym (ap elements_at (ty.outs-Arr (amount bound) (arrays bounds elem))) ∙ e))
tail_options draft o t (tail {count = count} f b l is) e = (f, λ empty. (let never = sym empty ∙ b in cc), (count, l))

-- what is declared with a star is a pointer, or an array of them
pub walked_points : (draft : Draft) (o : TypeOptions) (t : DeclaredType) (type : Ty) → t.bits ≡ None → is_zero t.resolved.stars ≡ false → Walked draft o t type → is_pointer (innermost type) ≡ true
walked_points draft o t type no_bits some (bits {count = count} has more most) = absurd (none-some count (sym no_bits ∙ has))
walked_points draft o t type no_bits some (single f b is) = ap is_pointer (own_inner draft o t is) ∙ points draft o t some is
walked_points draft o t type no_bits some (array {bound = bound} {bounds = bounds} {elem = elem} f b none is) =
    ap is_pointer (inner-arr (amount bound) (arrays bounds elem) ∙ inner-arrays bounds elem ∙ own_inner draft (of_elements o) t is) ∙ points draft (of_elements o) t some is
walked_points draft o t type no_bits some (tail {count = count} {bounds = bounds} {elem = elem} f b l is) =
    ap is_pointer (inner-tail count (arrays bounds elem) ∙ inner-arrays bounds elem ∙ own_inner draft (of_elements o) t is) ∙ points draft (of_elements o) t some is
