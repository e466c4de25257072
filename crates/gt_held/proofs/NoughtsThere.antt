-- What is of no tail type has a zero value.
use Rattle.std.proofs.Common.{◌≡◌, ◌≤◌, ◌⊎◌, ℕ, zero, suc, ◌-◌, Bool, true, false, not, ◌&&◌, IsTrue, List, [], ◌∷◌, get_or, replicate, All, Option, Some, None, refl, sym, ap, subst, ◌∙◌, arith, inl, inr, pos}
use Rattle.std.specs.Prelude.{is_some, Contains}
use Rattle.std.proofs.lemmas.List.Elements.{All-head, All-tail, All-contains, Contains-get_or}
use Rattle.std.proofs.lemmas.Option.{slice_get-get_or, slice_get_within, get_or_from_slice_get}
use Rattle.gt_types.specs.declared.expressions.Expr.{Expr}
use Rattle.gt_types.specs.declared.types.TypeId.{TypeId}
use Rattle.gt_types.specs.declared.types.Ty.{Ty, out-Ty}
use Rattle.gt_types.specs.declared.types.Ty.TheFolds.{fold_out-Ty, map-Ty}
use Rattle.gt_types.specs.declared.types.Ty.TheOpen as part
use Rattle.gt_types.specs.declared.types.Ty.TheOpen.{Ty-F}
use Rattle.gt_types.specs.declared.types.Ty.TheVariants as ty
use Rattle.gt_types.specs.declared.types.Ty.TheVariants.{outs-Num, outs-Bits, outs-Opaque, outs-Str, outs-Ptr, outs-Node, outs-Arr', outs-Tail'}
use Rattle.gt_types.specs.declared.program.Field.{Field}
use Rattle.gt_types.specs.declared.program.Structure.{Structure}
use Rattle.gt_types.specs.declared.program.Program.{Program}
use Rattle.gt_types.specs.Shapes.{dimensions, is_element, is_element_step, is_tail, is_bound, is_structure, may_repeat, field_type_at}
use Rattle.gt_types.specs.Contains.{HasStructure, held_by}
use Rattle.gt_types.specs.Tails.{IsTailType, elements_at, tail_of, only_last_is_tail, no_tails}
use Rattle.gt_types.specs.Unions.{IsCommon}
use Rattle.gt_types.specs.Settled.{Settled, IsField, IsStruct, IsUnion, IsOfItsKind}
use Rattle.gt_layout.specs.Progress.{IsWithinDepth, HoldsWithinDepth}
use Rattle.gt_layout.proofs.Capacities.{shallow_fields}
use Rattle.gt_tree.specs.Trees.{Tree, Num, Null, Raw, Rec, Alt, Row, Trees, End, And}
use Rattle.gt_tree.specs.Fits.{types_of, active_member}
use Rattle.gt_tree.proofs.Types.{held-node, held-array}
use Rattle.gt_held.proofs.Commons.{get-there}
use Rattle.gt_value.specs.Noughts.{IsNought, AreNoughts, AreElements, zero_desc}
use Rattle.gt_value.proofs.Dimensions.{array-dimensions}
use Rattle.gt_value.proofs.ZeroSteps.{field-flat, active-within}

-- ---- types without a length

-- a type that is no array with a length, and no array of such
abbrev pub plain_at : Ty-F Ty → Bool
plain_at (part.Tail count elem) = false
plain_at (part.Arr n elem) = is_element elem
plain_at layer = true

pub both-true : (a b : Bool) → IsTrue (a && b) → IsTrue a × IsTrue b
both-true true true h = (refl, refl)
both-true true false h = (refl, h)
both-true false b h = absurd (cc)

element-plain_at : (x : Ty-F Ty) → IsTrue (is_element_step (map-Ty Ty Bool is_element x)) → IsTrue (plain_at x)
element-plain_at (part.Num scalar) h = refl
element-plain_at (part.Bits unit width) h = refl
element-plain_at (part.Opaque size align) h = refl
element-plain_at (part.Str count) h = refl
element-plain_at (part.Ptr target kind reorder) h = refl
element-plain_at (part.Node node desc) h = refl
element-plain_at (part.Arr n elem) h = (both-true (is_bound n) (is_element elem) h).1
element-plain_at (part.Tail count elem) h = h

element-plain : (type : Ty) → IsTrue (is_element type) → IsTrue (plain_at (out-Ty type))
element-plain type h = element-plain_at (out-Ty type) (subst IsTrue (fold_out-Ty Bool is_element_step type) h)

field-plain_at : (x : Ty-F Ty) → IsTrue (field_type_at x) → ((count : Expr) (elem : Ty) → ¬ (x ≡ part.Tail count elem)) → IsTrue (plain_at x)
field-plain_at (part.Num scalar) h t = refl
field-plain_at (part.Bits unit width) h t = refl
field-plain_at (part.Opaque size align) h t = refl
field-plain_at (part.Str count) h t = refl
field-plain_at (part.Ptr target kind reorder) h t = refl
field-plain_at (part.Node node desc) h t = refl
field-plain_at (part.Arr n elem) h t = (both-true (is_element elem) _ (both-true (is_bound n) (may_repeat elem) h).1).0
field-plain_at (part.Tail count elem) h t = absurd (t count elem refl)

pub is-tail : (type : Ty) (count : Expr) (elem : Ty) → out-Ty type ≡ part.Tail count elem → is_tail type ≡ true
is-tail (ty.Num scalar) count elem e = let o = outs-Num scalar in absurd (cc)
is-tail (ty.Bits unit width) count elem e = let o = outs-Bits unit width in absurd (cc)
is-tail (ty.Opaque size align) count elem e = let o = outs-Opaque size align in absurd (cc)
is-tail (ty.Str own) count elem e = let o = outs-Str own in absurd (cc)
is-tail (ty.Ptr target kind reorder) count elem e = let o = outs-Ptr target kind reorder in absurd (cc)
is-tail (ty.Node node desc) count elem e = let o = outs-Node node desc in absurd (cc)
is-tail (ty.Arr' n shape inner) count elem e = let o = outs-Arr' n shape inner in absurd (cc)
is-tail (ty.Tail' own shape inner) count elem e = refl

-- no array with a length among fields
abbrev pub HasNoTail : Ty → Type 0
HasNoTail type = (count : Expr) (elem : Ty) → ¬ (out-Ty type ≡ part.Tail count elem)

not-true : (b : Bool) → IsTrue (not b) → ¬ (b ≡ true)
not-true true h e = cc
not-true false h e = cc

no-tail-by : (type : Ty) → ¬ (is_tail type ≡ true) → HasNoTail type
no-tail-by type h count elem e = h (is-tail type count elem e)

pub struct-fields : (fields : List Field) → IsTrue (only_last_is_tail fields) → ¬ IsTrue (is_some (tail_of fields)) → All (λ f. HasNoTail f.ty) fields
struct-fields [] last none k d within = absurd (omega (arith, within))
struct-fields (f ∷ []) last none zero d within = λ count elem e. none (ap (λ x. is_some (elements_at x)) e)
struct-fields (f ∷ []) last none (suc k) d within = absurd (omega (arith, within))
struct-fields (f ∷ g ∷ fs) last none zero d within = no-tail-by f.ty (not-true (is_tail f.ty) (both-true (not (is_tail f.ty)) (only_last_is_tail (g ∷ fs)) last).0)
struct-fields (f ∷ g ∷ fs) last none (suc k) d within = struct-fields (g ∷ fs) (both-true (not (is_tail f.ty)) (only_last_is_tail (g ∷ fs)) last).1 none k d (omega (arith, within))

pub union-fields : (fields : List Field) → IsTrue (no_tails fields) → All (λ f. HasNoTail f.ty) fields
union-fields [] none k d within = absurd (omega (arith, within))
union-fields (f ∷ fs) none zero d within = no-tail-by f.ty (not-true (is_tail f.ty) (both-true (not (is_tail f.ty)) (no_tails fs) none).0)
union-fields (f ∷ fs) none (suc k) d within = union-fields fs (both-true (not (is_tail f.ty)) (no_tails fs) none).1 k d (omega (arith, within))

pub structure-node : (type : Ty) → IsTrue (is_structure type) → (node : TypeId) × (desc : Option Expr) × (type ≡ ty.Node node desc)
structure-node (ty.Node node desc) h = (node, desc, refl)
structure-node type h = absurd (cc)

-- ---- structures of no tail type

-- a structure of no tail type, inside which structures stand so deep
abbrev pub IsPlainWithin : Program → ℕ → TypeId → Type 0
IsPlainWithin program depth node = (s : Structure) × HasStructure program node s × IsWithinDepth program node.0 depth × ¬ IsTailType program node

abbrev pub IsPlainInside : Program → ℕ → TypeId → Type 0
IsPlainInside program depth node = (1 ≤ depth) × IsPlainWithin program (depth - 1) node

-- what a field of such a structure holds is none either
pub plain-inside : (program : Program) (settled : Settled program) (depth : ℕ) (node : TypeId) (s : Structure) → HasStructure program node s → IsWithinDepth program node.0 depth → ¬ IsTailType program node
    → (f : Field) → Contains s.fields f → (inner : TypeId) → held_by f.ty ≡ Some inner → IsPlainInside program depth inner
plain-inside program settled depth node s has shallow whole f contains inner held =
    let deep = All-contains (λ (g : Field). HoldsWithinDepth program g.ty depth) s.fields f (shallow_fields program node.0 depth s s.fields settled has shallow refl) contains inner held in (
      deep.1,
      (
        get_or program.structures inner.0 s,
        slice_get-get_or program.structures inner.0 s deep.0,
        deep.2,
        λ of.
            let kept = (All-contains (IsField program node s) s.fields f (settled.structures node s has).fields contains).tails inner held of in
            let is = structure-node f.ty kept.1 in
            let same : is.0 ≡ inner = (let two = sym (ap held_by is.2 ∙ held-node is.0 is.1) ∙ held in cc) in
            whole (IsTailType.has_member has kept.0 contains is.2 (subst (λ n. IsTailType program n) (sym same) of)),
      ),
    )

-- ---- zero values

module _ (program : Program) (settled : Settled program)
    (decided : (node : TypeId) (s : Structure) → HasStructure program node s → ((common : TypeId) × IsCommon program s common) ⊎ ((common : TypeId) → ¬ IsCommon program s common)) where
  abbrev HasNought : Ty → Type 0
  HasNought type = (tree : Tree) × IsNought program 0 type tree

  elements : (n : ℕ) (type : Ty) → HasNought type → (trees : Trees) × AreElements program 0 n type trees
  elements zero type one = (End, AreElements.no_more)
  elements (suc n) type one = let rest = elements n type one in (And one.0 rest.0, AreElements.one_more one.1 rest.1)

  values : (fields : List Field) → All (λ f. HasNought f.ty) fields → (trees : Trees) × AreNoughts program 0 (types_of fields) trees
  values [] all = (End, AreNoughts.none)
  values (f ∷ fs) all =
      let one = All-head (λ (g : Field). HasNought g.ty) f fs all in
      let rest = values fs (All-tail (λ (g : Field). HasNought g.ty) f fs all) in
      (And one.0 rest.0, AreNoughts.more one.1 rest.1)

  module _ (depth : ℕ) (nodes : (node : TypeId) (desc : Option Expr) → IsPlainInside program depth node → HasNought (ty.Node node desc)) where
    of_type : (dims : ℕ) (type : Ty) → dimensions type ≤ dims → IsTrue (plain_at (out-Ty type)) → ((node : TypeId) → held_by type ≡ Some node → IsPlainInside program depth node) → HasNought type
    of_type dims (ty.Num scalar) flat plain held = (Num (pos 0), IsNought.number)
    of_type dims (ty.Bits unit width) flat plain held = (Num (pos 0), IsNought.bits)
    of_type dims (ty.Opaque size align) flat plain held = (Raw (replicate size 0), IsNought.opaque refl)
    of_type dims (ty.Str count) flat plain held = (Null, IsNought.null refl)
    of_type dims (ty.Ptr target kind reorder) flat plain held = (Null, IsNought.null refl)
    of_type dims (ty.Node node desc) flat plain held = nodes node desc (held node (held-node node desc))
    of_type zero (ty.Arr' n shape elem) flat plain held =
        let more = array-dimensions (ty.Arr' n shape elem) _ n (outs-Arr' n shape elem) in absurd (omega (arith, more, flat))
    of_type (suc dims) (ty.Arr' n shape elem) flat plain held =
        let out = outs-Arr' n shape elem in
        let more = array-dimensions (ty.Arr' n shape elem) _ n out in
        let each = elements n _ (of_type dims _ (omega (arith, more, flat)) (element-plain _ (subst (λ x. IsTrue (plain_at x)) out plain)) (λ node is. held node (held-array (ty.Arr' n shape elem) _ n out ∙ is))) in
        (Row each.0, IsNought.array out each.1)
    of_type dims (ty.Tail' count shape elem) flat plain held = let out = ap plain_at (outs-Tail' count shape elem) in absurd (cc)

    module _ (node : TypeId) (s : Structure) (has : HasStructure program node s) (shallow : IsWithinDepth program node.0 depth) (whole : ¬ IsTailType program node) where
      good : (f : Field) → Contains s.fields f → IsField program node s f
      good f contains = All-contains (IsField program node s) s.fields f (settled.structures node s has).fields contains

      inside : (f : Field) → Contains s.fields f → (inner : TypeId) → held_by f.ty ≡ Some inner → IsPlainInside program depth inner
      inside = plain-inside program settled depth node s has shallow whole

      of_field : (f : Field) → Contains s.fields f → HasNoTail f.ty → HasNought f.ty
      of_field f contains no_tail = of_type 4 f.ty (field-flat f.ty (good f contains).shape) (field-plain_at (out-Ty f.ty) (good f contains).shape no_tail) (inside f contains)

      of_fields : All (λ f. HasNoTail f.ty) s.fields → All (λ f. HasNought f.ty) s.fields
      of_fields no_tail k d within = of_field (get_or s.fields k d) (Contains-get_or s.fields k d within) (no_tail k d within)

      of_member : (desc : Option Expr) → s.is_union ≡ true → (active : Option ℕ) → active_member (zero_desc desc) s.fields ≡ active → HasNought (ty.Node node desc)
      of_member desc union (Some place) active =
          let found = get-there s.fields place (active-within (zero_desc desc) s.fields place active) in
          let contains : Contains s.fields found.0 = (place, slice_get_within s.fields place found.0 found.1, get_or_from_slice_get s.fields place found.0 found.0 found.1) in
          let sort : IsUnion program node s = subst (λ u. IsOfItsKind program node s u) union (settled.structures node s has).sort in
          let value = of_field found.0 contains (All-contains (λ (f : Field). HasNoTail f.ty) s.fields found.0 (union-fields s.fields sort.tails) contains) in
          (Alt (Some place) value.0, IsNought.member has union active found.1 value.1)
      of_member desc union None active = elim (decided node s has) [
        | inl c ↦
            let m = c.1.member in
            let value = nodes c.0 None (inside m.0 m.2 c.0 (ap held_by m.3 ∙ held-node c.0 m.1)) in
            (Alt None value.0, IsNought.common has union active c.1 value.1)
        | inr none ↦ (Alt None (Rec End), IsNought.nothing has union active none)
      ]

      of_kind : (desc : Option Expr) (union : Bool) → s.is_union ≡ union → HasNought (ty.Node node desc)
      of_kind desc true union = of_member desc union (active_member (zero_desc desc) s.fields) refl
      of_kind desc false struct =
          let sort : IsStruct s = subst (λ u. IsOfItsKind program node s u) struct (settled.structures node s has).sort in
          let all = values s.fields (of_fields (struct-fields s.fields sort.last_tail (λ tail. whole (IsTailType.ends has struct tail)))) in
          (Rec all.0, IsNought.struct has struct all.1)

    of_structure : (node : TypeId) (desc : Option Expr) → IsPlainWithin program depth node → HasNought (ty.Node node desc)
    of_structure node desc (s, has, shallow, whole) = of_kind node s has shallow whole desc s.is_union refl

  pub nought-there : (depth : ℕ) (node : TypeId) (desc : Option Expr) → IsPlainWithin program depth node → HasNought (ty.Node node desc)
  nought-there zero node desc plain = of_structure zero (λ n e inner. absurd (omega (arith, inner.0))) node desc plain
  nought-there (suc depth) node desc plain =
      of_structure (suc depth) (λ n e inner. nought-there depth n e (let less : suc depth - 1 ≡ depth = omega arith in subst (λ d. IsPlainWithin program d n) less inner.1)) node desc plain
