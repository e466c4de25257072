-- What the types of a settled program's fields and roots name is found by its name.
use Rattle.std.proofs.Common.{◌≡◌, Bool, true, [], ◌∷◌, Option, Some, None, IfSome, refl, sym, ap, ◌∙◌, subst}
use Rattle.std.specs.Prelude.{All}
use Rattle.std.proofs.lemmas.Bool.{and_parts, false≢true}
use Rattle.std.proofs.lemmas.List.Elements.{All-nil, All-cons}
use Rattle.gt_types.specs.declared.expressions.Expr.{Expr}
use Rattle.gt_types.specs.declared.types.TypeId.{TypeId}
use Rattle.gt_types.specs.declared.types.Target.{Target}
use Rattle.gt_types.specs.declared.types.Target.TheVariants as target
use Rattle.gt_types.specs.declared.types.PtrKind.{PtrKind}
use Rattle.gt_types.specs.declared.types.PtrKind.TheVariants as kind
use Rattle.gt_types.specs.declared.types.Ty.{Ty, out-Ty}
use Rattle.gt_types.specs.declared.types.Ty.TheOpen as layer
use Rattle.gt_types.specs.declared.types.Ty.TheOpen.{Ty-F}
use Rattle.gt_types.specs.declared.types.Ty.TheVariants as ty
use Rattle.gt_types.specs.declared.program.Field.{Field}
use Rattle.gt_types.specs.declared.program.Structure.{Structure}
use Rattle.gt_types.specs.declared.program.Root.{Root as RootOf}
use Rattle.gt_types.specs.declared.program.Program.{Program}
use Rattle.gt_types.specs.Shapes.{innermost, innermost_step, count_of, has_target, is_element, is_element_step, field_type_at, is_field_type, root_type_at}
use Rattle.gt_types.specs.Contains.{HasStructure}
use Rattle.gt_types.specs.Paths.{IsOption, IsFieldDesc, IsRootCount}
use Rattle.gt_types.specs.Settled.{NamesStanding, NamesDescribed, NamesFit, IsField, IsDescOfRoot, IsRoot, Settled}
use Rattle.gt_canon.proofs.Inductions.{each_type}
use Rattle.gt_canon.proofs.TypeForms.{ids_of, ids_step, exprs_of, exprs_step, option_exprs, kind_exprs, target_ids, has_targets, targets_step, at-num, at-bits, at-opaque, at-str, at-ptr, at-node, at-arr, at-tail}
use Rattle.gt_canon.proofs.Knowing.{IdIn, ExprIn, TypeIn, known_id, known_option, known_field_desc, known_root_count, known_desc_of_root}

-- ---- structures

target_known :
    (program : Program) (t : Option Target) (k : PtrKind) (r : Bool) → Settled program → NamesStanding program (ty.Ptr t k r)
    → All (IdIn program) (target_ids t)
target_known program (Some (target.Node id)) k r settled h =
    All-cons (IdIn program) id [] (known_id program id h.0 settled h.1) (All-nil (IdIn program))
target_known program (Some (target.Pointers id)) k r settled h =
    All-cons (IdIn program) id [] (known_id program id h.0 settled h.1) (All-nil (IdIn program))
target_known program (Some target.Strings) k r settled h = All-nil (IdIn program)
target_known program None k r settled h = All-nil (IdIn program)

abbrev IdsKnown : Program → (TypeId → Structure → Expr → Type 0) → Ty → Type 0
IdsKnown program good t = NamesStanding program (innermost t) → NamesDescribed program good (innermost t) → All (IdIn program) (ids_of t)

ids_known : (program : Program) (good : TypeId → Structure → Expr → Type 0) → Settled program → (t : Ty) → IdsKnown program good t
ids_known program good settled =
    let Ids = All (IdIn program) in
    let none : Ids [] = All-nil (IdIn program) in
    each_type (IdsKnown program good) (record {
      num = λ n h d. subst Ids (sym (at-num ids_step n)) none;
      bits = λ u n h d. subst Ids (sym (at-bits ids_step u n)) none;
      opaque = λ m n h d. subst Ids (sym (at-opaque ids_step m n)) none;
      str = λ e h d. subst Ids (sym (at-str ids_step e)) none;
      ptr = λ t k r h d.
          subst Ids (sym (at-ptr ids_step t k r)) (target_known program t k r settled (subst (NamesStanding program) (at-ptr innermost_step t k r) h));
      node = λ id e h d.
          let described : NamesDescribed program good (ty.Node id e) = subst (NamesDescribed program good) (at-node innermost_step id e) d in
          subst Ids (sym (at-node ids_step id e)) (All-cons (IdIn program) id [] (known_id program id described.0 settled described.1) none);
      arr = λ n t ht h d.
          subst Ids (sym (at-arr ids_step n t))
          (ht (subst (NamesStanding program) (at-arr innermost_step n t) h) (subst (NamesDescribed program good) (at-arr innermost_step n t) d));
      tail = λ e t ht h d.
          subst Ids (sym (at-tail ids_step e t))
          (ht (subst (NamesStanding program) (at-tail innermost_step e t) h) (subst (NamesDescribed program good) (at-tail innermost_step e t) d));
    })

-- ---- expressions of elements

-- each good `desc` of a union is known
abbrev DescsKnown : Program → (TypeId → Structure → Expr → Type 0) → Type 0
DescsKnown program good = (id : TypeId) (s : Structure) (e : Expr) → HasStructure program id s → s.is_union ≡ true → good id s e → ExprIn program e

desc_known :
    (program : Program) (good : TypeId → Structure → Expr → Type 0) (id : TypeId) (desc : Option Expr) → DescsKnown program good
    → NamesDescribed program good (ty.Node id desc) → All (ExprIn program) (option_exprs desc)
desc_known program good id (Some e) known h =
    All-cons (ExprIn program) e [] (known id h.0 e h.1 h.2.0 h.2.1) (All-nil (ExprIn program))
desc_known program good id None known h = All-nil (ExprIn program)

pointer_element : (program : Program) (t : Option Target) (k : PtrKind) (r : Bool) → is_element_step (layer.Ptr t k r) ≡ true → All (ExprIn program) (kind_exprs k)
pointer_element program t kind.Plain r h = All-nil (ExprIn program)
pointer_element program (Some (target.Node id)) (kind.Length count) r h = absurd (false≢true h)
pointer_element program (Some (target.Pointers id)) (kind.Length count) r h = absurd (false≢true h)
pointer_element program (Some target.Strings) (kind.Length count) r h = absurd (false≢true h)
pointer_element program None (kind.Length count) r h = absurd (false≢true h)
pointer_element program t kind.Atomic r h = All-nil (ExprIn program)
pointer_element program t kind.Undef r h = All-nil (ExprIn program)

abbrev ElementKnown : Program → (TypeId → Structure → Expr → Type 0) → Ty → Type 0
ElementKnown program good t = is_element t ≡ true → NamesDescribed program good (innermost t) → All (ExprIn program) (exprs_of t)

str_element : (program : Program) (good : TypeId → Structure → Expr → Type 0) (e : Option Expr) → ElementKnown program good (ty.Str e)
str_element program good None h d = subst (All (ExprIn program)) (sym (at-str exprs_step None)) (All-nil (ExprIn program))
str_element program good (Some e) h d = absurd (false≢true (sym (at-str is_element_step (Some e)) ∙ h))

element_known : (program : Program) (good : TypeId → Structure → Expr → Type 0) → DescsKnown program good → (t : Ty) → ElementKnown program good t
element_known program good known =
    let Exprs = All (ExprIn program) in
    let none : Exprs [] = All-nil (ExprIn program) in
    each_type (ElementKnown program good) (record {
      num = λ n h d. subst Exprs (sym (at-num exprs_step n)) none;
      bits = λ u n h d. subst Exprs (sym (at-bits exprs_step u n)) none;
      opaque = λ m n h d. subst Exprs (sym (at-opaque exprs_step m n)) none;
      str = str_element program good;
      ptr = λ t k r h d.
          subst Exprs (sym (at-ptr exprs_step t k r)) (pointer_element program t k r (sym (at-ptr is_element_step t k r) ∙ h));
      node = λ id e h d.
          subst Exprs (sym (at-node exprs_step id e))
          (desc_known program good id e known (subst (NamesDescribed program good) (at-node innermost_step id e) d));
      arr = λ n t ht h d.
          subst Exprs (sym (at-arr exprs_step n t))
          (ht (and_parts _ _ (sym (at-arr is_element_step n t) ∙ h)).1 (subst (NamesDescribed program good) (at-arr innermost_step n t) d));
      tail = λ e t ht h d. absurd (false≢true (sym (at-tail is_element_step e t) ∙ h));
    })

-- ---- pointers of elements

pointer_target : (t : Option Target) (k : PtrKind) (r : Bool) → is_element_step (layer.Ptr t k r) ≡ true → has_target t k r ≡ true
pointer_target (Some (target.Node id)) kind.Plain r h = refl
pointer_target t k r h = absurd (false≢true h)

element_targets : (t : Ty) → is_element t ≡ true → has_targets t ≡ true
element_targets = each_type (λ t. is_element t ≡ true → has_targets t ≡ true) (record {
  num = λ n h. at-num targets_step n;
  bits = λ u n h. at-bits targets_step u n;
  opaque = λ m n h. at-opaque targets_step m n;
  str = λ e h. at-str targets_step e;
  ptr = λ t k r h. at-ptr targets_step t k r ∙ pointer_target t k r (sym (at-ptr is_element_step t k r) ∙ h);
  node = λ id e h. at-node targets_step id e;
  arr = λ n t ht h. at-arr targets_step n t ∙ ht (and_parts _ _ (sym (at-arr is_element_step n t) ∙ h)).1;
  tail = λ e t ht h. absurd (false≢true (sym (at-tail is_element_step e t) ∙ h));
})

-- ---- types of fields

-- each good count is known
abbrev CountsKnown : Program → (Expr → Type 0) → Type 0
CountsKnown program Count = (e : Expr) → Count e → ExprIn program e

abbrev FieldKnown : Program → (TypeId → Structure → Expr → Type 0) → (Expr → Type 0) → Ty → Type 0
FieldKnown program good Count t =
    is_field_type t ≡ true → NamesDescribed program good (innermost t) → IfSome (count_of t) Count
    → (has_targets t ≡ true) × All (ExprIn program) (exprs_of t)

one_known : (program : Program) (Count : Expr → Type 0) (e : Expr) → CountsKnown program Count → Count e → All (ExprIn program) (e ∷ [])
one_known program Count e known h = All-cons (ExprIn program) e [] (known e h) (All-nil (ExprIn program))

str_field :
    (program : Program) (good : TypeId → Structure → Expr → Type 0) (Count : Expr → Type 0) (e : Option Expr) → CountsKnown program Count
    → FieldKnown program good Count (ty.Str e)
str_field program good Count None known h d c =
    (at-str targets_step None, subst (All (ExprIn program)) (sym (at-str exprs_step None)) (All-nil (ExprIn program)))
str_field program good Count (Some e) known h d c =
    (at-str targets_step (Some e), subst (All (ExprIn program)) (sym (at-str exprs_step (Some e))) (one_known program Count e known c))

pointer_field :
    (program : Program) (Count : Expr → Type 0) (t : Option Target) (k : PtrKind) (r : Bool) → CountsKnown program Count
    → IfSome (count_of (ty.Ptr t k r)) Count → All (ExprIn program) (kind_exprs k)
pointer_field program Count t kind.Plain r known c = All-nil (ExprIn program)
pointer_field program Count t (kind.Length e) r known c = one_known program Count e known c
pointer_field program Count t kind.Atomic r known c = All-nil (ExprIn program)
pointer_field program Count t kind.Undef r known c = All-nil (ExprIn program)

count_tail : (e : Expr) (t : Ty) → count_of (ty.Tail e t) ≡ Some e
count_tail e t = refl

field_known :
    (program : Program) (good : TypeId → Structure → Expr → Type 0) (Count : Expr → Type 0) → DescsKnown program good → CountsKnown program Count
    → (t : Ty) → FieldKnown program good Count t
field_known program good Count known counts =
    let Exprs = All (ExprIn program) in
    let none : Exprs [] = All-nil (ExprIn program) in
    each_type (FieldKnown program good Count) (record {
      num = λ n h d c. (at-num targets_step n, subst Exprs (sym (at-num exprs_step n)) none);
      bits = λ u n h d c. (at-bits targets_step u n, subst Exprs (sym (at-bits exprs_step u n)) none);
      opaque = λ m n h d c. (at-opaque targets_step m n, subst Exprs (sym (at-opaque exprs_step m n)) none);
      str = λ e. str_field program good Count e counts;
      ptr = λ t k r h d c. (
        at-ptr targets_step t k r ∙ (sym (ap field_type_at (ty.outs-Ptr t k r)) ∙ h),
        subst Exprs (sym (at-ptr exprs_step t k r)) (pointer_field program Count t k r counts c),
      );
      node = λ id e h d c. (
        at-node targets_step id e,
        subst Exprs (sym (at-node exprs_step id e))
            (desc_known program good id e known (subst (NamesDescribed program good) (at-node innermost_step id e) d)),
      );
      arr = λ n t ht h d c.
          let shape = and_parts _ _ (sym (ap field_type_at (ty.outs-Arr n t)) ∙ h) in
          let element = (and_parts _ _ shape.1).0 in (
            at-arr targets_step n t ∙ element_targets t element,
            subst Exprs (sym (at-arr exprs_step n t))
                (element_known program good known t element (subst (NamesDescribed program good) (at-arr innermost_step n t) d)),
          );
      tail = λ e t ht h d c.
          let element = (and_parts _ _ (sym (ap field_type_at (ty.outs-Tail e t)) ∙ h)).0 in (
            at-tail targets_step e t ∙ element_targets t element,
            subst Exprs (sym (at-tail exprs_step e t))
                (All-cons (ExprIn program) e (exprs_of t) (counts e (subst (λ o. IfSome o Count) (count_tail e t) c))
                (element_known program good known t element (subst (NamesDescribed program good) (at-tail innermost_step e t) d))),
          );
    })

type_known :
    (program : Program) (good : TypeId → Structure → Expr → Type 0) (Count : Expr → Type 0) (t : Ty) → Settled program → DescsKnown program good
    → CountsKnown program Count → is_field_type t ≡ true → NamesFit program good t → IfSome (count_of t) Count → TypeIn program t
type_known program good Count t settled known counts shape names count =
    let both = field_known program good Count known counts t shape names.described count in
    record { targets = both.0; ids = ids_known program good settled t names.standing names.described; exprs = both.1 }

pub field_type_known : (program : Program) (node : TypeId) (s : Structure) (f : Field) → Settled program → IsField program node s f → TypeIn program f.ty
field_type_known program node s f settled h =
    type_known program (λ union u e. IsFieldDesc program node union e) (IsOption program node) f.ty settled
    (λ id u e there union good. known_field_desc program node id e good) (known_option program node) h.shape h.names h.count

-- ---- types of roots

pointer_root : (t : Option Target) (k : PtrKind) (r : Bool) → root_type_at (layer.Ptr t k r) ≡ true → has_target t k r ≡ true
pointer_root t kind.Undef r h = absurd (false≢true h)
pointer_root t kind.Plain r h = h
pointer_root t (kind.Length e) r h = h
pointer_root t kind.Atomic r h = h

root_shape : (x : Ty-F Ty) → root_type_at x ≡ true → field_type_at x ≡ true
root_shape (layer.Num n) h = refl
root_shape (layer.Bits u n) h = absurd (false≢true h)
root_shape (layer.Opaque m n) h = absurd (false≢true h)
root_shape (layer.Str e) h = refl
root_shape (layer.Ptr t k r) h = pointer_root t k r h
root_shape (layer.Node id e) h = refl
root_shape (layer.Arr n t) h = h
root_shape (layer.Tail e t) h = absurd (false≢true h)

pub root_type_known : (program : Program) (r : RootOf) → Settled program → IsRoot program r → TypeIn program r.ty
root_type_known program r settled h =
    type_known program (IsDescOfRoot program) (IsRootCount program) r.ty settled
    (λ id u e there union good. known_desc_of_root program id u e settled there union good) (λ e c. known_root_count program e settled c)
    (root_shape (out-Ty r.ty) h.shape) h.names h.count
