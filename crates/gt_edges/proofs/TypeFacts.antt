-- What is known of the types of a program: their pointers name what may stand alone, and the roots that their expressions read have
-- their numbers.
use Rattle.std.proofs.Common.{◌≡◌, ℕ, Bool, true, false, length, refl, ap, sym, subst, ◌∙◌, Some, None, inl, inr}
use Rattle.std.specs.Prelude.{Contains, IfSome, slice_get}
use Rattle.std.proofs.lemmas.List.Elements.{All-contains}
use Rattle.std.proofs.lemmas.Option.{slice_get_within}
use Rattle.gt_types.specs.declared.expressions.Expr.{Expr}
use Rattle.gt_types.specs.declared.types.TypeId.{TypeId}
use Rattle.gt_types.specs.declared.types.Scalar.TheVariants as scalar
use Rattle.gt_types.specs.declared.types.Width.TheVariants.{W1}
use Rattle.gt_types.specs.declared.types.Target.{Target}
use Rattle.gt_types.specs.declared.types.Target.TheVariants as target
use Rattle.gt_types.specs.declared.types.PtrKind.{PtrKind}
use Rattle.gt_types.specs.declared.types.PtrKind.TheVariants as pointer
use Rattle.gt_types.specs.declared.types.Ty.{Ty, out-Ty}
use Rattle.gt_types.specs.declared.types.Ty.TheOpen as part
use Rattle.gt_types.specs.declared.types.Ty.TheVariants as ty
use Rattle.gt_types.specs.declared.types.Ty.TheVariants.{outs-Num, outs-Str, outs-Ptr}
use Rattle.gt_types.specs.declared.program.Field.{Field}
use Rattle.gt_types.specs.declared.program.Structure.{Structure}
use Rattle.gt_types.specs.declared.program.Root.{Root}
use Rattle.gt_types.specs.Shapes.{innermost, count_of}
use Rattle.gt_types.specs.Contains.{HasStructure}
use Rattle.gt_types.specs.Paths.{IsOption, IsFieldDesc}
use Rattle.gt_types.specs.Settled.{Settled, NamesStanding, NamesDescribed, IsField, IsRoot, IsStruct, IsOfItsKind}
use Rattle.gt_tree.specs.Blocks.{Kind, Nodes, Pointers, Strings, Chars, Raw, desc_of, element_type}
use Rattle.gt_tree.specs.LeafLaws.{IsTypeIn}
use Rattle.gt_tree.specs.FixedLaws.{MayHold}
use Rattle.gt_tree.proofs.Types.{innermost-node}
use Rattle.gt_tree.proofs.FixedScopes.{innermost-layer, innermost-array, innermost-tail}
use Rattle.gt_tree.proofs.FixedTwins.{kind-desc}
use Rattle.gt_value.specs.declared.sources.Source.{Source}
use Rattle.gt_value.proofs.Origins.{kind-no_count, array-no_count, tail-no_count, no-count}
use Rattle.gt_edges.specs.Walks.{IsTarget}
use Rattle.gt_edges.proofs.RowWorths.{HasStatics, RootsAreRead}

pub record Known (source : Source) (type : Ty) : Type 0 where
  pub standing : NamesStanding source.program.now (innermost type)
  pub count : (e : Expr) → count_of type ≡ Some e → RootsAreRead source e
  pub desc : (node : TypeId) (e : Expr) → innermost type ≡ ty.Node node (Some e) → RootsAreRead source e

module _ (source : Source) (settled : Settled source.program.now) where
  -- ---- fields

  field-count : (node : TypeId) (type : Ty) (e : Expr) → IfSome (count_of type) (IsOption source.program.now node) → count_of type ≡ Some e → RootsAreRead source e
  field-count node type e count is = let option = subst (λ c. IfSome c (IsOption source.program.now node)) is count in inl option.no_roots

  field-desc : (node union : TypeId) (type : Ty) (e : Expr) → NamesDescribed source.program.now (λ other u d. IsFieldDesc source.program.now node other d) (innermost type) → innermost type ≡ ty.Node union (Some e)
      → RootsAreRead source e
  field-desc node union type e names is =
      let named = subst (NamesDescribed source.program.now (λ other u d. IsFieldDesc source.program.now node other d)) is names in
      inl named.2.1.no_roots

  pub known-field : (node : TypeId) (s : Structure) (f : Field) → HasStructure source.program.now node s → Contains s.fields f → Known source f.ty
  known-field node s f has contains =
      let is : IsField source.program.now node s f = All-contains (IsField source.program.now node s) s.fields f (settled.structures node s has).fields contains in
      record {
        standing = is.names.standing;
        count = λ e c. field-count node f.ty e is.count c;
        desc = λ union e d. field-desc node union f.ty e is.names.described d;
      }

  -- ---- elements of arrays

  pub known-array : (type elem : Ty) (n : ℕ) → IsTypeIn source.program.now type → out-Ty type ≡ part.Arr n elem → Known source type → Known source elem
  known-array type elem n is_in out k = record {
    standing = subst (NamesStanding source.program.now) (innermost-array type elem n out) k.standing;
    count = λ e c. absurd (no-count (count_of elem) e (array-no_count source.program.now type elem n settled is_in out) c);
    desc = λ node e d. k.desc node e (innermost-array type elem n out ∙ d);
  }

  pub known-tail : (type elem : Ty) (length : Expr) → IsTypeIn source.program.now type → out-Ty type ≡ part.Tail length elem → Known source type → Known source elem
  known-tail type elem length is_in out k = record {
    standing = subst (NamesStanding source.program.now) (innermost-tail type elem length out) k.standing;
    count = λ e c. absurd (no-count (count_of elem) e (tail-no_count source.program.now type elem length settled is_in out) c);
    desc = λ node e d. k.desc node e (innermost-tail type elem length out ∙ d);
  }

  -- ---- roots

  pub known-root : (r : Root) → Contains source.program.now.roots r → HasStatics source → Known source r.ty
  known-root r contains start =
      let is : IsRoot source.program.now r = All-contains (IsRoot source.program.now) source.program.now.roots r settled.roots contains in
      record { standing = is.names.standing; count = λ e c. inr start; desc = λ node e d. inr start }

  -- ---- elements of blocks

  kind-standing : (kind : Kind) → MayHold source.program.now kind → NamesStanding source.program.now (innermost (element_type source.program.now kind))
  kind-standing (Nodes node) may = subst (NamesStanding source.program.now) (sym (innermost-node node (desc_of (slice_get source.program.now.structures node.0)))) tt
  kind-standing (Pointers node) may = subst (NamesStanding source.program.now) (sym (innermost-layer (element_type source.program.now (Pointers node)) _ (outs-Ptr (Some (target.Node node)) pointer.Plain false))) may
  kind-standing Strings may = subst (NamesStanding source.program.now) (sym (innermost-layer (ty.Str None) _ (outs-Str None))) tt
  kind-standing Chars may = subst (NamesStanding source.program.now) (sym (innermost-layer (ty.Num (scalar.Int W1 false)) _ (outs-Num (scalar.Int W1 false)))) tt
  kind-standing Raw may = subst (NamesStanding source.program.now) (sym (innermost-layer (ty.Num (scalar.Int W1 false)) _ (outs-Num (scalar.Int W1 false)))) tt

  struct-desc : (node : TypeId) (s : Structure) (e : Expr) → HasStructure source.program.now node s → s.is_union ≡ false → desc_of (slice_get source.program.now.structures node.0) ≡ Some e → ⊥
  struct-desc node s e has struct is =
      let sort : IsStruct s = subst (IsOfItsKind source.program.now node s) struct (settled.structures node s has).sort in
      let own : s.desc ≡ Some e = ap desc_of (sym has) ∙ is in
      let none = sort.no_desc in
      cc

  node-desc : (b : Bool) (node : TypeId) (s : Structure) (e : Expr) → s.is_union ≡ b → HasStructure source.program.now node s → desc_of (slice_get source.program.now.structures node.0) ≡ Some e → RootsAreRead source e
  node-desc true node s e union has is =
      let same : innermost (element_type source.program.now (Nodes node)) ≡ ty.Node node (Some e) = innermost-node node (desc_of (slice_get source.program.now.structures node.0)) ∙ ap (ty.Node node) is in
      inl (kind-desc source.program.now (Nodes node) node s e settled has union same).1.no_roots
  node-desc false node s e struct has is = absurd (struct-desc node s e has struct is)

  kind-reads : (kind : Kind) → MayHold source.program.now kind → (node : TypeId) (e : Expr) → innermost (element_type source.program.now kind) ≡ ty.Node node (Some e) → RootsAreRead source e
  kind-reads (Nodes node) may other e d =
      let inner = sym (innermost-node node (desc_of (slice_get source.program.now.structures node.0))) ∙ d in
      let own : desc_of (slice_get source.program.now.structures node.0) ≡ Some e = cc in
      node-desc may.0.is_union node may.0 e refl may.1 own
  kind-reads (Pointers node) may other e d = let same = innermost-layer (element_type source.program.now (Pointers node)) _ (outs-Ptr (Some (target.Node node)) pointer.Plain false) in absurd (cc)
  kind-reads Strings may other e d = let same = innermost-layer (ty.Str None) _ (outs-Str None) in absurd (cc)
  kind-reads Chars may other e d = let same = innermost-layer (ty.Num (scalar.Int W1 false)) _ (outs-Num (scalar.Int W1 false)) in absurd (cc)
  kind-reads Raw may other e d = let same = innermost-layer (ty.Num (scalar.Int W1 false)) _ (outs-Num (scalar.Int W1 false)) in absurd (cc)

  pub known-kind : (kind : Kind) → MayHold source.program.now kind → Known source (element_type source.program.now kind)
  known-kind kind may = record {
    standing = kind-standing kind may;
    count = λ e c. absurd (no-count (count_of (element_type source.program.now kind)) e (kind-no_count source.program.now kind) c);
    desc = kind-reads kind may;
  }

-- a pointer of the program has its target there
pub known-target : (source : Source) (t : Target) (kind : PtrKind) (reorder : Bool) → Known source (ty.Ptr (Some t) kind reorder) → IsTarget source.program.now t
known-target source (target.Node node) kind reorder k =
    let may = subst (NamesStanding source.program.now) (innermost-layer (ty.Ptr (Some (target.Node node)) kind reorder) _ (outs-Ptr (Some (target.Node node)) kind reorder)) k.standing in
    slice_get_within source.program.now.structures node.0 may.0 may.1
known-target source (target.Pointers node) kind reorder k =
    let may = subst (NamesStanding source.program.now) (innermost-layer (ty.Ptr (Some (target.Pointers node)) kind reorder) _ (outs-Ptr (Some (target.Pointers node)) kind reorder)) k.standing in
    slice_get_within source.program.now.structures node.0 may.0 may.1
known-target source target.Strings kind reorder k = tt
