-- Where values that stand in bytes come from.
use Rattle.std.proofs.Common.{◌≡◌, ℕ, Bool, true, false, IsTrue, List, [], refl, ap, sym, subst, ◌∙◌, Option, Some, None, ◌⊎◌, inl, inr}
use Rattle.std.specs.Prelude.{All, Contains, IfSome}
use Rattle.std.proofs.lemmas.List.Elements.{All-nil, All-weaker, All-contains}
use Rattle.gt_types.specs.declared.expressions.Expr.{Expr}
use Rattle.gt_types.specs.declared.types.TypeId.{TypeId}
use Rattle.gt_types.specs.declared.types.Target.TheVariants as target
use Rattle.gt_types.specs.declared.types.PtrKind.TheVariants as kind
use Rattle.gt_types.specs.declared.types.Ty.{Ty, out-Ty}
use Rattle.gt_types.specs.declared.types.Ty.TheFolds.{fold_out-Ty, map-Ty}
use Rattle.gt_types.specs.declared.types.Ty.TheOpen as part
use Rattle.gt_types.specs.declared.types.Ty.TheOpen.{Ty-F}
use Rattle.gt_types.specs.declared.types.Ty.TheVariants as ty
use Rattle.gt_types.specs.declared.types.Ty.TheVariants.{outs-Str, outs-Ptr, outs-Tail'}
use Rattle.gt_types.specs.declared.program.Field.{Field}
use Rattle.gt_types.specs.declared.program.Structure.{Structure}
use Rattle.gt_types.specs.declared.program.Root.{Root}
use Rattle.gt_types.specs.declared.program.Program.{Program}
use Rattle.gt_types.specs.Shapes.{innermost, is_structure, is_element, is_element_step, count_of}
use Rattle.gt_types.specs.Contains.{HasStructure}
use Rattle.gt_types.specs.Paths.{roots_of, IsScalarRoot, IsOption, IsRootCount}
use Rattle.gt_types.specs.Settled.{Settled, IsField, IsRoot}
use Rattle.gt_tree.specs.Trees.{Tree, Trees}
use Rattle.gt_tree.specs.Blocks.{Kind, Nodes, Pointers, Strings, Chars, Raw, element_type}
use Rattle.gt_tree.specs.Scopes.{Scope, outside, inside, root_in}
use Rattle.gt_tree.specs.LeafLaws.{IsTypeIn}
use Rattle.gt_tree.specs.PathLaws.{LeadsInScope}
use Rattle.gt_tree.specs.FixedLaws.{MayHold}
use Rattle.gt_tree.proofs.Types.{innermost-node, held-node}
use Rattle.gt_tree.proofs.FixedTypes.{sound, sound_at}
use Rattle.gt_tree.proofs.FixedScopes.{IsReadable, option-leads, innermost-array, innermost-tail}
use Rattle.gt_tree.proofs.FixedValues.{Given, Alike, typed, in-array, in-tail}
use Rattle.gt_tree.proofs.FixedTwins.{Outside, outside-types, around, kind-desc, field-desc, desc-known}
use Rattle.gt_value.specs.declared.sources.Source.{Source}
use Rattle.gt_value.specs.Reading.{Begins, in_block, in_statics, root_worth}

module _ (source : Source) (g : Given) (same : g.program ≡ source.program.now) (statics : Trees) where
  start : {s t : Scope} {type : Ty} → Begins source statics s t type → Outside g.program statics statics s t type
  start (in_block kind may) = subst (λ p. Outside p statics statics (outside statics) (outside statics) (element_type source.program.now kind)) (sym same) (Outside.of_block kind may)
  start (in_statics r contains roots) = subst (λ p. Outside p statics statics (outside statics) (outside statics) r.ty) (sym same) (Outside.of_root r contains)

  -- the same, without the numbers of the roots
  pub outer : {s t : Scope} {type : Ty} → Alike g (Begins source statics) s t type → Alike g (Outside g.program statics statics) s t type
  outer (Alike.at_start x) = Alike.at_start (start x)
  outer (Alike.in_field a twins has contains) = Alike.in_field (outer a) twins has contains
  outer (Alike.in_common a twins has c) = Alike.in_common (outer a) twins has c
  outer (Alike.in_array a e) = Alike.in_array (outer a) e
  outer (Alike.in_tail a e) = Alike.in_tail (outer a) e

  pub type-in : {s t : Scope} {type : Ty} → Alike g (Begins source statics) s t type → IsTypeIn g.program type ⊎ (is_structure type ≡ true)
  type-in a = typed g (Outside g.program statics statics) (outside-types g.program statics statics) (outer a)

  pub statics-of : {s t : Scope} {type : Ty} → Alike g (Begins source statics) s t type → s.statics ≡ statics
  statics-of (Alike.at_start (in_block kind may)) = refl
  statics-of (Alike.at_start (in_statics r contains roots)) = refl
  statics-of (Alike.in_field a twins has contains) = statics-of a
  statics-of (Alike.in_common a twins has c) = statics-of a
  statics-of (Alike.in_array a e) = statics-of a
  statics-of (Alike.in_tail a e) = statics-of a

-- ---- counts in types

counted-no_element : (type : Ty) (x : Ty-F Ty) → out-Ty type ≡ x → is_element_step (map-Ty Ty Bool is_element x) ≡ false → ¬ IsTrue (is_element type)
counted-no_element type x out none h = let is : is_element type ≡ false = fold_out-Ty Bool is_element_step type ∙ ap (λ y. is_element_step (map-Ty Ty Bool is_element y)) out ∙ none in cc

tail-no_element : (type elem : Ty) (length : Expr) → out-Ty type ≡ part.Tail length elem → ¬ IsTrue (is_element type)
tail-no_element type elem length out h = counted-no_element type (part.Tail length elem) out refl h

-- an element of an array has none
pub element-no_count : (type : Ty) → IsTrue (is_element type) → count_of type ≡ None
element-no_count (ty.Num scalar) h = refl
element-no_count (ty.Bits unit width) h = refl
element-no_count (ty.Opaque size align) h = refl
element-no_count (ty.Str None) h = refl
element-no_count (ty.Str (Some e)) h = absurd (counted-no_element (ty.Str (Some e)) (part.Str (Some e)) (outs-Str (Some e)) refl h)
element-no_count (ty.Ptr target kind.Plain reorder) h = refl
element-no_count (ty.Ptr None (kind.Length e) reorder) h = absurd (counted-no_element (ty.Ptr None (kind.Length e) reorder) (part.Ptr None (kind.Length e) reorder) (outs-Ptr None (kind.Length e) reorder) refl h)
element-no_count (ty.Ptr (Some (target.Node node)) (kind.Length e) reorder) h =
    absurd (counted-no_element (ty.Ptr (Some (target.Node node)) (kind.Length e) reorder) (part.Ptr (Some (target.Node node)) (kind.Length e) reorder) (outs-Ptr (Some (target.Node node)) (kind.Length e) reorder) refl h)
element-no_count (ty.Ptr (Some (target.Pointers node)) (kind.Length e) reorder) h =
    absurd (counted-no_element (ty.Ptr (Some (target.Pointers node)) (kind.Length e) reorder) (part.Ptr (Some (target.Pointers node)) (kind.Length e) reorder) (outs-Ptr (Some (target.Pointers node)) (kind.Length e) reorder) refl h)
element-no_count (ty.Ptr (Some target.Strings) (kind.Length e) reorder) h =
    absurd (counted-no_element (ty.Ptr (Some target.Strings) (kind.Length e) reorder) (part.Ptr (Some target.Strings) (kind.Length e) reorder) (outs-Ptr (Some target.Strings) (kind.Length e) reorder) refl h)
element-no_count (ty.Ptr target kind.Atomic reorder) h = refl
element-no_count (ty.Ptr target kind.Undef reorder) h = refl
element-no_count (ty.Node node desc) h = refl
element-no_count (ty.Arr' n shape elem) h = refl
element-no_count (ty.Tail' e shape elem) h = absurd (tail-no_element (ty.Tail' e shape elem) _ e (outs-Tail' e shape elem) h)

pub array-no_count : (program : Program) (type elem : Ty) (n : ℕ) → Settled program → IsTypeIn program type → out-Ty type ≡ part.Arr n elem → count_of elem ≡ None
array-no_count program type elem n settled is e = element-no_count elem (subst (λ x. IsTrue (sound_at x)) e (sound program settled is))

pub tail-no_count : (program : Program) (type elem : Ty) (length : Expr) → Settled program → IsTypeIn program type → out-Ty type ≡ part.Tail length elem → count_of elem ≡ None
tail-no_count program type elem length settled is e = element-no_count elem (subst (λ x. IsTrue (sound_at x)) e (sound program settled is))

pub kind-no_count : (program : Program) (kind : Kind) → count_of (element_type program kind) ≡ None
kind-no_count program (Nodes node) = refl
kind-no_count program (Pointers node) = refl
kind-no_count program Strings = refl
kind-no_count program Chars = refl
kind-no_count program Raw = refl

-- that of a field is an option of its structure
pub field-option : (program : Program) (node : TypeId) (x : Structure) (f : Field) (e : Expr) → Settled program → HasStructure program node x → Contains x.fields f → count_of f.ty ≡ Some e → IsOption program node e
field-option program node x f e settled has contains is =
    subst (λ c. IfSome c (IsOption program node)) is (All-contains (IsField program node x) x.fields f (settled.structures node x has).fields contains).count

pub no-count : {X : Type 0} (count : Option X) (e : X) → count ≡ None → ¬ (count ≡ Some e)
no-count count e none some = cc

-- ---- the expressions of blocks name no roots

-- an element of a block
data InBlock (program : Program) (statics : Trees) : Scope → Scope → Ty → Type 0 where
  of_kind : (kind : Kind) → MayHold program kind → InBlock program statics (outside statics) (outside statics) (element_type program kind)

block-types : (program : Program) (statics : Trees) (s t : Scope) (type : Ty) → InBlock program statics s t type → IsTypeIn program type
block-types program statics s t type (InBlock.of_kind kind may) = IsTypeIn.of_block kind

module _ (g : Given) (settled : Settled g.program) (statics : Trees) where
  no-count_roots : {s t : Scope} {type : Ty} → Alike g (InBlock g.program statics) s t type → (e : Expr) → count_of type ≡ Some e → roots_of e ≡ []
  no-count_roots (Alike.at_start (InBlock.of_kind kind may)) e is = absurd (no-count (count_of (element_type g.program kind)) e (kind-no_count g.program kind) is)
  no-count_roots (Alike.in_field {node} {x} {f} p twins has contains) e is = (field-option g.program node x f e settled has contains is).no_roots
  no-count_roots (Alike.in_common p twins has o) e is = absurd (cc)
  no-count_roots (Alike.in_array {type} {elem} {n} p out) e is =
      elim (typed g (InBlock g.program statics) (block-types g.program statics) p) [ inl i ↦ absurd (no-count (count_of elem) e (array-no_count g.program type elem n settled i out) is) | inr i ↦ absurd (in-array type elem n i out) ]
  no-count_roots (Alike.in_tail {type} {elem} {length} p out) e is =
      elim (typed g (InBlock g.program statics) (block-types g.program statics) p) [ inl i ↦ absurd (no-count (count_of elem) e (tail-no_count g.program type elem length settled i out) is) | inr i ↦ absurd (in-tail type elem length i out) ]

  no-desc_roots : {s t : Scope} {type : Ty} → Alike g (InBlock g.program statics) s t type → (union : TypeId) (y : Structure) (e : Expr) → HasStructure g.program union y → y.is_union ≡ true
      → innermost type ≡ ty.Node union (Some e) → roots_of e ≡ []
  no-desc_roots (Alike.at_start (InBlock.of_kind kind may)) union y e has is h = (kind-desc g.program kind union y e settled has is h).1.no_roots
  no-desc_roots (Alike.in_field {node} {x} {f} p twins there contains) union y e has is h = (field-desc g settled statics statics node union x f e there contains h).no_roots
  no-desc_roots (Alike.in_common {common = c} p twins there o) union y e has is h = let n = innermost-node c None in absurd (cc)
  no-desc_roots (Alike.in_array {type} {elem} {n} p arr) union y e has is h = no-desc_roots p union y e has is (innermost-array type elem n arr ∙ h)
  no-desc_roots (Alike.in_tail {type} {elem} {length} p tail) union y e has is h = no-desc_roots p union y e has is (innermost-tail type elem length tail ∙ h)

-- ---- the paths of counts

module _ (g : Given) (settled : Settled g.program) (a b : Trees) where
  root-readable : (r : Root) (e : Expr) → Contains g.program.roots r → count_of r.ty ≡ Some e → IsReadable g.program (outside a) e
  root-readable r e contains is =
      let count : IsRootCount g.program e = subst (λ c. IfSome c (IsRootCount g.program)) is (All-contains (IsRoot g.program) g.program.roots r settled.roots contains).count in
      record { leads = subst (λ x. All (LeadsInScope g.program (outside a)) x) (sym count.no_paths) (All-nil (LeadsInScope g.program (outside a))); roots = count.roots }

  -- they lead to numbers
  pub counted-leads : {s t : Scope} {type : Ty} → Alike g (Outside g.program a b) s t type → (e : Expr) → count_of type ≡ Some e → IsReadable g.program s e
  counted-leads (Alike.at_start (Outside.of_block kind may)) e is = absurd (no-count (count_of (element_type g.program kind)) e (kind-no_count g.program kind) is)
  counted-leads (Alike.at_start (Outside.of_root r contains)) e is = root-readable r e contains is
  counted-leads (Alike.in_field {s} {node} {desc} {v} {x} {f} p twins has contains) e is =
      option-leads g.program s node v e (around g settled a b p node (held-node node desc)) (field-option g.program node x f e settled has contains is)
  counted-leads (Alike.in_common p twins has o) e is = absurd (cc)
  counted-leads (Alike.in_array {type} {elem} {n} p out) e is =
      elim (typed g (Outside g.program a b) (outside-types g.program a b) p) [ inl i ↦ absurd (no-count (count_of elem) e (array-no_count g.program type elem n settled i out) is) | inr i ↦ absurd (in-array type elem n i out) ]
  counted-leads (Alike.in_tail {type} {elem} {length} p out) e is =
      elim (typed g (Outside g.program a b) (outside-types g.program a b) p) [ inl i ↦ absurd (no-count (count_of elem) e (tail-no_count g.program type elem length settled i out) is) | inr i ↦ absurd (in-tail type elem length i out) ]

-- ---- what expressions read

-- an expression reads numbers along its paths, and those of its roots are in the static record
pub record CanRead (source : Source) (program : Program) (scope : Scope) (e : Expr) : Type 0 where
  pub readable : IsReadable program scope e
  pub roots : All (λ i. root_worth source i ≡ root_in scope i) (roots_of e)

module _ (source : Source) (g : Given) (same : g.program ≡ source.program.now) (settled : Settled g.program) (statics : Trees) where
  abbrev HasRoots : Type 0
  HasRoots = (i : ℕ) → IsScalarRoot g.program i → root_worth source i ≡ root_in (outside statics) i

  split-start : {s t : Scope} {type : Ty} → Begins source statics s t type → InBlock g.program statics s t type ⊎ HasRoots
  split-start (in_block kind may) = inl (subst (λ p. InBlock p statics (outside statics) (outside statics) (element_type source.program.now kind)) (sym same) (InBlock.of_kind kind may))
  split-start (in_statics r contains roots) = inr (λ i is. roots i (subst (λ p. IsScalarRoot p i) same is))

  split : {s t : Scope} {type : Ty} → Alike g (Begins source statics) s t type → Alike g (InBlock g.program statics) s t type ⊎ HasRoots
  split (Alike.at_start x) = elim (split-start x) [ inl b ↦ inl (Alike.at_start b) | inr r ↦ inr r ]
  split (Alike.in_field a twins has contains) = elim (split a) [ inl b ↦ inl (Alike.in_field b twins has contains) | inr r ↦ inr r ]
  split (Alike.in_common a twins has c) = elim (split a) [ inl b ↦ inl (Alike.in_common b twins has c) | inr r ↦ inr r ]
  split (Alike.in_array a e) = elim (split a) [ inl b ↦ inl (Alike.in_array b e) | inr r ↦ inr r ]
  split (Alike.in_tail a e) = elim (split a) [ inl b ↦ inl (Alike.in_tail b e) | inr r ↦ inr r ]

  roots-read : (scope : Scope) (e : Expr) → scope.statics ≡ statics → HasRoots → All (IsScalarRoot g.program) (roots_of e) → All (λ i. root_worth source i ≡ root_in scope i) (roots_of e)
  roots-read scope e is roots all =
      All-weaker (IsScalarRoot g.program) (λ i. root_worth source i ≡ root_in scope i) (λ i h. roots i h ∙ ap (λ x. root_in (outside x) i) (sym is)) (roots_of e) all

  none-read : (scope : Scope) (roots : List ℕ) → roots ≡ [] → All (λ i. root_worth source i ≡ root_in scope i) roots
  none-read scope roots none = subst (λ x. All (λ i. root_worth source i ≡ root_in scope i) x) (sym none) (All-nil (λ i. root_worth source i ≡ root_in scope i))

  -- the length in a type can be read
  pub count-read : {s : Scope} {type : Ty} → Alike g (Begins source statics) s s type → (e : Expr) → count_of type ≡ Some e → CanRead source g.program s e
  count-read {s} a e is =
      let readable = counted-leads g settled statics statics (outer source g same statics a) e is in
      elim (split a) [
        | inl b ↦ record { readable = readable; roots = none-read s (roots_of e) (no-count_roots g settled statics b e is) }
        | inr r ↦ record { readable = readable; roots = roots-read s e (statics-of source g same statics a) r readable.roots }
      ]

  -- so can the `desc` of a union
  pub desc-read : {s : Scope} (union : TypeId) (y : Structure) (e : Expr) → Alike g (Begins source statics) s s (ty.Node union (Some e)) → HasStructure g.program union y → y.is_union ≡ true → (value : Tree)
      → CanRead source g.program (inside s union value) e
  desc-read {s} union y e a has is value =
      let readable = desc-known g settled statics statics (outer source g same statics a) union y e has is (innermost-node union (Some e)) value in
      elim (split a) [
        | inl b ↦ record { readable = readable; roots = none-read (inside s union value) (roots_of e) (no-desc_roots g settled statics b union y e has is (innermost-node union (Some e))) }
        | inr r ↦ record { readable = readable; roots = roots-read (inside s union value) e (statics-of source g same statics a) r readable.roots }
      ]
