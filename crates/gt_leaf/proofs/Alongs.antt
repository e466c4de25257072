-- Where types stand in a value, from a block or a root on; and that the expressions met there are ones of the program, whose paths begin at
-- the structures around and lead to numbers.
use Rattle.std.proofs.Common.{◌≡◌, ℕ, zero, suc, Bool, false, true, IsTrue, List, [], ◌∷◌, refl, ap, sym, subst, ◌∙◌, ◌⊎◌, arith, Option, Some, None, inl, inr}
use Rattle.std.specs.Prelude.{Contains, IfSome, filter_map, slice_get, option_to_list}
use Rattle.std.proofs.lemmas.List.Elements.{All-nil, All-same, All-contains}
use Rattle.std.proofs.lemmas.Option.{slice_get_within, get_or_from_slice_get}
use Rattle.gt_types.specs.declared.expressions.Base.TheVariants.{Here, Outer, Outermost}
use Rattle.gt_types.specs.declared.expressions.Expr.{Expr}
use Rattle.gt_types.specs.declared.types.TypeId.{TypeId}
use Rattle.gt_types.specs.declared.types.Scalar.TheVariants as scalar
use Rattle.gt_types.specs.declared.types.Width.TheVariants.{W1}
use Rattle.gt_types.specs.declared.types.Target.{Target}
use Rattle.gt_types.specs.declared.types.Target.TheVariants as target
use Rattle.gt_types.specs.declared.types.PtrKind.TheVariants as pointer
use Rattle.gt_types.specs.declared.types.Ty.{Ty, out-Ty}
use Rattle.gt_types.specs.declared.types.Ty.TheFolds.{fold_out-Ty, map-Ty}
use Rattle.gt_types.specs.declared.types.Ty.TheOpen as part
use Rattle.gt_types.specs.declared.types.Ty.TheOpen.{Ty-F}
use Rattle.gt_types.specs.declared.types.Ty.TheVariants as ty
use Rattle.gt_types.specs.declared.types.Ty.TheVariants.{outs-Num, outs-Str, outs-Ptr, outs-Node, outs-Tail'}
use Rattle.gt_types.specs.declared.program.Field.{Field}
use Rattle.gt_types.specs.declared.program.Root.{Root}
use Rattle.gt_types.specs.declared.program.Structure.{Structure}
use Rattle.gt_types.specs.declared.program.Program.{Program}
use Rattle.gt_types.specs.Shapes.{innermost, count_of, is_element, is_element_step, is_structure}
use Rattle.gt_types.specs.Contains.{HasStructure, ContainsAtDepth, held_by, itself}
use Rattle.gt_types.specs.Unions.{IsCommon}
use Rattle.gt_types.specs.Paths.{paths_of, own_expressions, IsInner, IsOption, IsRootCount}
use Rattle.gt_types.specs.Settled.{Settled, IsField, IsRoot, IsUnion, IsOfItsKind, IsDescOfRoot, NamesDescribed}
use Rattle.gt_tree.specs.Trees.{Tree, Trees}
use Rattle.gt_tree.specs.Blocks.{Kind, Nodes, Pointers, Strings, Chars, Raw, desc_of, element_type}
use Rattle.gt_tree.specs.Scopes.{Held, Scope, outside, inside, first_of}
use Rattle.gt_tree.specs.LeafLaws.{IsTypeIn}
use Rattle.gt_tree.specs.PathLaws.{LeadsInScope}
use Rattle.gt_tree.specs.FixedLaws.{MayHold}
use Rattle.gt_tree.proofs.Types.{held-node, held-array, held-tail, innermost-node}
use Rattle.gt_tree.proofs.FixedTypes.{sound_at, sound}
use Rattle.gt_tree.proofs.FixedScopes.{IsAround, around-inside, IsReadable, option-leads, desc-leads, root_desc-leads, innermost-layer, innermost-array, innermost-tail}
use Rattle.gt_tree.proofs.FixedValues.{in-array, in-tail}
use Rattle.gt_tree.proofs.WriteScopes.{kind-desc, field-desc}
use Rattle.gt_leaf.specs.Unread.{expressions_of, expressions_step, IsExpressionOf, MayBeOutermost, BeginsAt}
use Rattle.gt_leaf.proofs.Members.{contains-append, filter-contains}

-- a type of an element of a block, of a root, or of a part of such a value, and the scope in which it stands
pub data Along (program : Program) (a : Trees) : Scope → Ty → Type 0 where
  at_block : (kind : Kind) → MayHold program kind → Along program a (outside a) (element_type program kind)
  at_root : (r : Root) → Contains program.roots r → Along program a (outside a) r.ty
  in_field : {s : Scope} {node : TypeId} {desc : Option Expr} {v : Tree} {x : Structure} {f : Field} → Along program a s (ty.Node node desc) → HasStructure program node x → Contains x.fields f
      → Along program a (inside s node v) f.ty
  in_common : {s : Scope} {node common : TypeId} {desc : Option Expr} {v : Tree} {x : Structure} → Along program a s (ty.Node node desc) → HasStructure program node x → IsCommon program x common
      → Along program a (inside s node v) (ty.Node common None)
  in_array : {s : Scope} {type elem : Ty} {n : ℕ} → Along program a s type → out-Ty type ≡ part.Arr n elem → Along program a s elem
  in_tail : {s : Scope} {type elem : Ty} {length : Expr} → Along program a s type → out-Ty type ≡ part.Tail length elem → Along program a s elem

pub Contains-get : {X : Type 0} (xs : List X) (i : ℕ) (x : X) → slice_get xs i ≡ Some x → Contains xs x
Contains-get xs i x e = (i, slice_get_within xs i x e, get_or_from_slice_get xs i x x e)

module _ {program : Program} {a : Trees} where
  typed : {s : Scope} {type : Ty} → Along program a s type → IsTypeIn program type ⊎ (is_structure type ≡ true)
  typed (Along.at_block kind may) = inl (IsTypeIn.of_block kind)
  typed (Along.at_root r contains) = inl (IsTypeIn.of_root r contains)
  typed (Along.in_field {node} {x} {f} b has contains) = inl (IsTypeIn.of_field node x f has contains)
  typed (Along.in_common b has c) = inr refl
  typed (Along.in_array {type} {elem} {n} b e) = elim (typed b) [ inl i ↦ inl (IsTypeIn.of_array i e) | inr i ↦ absurd (in-array type elem n i e) ]
  typed (Along.in_tail {type} {elem} {length} b e) = elim (typed b) [ inl i ↦ inl (IsTypeIn.of_tail i e) | inr i ↦ absurd (in-tail type elem length i e) ]

-- ---- what blocks and roots hold

kind-alone : (program : Program) (kind : Kind) (inner : TypeId) → MayHold program kind → held_by (element_type program kind) ≡ Some inner → ¬ IsInner program inner
kind-alone program (Nodes node) inner may e =
    let same = held-node node (desc_of (slice_get program.structures node.0)) in
    let equal : node ≡ inner = cc in
    subst (λ n. ¬ IsInner program n) equal may.2
kind-alone program (Pointers node) inner may e = let none = ap itself (innermost-layer (element_type program (Pointers node)) _ (outs-Ptr (Some (target.Node node)) pointer.Plain false)) in absurd (cc)
kind-alone program Strings inner may e = let none = ap itself (innermost-layer (ty.Str None) _ (outs-Str None)) in absurd (cc)
kind-alone program Chars inner may e = let none = ap itself (innermost-layer (ty.Num (scalar.Int W1 false)) _ (outs-Num (scalar.Int W1 false))) in absurd (cc)
kind-alone program Raw inner may e = let none = ap itself (innermost-layer (ty.Num (scalar.Int W1 false)) _ (outs-Num (scalar.Int W1 false))) in absurd (cc)

kind-count : (program : Program) (kind : Kind) (len : Expr) → ¬ (count_of (element_type program kind) ≡ Some len)
kind-count program (Nodes node) len e = cc
kind-count program (Pointers node) len e = cc
kind-count program Strings len e = cc
kind-count program Chars len e = cc
kind-count program Raw len e = cc

none-around : (program : Program) (inner : TypeId) → ¬ IsInner program inner → IsAround program None None inner
none-around program inner alone = record { within = λ h e. absurd (cc); around = λ h e. absurd (cc); alone = λ e. alone }

own-desc : (program : Program) (node : TypeId) (x : Structure) (e : Expr) → Settled program → HasStructure program node x → x.is_union ≡ true → x.desc ≡ Some e → IsOption program node e
own-desc program node x e settled has union is =
    let u : IsUnion program node x = subst (IsOfItsKind program node x) union (settled.structures node x has).sort in
    subst (λ d. IfSome d (IsOption program node)) is u.desc

root-count : (program : Program) (s : Scope) (e : Expr) → IsRootCount program e → IsReadable program s e
root-count program s e count = record { leads = All-same (LeadsInScope program s) (paths_of e) [] count.no_paths (All-nil (LeadsInScope program s)); roots = count.roots }

-- ---- elements of arrays have no lengths

no_length : (t : Option Target) (c : Expr) (r : Bool) → ¬ IsTrue (is_element_step (map-Ty Ty Bool is_element (part.Ptr t (pointer.Length c) r)))
no_length None c r g = cc
no_length (Some (target.Node node)) c r g = cc
no_length (Some (target.Pointers node)) c r g = cc
no_length (Some target.Strings) c r g = cc

element-none_at : (type : Ty) (x : Ty-F Ty) → out-Ty type ≡ x → IsTrue (is_element_step (map-Ty Ty Bool is_element x)) → (len : Expr) → ¬ (count_of type ≡ Some len)
element-none_at (ty.Num scalar) x e h len is = cc
element-none_at (ty.Bits unit width) x e h len is = cc
element-none_at (ty.Opaque size align) x e h len is = cc
element-none_at (ty.Str None) x e h len is = cc
element-none_at (ty.Str (Some count)) x e h len is = let o = outs-Str (Some count) in let g = subst (λ l. IsTrue (is_element_step (map-Ty Ty Bool is_element l))) (sym e ∙ o) h in cc
element-none_at (ty.Ptr t pointer.Plain reorder) x e h len is = cc
element-none_at (ty.Ptr t (pointer.Length count) reorder) x e h len is =
    let o = outs-Ptr t (pointer.Length count) reorder in
    no_length t count reorder (subst (λ l. IsTrue (is_element_step (map-Ty Ty Bool is_element l))) (sym e ∙ o) h)
element-none_at (ty.Ptr t pointer.Atomic reorder) x e h len is = cc
element-none_at (ty.Ptr t pointer.Undef reorder) x e h len is = cc
element-none_at (ty.Node node desc) x e h len is = cc
element-none_at (ty.Arr' n shape elem) x e h len is = cc
element-none_at (ty.Tail' count shape elem) x e h len is = let o = outs-Tail' count shape elem in let g = subst (λ l. IsTrue (is_element_step (map-Ty Ty Bool is_element l))) (sym e ∙ o) h in cc

element-none : (type : Ty) → IsTrue (is_element type) → (len : Expr) → ¬ (count_of type ≡ Some len)
element-none type h = element-none_at type (out-Ty type) refl (subst IsTrue (fold_out-Ty Bool is_element_step type) h)

module _ (program : Program) (settled : Settled program) where
  array-none : (type elem : Ty) (n : ℕ) → IsTypeIn program type → out-Ty type ≡ part.Arr n elem → (len : Expr) → ¬ (count_of elem ≡ Some len)
  array-none type elem n i e = element-none elem (subst (λ l. IsTrue (sound_at l)) e (sound program settled i))

  tail-none : (type elem : Ty) (long : Expr) → IsTypeIn program type → out-Ty type ≡ part.Tail long elem → (len : Expr) → ¬ (count_of elem ≡ Some len)
  tail-none type elem long i e = element-none elem (subst (λ l. IsTrue (sound_at l)) e (sound program settled i))

-- ---- the paths of expressions lead to numbers

module _ {program : Program} (settled : Settled program) where
  is-root : (r : Root) → Contains program.roots r → IsRoot program r
  is-root r contains = All-contains (IsRoot program) program.roots r settled.roots contains

  field-count : (node : TypeId) (x : Structure) (f : Field) (len : Expr) → HasStructure program node x → Contains x.fields f → count_of f.ty ≡ Some len → IsOption program node len
  field-count node x f len has contains e =
      subst (λ c. IfSome c (IsOption program node)) e (All-contains (IsField program node x) x.fields f (settled.structures node x has).fields contains).count

module _ {program : Program} (settled : Settled program) {a : Trees} where
  around : {s : Scope} {type : Ty} → Along program a s type → (inner : TypeId) → held_by type ≡ Some inner → IsAround program s.here s.outermost inner
  around (Along.at_block kind may) inner e = none-around program inner (kind-alone program kind inner may e)
  around (Along.at_root r contains) inner e = none-around program inner ((is-root settled r contains).whole inner e).0
  around (Along.in_field {s} {node} {desc} {v} {x} {f} p has contains) inner e =
      around-inside program s.here s.outermost node inner v (around p node (held-node node desc)) (x, f, has, contains, e)
  around (Along.in_common {s} {node} {common = c} {desc} {v} {x} p has o) inner e =
      around-inside program s.here s.outermost node inner v (around p node (held-node node desc))
      (x, o.member.0, has, o.member.2, ap held_by o.member.3 ∙ held-node c o.member.1 ∙ sym (held-node c None) ∙ e)
  around (Along.in_array {type} {elem} {n} p e) inner h = around p inner (held-array type elem n e ∙ h)
  around (Along.in_tail {type} {elem} {length} p e) inner h = around p inner (held-tail type elem length e ∙ h)

  count-leads : {s : Scope} {type : Ty} → Along program a s type → (len : Expr) → count_of type ≡ Some len → IsReadable program s len
  count-leads (Along.at_block kind may) len e = absurd (kind-count program kind len e)
  count-leads (Along.at_root r contains) len e = root-count program (outside a) len (subst (λ c. IfSome c (IsRootCount program)) e (is-root settled r contains).count)
  count-leads (Along.in_field {s} {node} {desc} {v} {x} {f} p has contains) len e =
      option-leads program s node v len (around p node (held-node node desc)) (field-count settled node x f len has contains e)
  count-leads (Along.in_common p has o) len e = absurd (cc)
  count-leads (Along.in_array {type} {elem} {n} p e) len is =
      elim (typed p) [ inl i ↦ absurd (array-none program settled type elem n i e len is) | inr i ↦ absurd (in-array type elem n i e) ]
  count-leads (Along.in_tail {type} {elem} {length = long} p e) len is =
      elim (typed p) [ inl i ↦ absurd (tail-none program settled type elem long i e len is) | inr i ↦ absurd (in-tail type elem long i e) ]

  root-desc : (r : Root) → Contains program.roots r → (union : TypeId) (y : Structure) (e : Expr) → HasStructure program union y → y.is_union ≡ true → innermost r.ty ≡ ty.Node union (Some e) → (inner : Tree)
      → IsReadable program (inside (outside a) union inner) e
  root-desc r contains union y e has is h inner =
      let names = (is-root settled r contains).names in
      let found = subst (NamesDescribed program (IsDescOfRoot program)) h names.described in
      let same : found.0 ≡ y = cc in
      let good = subst (λ x. IsDescOfRoot program union x e) same found.2.1 in
      elim good [
        | inl own ↦ option-leads program (outside a) union inner e (none-around program union ((is-root settled r contains).whole union (ap itself h)).0) (own-desc program union y e settled has is own)
        | inr root ↦ root_desc-leads program (outside a) union inner e root
      ]

  desc-known : {s : Scope} {type : Ty} → Along program a s type → (union : TypeId) (y : Structure) (e : Expr) → HasStructure program union y → y.is_union ≡ true → innermost type ≡ ty.Node union (Some e) → (inner : Tree)
      → IsReadable program (inside s union inner) e
  desc-known (Along.at_root r contains) union y e has is h inner = root-desc r contains union y e has is h inner
  desc-known (Along.at_block kind may) union y e has is h inner =
      let found = kind-desc program kind union y e settled has is h in
      option-leads program (outside a) union inner e (none-around program union (kind-alone program kind union may found.0)) found.1
  desc-known (Along.in_field {s} {node} {desc} {v} {x} {f} p there contains) union y e has is h inner =
      desc-leads program s node union v inner e (around p node (held-node node desc)) (field-desc program settled a node union x f e there contains h)
  desc-known (Along.in_common {common = c} p there o) union y e has is h inner = let n = innermost-node c None in absurd (cc)
  desc-known (Along.in_array {type} {elem} {n} p arr) union y e has is h inner = desc-known p union y e has is (innermost-array type elem n arr ∙ h) inner
  desc-known (Along.in_tail {type} {elem} {length} p tail) union y e has is h inner = desc-known p union y e has is (innermost-tail type elem length tail ∙ h) inner

-- ---- the expressions are ones of the program

pub expressions-layer : (type : Ty) (x : Ty-F Ty) → out-Ty type ≡ x → expressions_of type ≡ expressions_step (map-Ty Ty (List Expr) expressions_of x)
expressions-layer type x e = fold_out-Ty (List Expr) expressions_step type ∙ ap (λ y. expressions_step (map-Ty Ty (List Expr) expressions_of y)) e

Contains-none : {X : Type 0} (x : X) → ¬ Contains [] x
Contains-none x (i, h, e) = absurd (omega arith)

Contains-later : {X : Type 0} (xs : List X) (y x : X) → Contains xs x → Contains (y ∷ xs) x
Contains-later xs y x (i, h, e) = (suc i, omega arith, e)

pub Contains-only : {X : Type 0} (o : Option X) (x : X) → Contains (option_to_list o) x → o ≡ Some x
Contains-only None x c = absurd (Contains-none x c)
Contains-only (Some y) x (zero, h, e) = ap Some e
Contains-only (Some y) x (suc i, h, e) = absurd (omega arith)

count-contains : (type : Ty) (len : Expr) → count_of type ≡ Some len → Contains (expressions_of type) len
count-contains (ty.Num scalar) len e = absurd (cc)
count-contains (ty.Bits unit width) len e = absurd (cc)
count-contains (ty.Opaque size align) len e = absurd (cc)
count-contains (ty.Str None) len e = absurd (cc)
count-contains (ty.Str (Some count)) len e = subst (λ l. Contains l len) (sym (expressions-layer (ty.Str (Some count)) _ (outs-Str (Some count)))) (Contains-get (count ∷ []) 0 len e)
count-contains (ty.Ptr t pointer.Plain reorder) len e = absurd (cc)
count-contains (ty.Ptr t (pointer.Length count) reorder) len e =
    subst (λ l. Contains l len) (sym (expressions-layer (ty.Ptr t (pointer.Length count) reorder) _ (outs-Ptr t (pointer.Length count) reorder))) (Contains-get (count ∷ []) 0 len e)
count-contains (ty.Ptr t pointer.Atomic reorder) len e = absurd (cc)
count-contains (ty.Ptr t pointer.Undef reorder) len e = absurd (cc)
count-contains (ty.Node node desc) len e = absurd (cc)
count-contains (ty.Arr' n shape elem) len e = absurd (cc)
count-contains (ty.Tail' count shape elem) len e =
    subst (λ l. Contains l len) (sym (expressions-layer (ty.Tail' count shape elem) _ (outs-Tail' count shape elem))) (Contains-get (count ∷ _) 0 len e)

desc-contains : (node : TypeId) (e : Expr) → Contains (expressions_of (ty.Node node (Some e))) e
desc-contains node e = subst (λ l. Contains l e) (sym (expressions-layer (ty.Node node (Some e)) _ (outs-Node node (Some e)))) (Contains-get (e ∷ []) 0 e refl)

module _ {program : Program} where
  node-known : (node : TypeId) (o : Option Structure) (e : Expr) → slice_get program.structures node.0 ≡ o → desc_of o ≡ Some e → IsExpressionOf program e
  node-known node (Some s) e has is = IsExpressionOf.of_desc s (Contains-get program.structures node.0 s has) is
  node-known node None e has is = absurd (cc)

  none-known : (type : Ty) (e : Expr) → expressions_of type ≡ [] → Contains (expressions_of type) e → IsExpressionOf program e
  none-known type e none c = absurd (Contains-none e (subst (λ l. Contains l e) none c))

  kind-known : (kind : Kind) (e : Expr) → Contains (expressions_of (element_type program kind)) e → IsExpressionOf program e
  kind-known (Nodes node) e c =
      let desc = desc_of (slice_get program.structures node.0) in
      node-known node (slice_get program.structures node.0) e refl (Contains-only desc e (subst (λ l. Contains l e) (expressions-layer (ty.Node node desc) _ (outs-Node node desc)) c))
  kind-known (Pointers node) e c = none-known _ e (expressions-layer _ _ (outs-Ptr (Some (target.Node node)) pointer.Plain false)) c
  kind-known Strings e c = none-known _ e (expressions-layer _ _ (outs-Str None)) c
  kind-known Chars e c = none-known _ e (expressions-layer _ _ (outs-Num (scalar.Int W1 false))) c
  kind-known Raw e c = none-known _ e (expressions-layer _ _ (outs-Num (scalar.Int W1 false))) c

  known : {a : Trees} {s : Scope} {type : Ty} → Along program a s type → (e : Expr) → Contains (expressions_of type) e → IsExpressionOf program e
  known (Along.at_block kind may) e c = kind-known kind e c
  known (Along.at_root r contains) e c = IsExpressionOf.of_root r contains c
  known (Along.in_field {node} {x} {f} p has contains) e c = IsExpressionOf.of_field x f (Contains-get program.structures node.0 x has) contains c
  known (Along.in_common {common = k} p has o) e c = none-known (ty.Node k None) e (expressions-layer (ty.Node k None) _ (outs-Node k None)) c
  known (Along.in_array {type} {elem} {n} p out) e c = known p e (subst (λ l. Contains l e) (sym (expressions-layer type (part.Arr n elem) out)) c)
  known (Along.in_tail {type} {elem} {length = long} p out) e c =
      known p e (subst (λ l. Contains l e) (sym (expressions-layer type (part.Tail long elem) out)) (Contains-later (expressions_of elem) long e c))

-- ---- where their paths begin

-- the paths of an expression begin at the structures of a scope
pub record Begins (program : Program) (s : Scope) (e : Expr) : Type 0 where
  pub here : (h : Held) → s.here ≡ Some h → BeginsAt program e Here h.node
  pub outer : (h : Held) → s.outer ≡ Some h → BeginsAt program e Outer h.node
  pub outermost : (h : Held) → s.outermost ≡ Some h → BeginsAt program e Outermost h.node

node-held : (n : TypeId) (v : Tree) (h : Held) → Some (record { node = n; value = v }) ≡ Some h → n ≡ h.node
node-held n v h e = let same : record { node = n; value = v } ≡ h = cc in ap (λ x. x.node) same

-- the outermost structure of a scope inside a structure may be so around that one
outermost-around : (program : Program) (here outermost : Option Held) (node : TypeId) (v : Tree) → IsAround program here outermost node → (h : Held) → first_of outermost (Some (record { node = node; value = v })) ≡ Some h → MayBeOutermost program node h.node
outermost-around program here None node v a h e = inl (sym (node-held node v h e))
outermost-around program here (Some top) node v a h e = let same : top ≡ h = cc in inr (subst (λ (x : Held). ContainsAtDepth program x.node node) same (a.around top refl).1)

-- so it is inside another one in there
first-held : (o : Option Held) (a b h : Held) → first_of (first_of o (Some a)) (Some b) ≡ Some h → first_of o (Some a) ≡ Some h
first-held None a b h e = e
first-held (Some x) a b h e = e

own-count : (x : Structure) (f : Field) (len : Expr) → Contains x.fields f → count_of f.ty ≡ Some len → Contains (own_expressions x) len
own-count x f len c e =
    (contains-append (filter_map (λ (g : Field). count_of g.ty) x.fields) (option_to_list x.desc) len).1 (inl ((filter-contains (λ (g : Field). count_of g.ty) x.fields len).1 (f, c, e)))

own-itself : (x : Structure) (e : Expr) → x.desc ≡ Some e → Contains (own_expressions x) e
own-itself x e is =
    (contains-append (filter_map (λ (g : Field). count_of g.ty) x.fields) (option_to_list x.desc) e).1 (inr (subst (λ o. Contains (option_to_list o) e) (sym is) (Contains-get (e ∷ []) 0 e refl)))

module _ {program : Program} where
  begins-alone : {a : Trees} (union : TypeId) (inner : Tree) (e : Expr) → BeginsAt program e Here union → BeginsAt program e Outermost union → Begins program (inside (outside a) union inner) e
  begins-alone union inner e b o = record {
    here = λ h is. subst (λ n. BeginsAt program e Here n) (node-held union inner h is) b;
    outer = λ h is. absurd (cc);
    outermost = λ h is. subst (λ n. BeginsAt program e Outermost n) (node-held union inner h is) o;
  }

  kind-begins : (kind : Kind) (union : TypeId) (y : Structure) (e : Expr) → HasStructure program union y → innermost (element_type program kind) ≡ ty.Node union (Some e) → BeginsAt program e Here union × BeginsAt program e Outermost union
  kind-begins (Nodes node) union y e has h =
      let same = sym (innermost-node node (desc_of (slice_get program.structures node.0))) ∙ h in
      let equal : node ≡ union = cc in
      let desc : desc_of (slice_get program.structures node.0) ≡ Some e = cc in
      let own : y.desc ≡ Some e = ap desc_of (sym has) ∙ ap (λ n. desc_of (slice_get program.structures n.0)) (sym equal) ∙ desc in
      (BeginsAt.own_here {node = union} {s = y} has (own-itself y e own), BeginsAt.own_outermost union {s = y} has (own-itself y e own) (inl refl))
  kind-begins (Pointers node) union y e has h = let none = innermost-layer (element_type program (Pointers node)) _ (outs-Ptr (Some (target.Node node)) pointer.Plain false) in absurd (cc)
  kind-begins Strings union y e has h = let none = innermost-layer (ty.Str None) _ (outs-Str None) in absurd (cc)
  kind-begins Chars union y e has h = let none = innermost-layer (ty.Num (scalar.Int W1 false)) _ (outs-Num (scalar.Int W1 false)) in absurd (cc)
  kind-begins Raw union y e has h = let none = innermost-layer (ty.Num (scalar.Int W1 false)) _ (outs-Num (scalar.Int W1 false)) in absurd (cc)

module _ {program : Program} (settled : Settled program) {a : Trees} where
  count-begins : {s : Scope} {type : Ty} → Along program a s type → (len : Expr) → count_of type ≡ Some len → Begins program s len
  count-begins (Along.at_block kind may) len e = absurd (kind-count program kind len e)
  count-begins (Along.at_root r contains) len e = record { here = λ h is. absurd (cc); outer = λ h is. absurd (cc); outermost = λ h is. absurd (cc) }
  count-begins (Along.in_field {s} {node} {desc} {v} {x} {f} p has contains) len e = record {
    here = λ h is. subst (λ n. BeginsAt program len Here n) (node-held node v h is) (BeginsAt.own_here {node = node} {s = x} has (own-count x f len contains e));
    outer = λ h is. BeginsAt.length_outer node {s = x} {f = f} has contains e ((around settled p node (held-node node desc)).within h is);
    outermost = λ h is. BeginsAt.own_outermost node {s = x} has (own-count x f len contains e) (outermost-around program s.here s.outermost node v (around settled p node (held-node node desc)) h is);
  }
  count-begins (Along.in_common p has o) len e = absurd (cc)
  count-begins (Along.in_array {type} {elem} {n} p e) len is =
      elim (typed p) [ inl i ↦ absurd (array-none program settled type elem n i e len is) | inr i ↦ absurd (in-array type elem n i e) ]
  count-begins (Along.in_tail {type} {elem} {length = long} p e) len is =
      elim (typed p) [ inl i ↦ absurd (tail-none program settled type elem long i e len is) | inr i ↦ absurd (in-tail type elem long i e) ]

  desc-begins : {s : Scope} {type : Ty} → Along program a s type → (union : TypeId) (y : Structure) (e : Expr) → HasStructure program union y → innermost type ≡ ty.Node union (Some e) → (inner : Tree)
      → Begins program (inside s union inner) e
  desc-begins (Along.at_block kind may) union y e has h inner = let b = kind-begins kind union y e has h in begins-alone union inner e b.0 b.1
  desc-begins (Along.at_root r contains) union y e has h inner = begins-alone union inner e (BeginsAt.root_here {r = r} contains h) (BeginsAt.root_outermost {r = r} contains h)
  desc-begins (Along.in_field {s} {node} {desc} {v} {x} {f} p there contains) union y e has h inner = record {
    here = λ k is. subst (λ n. BeginsAt program e Here n) (node-held union inner k is) (BeginsAt.desc_here node {s = x} {f = f} there contains h);
    outer = λ k is. subst (λ n. BeginsAt program e Outer n) (node-held node v k is) (BeginsAt.desc_outer {union = union} {s = x} {f = f} there contains h);
    outermost = λ k is. BeginsAt.desc_outermost node {union = union} {s = x} {f = f} there contains h
        (outermost-around program s.here s.outermost node v (around settled p node (held-node node desc)) k (first-held s.outermost (record { node = node; value = v }) (record { node = union; value = inner }) k is));
  }
  desc-begins (Along.in_common {common = c} p there o) union y e has h inner = let n = innermost-node c None in absurd (cc)
  desc-begins (Along.in_array {type} {elem} {n} p arr) union y e has h inner = desc-begins p union y e has (innermost-array type elem n arr ∙ h) inner
  desc-begins (Along.in_tail {type} {elem} {length} p tail) union y e has h inner = desc-begins p union y e has (innermost-tail type elem length tail ∙ h) inner

-- ---- all three

-- an expression of the program whose paths begin at the structures of a scope and lead to numbers
pub record IsMet (program : Program) (s : Scope) (e : Expr) : Type 0 where
  pub readable : IsReadable program s e
  pub known : IsExpressionOf program e
  pub begins : Begins program s e

module _ {program : Program} (settled : Settled program) {a : Trees} where
  pub count-met : {s : Scope} {type : Ty} → Along program a s type → (len : Expr) → count_of type ≡ Some len → IsMet program s len
  count-met {type} p len e = record { readable = count-leads settled p len e; known = known p len (count-contains type len e); begins = count-begins settled p len e }

  pub desc-met : {s : Scope} (node : TypeId) (x : Structure) (e : Expr) → Along program a s (ty.Node node (Some e)) → HasStructure program node x → x.is_union ≡ true → (inner : Tree) → IsMet program (inside s node inner) e
  desc-met node x e p has is inner = record {
    readable = desc-known settled p node x e has is (innermost-node node (Some e)) inner;
    known = known p e (desc-contains node e);
    begins = desc-begins settled p node x e has (innermost-node node (Some e)) inner;
  }
