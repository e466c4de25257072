-- Expressions have the same values in two scopes from whose structures paths read the same.
use Rattle.std.proofs.Common.{◌≡◌, ◌⊎◌, ℕ, IsTrue, true, false, List, refl, ap, sym, subst, ◌∙◌, Option, Some, None, inl, inr}
use Rattle.std.specs.Prelude.{Contains, IfSome, slice_get}
use Rattle.std.proofs.lemmas.List.Elements.{All-contains, All-weaker}
use Rattle.gt_types.specs.declared.expressions.Base.TheVariants.{Here, Outer, Outermost}
use Rattle.gt_types.specs.declared.expressions.Expr.{Expr}
use Rattle.gt_types.specs.declared.types.TypeId.{TypeId}
use Rattle.gt_types.specs.declared.types.Scalar.TheVariants as scalar
use Rattle.gt_types.specs.declared.types.Width.TheVariants.{W1}
use Rattle.gt_types.specs.declared.types.Target.TheVariants as target
use Rattle.gt_types.specs.declared.types.PtrKind.TheVariants as pointer
use Rattle.gt_types.specs.declared.types.Ty.{Ty, out-Ty}
use Rattle.gt_types.specs.declared.types.Ty.TheOpen as part
use Rattle.gt_types.specs.declared.types.Ty.TheOpen.{Ty-F}
use Rattle.gt_types.specs.declared.types.Ty.TheVariants as ty
use Rattle.gt_types.specs.declared.types.Ty.TheVariants.{outs-Num, outs-Str, outs-Ptr, outs-Node}
use Rattle.gt_types.specs.declared.program.Field.{Field}
use Rattle.gt_types.specs.declared.program.Structure.{Structure}
use Rattle.gt_types.specs.declared.program.Root.{Root}
use Rattle.gt_types.specs.declared.program.Program.{Program}
use Rattle.gt_types.specs.Shapes.{innermost, is_structure, root_type_at}
use Rattle.gt_types.specs.Contains.{HasStructure, held_by, itself}
use Rattle.gt_types.specs.Unions.{IsCommon}
use Rattle.gt_types.specs.Paths.{Way, paths_of, IsInner, IsOption, IsFieldDesc, LeadsToNumber}
use Rattle.gt_types.specs.Settled.{Settled, IsField, IsUnion, IsOfItsKind, IsRoot, IsDescOfRoot, NamesDescribed}
use Rattle.gt_tree.specs.Trees.{Tree, Trees}
use Rattle.gt_tree.specs.Blocks.{Kind, Nodes, Pointers, Strings, Chars, Raw, desc_of, element_type}
use Rattle.gt_tree.specs.Scopes.{Held, Scope, outside, inside, first_of, ◌then◌, read_path, leaf_in, root_in, eval_in}
use Rattle.gt_tree.specs.Fits.{desc_value}
use Rattle.gt_tree.specs.LeafLaws.{IsTypeIn}
use Rattle.gt_tree.specs.PathLaws.{LeadsInScope}
use Rattle.gt_tree.specs.FixedLaws.{MayHold}
use Rattle.gt_tree.proofs.Types.{held-node, held-array, held-tail, innermost-node}
use Rattle.gt_tree.proofs.PathExprs.{worth-same}
use Rattle.gt_tree.proofs.FixedTypes.{element-no_tail, tail_element-no_tail}
use Rattle.gt_tree.proofs.FixedScopes.{IsAround, around-inside, IsReadable, option-leads, desc-leads, root_desc-leads, innermost-array, innermost-tail, innermost-layer, count-tail}
use Rattle.gt_tree.proofs.FixedValues.{in-array, in-tail}

-- paths to numbers read the same from two values of a structure
abbrev pub ReadSame : Program → TypeId → Tree → Tree → Type 0
ReadSame program node v w = (steps : List (List ℕ)) → LeadsToNumber program node steps → read_path program steps (ty.Node node None) v ≡ read_path program steps (ty.Node node None) w

-- roots read the same in two static records
abbrev pub RootsSame : Trees → Trees → Type 0
RootsSame b c = (i : ℕ) → root_in (outside b) i ≡ root_in (outside c) i

-- Two scopes in which values of a type stand: both in an element of a block, or in a root, or inside values from which paths read
-- the same.
pub data Beside (program : Program) (a : Trees) : Scope → Scope → Ty → Type 0 where
  at_block : (kind : Kind) → MayHold program kind → Beside program a (outside a) (outside a) (element_type program kind)
  at_root : {b c : Trees} (r : Root) → Contains program.roots r → RootsSame b c → Beside program a (outside b) (outside c) r.ty
  in_field : {s t : Scope} {node : TypeId} {desc : Option Expr} {v w : Tree} {x : Structure} {f : Field} → Beside program a s t (ty.Node node desc) → ReadSame program node v w
      → HasStructure program node x → Contains x.fields f → Beside program a (inside s node v) (inside t node w) f.ty
  in_common : {s t : Scope} {node common : TypeId} {desc : Option Expr} {v w : Tree} {x : Structure} → Beside program a s t (ty.Node node desc) → ReadSame program node v w
      → HasStructure program node x → IsCommon program x common → Beside program a (inside s node v) (inside t node w) (ty.Node common None)
  in_array : {s t : Scope} {type elem : Ty} {n : ℕ} → Beside program a s t type → out-Ty type ≡ part.Arr n elem → Beside program a s t elem
  in_tail : {s t : Scope} {type elem : Ty} {length : Expr} → Beside program a s t type → out-Ty type ≡ part.Tail length elem → Beside program a s t elem

module _ {program : Program} {a : Trees} where
  typed : {s t : Scope} {type : Ty} → Beside program a s t type → IsTypeIn program type ⊎ (is_structure type ≡ true)
  typed (Beside.at_block kind may) = inl (IsTypeIn.of_block kind)
  typed (Beside.at_root r contains same) = inl (IsTypeIn.of_root r contains)
  typed (Beside.in_field {node} {x} {f} b reads has contains) = inl (IsTypeIn.of_field node x f has contains)
  typed (Beside.in_common b reads has c) = inr refl
  typed (Beside.in_array {type} {elem} {n} b e) = elim (typed b) [ inl i ↦ inl (IsTypeIn.of_array i e) | inr i ↦ absurd (in-array type elem n i e) ]
  typed (Beside.in_tail {type} {elem} {length} b e) = elim (typed b) [ inl i ↦ inl (IsTypeIn.of_tail i e) | inr i ↦ absurd (in-tail type elem length i e) ]

-- ---- what a block holds

kind-alone : (program : Program) (kind : Kind) (inner : TypeId) → MayHold program kind → held_by (element_type program kind) ≡ Some inner → ¬ IsInner program inner
kind-alone program (Nodes node) inner may e =
    let same = held-node node (desc_of (slice_get program.structures node.0)) in
    let equal : node ≡ inner = cc in
    subst (λ n. ¬ IsInner program n) equal may.2
kind-alone program (Pointers node) inner may e = let none = ap itself (innermost-layer (element_type program (Pointers node)) _ (outs-Ptr (Some (target.Node node)) pointer.Plain false)) in absurd (cc)
kind-alone program Strings inner may e = let none = ap itself (innermost-layer (ty.Str None) _ (outs-Str None)) in absurd (cc)
kind-alone program Chars inner may e = let none = ap itself (innermost-layer (ty.Num (scalar.Int W1 false)) _ (outs-Num (scalar.Int W1 false))) in absurd (cc)
kind-alone program Raw inner may e = let none = ap itself (innermost-layer (ty.Num (scalar.Int W1 false)) _ (outs-Num (scalar.Int W1 false))) in absurd (cc)

pub kind-no_tail : (program : Program) (kind : Kind) (elem : Ty) (length : Expr) → ¬ (out-Ty (element_type program kind) ≡ part.Tail length elem)
kind-no_tail program (Nodes node) elem length e = let o = outs-Node node (desc_of (slice_get program.structures node.0)) in cc
kind-no_tail program (Pointers node) elem length e = let o = outs-Ptr (Some (target.Node node)) pointer.Plain false in cc
kind-no_tail program Strings elem length e = let o = outs-Str None in cc
kind-no_tail program Chars elem length e = let o = outs-Num (scalar.Int W1 false) in cc
kind-no_tail program Raw elem length e = let o = outs-Num (scalar.Int W1 false) in cc

own-desc : (program : Program) (node : TypeId) (x : Structure) (e : Expr) → Settled program → HasStructure program node x → x.is_union ≡ true → x.desc ≡ Some e → IsOption program node e
own-desc program node x e settled has union is =
    let u : IsUnion program node x = subst (IsOfItsKind program node x) union (settled.structures node x has).sort in
    subst (λ d. IfSome d (IsOption program node)) is u.desc

pub kind-desc : (program : Program) (kind : Kind) (union : TypeId) (x : Structure) (e : Expr) → Settled program → HasStructure program union x → x.is_union ≡ true
    → innermost (element_type program kind) ≡ ty.Node union (Some e) → (held_by (element_type program kind) ≡ Some union) × IsOption program union e
kind-desc program (Nodes node) union x e settled has is h =
    let same = sym (innermost-node node (desc_of (slice_get program.structures node.0))) ∙ h in
    let equal : node ≡ union = cc in
    let desc : desc_of (slice_get program.structures node.0) ≡ Some e = cc in
    let own : x.desc ≡ Some e = ap desc_of (sym has) ∙ ap (λ n. desc_of (slice_get program.structures n.0)) (sym equal) ∙ desc in
    (ap itself h, own-desc program union x e settled has is own)
kind-desc program (Pointers node) union x e settled has is h = let none = innermost-layer (element_type program (Pointers node)) _ (outs-Ptr (Some (target.Node node)) pointer.Plain false) in absurd (cc)
kind-desc program Strings union x e settled has is h = let none = innermost-layer (ty.Str None) _ (outs-Str None) in absurd (cc)
kind-desc program Chars union x e settled has is h = let none = innermost-layer (ty.Num (scalar.Int W1 false)) _ (outs-Num (scalar.Int W1 false)) in absurd (cc)
kind-desc program Raw union x e settled has is h = let none = innermost-layer (ty.Num (scalar.Int W1 false)) _ (outs-Num (scalar.Int W1 false)) in absurd (cc)

-- ---- what a root holds

root-no_tail_at : (x : Ty-F Ty) (elem : Ty) (length : Expr) → x ≡ part.Tail length elem → ¬ IsTrue (root_type_at x)
root-no_tail_at x elem length e h = let none : root_type_at x ≡ false = ap root_type_at e in cc

is-root : (program : Program) → Settled program → (r : Root) → Contains program.roots r → IsRoot program r
is-root program settled r contains = All-contains (IsRoot program) program.roots r settled.roots contains

-- ---- the structures around

none-around : (program : Program) (inner : TypeId) → ¬ IsInner program inner → IsAround program None None inner
none-around program inner alone = record { within = λ h e. absurd (cc); around = λ h e. absurd (cc); alone = λ e. alone }

module _ (program : Program) (settled : Settled program) (a : Trees) where
  around : {s t : Scope} {type : Ty} → Beside program a s t type → (inner : TypeId) → held_by type ≡ Some inner → IsAround program s.here s.outermost inner
  around (Beside.at_block kind may) inner e = none-around program inner (kind-alone program kind inner may e)
  around (Beside.at_root r contains same) inner e = none-around program inner ((is-root program settled r contains).whole inner e).0
  around (Beside.in_field {s} {node} {desc} {v} {x} {f} p reads has contains) inner e =
      around-inside program s.here s.outermost node inner v (around p node (held-node node desc)) (x, f, has, contains, e)
  around (Beside.in_common {s} {node} {common = c} {desc} {v} {x} p reads has o) inner e =
      around-inside program s.here s.outermost node inner v (around p node (held-node node desc))
      (x, o.member.0, has, o.member.2, ap held_by o.member.3 ∙ held-node c o.member.1 ∙ sym (held-node c None) ∙ e)
  around (Beside.in_array {type} {elem} {n} p e) inner h = around p inner (held-array type elem n e ∙ h)
  around (Beside.in_tail {type} {elem} {length} p e) inner h = around p inner (held-tail type elem length e ∙ h)

  field-count : (node : TypeId) (x : Structure) (f : Field) (elem : Ty) (length : Expr) → HasStructure program node x → Contains x.fields f → out-Ty f.ty ≡ part.Tail length elem → IsOption program node length
  field-count node x f elem length has contains e =
      subst (λ c. IfSome c (IsOption program node)) (count-tail f.ty elem length e) (All-contains (IsField program node x) x.fields f (settled.structures node x has).fields contains).count

  -- the paths of a length lead to numbers
  pub count-leads : {s t : Scope} {type : Ty} → Beside program a s t type → (elem : Ty) (length : Expr) → out-Ty type ≡ part.Tail length elem → IsReadable program s length
  count-leads (Beside.at_block kind may) elem length e = absurd (kind-no_tail program kind elem length e)
  count-leads (Beside.at_root r contains same) elem length e = absurd (root-no_tail_at (out-Ty r.ty) elem length e (is-root program settled r contains).shape)
  count-leads (Beside.in_field {s} {node} {desc} {v} {x} {f} p reads has contains) elem length e =
      option-leads program s node v length (around p node (held-node node desc)) (field-count node x f elem length has contains e)
  count-leads (Beside.in_common {common = c} p reads has o) elem length e = let n = outs-Node c None in absurd (cc)
  count-leads (Beside.in_array {type} {elem = row} {n} p e) elem length tail =
      elim (typed p) [ inl i ↦ absurd (element-no_tail program type row n settled i e length elem tail) | inr i ↦ absurd (in-array type row n i e) ]
  count-leads (Beside.in_tail {type} {elem = row} {length = long} p e) elem length tail =
      elim (typed p) [ inl i ↦ absurd (tail_element-no_tail program type row long settled i e length elem tail) | inr i ↦ absurd (in-tail type row long i e) ]

  pub field-desc : (node union : TypeId) (x : Structure) (f : Field) (e : Expr) → HasStructure program node x → Contains x.fields f → innermost f.ty ≡ ty.Node union (Some e) → IsFieldDesc program node union e
  field-desc node union x f e has contains is =
      let names = (All-contains (IsField program node x) x.fields f (settled.structures node x has).fields contains).names in
      let found = subst (NamesDescribed program (λ u y d. IsFieldDesc program node u d)) is names.described in
      found.2.1

  root-desc : (r : Root) → Contains program.roots r → (b : Trees) (union : TypeId) (y : Structure) (e : Expr) → HasStructure program union y → y.is_union ≡ true
      → innermost r.ty ≡ ty.Node union (Some e) → (inner : Tree) → IsReadable program (inside (outside b) union inner) e
  root-desc r contains b union y e has is h inner =
      let root = is-root program settled r contains in
      let found = subst (NamesDescribed program (IsDescOfRoot program)) h root.names.described in
      let same : found.0 ≡ y = cc in
      let good = subst (λ x. IsDescOfRoot program union x e) same found.2.1 in
      elim good [
        | inl own ↦ option-leads program (outside b) union inner e (none-around program union (root.whole union (ap itself h)).0) (own-desc program union y e settled has is own)
        | inr given ↦ root_desc-leads program (outside b) union inner e given
      ]

  -- so do those of a `desc`
  pub desc-known : {s t : Scope} {type : Ty} → Beside program a s t type → (union : TypeId) (y : Structure) (e : Expr) → HasStructure program union y → y.is_union ≡ true
      → innermost type ≡ ty.Node union (Some e) → (inner : Tree) → IsReadable program (inside s union inner) e
  desc-known (Beside.at_block kind may) union y e has is h inner =
      let found = kind-desc program kind union y e settled has is h in
      option-leads program (outside a) union inner e (none-around program union (kind-alone program kind union may found.0)) found.1
  desc-known (Beside.at_root {b} r contains same) union y e has is h inner = root-desc r contains b union y e has is h inner
  desc-known (Beside.in_field {s} {node} {desc} {v} {x} {f} p reads there contains) union y e has is h inner =
      desc-leads program s node union v inner e (around p node (held-node node desc)) (field-desc node union x f e there contains h)
  desc-known (Beside.in_common {common = c} p reads there o) union y e has is h inner = let n = innermost-node c None in absurd (cc)
  desc-known (Beside.in_array {type} {elem} {n} p arr) union y e has is h inner = desc-known p union y e has is (innermost-array type elem n arr ∙ h) inner
  desc-known (Beside.in_tail {type} {elem} {length} p tail) union y e has is h inner = desc-known p union y e has is (innermost-tail type elem length tail ∙ h) inner

-- ---- scopes read alike

-- two values of one structure from which paths read the same; or none twice
data HeldSame (program : Program) : Option Held → Option Held → Type 0 where
  neither : HeldSame program None None
  both : {node : TypeId} {v w : Tree} → ReadSame program node v w → HeldSame program (Some (record { node = node; value = v })) (Some (record { node = node; value = w }))

record ScopesSame (program : Program) (s t : Scope) : Type 0 where
  here : HeldSame program s.here t.here
  outer : HeldSame program s.outer t.outer
  outermost : HeldSame program s.outermost t.outermost
  roots : RootsSame s.statics t.statics

first-same : {program : Program} {a b c d : Option Held} → HeldSame program a b → HeldSame program c d → HeldSame program (first_of a c) (first_of b d)
first-same HeldSame.neither h = h
first-same (HeldSame.both r) h = HeldSame.both r

module _ {program : Program} where
  inside-same : {s t : Scope} (node : TypeId) (v w : Tree) → ScopesSame program s t → ReadSame program node v w → ScopesSame program (inside s node v) (inside t node w)
  inside-same node v w p r = record { here = HeldSame.both r; outer = p.here; outermost = first-same p.outermost (HeldSame.both r); roots = p.roots }

  scopes-same : {a : Trees} {s t : Scope} {type : Ty} → Beside program a s t type → ScopesSame program s t
  scopes-same (Beside.at_block kind may) = record { here = HeldSame.neither; outer = HeldSame.neither; outermost = HeldSame.neither; roots = λ i. refl }
  scopes-same (Beside.at_root r contains same) = record { here = HeldSame.neither; outer = HeldSame.neither; outermost = HeldSame.neither; roots = same }
  scopes-same (Beside.in_field {node} {v} {w} p r has contains) = inside-same node v w (scopes-same p) r
  scopes-same (Beside.in_common {node} {v} {w} p r has c) = inside-same node v w (scopes-same p) r
  scopes-same (Beside.in_array p e) = scopes-same p
  scopes-same (Beside.in_tail p e) = scopes-same p

  base-same : {x y : Option Held} → HeldSame program x y → (steps : List (List ℕ)) → ((held : Held) → x ≡ Some held → LeadsToNumber program held.node steps)
      → (x then λ held. read_path program steps (ty.Node held.node None) held.value) ≡ (y then λ held. read_path program steps (ty.Node held.node None) held.value)
  base-same HeldSame.neither steps leads = refl
  base-same (HeldSame.both {node} {v} {w} r) steps leads = r steps (leads (record { node = node; value = v }) refl)

  leaf-same : (s t : Scope) → ScopesSame program s t → (path : Way) → LeadsInScope program s path → leaf_in program s path.0 path.1 ≡ leaf_in program t path.0 path.1
  leaf-same s t p (Here, steps) leads = base-same p.here steps leads
  leaf-same s t p (Outer, steps) leads = base-same p.outer steps leads
  leaf-same s t p (Outermost, steps) leads = base-same p.outermost steps leads

  eval-same : (s t : Scope) (e : Expr) → ScopesSame program s t → IsReadable program s e → eval_in program s e ≡ eval_in program t e
  eval-same s t e p readable =
      worth-same (leaf_in program s) (leaf_in program t) (root_in s) (root_in t) p.roots e
      (All-weaker (LeadsInScope program s) (λ path. leaf_in program s path.0 path.1 ≡ leaf_in program t path.0 path.1) (λ path. leaf-same s t p path) (paths_of e) readable.leads)

module _ (program : Program) (settled : Settled program) (a : Trees) where
  -- so lengths are the same
  pub same-count : (s t : Scope) (type elem : Ty) (length : Expr) → Beside program a s t type → out-Ty type ≡ part.Tail length elem → eval_in program s length ≡ eval_in program t length
  same-count s t type elem length p e = eval-same s t length (scopes-same p) (count-leads program settled a p elem length e)

  -- and the values that say which member of a union is active
  pub same-desc : (s t : Scope) (node : TypeId) (desc : Option Expr) (v w : Tree) (x : Structure) → Beside program a s t (ty.Node node desc) → ReadSame program node v w → HasStructure program node x → x.is_union ≡ true
      → desc_value program (inside s node v) desc ≡ desc_value program (inside t node w) desc
  same-desc s t node None v w x p r has union = refl
  same-desc s t node (Some e) v w x p r has union =
      eval-same (inside s node v) (inside t node w) e (inside-same node v w (scopes-same p) r) (desc-known program settled a p node x e has union (innermost-node node (Some e)) v)
