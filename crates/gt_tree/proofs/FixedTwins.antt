-- Expressions have the same values in the scopes of twins.
use Rattle.std.proofs.Common.{◌≡◌, ℕ, Bool, true, false, IsTrue, List, refl, ap, sym, subst, ◌∙◌, arith, Option, Some, None, inl, inr}
use Rattle.std.specs.Prelude.{All, Contains, IfSome, slice_get}
use Rattle.std.proofs.lemmas.List.Elements.{All-contains, All-weaker}
use Rattle.gt_types.specs.declared.expressions.Base.{Base}
use Rattle.gt_types.specs.declared.expressions.Base.TheVariants.{Here, Outer, Outermost}
use Rattle.gt_types.specs.declared.expressions.Expr.{Expr}
use Rattle.gt_types.specs.declared.types.TypeId.{TypeId}
use Rattle.gt_types.specs.declared.types.Scalar.TheVariants as scalar
use Rattle.gt_types.specs.declared.types.Width.TheVariants.{W1}
use Rattle.gt_types.specs.declared.types.Target.TheVariants as target
use Rattle.gt_types.specs.declared.types.PtrKind.TheVariants as pointer
use Rattle.gt_types.specs.declared.types.Ty.{Ty, out-Ty}
use Rattle.gt_types.specs.declared.types.Ty.TheOpen as part
use Rattle.gt_types.specs.declared.types.Ty.TheOpen.{Ty-F}
use Rattle.gt_types.specs.declared.types.Ty.TheVariants as ty
use Rattle.gt_types.specs.declared.types.Ty.TheVariants.{outs-Num, outs-Str, outs-Ptr, outs-Node}
use Rattle.gt_types.specs.declared.program.Field.{Field}
use Rattle.gt_types.specs.declared.program.Structure.{Structure}
use Rattle.gt_types.specs.declared.program.Root.{Root}
use Rattle.gt_types.specs.declared.program.Program.{Program}
use Rattle.gt_types.specs.Shapes.{innermost, root_type_at}
use Rattle.gt_types.specs.Contains.{HasStructure, held_by, itself}
use Rattle.gt_types.specs.Paths.{Way, paths_of, roots_of, IsScalarRoot, IsInner, IsOption, IsFieldDesc}
use Rattle.gt_types.specs.Settled.{Settled, IsRoot, IsDescOfRoot, IsField, IsUnion, IsOfItsKind, NamesDescribed}
use Rattle.gt_layout.specs.declared.planes.Layouts.{Layouts}
use Rattle.gt_tree.specs.Trees.{Tree, Trees}
use Rattle.gt_tree.specs.Numbers.{two's_complement}
use Rattle.gt_tree.specs.Blocks.{Kind, Nodes, Pointers, Strings, Chars, Raw, Blocks, desc_of, element_type}
use Rattle.gt_tree.specs.Scopes.{Held, Scope, outside, inside, first_of, leaf_in, root_in, eval_in}
use Rattle.gt_tree.specs.Fits.{desc_value}
use Rattle.gt_tree.specs.Leaves.{Leaf, leaf, Number}
use Rattle.gt_tree.specs.LeafLaws.{IsTypeIn, HasItsRoom}
use Rattle.gt_tree.specs.PathLaws.{AgreeInNumbers, HoldAlike, neither, both, ScopesAlike, LeadsInScope, ReadingIsSame}
use Rattle.gt_tree.specs.FixedLaws.{AreAddresses, MayHold}
use Rattle.gt_tree.proofs.Types.{held-node, held-array, held-tail, innermost-node}
use Rattle.gt_tree.proofs.Contents.{value-room}
use Rattle.gt_tree.proofs.FixedBits.{same_bits}
use Rattle.gt_tree.proofs.FixedTypes.{element-no_tail, tail_element-no_tail}
use Rattle.gt_tree.proofs.FixedSame.{Got, alike}
use Rattle.gt_tree.proofs.FixedExprs.{roots-worth}
use Rattle.gt_tree.proofs.FixedScopes.{IsAround, around-inside, IsReadable, option-leads, desc-leads, root_desc-leads, innermost-layer, innermost-array, innermost-tail, count-tail}
use Rattle.gt_tree.proofs.FixedValues.{Given, Twins, Alike, Assumed, typed, in-array, in-tail}

-- where values stand that are elements of blocks or roots, in one static record and in another
pub data Outside (program : Program) (a b : Trees) : Scope → Scope → Ty → Type 0 where
  of_block : (kind : Kind) → MayHold program kind → Outside program a b (outside a) (outside b) (element_type program kind)
  of_root : (r : Root) → Contains program.roots r → Outside program a b (outside a) (outside b) r.ty

pub outside-types : (program : Program) (a b : Trees) (s t : Scope) (type : Ty) → Outside program a b s t type → IsTypeIn program type
outside-types program a b s t type (Outside.of_block kind may) = IsTypeIn.of_block kind
outside-types program a b s t type (Outside.of_root r contains) = IsTypeIn.of_root r contains

-- ---- what a block holds

kind-alone : (program : Program) (kind : Kind) (inner : TypeId) → MayHold program kind → held_by (element_type program kind) ≡ Some inner → ¬ IsInner program inner
kind-alone program (Nodes node) inner may e =
    let same = held-node node (desc_of (slice_get program.structures node.0)) in
    let equal : node ≡ inner = cc in
    subst (λ n. ¬ IsInner program n) equal may.2
kind-alone program (Pointers node) inner may e = let none = ap itself (innermost-layer (element_type program (Pointers node)) _ (outs-Ptr (Some (target.Node node)) pointer.Plain false)) in absurd (cc)
kind-alone program Strings inner may e = let none = ap itself (innermost-layer (ty.Str None) _ (outs-Str None)) in absurd (cc)
kind-alone program Chars inner may e = let none = ap itself (innermost-layer (ty.Num (scalar.Int W1 false)) _ (outs-Num (scalar.Int W1 false))) in absurd (cc)
kind-alone program Raw inner may e = let none = ap itself (innermost-layer (ty.Num (scalar.Int W1 false)) _ (outs-Num (scalar.Int W1 false))) in absurd (cc)

pub kind-no_tail : (program : Program) (kind : Kind) (elem : Ty) (length : Expr) → ¬ (out-Ty (element_type program kind) ≡ part.Tail length elem)
kind-no_tail program (Nodes node) elem length e = let o = outs-Node node (desc_of (slice_get program.structures node.0)) in cc
kind-no_tail program (Pointers node) elem length e = let o = outs-Ptr (Some (target.Node node)) pointer.Plain false in cc
kind-no_tail program Strings elem length e = let o = outs-Str None in cc
kind-no_tail program Chars elem length e = let o = outs-Num (scalar.Int W1 false) in cc
kind-no_tail program Raw elem length e = let o = outs-Num (scalar.Int W1 false) in cc

own-desc : (program : Program) (node : TypeId) (x : Structure) (e : Expr) → Settled program → HasStructure program node x → x.is_union ≡ true → x.desc ≡ Some e → IsOption program node e
own-desc program node x e settled has union is =
    let u : IsUnion program node x = subst (IsOfItsKind program node x) union (settled.structures node x has).sort in
    subst (λ d. IfSome d (IsOption program node)) is u.desc

pub kind-desc : (program : Program) (kind : Kind) (union : TypeId) (x : Structure) (e : Expr) → Settled program → HasStructure program union x → x.is_union ≡ true
    → innermost (element_type program kind) ≡ ty.Node union (Some e) → (held_by (element_type program kind) ≡ Some union) × IsOption program union e
kind-desc program (Nodes node) union x e settled has is h =
    let same = sym (innermost-node node (desc_of (slice_get program.structures node.0))) ∙ h in
    let equal : node ≡ union = cc in
    let desc : desc_of (slice_get program.structures node.0) ≡ Some e = cc in
    let own : x.desc ≡ Some e = ap desc_of (sym has) ∙ ap (λ n. desc_of (slice_get program.structures n.0)) (sym equal) ∙ desc in
    (ap itself h, own-desc program union x e settled has is own)
kind-desc program (Pointers node) union x e settled has is h = let none = innermost-layer (element_type program (Pointers node)) _ (outs-Ptr (Some (target.Node node)) pointer.Plain false) in absurd (cc)
kind-desc program Strings union x e settled has is h = let none = innermost-layer (ty.Str None) _ (outs-Str None) in absurd (cc)
kind-desc program Chars union x e settled has is h = let none = innermost-layer (ty.Num (scalar.Int W1 false)) _ (outs-Num (scalar.Int W1 false)) in absurd (cc)
kind-desc program Raw union x e settled has is h = let none = innermost-layer (ty.Num (scalar.Int W1 false)) _ (outs-Num (scalar.Int W1 false)) in absurd (cc)

-- ---- what a root holds

root-no_tail_at : (x : Ty-F Ty) (elem : Ty) (length : Expr) → x ≡ part.Tail length elem → ¬ IsTrue (root_type_at x)
root-no_tail_at x elem length e h = let none : root_type_at x ≡ false = ap root_type_at e in cc

-- ---- the structures around

none-around : (program : Program) (inner : TypeId) → ¬ IsInner program inner → IsAround program None None inner
none-around program inner alone = record { within = λ h e. absurd (cc); around = λ h e. absurd (cc); alone = λ e. alone }

hold-first : {program : Program} {planes : _} {a b c d : Option Held} → HoldAlike program planes a b → HoldAlike program planes c d → HoldAlike program planes (first_of a c) (first_of b d)
hold-first neither h = h
hold-first (both e f x n) h = both e f x n

module _ (g : Given) (settled : Settled g.program) (a b : Trees) where
  is-root : (r : Root) → Contains g.program.roots r → IsRoot g.program r
  is-root r contains = All-contains (IsRoot g.program) g.program.roots r settled.roots contains

  pub around : {s t : Scope} {type : Ty} → Alike g (Outside g.program a b) s t type → (inner : TypeId) → held_by type ≡ Some inner → IsAround g.program s.here s.outermost inner
  around (Alike.at_start (Outside.of_block kind may)) inner e = none-around g.program inner (kind-alone g.program kind inner may e)
  around (Alike.at_start (Outside.of_root r contains)) inner e = none-around g.program inner ((is-root r contains).whole inner e).0
  around (Alike.in_field {s} {node} {desc} {v} {x} {f} p twins has contains) inner e =
      around-inside g.program s.here s.outermost node inner v (around p node (held-node node desc)) (x, f, has, contains, e)
  around (Alike.in_common {s} {node} {common = c} {desc} {v} {x} p twins has o) inner e =
      around-inside g.program s.here s.outermost node inner v (around p node (held-node node desc))
      (x, o.member.0, has, o.member.2, ap held_by o.member.3 ∙ held-node c o.member.1 ∙ sym (held-node c None) ∙ e)
  around (Alike.in_array {type} {elem} {n} p e) inner h = around p inner (held-array type elem n e ∙ h)
  around (Alike.in_tail {type} {elem} {length} p e) inner h = around p inner (held-tail type elem length e ∙ h)

  pub field-count : (node : TypeId) (x : Structure) (f : Field) (elem : Ty) (length : Expr) → HasStructure g.program node x → Contains x.fields f → out-Ty f.ty ≡ part.Tail length elem → IsOption g.program node length
  field-count node x f elem length has contains e =
      subst (λ c. IfSome c (IsOption g.program node)) (count-tail f.ty elem length e) (All-contains (IsField g.program node x) x.fields f (settled.structures node x has).fields contains).count

  -- the paths of a length lead to numbers
  pub count-leads : {s t : Scope} {type : Ty} → Alike g (Outside g.program a b) s t type → (elem : Ty) (length : Expr) → out-Ty type ≡ part.Tail length elem → IsReadable g.program s length
  count-leads (Alike.at_start (Outside.of_block kind may)) elem length e = absurd (kind-no_tail g.program kind elem length e)
  count-leads (Alike.at_start (Outside.of_root r contains)) elem length e = absurd (root-no_tail_at (out-Ty r.ty) elem length e (is-root r contains).shape)
  count-leads (Alike.in_field {s} {node} {desc} {v} {x} {f} p twins has contains) elem length e =
      option-leads g.program s node v length (around p node (held-node node desc)) (field-count node x f elem length has contains e)
  count-leads (Alike.in_common {common = c} p twins has o) elem length e = let n = outs-Node c None in absurd (cc)
  count-leads (Alike.in_array {type} {elem = row} {n} p e) elem length tail =
      elim (typed g (Outside g.program a b) (outside-types g.program a b) p) [ inl i ↦ absurd (element-no_tail g.program type row n settled i e length elem tail) | inr i ↦ absurd (in-array type row n i e) ]
  count-leads (Alike.in_tail {type} {elem = row} {length = long} p e) elem length tail =
      elim (typed g (Outside g.program a b) (outside-types g.program a b) p) [ inl i ↦ absurd (tail_element-no_tail g.program type row long settled i e length elem tail) | inr i ↦ absurd (in-tail type row long i e) ]

  pub field-desc : (node union : TypeId) (x : Structure) (f : Field) (e : Expr) → HasStructure g.program node x → Contains x.fields f → innermost f.ty ≡ ty.Node union (Some e) → IsFieldDesc g.program node union e
  field-desc node union x f e has contains is =
      let names = (All-contains (IsField g.program node x) x.fields f (settled.structures node x has).fields contains).names in
      let found = subst (NamesDescribed g.program (λ u y d. IsFieldDesc g.program node u d)) is names.described in
      found.2.1

  root-desc : (r : Root) → Contains g.program.roots r → (union : TypeId) (y : Structure) (e : Expr) → HasStructure g.program union y → y.is_union ≡ true
      → innermost r.ty ≡ ty.Node union (Some e) → (inner : Tree) → IsReadable g.program (inside (outside a) union inner) e
  root-desc r contains union y e has is h inner =
      let names = (is-root r contains).names in
      let found = subst (NamesDescribed g.program (IsDescOfRoot g.program)) h names.described in
      let same : found.0 ≡ y = cc in
      let good = subst (λ x. IsDescOfRoot g.program union x e) same found.2.1 in
      elim good [
        | inl own ↦ option-leads g.program (outside a) union inner e (none-around g.program union ((is-root r contains).whole union (ap itself h)).0) (own-desc g.program union y e settled has is own)
        | inr root ↦ root_desc-leads g.program (outside a) union inner e root
      ]

  -- so do those of a `desc`
  pub desc-known : {s t : Scope} {type : Ty} → Alike g (Outside g.program a b) s t type → (union : TypeId) (y : Structure) (e : Expr) → HasStructure g.program union y → y.is_union ≡ true
      → innermost type ≡ ty.Node union (Some e) → (inner : Tree) → IsReadable g.program (inside s union inner) e
  desc-known (Alike.at_start (Outside.of_root r contains)) union y e has is h inner = root-desc r contains union y e has is h inner
  desc-known (Alike.at_start (Outside.of_block kind may)) union y e has is h inner =
      let found = kind-desc g.program kind union y e settled has is h in
      option-leads g.program (outside a) union inner e (none-around g.program union (kind-alone g.program kind union may found.0)) found.1
  desc-known (Alike.in_field {s} {node} {desc} {v} {x} {f} p twins there contains) union y e has is h inner =
      desc-leads g.program s node union v inner e (around p node (held-node node desc)) (field-desc node union x f e there contains h)
  desc-known (Alike.in_common {common = c} p twins there o) union y e has is h inner = let n = innermost-node c None in absurd (cc)
  desc-known (Alike.in_array {type} {elem} {n} p arr) union y e has is h inner = desc-known p union y e has is (innermost-array type elem n arr ∙ h) inner
  desc-known (Alike.in_tail {type} {elem} {length} p tail) union y e has is h inner = desc-known p union y e has is (innermost-tail type elem length tail ∙ h) inner

-- ---- twins are alike

numbers-agree : (address : ℕ → ℕ) (bits : ℕ → Bool) (whole : Bool) (ls ms : List Leaf) → All (Got address bits whole) ls → All (Got address bits whole) ms → All (HasItsRoom (λ id. 0)) ls → All (HasItsRoom (λ id. 0)) ms
    → AgreeInNumbers ls ms
numbers-agree address bits whole ls ms p q x y at width n m c d =
    let held = Got address bits whole in
    let one = leaf at width (Number n) in
    let other = leaf at width (Number m) in
    same_bits width (two's_complement width n) (two's_complement width m) (All-contains (HasItsRoom (λ id. 0)) ls one x c) (All-contains (HasItsRoom (λ id. 0)) ms other y d)
    (alike address bits whole at width n m (All-contains held ls one p c) (All-contains held ms other q d))

abbrev pub given : Program → Layouts → Blocks → ℕ → (ℕ → ℕ) → (ℕ → Bool) → Given
given program layouts blocks capacity address bits = record { program = program; planes = layouts.structures; blocks = blocks; capacity = capacity; address = address; bits = bits }

module _ (program : Program) (layouts : Layouts) (blocks : Blocks) (capacity : ℕ) (address : ℕ → ℕ) (bits : ℕ → Bool) (settled : Settled program) where
  twins-hold : {s t : Scope} (node : TypeId) (desc : Option Expr) (v w : Tree) → Twins (given program layouts blocks capacity address bits) s t (ty.Node node desc) v w
      → HoldAlike program layouts.structures (Some (record { node = node; value = v })) (Some (record { node = node; value = w }))
  twins-hold {s} {t} node desc v w twins =
      both refl
      (record { blocks = blocks; capacity = capacity; scope = s; desc = desc; fits = twins.fits; has = twins.read.1 })
      (record { blocks = blocks; capacity = capacity; scope = t; desc = desc; fits = twins.other_fits; has = twins.other_read.1 })
      (numbers-agree address bits twins.whole twins.read.0 twins.other_read.0 twins.read.2 twins.other_read.2
      (value-room program layouts settled blocks capacity s (ty.Node node desc) v twins.at twins.read.0 (λ id. 0) (λ id. omega arith) twins.fits twins.read.1)
      (value-room program layouts settled blocks capacity t (ty.Node node desc) w twins.at twins.other_read.0 (λ id. 0) (λ id. omega arith) twins.other_fits twins.other_read.1))

  -- scopes that are alike but for the roots
  record HeldAlike (s t : Scope) : Type 0 where
    here : HoldAlike program layouts.structures s.here t.here
    outer : HoldAlike program layouts.structures s.outer t.outer
    outermost : HoldAlike program layouts.structures s.outermost t.outermost

  inside-alike : {s t : Scope} (node : TypeId) (desc : Option Expr) (v w : Tree) → HeldAlike s t → Twins (given program layouts blocks capacity address bits) s t (ty.Node node desc) v w
      → HeldAlike (inside s node v) (inside t node w)
  inside-alike node desc v w p twins =
      let here = twins-hold node desc v w twins in
      record { here = here; outer = p.here; outermost = hold-first p.outermost here }

  module _ (a b : Trees) where
    scopes-alike : {s t : Scope} {type : Ty} → Alike (given program layouts blocks capacity address bits) (Outside program a b) s t type → HeldAlike s t
    scopes-alike (Alike.at_start (Outside.of_block kind may)) = record { here = neither; outer = neither; outermost = neither }
    scopes-alike (Alike.at_start (Outside.of_root r contains)) = record { here = neither; outer = neither; outermost = neither }
    scopes-alike (Alike.in_field {node} {desc} {v} {w} p twins has contains) = inside-alike node desc v w (scopes-alike p) twins
    scopes-alike (Alike.in_common {node} {desc} {v} {w} p twins has c) = inside-alike node desc v w (scopes-alike p) twins
    scopes-alike (Alike.in_array p e) = scopes-alike p
    scopes-alike (Alike.in_tail p e) = scopes-alike p

    statics-of : {s t : Scope} {type : Ty} → Alike (given program layouts blocks capacity address bits) (Outside program a b) s t type → (s.statics ≡ a) × (t.statics ≡ b)
    statics-of (Alike.at_start (Outside.of_block kind may)) = (refl, refl)
    statics-of (Alike.at_start (Outside.of_root r contains)) = (refl, refl)
    statics-of (Alike.in_field p twins has contains) = statics-of p
    statics-of (Alike.in_common p twins has c) = statics-of p
    statics-of (Alike.in_array p e) = statics-of p
    statics-of (Alike.in_tail p e) = statics-of p

    module _ (reading : ReadingIsSame program layouts) (roots : (i : ℕ) → IsScalarRoot program i → root_in (outside a) i ≡ root_in (outside b) i) where
      -- the same scope with the roots of the other
      rooted : (s t : Scope) → Scope
      rooted s t = record { here = s.here; outer = s.outer; outermost = s.outermost; statics = t.statics }

      root-same : (s t : Scope) → s.statics ≡ a → t.statics ≡ b → (i : ℕ) → IsScalarRoot program i → root_in s i ≡ root_in (rooted s t) i
      unfolding rooted
      root-same s t p q i is = ap (λ x. root_in (outside x) i) p ∙ roots i is ∙ ap (λ x. root_in (outside x) i) (sym q)

      leaf-at : (s t : Scope) (base : Base) (steps : List (List ℕ)) → leaf_in program s base steps ≡ leaf_in program (rooted s t) base steps
      unfolding rooted
      leaf-at s t Here steps = refl
      leaf-at s t Outer steps = refl
      leaf-at s t Outermost steps = refl

      leads-in : (s t : Scope) (path : Way) → LeadsInScope program s path → LeadsInScope program (rooted s t) path
      unfolding rooted
      leads-in s t (Here, steps) h = h
      leads-in s t (Outer, steps) h = h
      leads-in s t (Outermost, steps) h = h

      rooted-alike : (s t : Scope) → HeldAlike s t → ScopesAlike program layouts.structures (rooted s t) t
      unfolding rooted
      rooted-alike s t p = record { here = p.here; outer = p.outer; outermost = p.outermost; statics = refl }

      reads-same : (s t : Scope) (e : Expr) → HeldAlike s t → s.statics ≡ a → t.statics ≡ b → IsReadable program s e → eval_in program s e ≡ eval_in program t e
      reads-same s t e p q r readable =
          roots-worth (leaf_in program s) (leaf_in program (rooted s t)) (root_in s) (root_in (rooted s t)) (leaf-at s t) e
          (All-weaker (IsScalarRoot program) (λ i. root_in s i ≡ root_in (rooted s t) i) (λ i is. root-same s t q r i is) (roots_of e) readable.roots)
          ∙ reading (rooted s t) t e (rooted-alike s t p) (All-weaker (LeadsInScope program s) (LeadsInScope program (rooted s t)) (leads-in s t) (paths_of e) readable.leads)

      same-desc : (s t : Scope) (node : TypeId) (desc : Option Expr) (v w : Tree) (x : Structure) → Alike (given program layouts blocks capacity address bits) (Outside program a b) s t (ty.Node node desc)
          → Twins (given program layouts blocks capacity address bits) s t (ty.Node node desc) v w → HasStructure program node x → x.is_union ≡ true
          → desc_value program (inside s node v) desc ≡ desc_value program (inside t node w) desc
      same-desc s t node None v w x p twins has union = refl
      same-desc s t node (Some e) v w x p twins has union =
          let statics = statics-of p in
          reads-same (inside s node v) (inside t node w) e (inside-alike node (Some e) v w (scopes-alike p) twins) statics.0 statics.1
          (desc-known (given program layouts blocks capacity address bits) settled a b p node x e has union (innermost-node node (Some e)) v)

      same-count : (s t : Scope) (type elem : Ty) (length : Expr) → Alike (given program layouts blocks capacity address bits) (Outside program a b) s t type → out-Ty type ≡ part.Tail length elem
          → eval_in program s length ≡ eval_in program t length
      same-count s t type elem length p e =
          let statics = statics-of p in
          reads-same s t length (scopes-alike p) statics.0 statics.1 (count-leads (given program layouts blocks capacity address bits) settled a b p elem length e)

      pub assumed : AreAddresses blocks address → Assumed (given program layouts blocks capacity address bits) (Outside program a b)
      assumed addresses = record { settled = settled; addresses = addresses; types = outside-types program a b; counts = same-count; descs = same-desc }
