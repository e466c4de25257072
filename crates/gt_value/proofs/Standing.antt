-- Where values of a type stand in nil values, and that each expression there is worth what it is where every number is 0.
use Rattle.std.proofs.Common.{◌≡◌, ◌⊎◌, ℕ, zero, suc, true, false, ℤ, IsTrue, List, [], ◌∷◌, refl, ap, sym, subst, ◌∙◌, arith, Option, Some, None, inl, inr}
use Rattle.std.specs.Prelude.{All, Any, Contains, IfSome, pos, slice_get, filter_map, option_to_list}
use Rattle.std.specs.List.{cons_option}
use Rattle.std.proofs.lemmas.List.Elements.{All-nil, All-contains, All-contains_itself, All-same, All-weaker, Contains-append_left, Contains-append_right}
use Rattle.gt_types.specs.declared.expressions.Base.{Base}
use Rattle.gt_types.specs.declared.expressions.Base.TheVariants.{Here, Outer, Outermost}
use Rattle.gt_types.specs.declared.expressions.Expr.{Expr}
use Rattle.gt_types.specs.declared.types.TypeId.{TypeId}
use Rattle.gt_types.specs.declared.types.Scalar.TheVariants as scalar
use Rattle.gt_types.specs.declared.types.Width.TheVariants.{W1}
use Rattle.gt_types.specs.declared.types.Target.TheVariants as target
use Rattle.gt_types.specs.declared.types.PtrKind.TheVariants as pointer
use Rattle.gt_types.specs.declared.types.Ty.{Ty, out-Ty}
use Rattle.gt_types.specs.declared.types.Ty.TheOpen as part
use Rattle.gt_types.specs.declared.types.Ty.TheVariants as ty
use Rattle.gt_types.specs.declared.types.Ty.TheVariants.{outs-Num, outs-Str, outs-Ptr, outs-Node}
use Rattle.gt_types.specs.declared.program.Field.{Field}
use Rattle.gt_types.specs.declared.program.Structure.{Structure}
use Rattle.gt_types.specs.declared.program.Root.{Root}
use Rattle.gt_types.specs.declared.program.Program.{Program}
use Rattle.gt_types.specs.Shapes.{innermost, count_of, is_structure, root_type_at}
use Rattle.gt_types.specs.Contains.{HasStructure, ContainsStructure, ContainsAtDepth, Nests, once, deeper, held_by, itself}
use Rattle.gt_types.specs.Unions.{IsCommon}
use Rattle.gt_types.specs.Paths.{Way, paths_of, roots_of, NamesOuter, own_expressions, IsInner, IsOutermost, IsScalarRoot, IsOption, IsFieldDesc, IsRootDesc, PathFits, DescPathFits, LeadsToNumber}
use Rattle.gt_types.specs.Settled.{Settled, IsField, IsUnion, IsOfItsKind, IsRoot, IsDescOfRoot, NamesDescribed}
use Rattle.gt_tree.specs.Trees.{Tree, Trees}
use Rattle.gt_tree.specs.Blocks.{Kind, Nodes, Pointers, Strings, Chars, Raw, desc_of, element_type}
use Rattle.gt_tree.specs.Scopes.{Held, Scope, outside, inside, first_of, ◌then◌, read_path, leaf_in, root_in, eval_in}
use Rattle.gt_tree.specs.Fits.{desc_value}
use Rattle.gt_tree.specs.LeafLaws.{IsTypeIn}
use Rattle.gt_tree.specs.FixedLaws.{MayHold}
use Rattle.gt_tree.proofs.Types.{held-node, held-array, held-tail, innermost-node}
use Rattle.gt_tree.proofs.FixedTypes.{element-no_tail, tail_element-no_tail}
use Rattle.gt_tree.proofs.FixedScopes.{innermost-array, innermost-tail, innermost-layer, count-tail}
use Rattle.gt_tree.proofs.FixedValues.{in-array, in-tail}
use Rattle.gt_value.specs.Noughts.{zero_worth, zero_desc}
use Rattle.gt_value.proofs.Worths.{worth-zero}

-- each path to a number reads 0 from a value of a structure
abbrev pub ReadsZero : Program → TypeId → Tree → Type 0
ReadsZero program node v = (steps : List (List ℕ)) → LeadsToNumber program node steps → read_path program steps (ty.Node node None) v ≡ Some (pos 0)

-- each root that is a number is 0
abbrev pub RootsAreZero : Program → Trees → Type 0
RootsAreZero program statics = (i : ℕ) → IsScalarRoot program i → root_in (outside statics) i ≡ Some (pos 0)

-- A scope in which values of a type stand: in an element of a block, or a root, or inside values from which paths read 0.
pub data Stands (program : Program) (statics : Trees) : Scope → Ty → Type 0 where
  at_block : (kind : Kind) → MayHold program kind → Stands program statics (outside statics) (element_type program kind)
  at_root : (r : Root) → Contains program.roots r → RootsAreZero program statics → Stands program statics (outside statics) r.ty
  in_field : {s : Scope} {node : TypeId} {desc : Option Expr} {v : Tree} {x : Structure} {f : Field} → Stands program statics s (ty.Node node desc) → ReadsZero program node v
      → HasStructure program node x → Contains x.fields f → Stands program statics (inside s node v) f.ty
  in_common : {s : Scope} {node common : TypeId} {desc : Option Expr} {v : Tree} {x : Structure} → Stands program statics s (ty.Node node desc) → ReadsZero program node v
      → HasStructure program node x → IsCommon program x common → Stands program statics (inside s node v) (ty.Node common None)
  in_array : {s : Scope} {type elem : Ty} {n : ℕ} → Stands program statics s type → out-Ty type ≡ part.Arr n elem → Stands program statics s elem
  in_tail : {s : Scope} {type elem : Ty} {length : Expr} → Stands program statics s type → out-Ty type ≡ part.Tail length elem → Stands program statics s elem

module _ {program : Program} {a : Trees} where
  typed : {s : Scope} {type : Ty} → Stands program a s type → IsTypeIn program type ⊎ (is_structure type ≡ true)
  typed (Stands.at_block kind may) = inl (IsTypeIn.of_block kind)
  typed (Stands.at_root r contains nil) = inl (IsTypeIn.of_root r contains)
  typed (Stands.in_field {node} {x} {f} b reads has contains) = inl (IsTypeIn.of_field node x f has contains)
  typed (Stands.in_common b reads has c) = inr refl
  typed (Stands.in_array {type} {elem} {n} b e) = elim (typed b) [ inl i ↦ inl (IsTypeIn.of_array i e) | inr i ↦ absurd (in-array type elem n i e) ]
  typed (Stands.in_tail {type} {elem} {length} b e) = elim (typed b) [ inl i ↦ inl (IsTypeIn.of_tail i e) | inr i ↦ absurd (in-tail type elem length i e) ]

-- ---- the structures around

-- around a type that holds a structure by value there is none, or the next and the outermost of them
data Around (program : Program) : Option Held → Option Held → TypeId → Type 0 where
  alone : {node : TypeId} → ¬ IsInner program node → Around program None None node
  within : {h top : Held} {node : TypeId} → ContainsStructure program h.node node → ReadsZero program h.node h.value → ¬ IsInner program top.node → ContainsAtDepth program top.node node
      → ReadsZero program top.node top.value → Around program (Some h) (Some top) node

inside-last : (program : Program) (n : ℕ) (outer middle last : TypeId) → Nests program n outer middle → ContainsStructure program middle last → ContainsAtDepth program outer last
inside-last program n outer middle last (once c) d = (2, deeper c (once d))
inside-last program n outer middle last (deeper {next} c rest) d = let found = inside-last program _ next middle last rest d in (suc found.0, deeper c found.1)

around-inside : (program : Program) (here outermost : Option Held) (node next : TypeId) (value : Tree) → Around program here outermost node → ReadsZero program node value → ContainsStructure program node next
    → Around program (Some (record { node = node; value = value })) (first_of outermost (Some (record { node = node; value = value }))) next
around-inside program here outermost node next value (Around.alone single) reads c = Around.within c reads single (1, once c) reads
around-inside program here outermost node next value (Around.within {h} {top} d r single deep above) reads c = Around.within c reads single (inside-last program deep.0 top.node node next deep.1 c) above

-- ---- where paths begin

Any-contains : {X : Type 0} (P : X → Type 0) (xs : List X) (x : X) → Contains xs x → P x → Any P xs
Any-contains P xs x c h = (c.0, x, c.1, c.2, h)

-- what a path reads from a structure, where there is one
abbrev pub reading : Program → List (List ℕ) → Option Held → Option ℤ
reading program steps o = o then λ held. read_path program steps (ty.Node held.node None) held.value

outermost-reads : (program : Program) (node : TypeId) (value : Tree) → ReadsZero program node value → (steps : List (List ℕ)) (here outermost : Option Held) → Around program here outermost node
    → ((outer : TypeId) → IsOutermost program node outer → LeadsToNumber program outer steps) → reading program steps (first_of outermost (Some (record { node = node; value = value }))) ≡ Some (pos 0)
outermost-reads program node value reads steps here outermost (Around.alone single) fits = reads steps (fits node (single, inl refl))
outermost-reads program node value reads steps here outermost (Around.within {top} c r single deep above) fits = above steps (fits top.node (single, inr deep))

outer-reads : (program : Program) (node : TypeId) (steps : List (List ℕ)) (here outermost : Option Held) → Around program here outermost node → IsInner program node
    → ((outer : TypeId) → ContainsStructure program outer node → LeadsToNumber program outer steps) → reading program steps here ≡ Some (pos 0)
outer-reads program node steps here outermost (Around.alone single) inner fits = absurd (single inner)
outer-reads program node steps here outermost (Around.within {h} c r single deep above) inner fits = r steps (fits h.node c)

module _ (program : Program) (s : Scope) (node : TypeId) (value : Tree) (reads : ReadsZero program node value) where
  outermost-zero : (steps : List (List ℕ)) → Around program s.here s.outermost node → ((outer : TypeId) → IsOutermost program node outer → LeadsToNumber program outer steps)
      → leaf_in program (inside s node value) Outermost steps ≡ Some (pos 0)
  outermost-zero steps a fits = outermost-reads program node value reads steps s.here s.outermost a fits

  option-zero : (base : Base) (steps : List (List ℕ)) → Around program s.here s.outermost node → (base ≡ Outer → IsInner program node) → PathFits program node base steps
      → leaf_in program (inside s node value) base steps ≡ Some (pos 0)
  option-zero Here steps a inner fits = reads steps fits
  option-zero Outer steps a inner fits = outer-reads program node steps s.here s.outermost a (inner refl) fits
  option-zero Outermost steps a inner fits = outermost-zero steps a fits

  first-first : (o : Option Held) (b c : Held) → first_of (first_of o (Some b)) (Some c) ≡ first_of o (Some b)
  first-first None b c = refl
  first-first (Some x) b c = refl

  desc-zero : (union : TypeId) (inner : Tree) (base : Base) (steps : List (List ℕ)) → ReadsZero program union inner → Around program s.here s.outermost node → DescPathFits program node union base steps
      → leaf_in program (inside (inside s node value) union inner) base steps ≡ Some (pos 0)
  desc-zero union inner Here steps own a fits = own steps fits
  desc-zero union inner Outer steps own a fits = reads steps fits
  desc-zero union inner Outermost steps own a fits =
      ap (λ o. o then λ held. read_path program steps (ty.Node held.node None) held.value) (first-first s.outermost (record { node = node; value = value }) (record { node = union; value = inner }))
      ∙ outermost-zero steps a fits

-- ---- expressions

no-roots : (P : ℕ → Type 0) (e : Expr) → roots_of e ≡ [] → All P (roots_of e)
no-roots P e none = All-same P (roots_of e) [] none (All-nil P)

-- an expression is worth what it is in nil values, in a scope
abbrev pub IsWorth : Program → Scope → Expr → Type 0
IsWorth program s e = eval_in program s e ≡ zero_worth e

worth : (program : Program) (s : Scope) (e : Expr) → All (λ path. leaf_in program s path.0 path.1 ≡ Some (pos 0)) (paths_of e) → All (λ i. root_in s i ≡ Some (pos 0)) (roots_of e) → IsWorth program s e
worth program s e paths roots = worth-zero (leaf_in program s) (root_in s) e paths roots

inner-by : (program : Program) (node : TypeId) (x : Structure) (e : Expr) (path : Way) → HasStructure program node x → Contains (own_expressions x) e → Contains (paths_of e) path → path.0 ≡ Outer → IsInner program node
inner-by program node x e path has own contains outer = (x, has, Any-contains NamesOuter (own_expressions x) e own (Any-contains (λ p. p.0 ≡ Outer) (paths_of e) path contains outer))

-- an option of a structure, in its value
option-worth : (program : Program) (s : Scope) (node : TypeId) (x : Structure) (value : Tree) (e : Expr) → ReadsZero program node value → Around program s.here s.outermost node → HasStructure program node x
    → Contains (own_expressions x) e → IsOption program node e → IsWorth program (inside s node value) e
option-worth program s node x value e reads a has own option =
    worth program (inside s node value) e
    (All-weaker (Contains (paths_of e)) (λ path. leaf_in program (inside s node value) path.0 path.1 ≡ Some (pos 0))
    (λ path contains. option-zero program s node value reads path.0 path.1 a (inner-by program node x e path has own contains) (All-contains (λ p. PathFits program node p.0 p.1) (paths_of e) path option.paths contains))
    (paths_of e) (All-contains_itself (paths_of e)))
    (no-roots (λ i. root_in (inside s node value) i ≡ Some (pos 0)) e option.no_roots)

-- the `desc` of a field of a structure, in the value of the union
field_desc-worth : (program : Program) (s : Scope) (node union : TypeId) (value inner : Tree) (e : Expr) → ReadsZero program node value → ReadsZero program union inner → Around program s.here s.outermost node
    → IsFieldDesc program node union e → IsWorth program (inside (inside s node value) union inner) e
field_desc-worth program s node union value inner e reads own a desc =
    worth program (inside (inside s node value) union inner) e
    (All-weaker (λ p. DescPathFits program node union p.0 p.1) (λ path. leaf_in program (inside (inside s node value) union inner) path.0 path.1 ≡ Some (pos 0))
    (λ path fits. desc-zero program s node value reads union inner path.0 path.1 own a fits) (paths_of e) desc.paths)
    (no-roots (λ i. root_in (inside (inside s node value) union inner) i ≡ Some (pos 0)) e desc.no_roots)

here-zero : (program : Program) (statics : Trees) (union : TypeId) (inner : Tree) (base : Base) (steps : List (List ℕ)) → ReadsZero program union inner → base ≡ Here → LeadsToNumber program union steps
    → leaf_in program (inside (outside statics) union inner) base steps ≡ Some (pos 0)
here-zero program statics union inner base steps own is leads = ap (λ b. leaf_in program (inside (outside statics) union inner) b steps) is ∙ own steps leads

-- the `desc` of a root
root_desc-worth : (program : Program) (statics : Trees) (union : TypeId) (inner : Tree) (e : Expr) → ReadsZero program union inner → RootsAreZero program statics → IsRootDesc program union e
    → IsWorth program (inside (outside statics) union inner) e
root_desc-worth program statics union inner e own nil desc =
    worth program (inside (outside statics) union inner) e
    (All-weaker (λ path. (path.0 ≡ Here) × LeadsToNumber program union path.1) (λ path. leaf_in program (inside (outside statics) union inner) path.0 path.1 ≡ Some (pos 0))
    (λ path fits. here-zero program statics union inner path.0 path.1 own fits.0 fits.1) (paths_of e) desc.paths)
    (All-weaker (IsScalarRoot program) (λ i. root_in (inside (outside statics) union inner) i ≡ Some (pos 0)) (λ i is. nil i is) (roots_of e) desc.roots)

-- ---- own expressions

Contains-option : {Y : Type 0} (o : Option Y) (y : Y) → o ≡ Some y → Contains (option_to_list o) y
Contains-option None y e = absurd (cc)
Contains-option (Some z) y e = let same : z ≡ y = cc in (0, omega arith, same)

Contains-mapped : {X Y : Type 0} (h : X → Option Y) (xs : List X) (x : X) (y : Y) → Contains xs x → h x ≡ Some y → Contains (filter_map h xs) y
Contains-mapped h [] x y c e = absurd (omega (arith, c.1))
Contains-mapped {X} {Y} h (z ∷ zs) x y (zero, lt, is) e =
    let got : h z ≡ Some y = ap h is ∙ e in
    subst (λ o. Contains (cons_option o (filter_map h zs)) y) (sym got) (0, omega arith, refl)
Contains-mapped {X} {Y} h (z ∷ zs) x y (suc k, lt, is) e = go (h z) (Contains-mapped h zs x y (k, omega (arith, lt), is) e)
  where
    go : (o : Option Y) → Contains (filter_map h zs) y → Contains (cons_option o (filter_map h zs)) y
    go None c = c
    go (Some w) c = (suc c.0, omega (arith, c.1), c.2)

count-own : (x : Structure) (f : Field) (e : Expr) → Contains x.fields f → count_of f.ty ≡ Some e → Contains (own_expressions x) e
count-own x f e contains is =
    Contains-append_left (filter_map (λ g. count_of g.ty) x.fields) (option_to_list x.desc) e (Contains-mapped (λ g. count_of g.ty) x.fields f e contains is)

desc-own : (x : Structure) (e : Expr) → x.desc ≡ Some e → Contains (own_expressions x) e
desc-own x e is = Contains-append_right (filter_map (λ g. count_of g.ty) x.fields) (option_to_list x.desc) e (Contains-option x.desc e is)

-- ---- what a block holds

kind-alone : (program : Program) (kind : Kind) (inner : TypeId) → MayHold program kind → held_by (element_type program kind) ≡ Some inner → ¬ IsInner program inner
kind-alone program (Nodes node) inner may e =
    let same = held-node node (desc_of (slice_get program.structures node.0)) in
    let equal : node ≡ inner = cc in
    subst (λ n. ¬ IsInner program n) equal may.2
kind-alone program (Pointers node) inner may e = let none = ap itself (innermost-layer (element_type program (Pointers node)) _ (outs-Ptr (Some (target.Node node)) pointer.Plain false)) in absurd (cc)
kind-alone program Strings inner may e = let none = ap itself (innermost-layer (ty.Str None) _ (outs-Str None)) in absurd (cc)
kind-alone program Chars inner may e = let none = ap itself (innermost-layer (ty.Num (scalar.Int W1 false)) _ (outs-Num (scalar.Int W1 false))) in absurd (cc)
kind-alone program Raw inner may e = let none = ap itself (innermost-layer (ty.Num (scalar.Int W1 false)) _ (outs-Num (scalar.Int W1 false))) in absurd (cc)

kind-no_tail : (program : Program) (kind : Kind) (elem : Ty) (length : Expr) → ¬ (out-Ty (element_type program kind) ≡ part.Tail length elem)
kind-no_tail program (Nodes node) elem length e = let o = outs-Node node (desc_of (slice_get program.structures node.0)) in cc
kind-no_tail program (Pointers node) elem length e = let o = outs-Ptr (Some (target.Node node)) pointer.Plain false in cc
kind-no_tail program Strings elem length e = let o = outs-Str None in cc
kind-no_tail program Chars elem length e = let o = outs-Num (scalar.Int W1 false) in cc
kind-no_tail program Raw elem length e = let o = outs-Num (scalar.Int W1 false) in cc

own-desc : (program : Program) (node : TypeId) (x : Structure) (e : Expr) → Settled program → HasStructure program node x → x.is_union ≡ true → x.desc ≡ Some e → IsOption program node e
own-desc program node x e settled has union is =
    let u : IsUnion program node x = subst (IsOfItsKind program node x) union (settled.structures node x has).sort in
    subst (λ d. IfSome d (IsOption program node)) is u.desc

kind-desc : (program : Program) (kind : Kind) (union : TypeId) (x : Structure) (e : Expr) → HasStructure program union x
    → innermost (element_type program kind) ≡ ty.Node union (Some e) → (held_by (element_type program kind) ≡ Some union) × (x.desc ≡ Some e)
kind-desc program (Nodes node) union x e has h =
    let same = sym (innermost-node node (desc_of (slice_get program.structures node.0))) ∙ h in
    let equal : node ≡ union = cc in
    let desc : desc_of (slice_get program.structures node.0) ≡ Some e = cc in
    let own : x.desc ≡ Some e = ap desc_of (sym has) ∙ ap (λ n. desc_of (slice_get program.structures n.0)) (sym equal) ∙ desc in
    (ap itself h, own)
kind-desc program (Pointers node) union x e has h = let none = innermost-layer (element_type program (Pointers node)) _ (outs-Ptr (Some (target.Node node)) pointer.Plain false) in absurd (cc)
kind-desc program Strings union x e has h = let none = innermost-layer (ty.Str None) _ (outs-Str None) in absurd (cc)
kind-desc program Chars union x e has h = let none = innermost-layer (ty.Num (scalar.Int W1 false)) _ (outs-Num (scalar.Int W1 false)) in absurd (cc)
kind-desc program Raw union x e has h = let none = innermost-layer (ty.Num (scalar.Int W1 false)) _ (outs-Num (scalar.Int W1 false)) in absurd (cc)

root-no_tail : (type elem : Ty) (length : Expr) → IsTrue (root_type_at (out-Ty type)) → ¬ (out-Ty type ≡ part.Tail length elem)
root-no_tail type elem length shape e = let none = ap root_type_at e in cc

-- ---- in each place

module _ (program : Program) (settled : Settled program) (a : Trees) where
  root-is : (r : Root) → Contains program.roots r → IsRoot program r
  root-is r contains = All-contains (IsRoot program) program.roots r settled.roots contains

  around : {s : Scope} {type : Ty} → Stands program a s type → (inner : TypeId) → held_by type ≡ Some inner → Around program s.here s.outermost inner
  around (Stands.at_block kind may) inner e = Around.alone (kind-alone program kind inner may e)
  around (Stands.at_root r contains nil) inner e = Around.alone ((root-is r contains).whole inner e).0
  around (Stands.in_field {s} {node} {desc} {v} {x} {f} p reads has contains) inner e =
      around-inside program s.here s.outermost node inner v (around p node (held-node node desc)) reads (x, f, has, contains, e)
  around (Stands.in_common {s} {node} {common = c} {desc} {v} {x} p reads has o) inner e =
      around-inside program s.here s.outermost node inner v (around p node (held-node node desc)) reads
      (x, o.member.0, has, o.member.2, ap held_by o.member.3 ∙ held-node c o.member.1 ∙ sym (held-node c None) ∙ e)
  around (Stands.in_array {type} {elem} {n} p e) inner h = around p inner (held-array type elem n e ∙ h)
  around (Stands.in_tail {type} {elem} {length} p e) inner h = around p inner (held-tail type elem length e ∙ h)

  -- lengths are so
  pub count-worth : {s : Scope} {type : Ty} → Stands program a s type → (elem : Ty) (length : Expr) → out-Ty type ≡ part.Tail length elem → IsWorth program s length
  count-worth (Stands.at_block kind may) elem length e = absurd (kind-no_tail program kind elem length e)
  count-worth (Stands.at_root r contains nil) elem length e = absurd (root-no_tail r.ty elem length (root-is r contains).shape e)
  count-worth (Stands.in_field {s} {node} {desc} {v} {x} {f} p reads has contains) elem length e =
      let counted = count-tail f.ty elem length e in
      let option : IsOption program node length = subst (λ c. IfSome c (IsOption program node)) counted (All-contains (IsField program node x) x.fields f (settled.structures node x has).fields contains).count in
      option-worth program s node x v length reads (around p node (held-node node desc)) has (count-own x f length contains counted) option
  count-worth (Stands.in_common {common = c} p reads has o) elem length e = let n = outs-Node c None in absurd (cc)
  count-worth (Stands.in_array {type} {elem = row} {n} p e) elem length tail =
      elim (typed p) [ inl i ↦ absurd (element-no_tail program type row n settled i e length elem tail) | inr i ↦ absurd (in-array type row n i e) ]
  count-worth (Stands.in_tail {type} {elem = row} {length = long} p e) elem length tail =
      elim (typed p) [ inl i ↦ absurd (tail_element-no_tail program type row long settled i e length elem tail) | inr i ↦ absurd (in-tail type row long i e) ]

  own-worth : (s : Scope) (union : TypeId) (y : Structure) (e : Expr) (inner : Tree) → HasStructure program union y → y.is_union ≡ true → y.desc ≡ Some e → ReadsZero program union inner
      → Around program s.here s.outermost union → IsWorth program (inside s union inner) e
  own-worth s union y e inner has is own reads about =
      option-worth program s union y inner e reads about has (desc-own y e own) (own-desc program union y e settled has is own)

  root-desc : (r : Root) (union : TypeId) (e : Expr) → NamesDescribed program (IsDescOfRoot program) (innermost r.ty) → innermost r.ty ≡ ty.Node union (Some e)
      → (u : Structure) × HasStructure program union u × IsDescOfRoot program union u e
  root-desc r union e named is =
      let found = subst (NamesDescribed program (IsDescOfRoot program)) is named in
      (found.0, found.1, found.2.1)

  field-desc : (node union : TypeId) (x : Structure) (f : Field) (e : Expr) → HasStructure program node x → Contains x.fields f → innermost f.ty ≡ ty.Node union (Some e) → IsFieldDesc program node union e
  field-desc node union x f e has contains is =
      let names = (All-contains (IsField program node x) x.fields f (settled.structures node x has).fields contains).names in
      let found = subst (NamesDescribed program (λ union u y. IsFieldDesc program node union y)) is names.described in
      found.2.1

  root-worth : (union : TypeId) (y u : Structure) (e : Expr) (inner : Tree) → HasStructure program union y → HasStructure program union u → y.is_union ≡ true → ReadsZero program union inner
      → RootsAreZero program a → Around program None None union → IsDescOfRoot program union u e → IsWorth program (inside (outside a) union inner) e
  root-worth union y u e inner has there is reads nil about (inl own) =
      let same : u ≡ y = cc in
      own-worth (outside a) union y e inner has is (ap (λ z. z.desc) (sym same) ∙ own) reads about
  root-worth union y u e inner has there is reads nil about (inr desc) = root_desc-worth program a union inner e reads nil desc

  -- so are those that say which member of a union is active
  desc-worth : {s : Scope} {type : Ty} → Stands program a s type → (union : TypeId) (y : Structure) (e : Expr) → HasStructure program union y → y.is_union ≡ true
      → innermost type ≡ ty.Node union (Some e) → (inner : Tree) → ReadsZero program union inner → IsWorth program (inside s union inner) e
  desc-worth (Stands.at_block kind may) union y e has is h inner reads =
      let found = kind-desc program kind union y e has h in
      own-worth (outside a) union y e inner has is found.1 reads (Around.alone (kind-alone program kind union may found.0))
  desc-worth (Stands.at_root r contains nil) union y e has is h inner reads =
      let found = root-desc r union e (root-is r contains).names.described h in
      root-worth union y found.0 e inner has found.1 is reads nil (Around.alone ((root-is r contains).whole union (ap itself h)).0) found.2
  desc-worth (Stands.in_field {s} {node} {desc} {v} {x} {f} p above there contains) union y e has is h inner reads =
      field_desc-worth program s node union v inner e above reads (around p node (held-node node desc)) (field-desc node union x f e there contains h)
  desc-worth (Stands.in_common {common = c} p above there o) union y e has is h inner reads = let n = innermost-node c None in absurd (cc)
  desc-worth (Stands.in_array {type} {elem} {n} p arr) union y e has is h inner reads = desc-worth p union y e has is (innermost-array type elem n arr ∙ h) inner reads
  desc-worth (Stands.in_tail {type} {elem} {length} p tail) union y e has is h inner reads = desc-worth p union y e has is (innermost-tail type elem length tail ∙ h) inner reads

  pub active-worth : {s : Scope} (node : TypeId) (desc : Option Expr) (y : Structure) → Stands program a s (ty.Node node desc) → HasStructure program node y → y.is_union ≡ true → (inner : Tree) → ReadsZero program node inner
      → desc_value program (inside s node inner) desc ≡ zero_desc desc
  active-worth node None y p has is inner reads = refl
  active-worth node (Some e) y p has is inner reads = desc-worth p node y e has is (innermost-node node (Some e)) inner reads
