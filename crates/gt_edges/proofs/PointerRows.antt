-- The rows of pointers give the edges of their values.
use Rattle.std.proofs.Common.{◌≡◌, ℕ, ◌+◌, ◌^◌, ◌<◌, min, Bool, true, false, List, [], refl, ap, sym, subst, ◌∙◌, arith, Option, Some, None, ◌⊎◌, inl, inr}
use Rattle.std.specs.Prelude.{ℤ, pos}
use Rattle.gt_types.specs.declared.expressions.Expr.{Expr}
use Rattle.gt_types.specs.declared.types.Target.{Target}
use Rattle.gt_types.specs.declared.types.Target.TheVariants as target
use Rattle.gt_types.specs.declared.types.PtrKind.TheVariants as pointer
use Rattle.gt_types.specs.declared.types.Ty.{Ty}
use Rattle.gt_types.specs.declared.types.Ty.TheVariants as ty
use Rattle.gt_types.specs.declared.program.Program.{Program}
use Rattle.gt_types.specs.Shapes.{is_pointer, count_of as length_in}
use Rattle.gt_types.specs.Values.{value_of}
use Rattle.gt_space.specs.Range.{IsSpace}
use Rattle.gt_tree.specs.Trees.{Tree, Null, To}
use Rattle.gt_tree.specs.Blocks.{Nodes as NodesOf, Chars, Raw, Block, Blocks, MayName}
use Rattle.gt_tree.specs.Scopes.{Scope, eval_in}
use Rattle.gt_tree.specs.Fits.{Fits}
use Rattle.gt_tree.specs.Leaves.{Leaf}
use Rattle.gt_tree.proofs.Types.{is_bits}
use Rattle.gt_tree.proofs.FixedParts.{is-pointer}
use Rattle.gt_value.specs.declared.sources.Around.{Around}
use Rattle.gt_value.specs.declared.sources.Source.{Source}
use Rattle.gt_value.specs.Reading.{path_worth, root_worth, given_in}
use Rattle.gt_value.proofs.Origins.{count-read}
use Rattle.gt_value.proofs.PathWorths.{worth-is}
use Rattle.gt_walk.specs.declared.rows.Count.{Count}
use Rattle.gt_walk.specs.declared.rows.Count.TheVariants as count
use Rattle.gt_walk.specs.declared.rows.RowExpr.{RowExpr}
use Rattle.gt_walk.specs.declared.rows.WalkRow.{WalkRow}
use Rattle.gt_walk.specs.declared.rows.WalkRow.TheVariants as row
use Rattle.gt_walk.specs.declared.tables.Tables.{Tables}
use Rattle.gt_walk.specs.Rows.{Frame, row_value, length_of, walk_edges}
use Rattle.gt_walk.proofs.RowEdges.{ptr-edges}
use Rattle.gt_edges.specs.Numbers.{walk_of, walked}
use Rattle.gt_edges.specs.Edges.{HaveFew}
use Rattle.gt_edges.specs.Walks.{Around as Nodes, target_walk, IsRowExpr, IsPointerRow}
use Rattle.gt_edges.proofs.LeafEdges.{null-edges}
use Rattle.gt_edges.proofs.TypeFacts.{known-target}
use Rattle.gt_edges.proofs.RowWorths.{IsFrame, row-worth}
use Rattle.gt_edges.proofs.RowLaws.{base, edges_in, Valued, RowLaw}
use Rattle.gt_edges.proofs.PointerEdges.{Named, pointer-given}

-- ---- what pointers name

fits-to : {program : Program} {blocks : Blocks} {capacity : ℕ} {scope : Scope} (type : Ty) (id : ℕ) → Fits program blocks capacity scope type (To id) → MayName blocks (eval_in program scope) type id
fits-to type id (Fits.to m) = m

fits-as : (program : Program) (blocks : Blocks) (capacity : ℕ) (scope : Scope) (type : Ty) (value : Tree) (id : ℕ) → value ≡ To id → Fits program blocks capacity scope type value → MayName blocks (eval_in program scope) type id
fits-as program blocks capacity scope type value id e fits = fits-to type id (subst (Fits program blocks capacity scope type) e fits)

module _ (blocks : Blocks) (value : Expr → Option ℤ) (id : ℕ) where
  string-names : (len : Option Expr) → MayName blocks value (ty.Str len) id → (b : Block) × (blocks id ≡ Some b) × (b.kind ≡ Chars)
  string-names None (b, text, e, k, c, all) = (b, e, k)
  string-names (Some len) (n, v, (b, e, k, c)) = (b, e, k)

  single-names : (program : Program) (t : Target) (reorder : Bool) → MayName blocks value (ty.Ptr (Some t) pointer.Plain reorder) id
      → (b : Block) × (blocks id ≡ Some b) × (target_walk program t ≡ walk_of program b.kind) × (1 ≡ walked b.kind b.count)
  single-names program (target.Node node) reorder (b, e, k, c) = (b, e, ap (walk_of program) (sym k), ap (walked (NodesOf node)) (sym c) ∙ ap (λ x. walked x b.count) (sym k))
  single-names program (target.Pointers node) reorder h = absurd h
  single-names program target.Strings reorder h = absurd h

  counted-names : (program : Program) (t : Target) (len : Expr) (reorder : Bool) → MayName blocks value (ty.Ptr (Some t) (pointer.Length len) reorder) id
      → (b : Block) × (blocks id ≡ Some b) × (target_walk program t ≡ walk_of program b.kind) × (value len ≡ Some (pos b.count)) × (b.count ≡ walked b.kind b.count)
  counted-names program (target.Node node) len reorder (n, v, (b, e, k, c)) = (b, e, ap (walk_of program) (sym k), v ∙ ap (λ m. Some (pos m)) (sym c), ap (λ x. walked x b.count) (sym k))
  counted-names program (target.Pointers node) len reorder (n, v, (b, e, k, c)) = (b, e, ap (walk_of program) (sym k), v ∙ ap (λ m. Some (pos m)) (sym c), ap (λ x. walked x b.count) (sym k))
  counted-names program target.Strings len reorder (n, v, (b, e, k, c)) = (b, e, ap (walk_of program) (sym k), v ∙ ap (λ m. Some (pos m)) (sym c), ap (λ x. walked x b.count) (sym k))

-- ---- lengths

-- the length in a type is worth what it is in the value
pub length-worth : (source : Source) (blocks : Blocks) (capacity : ℕ) (around : Around) (type : Ty) (at : ℕ) (value : Tree) (leaves : List Leaf) (v : Valued source blocks capacity around type at value leaves) (len : Expr)
    → length_in type ≡ Some len → value_of (path_worth source around) (root_worth source) len ≡ eval_in source.program.now v.scope len
length-worth source blocks capacity around type at value leaves v len is =
    let s = v.stands.0 in
    let x = s.context in
    worth-is source around x len (count-read source (given_in x) refl x.settled x.statics s.typed len is) ∙ ap (λ scope. eval_in source.program.now scope len) v.stands.1

pub length-small : (n : ℕ) (value : Option ℤ) → n < 2 ^ 32 → value ≡ Some (pos n) → length_of value ≡ n
length-small n value small is = let least : min n 4294967295 ≡ n = omega arith in ap length_of is ∙ least

-- ---- rows

module _ (source : Source) (tables : Tables) (blocks : Blocks) (capacity : ℕ) (space : IsSpace source.space.now) (few : HaveFew blocks) where
  -- a row whose walk and count are those of the named block
  pointer-row_of : (nodes : Nodes) (type : Ty) (offset walk : ℕ) (n : Count) (reorder : Bool) → is_pointer type ≡ true → is_bits type ≡ false
      → ((around : Around) (f : Frame) (at : ℕ) (value : Tree) (leaves : List Leaf) (id : ℕ) → IsFrame source around nodes f → (v : Valued source blocks capacity around type at value leaves)
      → MayName blocks (eval_in source.program.now v.scope) type id → Named source blocks f walk n id)
      → RowLaw source tables blocks capacity nodes type offset (Some (row.Ptr offset walk n reorder))
  pointer-row_of nodes type offset walk n reorder pointer plain named depth around f at value leaves frame v shallow is =
      ptr-edges source.space.now (walk_edges tables source.space.now depth) offset walk n reorder f
      ∙ pointer-given source blocks space type at value leaves v.has f (f.at + offset) walk n (is plain)
      (λ id e. named around f at value leaves id frame v (fits-as source.program.now blocks capacity v.scope type value id e v.fits)) around v.stands.0 pointer v.whole

  -- a pointer that names no block is null
  no-row : (nodes : Nodes) (type : Ty) (offset : ℕ) → is_pointer type ≡ true
      → ((around : Around) (at : ℕ) (value : Tree) (leaves : List Leaf) (id : ℕ) → (v : Valued source blocks capacity around type at value leaves) → ¬ MayName blocks (eval_in source.program.now v.scope) type id)
      → RowLaw source tables blocks capacity nodes type offset None
  no-row nodes type offset pointer none depth around f at value leaves frame v shallow is = go (is-pointer type value pointer v.fits)
    where
      go : (value ≡ Null) ⊎ ((id : ℕ) × (value ≡ To id) × (b : Block) × (blocks id ≡ Some b)) → [] ≡ edges_in source blocks leaves
      go (inl e) = sym (null-edges source.program.now blocks (base source) source.layouts.now.structures at type leaves (subst (λ x. Rattle.gt_tree.specs.Leaves.HasLeaves source.program.now source.layouts.now.structures at type x leaves) e v.has))
      go (inr (id, e, b, there)) = absurd (none around at value leaves id v (fits-as source.program.now blocks capacity v.scope type value id e v.fits))

  counted-is : (nodes : Nodes) (t : Target) (len : Expr) (e : RowExpr) (reorder : Bool) → IsRowExpr source.program.now source.layouts.now nodes len e → (around : Around) (f : Frame) (at : ℕ) (value : Tree) (leaves : List Leaf) (id : ℕ)
      → IsFrame source around nodes f → (v : Valued source blocks capacity around (ty.Ptr (Some t) (pointer.Length len) reorder) at value leaves)
      → MayName blocks (eval_in source.program.now v.scope) (ty.Ptr (Some t) (pointer.Length len) reorder) id → Named source blocks f (target_walk source.program.now t) (count.Length e) id
  counted-is nodes t len e reorder is around f at value leaves id frame v may =
      let names = counted-names blocks (eval_in source.program.now v.scope) id source.program.now t len reorder may in
      let worth = row-worth source around nodes f frame len e is (v.known.count len refl) ∙ length-worth source blocks capacity around (ty.Ptr (Some t) (pointer.Length len) reorder) at value leaves v len refl ∙ names.3 in
      record { block = names.0; there = names.1; walk_is = names.2; count_is = length-small names.0.count (row_value source.space.now f e) (few id names.0 names.1) worth ∙ names.4 }

  pub pointer-row : {nodes : Nodes} {type : Ty} {offset : ℕ} {r : Option WalkRow} → IsPointerRow source.program.now source.layouts.now nodes type offset r → RowLaw source tables blocks capacity nodes type offset r
  pointer-row {nodes} (IsPointerRow.string {len} {offset}) =
      pointer-row_of nodes (ty.Str len) offset (walk_of source.program.now Chars) (count.Fixed 0) false refl refl (λ around f at value leaves id frame v may.
      let names = string-names blocks (eval_in source.program.now v.scope) id len may in
      record { block = names.0; there = names.1; walk_is = ap (walk_of source.program.now) (sym names.2); count_is = ap (λ k. walked k names.0.count) (sym names.2) })
  pointer-row {nodes} (IsPointerRow.single {t} {reorder} {offset} there) =
      pointer-row_of nodes (ty.Ptr (Some t) pointer.Plain reorder) offset (target_walk source.program.now t) (count.Fixed 1) reorder refl refl (λ around f at value leaves id frame v may.
      let names = single-names blocks (eval_in source.program.now v.scope) id source.program.now t reorder may in
      record { block = names.0; there = names.1; walk_is = names.2; count_is = names.3 })
  pointer-row {nodes} (IsPointerRow.counted {t} {len} {e} {reorder} {offset} there is) =
      pointer-row_of nodes (ty.Ptr (Some t) (pointer.Length len) reorder) offset (target_walk source.program.now t) (count.Length e) reorder refl refl (counted-is nodes t len e reorder is)
  pointer-row {nodes} (IsPointerRow.atomic {reorder} {offset}) =
      pointer-row_of nodes (ty.Ptr None pointer.Atomic reorder) offset (walk_of source.program.now Raw) (count.Fixed 0) reorder refl refl (λ around f at value leaves id frame v may.
      let b = may.1.0 in
      record { block = b; there = may.1.1; walk_is = ap (walk_of source.program.now) (sym may.1.2); count_is = ap (λ k. walked k b.count) (sym may.1.2) })
  pointer-row {nodes} (IsPointerRow.nothing {t} {k} {reorder} {offset} none) =
      no-row nodes (ty.Ptr t k reorder) offset refl (λ around at value leaves id v may. none blocks (eval_in source.program.now v.scope) id may)
  pointer-row {nodes} (IsPointerRow.missing {t} {k} {reorder} {offset} none) =
      no-row nodes (ty.Ptr (Some t) k reorder) offset refl (λ around at value leaves id v may. none (known-target source t k reorder v.known))
