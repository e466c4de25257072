-- The rows of arrays give the edges of their elements.
use Rattle.std.proofs.Common.{◌≡◌, ℕ, zero, suc, ◌+◌, ◌*◌, true, false, List, [], ◌++◌, refl, ap, sym, subst, ◌∙◌, arith, Option, Some, None, inl, inr}
use Rattle.std.specs.Prelude.{flat_map, option_map}
use Rattle.std.specs.List.{range_with_len}
use Rattle.std.proofs.lemmas.List.Elements.{filter_map-append}
use Rattle.gt_types.specs.declared.expressions.Expr.{Expr}
use Rattle.gt_types.specs.declared.types.Ty.{Ty, out-Ty}
use Rattle.gt_types.specs.declared.types.Ty.TheOpen as part
use Rattle.gt_types.specs.declared.types.Ty.TheVariants as ty
use Rattle.gt_types.specs.declared.types.Ty.TheVariants.{outs-Bits}
use Rattle.gt_layout.specs.declared.planes.Plane.{Plane}
use Rattle.gt_layout.specs.Storages.{extent_of}
use Rattle.gt_layout.specs.Progress.{HoldsWithinDepth}
use Rattle.gt_types.specs.declared.program.Program.{Program}
use Rattle.gt_tree.specs.Trees.{Tree, Row, Trees, And}
use Rattle.gt_tree.specs.Blocks.{Blocks}
use Rattle.gt_tree.specs.Scopes.{Scope}
use Rattle.gt_tree.specs.Fits.{Fits, EachFits}
use Rattle.gt_tree.specs.Leaves.{Leaf, HasLeaves, EachHasLeaves}
use Rattle.gt_tree.specs.LeafLaws.{IsTypeIn}
use Rattle.gt_tree.proofs.Types.{is_bits, held-array, held-tail}
use Rattle.gt_tree.proofs.Fitting.{fits-array, fits-tail, fits-one}
use Rattle.gt_tree.proofs.FixedScopes.{count-tail}
use Rattle.gt_tree.proofs.FixedValues.{in-array, in-tail}
use Rattle.gt_value.specs.declared.sources.Around.{Around}
use Rattle.gt_value.specs.declared.sources.Source.{Source}
use Rattle.gt_value.specs.Reading.{Stands, given_in}
use Rattle.gt_value.specs.Finding.{StandsIn, EachStandIn}
use Rattle.gt_value.proofs.Origins.{type-in}
use Rattle.gt_value.proofs.StandingParts.{array-stands, array-scope, tail-stands, tail-scope}
use Rattle.gt_value.proofs.StandingSteps.{each-step, each-first, each-others}
use Rattle.gt_walk.specs.declared.rows.RowExpr.{RowExpr}
use Rattle.gt_walk.specs.declared.rows.WalkRow.{WalkRow}
use Rattle.gt_walk.specs.declared.rows.WalkRow.TheVariants as row
use Rattle.gt_walk.specs.declared.tables.Tables.{Tables}
use Rattle.gt_walk.specs.Rows.{Edge, Frame, moved, row_edges, row_value, length_of, walk_edges, each_edges}
use Rattle.gt_walk.specs.Visiting.{arm_row}
use Rattle.gt_walk.proofs.RowEdges.{rep-edges, tail-edges}
use Rattle.gt_walk.proofs.Silence.{flat-none}
use Rattle.gt_edges.specs.Edges.{edge_of}
use Rattle.gt_edges.specs.Walks.{Around as Nodes, IsRowExpr}
use Rattle.gt_edges.proofs.TypeFacts.{Known, known-array, known-tail}
use Rattle.gt_edges.proofs.RowWorths.{IsFrame, row-worth}
use Rattle.gt_edges.proofs.RowLaws.{base, IsAddress, edges_in, RowLaw}
use Rattle.gt_edges.proofs.PointerRows.{length-small}

-- ---- leaves of arrays

module _ {program : Program} {planes : List Plane} {at : ℕ} where
  array-leaves : (type elem : Ty) (n : ℕ) (trees : Trees) (ls : List Leaf) → out-Ty type ≡ part.Arr n elem → HasLeaves program planes at type (Row trees) ls
      → EachHasLeaves program planes (8 * (extent_of planes elem).size) at elem trees ls
  array-leaves type elem n trees ls e (HasLeaves.array {elem = other} o each) =
      let same : other ≡ elem = cc in
      subst (λ t. EachHasLeaves program planes (8 * (extent_of planes t).size) at t trees ls) same each
  array-leaves type elem n trees ls e (HasLeaves.tail o each) = absurd (cc)

  tail-leaves : (type elem : Ty) (len : Expr) (trees : Trees) (ls : List Leaf) → out-Ty type ≡ part.Tail len elem → HasLeaves program planes at type (Row trees) ls
      → EachHasLeaves program planes (8 * (extent_of planes elem).size) at elem trees ls
  tail-leaves type elem len trees ls e (HasLeaves.array o each) = absurd (cc)
  tail-leaves type elem len trees ls e (HasLeaves.tail {elem = other} o each) =
      let same : other ≡ elem = cc in
      subst (λ t. EachHasLeaves program planes (8 * (extent_of planes t).size) at t trees ls) same each

-- ---- types of arrays

array-even : (type elem : Ty) (n : ℕ) → out-Ty type ≡ part.Arr n elem → is_bits type ≡ false
array-even (ty.Bits unit width) elem n e = let o = outs-Bits unit width in absurd (cc)
array-even type elem n e = refl

tail-even : (type elem : Ty) (len : Expr) → out-Ty type ≡ part.Tail len elem → is_bits type ≡ false
tail-even (ty.Bits unit width) elem len e = let o = outs-Bits unit width in absurd (cc)
tail-even type elem len e = refl

module _ (source : Source) (around : Around) (type elem : Ty) (at : ℕ) (value : Tree) (s : Stands source around type at value) where
  array-in : (n : ℕ) → out-Ty type ≡ part.Arr n elem → IsTypeIn source.program.now type
  array-in n e = elim (type-in source (given_in s.context) refl s.context.statics s.typed) [ inl i ↦ i | inr i ↦ absurd (in-array type elem n i e) ]

  tail-in : (len : Expr) → out-Ty type ≡ part.Tail len elem → IsTypeIn source.program.now type
  tail-in len e = elim (type-in source (given_in s.context) refl s.context.statics s.typed) [ inl i ↦ i | inr i ↦ absurd (in-tail type elem len i e) ]

-- ---- elements

module _ (source : Source) (tables : Tables) (blocks : Blocks) (capacity : ℕ) where
  abbrev size_of : Ty → ℕ
  size_of type = (extent_of source.layouts.now.structures type).size

  module _ (nodes : Nodes) (elem : Ty) (r : Option WalkRow) (law : RowLaw source tables blocks capacity nodes elem 0 r) (depth : ℕ) (around : Around) (f : Frame) (frame : IsFrame source around nodes f)
      (whole : around.whole ≡ true) (known : Known source elem) (shallow : HoldsWithinDepth source.program.now elem depth) (offset : ℕ) (scope : Scope) where
    abbrev given_at : ℕ → List Edge
    given_at i = arm_row tables source.space.now depth r (moved f (offset + i * size_of elem))

    element-given : (k n at : ℕ) (tree : Tree) (trees : Trees) (first : List Leaf) → EachStandIn source around scope elem at (suc n) (And tree trees) → EachFits source.program.now blocks capacity scope elem (And tree trees)
        → HasLeaves source.program.now source.layouts.now.structures at elem tree first → IsAddress source (f.at + (offset + k * size_of elem)) at → given_at k ≡ edges_in source blocks first
    element-given k n at tree trees first s fit part is =
        let step = each-step source around elem at n (And tree trees) s.0 in
        let same : step.tree ≡ tree = let e = step.is in cc in
        law depth around (moved f (offset + k * size_of elem)) at tree first (record { here = frame.here; outer = frame.outer; outermost = frame.outermost })
        (record {
          scope = scope;
          stands = subst (λ v. StandsIn source around scope elem at v) same (step.first, each-first source around elem at n (And tree trees) s.0 ∙ s.1);
          fits = (fits-one elem tree trees fit).0;
          has = part;
          whole = whole;
          known = known;
        })
        shallow (λ even. omega (arith, is))

    -- elements one after another give the edges of their leaves
    elements-given : (k n at : ℕ) (values : Trees) (leaves : List Leaf) → EachStandIn source around scope elem at n values → EachFits source.program.now blocks capacity scope elem values
        → EachHasLeaves source.program.now source.layouts.now.structures (8 * size_of elem) at elem values leaves → IsAddress source (f.at + (offset + k * size_of elem)) at
        → flat_map given_at (range_with_len k n) ≡ edges_in source blocks leaves
    elements-given k zero at values leaves s fit EachHasLeaves.no_more is = refl
    elements-given k (suc n) at values leaves s fit EachHasLeaves.no_more is = let none = s.0.as_many in absurd (omega (arith, none))
    elements-given k zero at values leaves s fit (EachHasLeaves.one_more part parts) is = let some = s.0.as_many in absurd (omega (arith, some))
    elements-given k (suc n) at values leaves s fit (EachHasLeaves.one_more {tree} {trees} {first} {rest} part parts) is =
        let step = each-step source around elem at n (And tree trees) s.0 in
        let same : step.rest ≡ trees = let e = step.is in cc in
        let after : IsAddress source (f.at + (offset + (k + 1) * size_of elem)) (at + 8 * size_of elem) = omega (arith, is) in
        ap (λ xs. xs ++ flat_map given_at (range_with_len (k + 1) n)) (element-given k n at tree trees first s fit part is)
        ∙ ap (λ xs. edges_in source blocks first ++ xs)
        (elements-given (k + 1) n (at + 8 * size_of elem) trees rest (subst (λ v. EachStandIn source around scope elem (at + 8 * size_of elem) n v) same (step.others, each-others source around elem at n (And tree trees) s.0 ∙ s.1)) (fits-one elem tree trees fit).1 parts after)
        ∙ sym (filter_map-append (edge_of source.program.now blocks (base source)) first rest)

  -- ---- rows

  rep-given : (depth offset n size : ℕ) (r : Option WalkRow) (f : Frame)
      → arm_row tables source.space.now depth (option_map (row.Rep offset n size) r) f ≡ flat_map (λ i. arm_row tables source.space.now depth r (moved f (offset + i * size))) (range_with_len 0 n)
  rep-given depth offset n size (Some r) f = rep-edges source.space.now (walk_edges tables source.space.now depth) offset n size r f
  rep-given depth offset n size None f = sym (flat-none (λ (i : ℕ). []) (λ i. refl) (range_with_len 0 n))

  tail-given : (depth offset size n : ℕ) (len : RowExpr) (r : Option WalkRow) (f : Frame) → length_of (row_value source.space.now f len) ≡ n
      → arm_row tables source.space.now depth (option_map (row.Tail offset len size) r) f ≡ flat_map (λ i. arm_row tables source.space.now depth r (moved f (offset + i * size))) (range_with_len 0 n)
  tail-given depth offset size n len (Some r) f e =
      tail-edges source.space.now (walk_edges tables source.space.now depth) offset len size r f
      ∙ ap (each_edges (row_edges source.space.now (walk_edges tables source.space.now depth) r) f offset size) e
  tail-given depth offset size n len None f e = sym (flat-none (λ (i : ℕ). []) (λ i. refl) (range_with_len 0 n))

  module _ (nodes : Nodes) (type elem : Ty) (r : Option WalkRow) (law : RowLaw source tables blocks capacity nodes elem 0 r) (offset : ℕ) where
    pub array-row : (n : ℕ) → out-Ty type ≡ part.Arr n elem → RowLaw source tables blocks capacity nodes type offset (option_map (row.Rep offset n (size_of elem)) r)
    array-row n e depth around f at value leaves frame v shallow is =
        let s = v.stands.0 in
        let p = array-stands source around type elem at n value e s in
        let fits = subst (Fits source.program.now blocks capacity v.scope type) p.is v.fits in
        let has = subst (λ x. HasLeaves source.program.now source.layouts.now.structures at type x leaves) p.is v.has in
        let address = is (array-even type elem n e) in
        rep-given depth offset n (size_of elem) r f
        ∙ elements-given nodes elem r law depth around f frame v.whole (known-array source s.context.settled type elem n (array-in source around type elem at value s n e) e v.known)
        (λ node h. shallow node (held-array type elem n e ∙ h)) offset v.scope 0 n at p.trees leaves (p.stand, array-scope source around type elem at n value e s ∙ v.stands.1)
        (fits-array type elem n p.trees e fits).1 (array-leaves type elem n p.trees leaves e has) (omega (arith, address))

    pub tail-row : (len : Expr) (x : RowExpr) → out-Ty type ≡ part.Tail len elem → IsRowExpr source.program.now source.layouts.now nodes len x
        → RowLaw source tables blocks capacity nodes type offset (option_map (row.Tail offset x (size_of elem)) r)
    tail-row len x e expr depth around f at value leaves frame v shallow is =
        let s = v.stands.0 in
        let p = tail-stands source around type elem at len value e s in
        let fits = subst (Fits source.program.now blocks capacity v.scope type) p.row.is v.fits in
        let has = subst (λ x. HasLeaves source.program.now source.layouts.now.structures at type x leaves) p.row.is v.has in
        let address = is (tail-even type elem len e) in
        let worth = row-worth source around nodes f frame len x expr (v.known.count len (count-tail type elem len e)) ∙ p.worth in
        tail-given depth offset (size_of elem) p.n x r f (length-small p.n (row_value source.space.now f x) p.few worth)
        ∙ elements-given nodes elem r law depth around f frame v.whole (known-tail source s.context.settled type elem len (tail-in source around type elem at value s len e) e v.known)
        (λ node h. shallow node (held-tail type elem len e ∙ h)) offset v.scope 0 p.n at p.row.trees leaves (p.row.stand, tail-scope source around type elem at len value e s ∙ v.stands.1)
        (fits-tail type elem len p.row.trees e fits).1 (tail-leaves type elem len p.row.trees leaves e has) (omega (arith, address))
