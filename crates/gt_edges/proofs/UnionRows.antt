-- The rows of a union give the edges of its active member.
use Rattle.std.proofs.Common.{◌≡◌, ℕ, true, List, [], ◌∷◌, refl, ap, sym, subst, ◌∙◌, arith, append-nil, Option, Some, None}
use Rattle.std.specs.Prelude.{All, ℤ, slice_get}
use Rattle.std.specs.Global.{Vec}
use Rattle.std.proofs.lemmas.List.Elements.{All-contains}
use Rattle.gt_types.specs.declared.expressions.Expr.{Expr}
use Rattle.gt_types.specs.declared.expressions.Expr.TheOpen as part
use Rattle.gt_types.specs.declared.expressions.Expr.TheVariants as expr
use Rattle.gt_types.specs.declared.expressions.Expr.TheVariants.{outs-Root}
use Rattle.gt_types.specs.declared.types.TypeId.{TypeId}
use Rattle.gt_types.specs.declared.types.Ty.TheVariants as ty
use Rattle.gt_types.specs.declared.program.Field.{Field}
use Rattle.gt_types.specs.declared.program.Structure.{Structure}
use Rattle.gt_types.specs.declared.program.Program.{Program}
use Rattle.gt_types.specs.Contains.{HasStructure}
use Rattle.gt_types.specs.Values.{value_of}
use Rattle.gt_layout.specs.declared.planes.Plane.{Plane}
use Rattle.gt_layout.specs.Progress.{IsWithinDepth, HoldsWithinDepth}
use Rattle.gt_layout.proofs.Capacities.{shallow_fields}
use Rattle.gt_tree.specs.Trees.{Tree, Alt}
use Rattle.gt_tree.specs.Blocks.{Blocks}
use Rattle.gt_tree.specs.Scopes.{◌then◌, inside}
use Rattle.gt_tree.specs.Fits.{Fits, active_member}
use Rattle.gt_tree.specs.Leaves.{Leaf, HasLeaves}
use Rattle.gt_tree.proofs.Types.{innermost-node}
use Rattle.gt_tree.proofs.Fitting.{fits-member}
use Rattle.gt_value.specs.declared.sources.Around.{Around}
use Rattle.gt_value.specs.declared.sources.Source.{Source}
use Rattle.gt_value.specs.Reading.{entered, worth_of}
use Rattle.gt_value.specs.Finding.{StandsIn}
use Rattle.gt_value.proofs.PathWorths.{Contains-get}
use Rattle.gt_value.proofs.StandingParts.{union-stands, member-in}
use Rattle.gt_walk.specs.declared.rows.Arm.{Arm}
use Rattle.gt_walk.specs.declared.rows.RowExpr.{RowExpr}
use Rattle.gt_walk.specs.declared.rows.WalkRow.TheVariants as row
use Rattle.gt_walk.specs.declared.tables.Tables.{Tables}
use Rattle.gt_walk.specs.Rows.{Frame, row_value, leaf_value, no_path, walk_edges}
use Rattle.gt_walk.specs.Visiting.{row_at, rows_at, arm_at, chosen_of}
use Rattle.gt_walk.proofs.RowEdges.{switch-edges}
use Rattle.gt_walk.proofs.Arms.{arm-chosen}
use Rattle.gt_edges.specs.Walks.{Around as Nodes, IsDescExpr}
use Rattle.gt_edges.proofs.Chosen.{arm-there, chosen-member, chosen-nothing, IsSilent, silent-arms}
use Rattle.gt_edges.proofs.LeafEdges.{nothing-edges}
use Rattle.gt_edges.proofs.Translated.{value-layer}
use Rattle.gt_edges.proofs.TypeFacts.{Known, known-field}
use Rattle.gt_edges.proofs.RowWorths.{IsFrame, row-worth}
use Rattle.gt_edges.proofs.RowLaws.{base, IsAddress, edges_in, Valued, RowsLaw, ArmsLaw}

-- the active member has the leaves of its union
member-leaves : {program : Program} {planes : List Plane} {at : ℕ} (node : TypeId) (desc : Option Expr) (s : Structure) (place : ℕ) (tree : Tree) (ls : List Leaf) → HasStructure program node s
    → HasLeaves program planes at (ty.Node node desc) (Alt (Some place) tree) ls → (f : Field) × (slice_get s.fields place ≡ Some f) × HasLeaves program planes at f.ty tree ls
member-leaves node desc s place tree ls has (HasLeaves.member {s = other} {f} h u got part) =
    let same : other ≡ s = cc in
    (f, subst (λ x. slice_get x.fields place ≡ Some f) same got, part)

module _ (source : Source) (tables : Tables) (blocks : Blocks) (capacity : ℕ) where
  -- the `desc` of a union is worth what it is in the value
  desc-worth : (nodes : Nodes) (around : Around) (f : Frame) (node : TypeId) (desc : Option Expr) (e : RowExpr) (at : ℕ) → IsFrame source (entered around node at) nodes f → Known source (ty.Node node desc)
      → IsDescExpr source.program.now source.layouts.now nodes desc e → row_value source.space.now f e ≡ worth_of source (entered around node at) desc
  desc-worth nodes around f node (Some d) e at frame known is = row-worth source (entered around node at) nodes f frame d e is (known.desc node d (innermost-node node (Some d)))
  desc-worth nodes around f node None e at frame known (i, root, none) =
      ap (value_of no_path (λ k. slice_get e.leaves k then leaf_value source.space.now f)) root
      ∙ value-layer no_path (λ k. slice_get e.leaves k then leaf_value source.space.now f) (expr.Root i) (part.Root i) (outs-Root i)
      ∙ ap (λ o. o then leaf_value source.space.now f) none

  module _ (nodes : Nodes) (node : TypeId) (desc : Option Expr) (s : Structure) (arms : List Arm) (has : HasStructure source.program.now node s) (union : s.is_union ≡ true)
      (law : ArmsLaw source tables blocks capacity nodes s.fields arms) (depth : ℕ) (around : Around) (f : Frame) (at : ℕ) (value : Tree) (leaves : List Leaf) (frame : IsFrame source (entered around node at) nodes f)
      (v : Valued source blocks capacity around (ty.Node node desc) at value leaves) (shallow : IsWithinDepth source.program.now node.0 depth) (is : IsAddress source f.at at) where
    abbrev worth : Option ℤ
    worth = worth_of source (entered around node at) desc

    leaves-as : (tree : Tree) → value ≡ tree → HasLeaves source.program.now source.layouts.now.structures at (ty.Node node desc) tree leaves
    leaves-as tree e = subst (λ t. HasLeaves source.program.now source.layouts.now.structures at (ty.Node node desc) t leaves) e v.has

    member-valued : (i : ℕ) (m : Field) (tree : Tree) → value ≡ Alt (Some i) tree → active_member worth s.fields ≡ Some i → slice_get s.fields i ≡ Some m
        → HasLeaves source.program.now source.layouts.now.structures at m.ty tree leaves → Valued source blocks capacity (entered around node at) m.ty at tree leaves
    member-valued i m tree e active got part =
        let x = v.stands.0.context in
        let found = member-in source around node desc at s has union i m v.scope value active got v.stands in
        let same : found.0 ≡ tree = let other = found.1 in cc in
        record {
          scope = inside v.scope node (Alt (Some i) tree);
          stands = subst (λ t. StandsIn source (entered around node at) (inside v.scope node (Alt (Some i) t)) m.ty at t) same found.2;
          fits = fits-member node desc s i m tree has got (subst (Fits source.program.now blocks capacity v.scope (ty.Node node desc)) e v.fits);
          has = part;
          whole = v.whole;
          known = known-field source x.settled node s m has (Contains-get s.fields i m got);
        }

    member-shallow : (i : ℕ) (m : Field) → slice_get s.fields i ≡ Some m → HoldsWithinDepth source.program.now m.ty depth
    member-shallow i m got =
        All-contains (λ (g : Field). HoldsWithinDepth source.program.now g.ty depth) s.fields m
        (shallow_fields source.program.now node.0 depth s s.fields v.stands.0.context.settled has shallow refl) (Contains-get s.fields i m got)

    member-given : (i : ℕ) (tree : Tree) → value ≡ Alt (Some i) tree → active_member worth s.fields ≡ Some i → arm_at tables source.space.now depth (chosen_of worth arms) f ≡ edges_in source blocks leaves
    member-given i tree e active =
        let m = member-leaves node desc s i tree leaves has (leaves-as (Alt (Some i) tree) e) in
        let arm = arm-there source tables blocks capacity nodes s.fields arms i m.0 law m.1 in
        ap (λ o. arm_at tables source.space.now depth o f) (chosen-member source tables blocks capacity nodes worth s.fields arms i arm.0 law active arm.1)
        ∙ arm.2 depth (entered around node at) f at tree leaves frame (member-valued i m.0 tree e active m.1 m.2) (member-shallow i m.0 m.1) (λ plain. omega (arith, is))

    nothing-given : (tree : Tree) → value ≡ Alt None tree → active_member worth s.fields ≡ None → arm_at tables source.space.now depth (chosen_of worth arms) f ≡ edges_in source blocks leaves
    nothing-given tree e active =
        ap (λ o. arm_at tables source.space.now depth o f) (chosen-nothing source tables blocks capacity nodes worth s.fields arms law active)
        ∙ sym (nothing-edges source.program.now blocks (base source) source.layouts.now.structures at node desc tree leaves (leaves-as (Alt None tree) e))

    chosen-given : arm_at tables source.space.now depth (chosen_of worth arms) f ≡ edges_in source blocks leaves
    chosen-given = let p = union-stands source around node desc at s has union value v.stands.0 in go p.member p.part p.is p.active
      where
        go : (member : Option ℕ) (tree : Tree) → value ≡ Alt member tree → active_member worth s.fields ≡ member → arm_at tables source.space.now depth (chosen_of worth arms) f ≡ edges_in source blocks leaves
        go (Some i) tree e active = member-given i tree e active
        go None tree e active = nothing-given tree e active

  switch-given : (depth : ℕ) (e : RowExpr) (arms : Vec Arm) (f : Frame) (value : Option ℤ) → row_value source.space.now f e ≡ value
      → rows_at tables source.space.now depth (row.Switch e arms ∷ []) f ≡ arm_at tables source.space.now depth (chosen_of value arms.items) f
  switch-given depth e arms f value is =
      append-nil (row_at tables source.space.now depth (row.Switch e arms) f)
      ∙ switch-edges source.space.now (walk_edges tables source.space.now depth) e arms f
      ∙ arm-chosen tables source.space.now depth (row_value source.space.now f e) arms.items f
      ∙ ap (λ x. arm_at tables source.space.now depth (chosen_of x arms.items) f) is

  -- ---- rows

  module _ (nodes : Nodes) (node : TypeId) (desc : Option Expr) (s : Structure) (has : HasStructure source.program.now node s) (union : s.is_union ≡ true) where
    pub union-rows : (e : RowExpr) (arms : Vec Arm) → ArmsLaw source tables blocks capacity nodes s.fields arms.items → IsDescExpr source.program.now source.layouts.now nodes desc e
        → RowsLaw source tables blocks capacity nodes node desc (row.Switch e arms ∷ [])
    union-rows e arms law expr depth around f at value leaves frame v shallow is =
        switch-given depth e arms f (worth_of source (entered around node at) desc) (desc-worth nodes around f node desc e at frame v.known expr)
        ∙ chosen-given nodes node desc s arms.items has union law depth around f at value leaves frame v shallow is

    pub bare-rows : (arms : List Arm) → ArmsLaw source tables blocks capacity nodes s.fields arms → All IsSilent arms → RowsLaw source tables blocks capacity nodes node desc []
    bare-rows arms law silent depth around f at value leaves frame v shallow is =
        sym (silent-arms tables source.space.now depth (worth_of source (entered around node at) desc) arms f silent)
        ∙ chosen-given nodes node desc s arms has union law depth around f at value leaves frame v shallow is
