-- On the bytes of a heap the walks of its roots give their edges, but for deletable ones, and each names an object.
use Rattle.std.proofs.Common.{◌≡◌, ◌∙◌, ℕ, ◌+◌, ◌*◌, List, Some, false, sym, ap, subst, arith, zero-add}
use Rattle.std.specs.Prelude.{Contains, All, slice_get}
use Rattle.std.proofs.lemmas.List.{length-map}
use Rattle.gt_types.specs.declared.program.Root.{Root}
use Rattle.gt_types.specs.declared.program.Program.{Program}
use Rattle.gt_types.specs.Settled.{Settled}
use Rattle.gt_layout.specs.declared.planes.Layouts.{Layouts}
use Rattle.gt_layout.specs.Excess.{IsWithin}
use Rattle.gt_layout.specs.Places.{begin_at}
use Rattle.gt_layout.specs.Planes.{IsLaidOut}
use Rattle.gt_space.specs.Range.{IsSpace}
use Rattle.gt_tree.specs.Trees.{Tree, tree_at}
use Rattle.gt_tree.specs.Blocks.{Blocks}
use Rattle.gt_tree.specs.Scopes.{outside}
use Rattle.gt_tree.specs.Fits.{static_edges}
use Rattle.gt_tree.specs.Leaves.{HasLeaves}
use Rattle.gt_tree.proofs.Edges.{edges-targets}
use Rattle.gt_graph.specs.Good.{Heap}
use Rattle.gt_objects.specs.declared.objects.Objects.{Objects}
use Rattle.gt_objects.specs.Holding.{IsHeapOf}
use Rattle.gt_elements.specs.Elements.{RootsStand}
use Rattle.gt_elements.proofs.Found.{addresses, roots}
use Rattle.gt_walk.specs.declared.tables.Tables.{Tables}
use Rattle.gt_walk.specs.Rows.{Edge, edges_of, frame_at, rows_of, size_in_note, walk_edges, MOST_NESTED}
use Rattle.gt_mark.specs.Reached.{NamesBlock, root_edges, root_targets}
use Rattle.gt_edges.specs.Edges.{edges_at}
use Rattle.gt_edges.specs.Tables.{AreTables}
use Rattle.gt_tracing.proofs.EdgeLists.{targets_of, only_first, root_each, walk_place, GivesRoot}
use Rattle.gt_tracing.proofs.Elements.{blocks, names_block, walks}
use Rattle.gt_tracing.proofs.Fields.{FieldHas, field_has, mapped}
use Rattle.gt_tracing.proofs.Leaves.{leaf_edges, leaf_targets}
use Rattle.gt_tracing.proofs.Named.{all_count, edge_named}
use Rattle.gt_tracing.proofs.Sizes.{have_few}

module _ (program : Program) (layouts : Layouts) (tables : Tables) (settled : Settled program) (laid : IsLaidOut program layouts) (within : IsWithin program layouts) (are : AreTables program layouts tables)
    (objects : Objects) (heap : Heap) (is : IsHeapOf program layouts objects heap) (space : IsSpace objects.space) where
  abbrev names : Edge → Type 0
  names = NamesBlock objects.pages.slots (walks program layouts tables settled laid are objects heap is space)

  abbrev known : Blocks
  known = blocks program layouts tables settled laid are objects heap is space

  stand : RootsStand program layouts objects heap
  stand = roots program layouts settled laid objects heap is space within

  -- the edges of one walk of a root, which lies at its address
  abbrev root_gives : ℕ → List Edge
  root_gives walk = edges_of tables walk 1 objects.space 0

  once : (walk : ℕ) → root_gives walk ≡ walk_edges tables objects.space MOST_NESTED walk (frame_at 0)
  once walk =
      let begin : 0 + 0 * size_in_note (rows_of tables walk) ≡ 0 = omega arith in
      only_first (λ i. walk_edges tables objects.space MOST_NESTED walk (frame_at (0 + i * size_in_note (rows_of tables walk)))) ∙ ap (λ a. walk_edges tables objects.space MOST_NESTED walk (frame_at a)) begin

  module _ (i walk : ℕ) (r : Root) (tree : Tree) (at : slice_get program.roots i ≡ Some r) (kept : r.deletable ≡ false) (its : slice_get tables.roots (walk_place program.roots i) ≡ Some walk)
      (there : tree_at heap.graph.statics i ≡ Some tree) where
    found : FieldHas program layouts.structures known 0 (outside heap.graph.statics) 0 i layouts.statics.fields r.ty tree stand.stand.are.leaves
    found = field_has known 0 (outside heap.graph.statics) stand.stand.are.have is.good.graph.statics i r.ty tree (mapped (λ r. r.ty) program.roots i r at) there

    at_begin : HasLeaves program layouts.structures (begin_at found.spot) r.ty tree found.leaves
    at_begin = subst (λ n. HasLeaves program layouts.structures n r.ty tree found.leaves) (zero-add (begin_at found.spot)) found.has

    gives : root_gives walk ≡ edges_at program known objects.space.start found.leaves
    gives =
        once walk
        ∙ are.roots known objects.space heap.graph.statics i walk r found.spot tree found.leaves space
        (addresses program layouts settled laid objects heap is space)
        (have_few program layouts settled laid objects heap is space)
        is.stands.sized.start stand.inside stand.stand.are at kept its found.there there at_begin

    given : GivesRoot root_gives names tree walk
    given =
        let same = edges-targets program layouts known 0 (outside heap.graph.statics) r.ty tree (begin_at found.spot) found.leaves found.fits at_begin in (
          ap targets_of gives ∙ leaf_targets program known objects.space.start found.leaves (λ id has. edge_named found.fits id (subst (λ xs. Contains xs id) (sym same) has)) ∙ sym same,
          subst (All names) (sym gives)
              (leaf_edges program known objects.space.start names (names_block program layouts tables settled laid are objects heap is space) found.leaves),
        )

  all_given : (targets_of (root_edges tables objects.space) ≡ static_edges program.roots heap.graph.statics) × All names (root_edges tables objects.space)
  all_given = root_each root_gives names program.roots heap.graph.statics tables.roots (all_count is.good.graph.statics ∙ length-map program.roots (λ r. r.ty)) are.numbered.roots given

  pub roots_give : root_targets tables objects.space ≡ static_edges program.roots heap.graph.statics
  roots_give = all_given.0

  pub roots_name : All names (root_edges tables objects.space)
  roots_name = all_given.1
