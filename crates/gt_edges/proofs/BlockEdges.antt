-- At an element of a block the walk of what the block holds gives the edges of the element.
use Rattle.std.proofs.Common.{◌≡◌, ℕ, zero, suc, ◌+◌, ◌-◌, ◌≤◌, Bool, false, List, [], ◌∷◌, refl, ap, sym, subst, ◌∙◌, arith, append-nil, Option, Some, None}
use Rattle.std.specs.Prelude.{slice_get}
use Rattle.std.proofs.lemmas.Option.{slice_get_within}
use Rattle.gt_types.specs.declared.types.TypeId.{TypeId}
use Rattle.gt_types.specs.declared.types.Scalar.TheVariants as scalar
use Rattle.gt_types.specs.declared.types.Width.TheVariants.{W1}
use Rattle.gt_types.specs.declared.types.Ty.TheVariants as ty
use Rattle.gt_types.specs.declared.program.Program.{Program}
use Rattle.gt_types.specs.Settled.{Settled}
use Rattle.gt_layout.specs.declared.planes.Layouts.{Layouts}
use Rattle.gt_layout.specs.Planes.{IsLaidOut}
use Rattle.gt_layout.specs.Progress.{IsWithinDepth}
use Rattle.gt_space.specs.Range.{Range, IsSpace}
use Rattle.gt_tree.specs.Trees.{Tree}
use Rattle.gt_tree.specs.Blocks.{Kind, Nodes, Pointers, Strings, Chars, Raw, Blocks, desc_of, element_type}
use Rattle.gt_tree.specs.Scopes.{outside}
use Rattle.gt_tree.specs.Leaves.{Leaf}
use Rattle.gt_tree.specs.FixedLaws.{MayHold}
use Rattle.gt_value.specs.declared.sources.Source.{Source}
use Rattle.gt_value.specs.Reading.{outside_all, entered}
use Rattle.gt_value.proofs.ZeroValues.{element-held}
use Rattle.gt_walk.specs.declared.rows.Count.TheVariants as count
use Rattle.gt_walk.specs.declared.rows.WalkRow.TheVariants as row
use Rattle.gt_walk.specs.declared.tables.Tables.{Tables}
use Rattle.gt_walk.specs.Rows.{Edge, Frame, frame_at, row_edges, walk_edges, word_at, pointer_edges, rows_of}
use Rattle.gt_walk.specs.Visiting.{row_at}
use Rattle.gt_walk.proofs.RowEdges.{ptr-edges}
use Rattle.gt_walk.proofs.Visits.{at-place}
use Rattle.gt_edges.specs.Numbers.{walk_of}
use Rattle.gt_edges.specs.Edges.{HaveFew, edges_at, GivesElements}
use Rattle.gt_edges.specs.Walks.{outside as no_nodes, inside, IsPointerRow, AreWalksOf}
use Rattle.gt_edges.proofs.LeafEdges.{number-edges}
use Rattle.gt_edges.proofs.TypeFacts.{known-kind}
use Rattle.gt_edges.proofs.RowWorths.{IsFrame}
use Rattle.gt_edges.proofs.RowLaws.{base, IsAddress, edges_in, Valued}
use Rattle.gt_edges.proofs.PointerRows.{pointer-row}
use Rattle.gt_edges.proofs.RowsGive.{noted, rows-give}
use Rattle.gt_edges.proofs.Sources.{source_of, element-stands}

-- ---- frames of elements

-- at an element of structures
element-frame : (source : Source) (node : TypeId) (address : ℕ) → 1 ≤ address → IsAddress source address 0 → IsFrame source (entered outside_all node 0) (inside no_nodes node) (frame_at address)
element-frame source node zero some is = absurd (omega arith)
element-frame source node (suc n) some is = record { here = (refl, is); outer = tt; outermost = (refl, is) }

-- in no structure
abbrev alone : ℕ → Frame
alone address = record { at = address; here = None; outer = None; outermost = None }

alone-frame : (source : Source) (address : ℕ) → IsFrame source outside_all no_nodes (alone address)
alone-frame source address = record { here = tt; outer = tt; outermost = tt }

-- the edge of a pointer to a block of a fixed count is the same in each frame
fixed-same : (range : Range) (f g : Frame) (place walk n : ℕ) (o : Option ℕ) → pointer_edges range f place walk (count.Fixed n) o ≡ pointer_edges range g place walk (count.Fixed n) o
fixed-same range f g place walk n None = refl
fixed-same range f g place walk n (Some zero) = refl
fixed-same range f g place walk n (Some (suc target)) = refl

pointer-same : (range : Range) (walks : ℕ → Frame → List Edge) (f g : Frame) (offset walk n : ℕ) (reorder : Bool) → f.at ≡ g.at
    → row_edges range walks (row.Ptr offset walk (count.Fixed n) reorder) f ≡ row_edges range walks (row.Ptr offset walk (count.Fixed n) reorder) g
pointer-same range walks f g offset walk n reorder e =
    ptr-edges range walks offset walk (count.Fixed n) reorder f
    ∙ fixed-same range f g (f.at + offset) walk n (word_at range (f.at + offset))
    ∙ ap (λ k. pointer_edges range g (k + offset) walk (count.Fixed n) (word_at range (k + offset))) e
    ∙ sym (ptr-edges range walks offset walk (count.Fixed n) reorder g)

module _ (program : Program) (layouts : Layouts) (tables : Tables) (settled : Settled program) (walks : AreWalksOf program layouts tables) (blocks : Blocks) (few : HaveFew blocks) (capacity : ℕ) (range : Range) (space : IsSpace range)
    (address : ℕ) (some : 1 ≤ address) (low : range.start ≤ address) (value : Tree) (leaves : List Leaf) where
  abbrev source : Source
  source = source_of program layouts range (address - range.start)

  abbrev ValuedAs : Kind → Type 0
  ValuedAs kind = Valued source blocks capacity outside_all (element_type program kind) 0 value leaves

  address-is : IsAddress source address 0
  address-is = omega (arith, low)

  deep : (node : TypeId) → IsWithinDepth program node.0 33
  deep node n inner nests = let h : n ≤ 32 = settled.depth n node inner nests in omega arith

  -- a walk of one row, of a pointer to a block of a fixed count
  pointer-walk : (kind : Kind) (walk target n size : ℕ) (chain : Option ℕ) → MayHold program kind → rows_of tables walk ≡ row.Note size chain ∷ row.Ptr 0 target (count.Fixed n) false ∷ []
      → IsPointerRow program layouts no_nodes (element_type program kind) 0 (Some (row.Ptr 0 target (count.Fixed n) false)) → ValuedAs kind → walk_edges tables range (suc 33) walk (frame_at address) ≡ edges_in source blocks leaves
  pointer-walk kind walk target n size chain may is p v =
      noted source tables blocks capacity 33 walk size chain (row.Ptr 0 target (count.Fixed n) false ∷ []) (frame_at address) is
      ∙ append-nil (row_at tables range 33 (row.Ptr 0 target (count.Fixed n) false) (frame_at address))
      ∙ pointer-same range (walk_edges tables range 33) (frame_at address) (alone address) 0 target n false (at-place address)
      ∙ pointer-row source tables blocks capacity space few p 33 outside_all (alone address) 0 value leaves (alone-frame source address) v (element-held program settled (element_type program kind) (kind, may, refl)) (λ plain. omega (arith, low))

  kind-walk : (kind : Kind) → MayHold program kind → ValuedAs kind → walk_edges tables range (suc 33) (walk_of program kind) (frame_at address) ≡ edges_in source blocks leaves
  kind-walk (Nodes node) may v =
      let s = may.0 in
      let h = walks.structures node s may may.1 in
      let own : desc_of (slice_get program.structures node.0) ≡ s.desc = ap desc_of may.1 in
      noted source tables blocks capacity 33 (walk_of program (Nodes node)) h.size h.chain h.rows (frame_at address) h.is
      ∙ rows-give source tables blocks capacity space few h.are 33 outside_all (frame_at address) 0 value leaves (element-frame source node address some address-is)
      (subst (λ d. Valued source blocks capacity outside_all (ty.Node node d) 0 value leaves) own v) (deep node) (subst (λ k. IsAddress source k 0) (sym (at-place address)) address-is)
  kind-walk (Pointers node) may v =
      pointer-walk (Pointers node) (walk_of program (Pointers node)) (walk_of program (Nodes node)) 1 8 None may (walks.pointers node may) (IsPointerRow.single (slice_get_within program.structures node.0 may.0 may.1)) v
  kind-walk Strings may v = pointer-walk Strings (walk_of program Strings) (walk_of program Chars) 0 8 None tt walks.strings IsPointerRow.string v
  kind-walk Chars may v =
      noted source tables blocks capacity 33 (walk_of program Chars) 1 None [] (frame_at address) walks.unscanned
      ∙ sym (number-edges program blocks (base source) layouts.structures 0 (scalar.Int W1 false) value leaves v.has)
  kind-walk Raw may v =
      noted source tables blocks capacity 33 (walk_of program Raw) 1 None [] (frame_at address) walks.unscanned
      ∙ sym (number-edges program blocks (base source) layouts.structures 0 (scalar.Int W1 false) value leaves v.has)

-- elements of blocks have the edges that the walks give
pub gives-elements : (program : Program) (layouts : Layouts) (tables : Tables) → Settled program → IsLaidOut program layouts → AreWalksOf program layouts tables → GivesElements program layouts tables
gives-elements program layouts tables settled laid walks blocks statics kind capacity size range address value space addresses few may small takes some inside is =
    let source = source_of program layouts range (address - range.start) in
    let begin : range.start + (address - range.start) ≡ address = let low = inside.from_start in omega (arith, low) in
    kind-walk program layouts tables settled walks blocks few capacity range space address some inside.from_start value is.leaves kind may
    (record {
      scope = outside statics;
      stands = element-stands program layouts settled laid capacity blocks statics kind size range address value space addresses may small takes inside is;
      fits = is.fits;
      has = is.has;
      whole = refl;
      known = known-kind source settled kind may;
    })
    ∙ ap (λ k. edges_at program blocks k is.leaves) begin
