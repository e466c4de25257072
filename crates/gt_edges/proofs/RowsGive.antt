-- Every row that is the row of a type gives the edges of the values of that type.
use Rattle.std.proofs.Common.{◌≡◌, ℕ, zero, suc, ◌+◌, ◌-◌, List, [], ◌∷◌, ◌++◌, refl, ap, sym, subst, ◌∙◌, arith, Option, Some, None}
use Rattle.std.specs.Prelude.{option_map}
use Rattle.gt_types.specs.declared.expressions.Expr.{Expr}
use Rattle.gt_types.specs.declared.types.TypeId.{TypeId}
use Rattle.gt_types.specs.declared.types.Ty.{Ty}
use Rattle.gt_types.specs.declared.types.Ty.TheVariants as ty
use Rattle.gt_types.specs.declared.types.Scalar.{Scalar}
use Rattle.gt_types.specs.declared.program.Field.{Field}
use Rattle.gt_layout.specs.declared.planes.FieldSpot.{FieldSpot}
use Rattle.gt_layout.specs.Progress.{IsWithinDepth, HoldsWithinDepth}
use Rattle.gt_space.specs.Range.{IsSpace}
use Rattle.gt_tree.specs.Trees.{Tree}
use Rattle.gt_tree.specs.Blocks.{Blocks}
use Rattle.gt_tree.specs.Leaves.{Leaf}
use Rattle.gt_tree.proofs.Types.{held-node}
use Rattle.gt_value.specs.declared.sources.Anchor.{Anchor}
use Rattle.gt_value.specs.declared.sources.Around.{Around}
use Rattle.gt_value.specs.declared.sources.Source.{Source}
use Rattle.gt_value.specs.Reading.{entered, first_anchor}
use Rattle.gt_walk.specs.declared.rows.Arm.{Arm}
use Rattle.gt_walk.specs.declared.rows.WalkRow.{WalkRow}
use Rattle.gt_walk.specs.declared.rows.WalkRow.TheVariants as row
use Rattle.gt_walk.specs.declared.tables.Tables.{Tables}
use Rattle.gt_walk.specs.Rows.{Frame, entered as frame_in, first_of as first_address, walk_edges, rows_of}
use Rattle.gt_walk.specs.Visiting.{rows_at, arm_row}
use Rattle.gt_walk.proofs.RowEdges.{note-edges, sub-edges}
use Rattle.gt_edges.specs.Edges.{HaveFew}
use Rattle.gt_edges.specs.Walks.{Around as Nodes, inside, first_of as first_node, IsRowOf, IsPartOf, AreRowsOf, AreFieldRows, AreArmsOf}
use Rattle.gt_edges.proofs.LeafEdges.{number-edges, bits-edges, opaque-edges}
use Rattle.gt_edges.proofs.RowWorths.{IsAnchor, IsFrame}
use Rattle.gt_edges.proofs.RowLaws.{base, IsAddress, edges_in, Valued, RowLaw, RowsLaw, FieldsLaw, ArmsLaw, walk_given}
use Rattle.gt_edges.proofs.PointerRows.{pointer-row}
use Rattle.gt_edges.proofs.ArrayRows.{array-row, tail-row}
use Rattle.gt_edges.proofs.FieldRows.{fields-none, fields-more, struct-rows}
use Rattle.gt_edges.proofs.UnionRows.{union-rows, bare-rows}

-- ---- inside a structure

outermost-anchor : (source : Source) (a : Option Anchor) (node : Option TypeId) (address : Option ℕ) (here : Anchor) (inner : TypeId) (place : ℕ) → IsAnchor source a node address → IsAnchor source (Some here) (Some inner) (Some place)
    → IsAnchor source (first_anchor a (Some here)) (Some (first_node node inner)) (Some (first_address address place))
outermost-anchor source None None None here inner place at is = is
outermost-anchor source (Some a) (Some node) (Some address) here inner place at is = at
outermost-anchor source None None (Some x) here inner place at is = absurd at
outermost-anchor source None (Some x) address here inner place at is = absurd at
outermost-anchor source (Some a) None address here inner place at is = absurd at
outermost-anchor source (Some a) (Some node) None here inner place at is = absurd at

entered-frame : (source : Source) (around : Around) (nodes : Nodes) (f : Frame) (node : TypeId) (offset at : ℕ) → IsFrame source around nodes f → IsAddress source (f.at + offset) at
    → IsFrame source (entered around node at) (inside nodes node) (frame_in f offset)
entered-frame source around nodes f node offset at frame is = record {
  here = (refl, is);
  outer = frame.here;
  outermost = outermost-anchor source around.outermost nodes.outermost f.outermost (record { node = node; at = at }) node (f.at + offset) frame.outermost (refl, is);
}

module _ (source : Source) (tables : Tables) (blocks : Blocks) (capacity : ℕ) where
  -- ---- structures by value

  abbrev PartLaw : Nodes → TypeId → Option Expr → Option ℕ → Type 0
  PartLaw nodes node desc walk =
      (depth : ℕ) (around : Around) (f : Frame) (at : ℕ) (value : Tree) (leaves : List Leaf) → IsFrame source (entered around node at) (inside nodes node) f
      → Valued source blocks capacity around (ty.Node node desc) at value leaves → HoldsWithinDepth source.program.now (ty.Node node desc) depth → IsAddress source f.at at
      → walk_given source tables blocks capacity depth walk f ≡ edges_in source blocks leaves

  -- the note gives no edge
  pub noted : (depth walk size : ℕ) (chain : Option ℕ) (rows : List WalkRow) (f : Frame) → rows_of tables walk ≡ row.Note size chain ∷ rows → walk_edges tables source.space.now (suc depth) walk f ≡ rows_at tables source.space.now depth rows f
  noted depth walk size chain rows f is =
      ap (λ xs. rows_at tables source.space.now depth xs f) is
      ∙ ap (λ xs. xs ++ rows_at tables source.space.now depth rows f) (note-edges source.space.now (walk_edges tables source.space.now depth) size chain f)

  part-walked : (nodes : Nodes) (node : TypeId) (desc : Option Expr) (walk size : ℕ) (chain : Option ℕ) (rows : List WalkRow) → rows_of tables walk ≡ row.Note size chain ∷ rows
      → RowsLaw source tables blocks capacity (inside nodes node) node desc rows → PartLaw nodes node desc (Some walk)
  part-walked nodes node desc walk size chain rows is law zero around f at value leaves frame v shallow address = let some = (shallow node (held-node node desc)).1 in absurd (omega (arith, some))
  part-walked nodes node desc walk size chain rows is law (suc depth) around f at value leaves frame v shallow address =
      let less : suc depth - 1 ≡ depth = omega arith in
      noted depth walk size chain rows f is
      ∙ law depth around f at value leaves frame v (subst (IsWithinDepth source.program.now node.0) less (shallow node (held-node node desc)).2) address

  part-empty : (nodes : Nodes) (node : TypeId) (desc : Option Expr) → RowsLaw source tables blocks capacity (inside nodes node) node desc [] → PartLaw nodes node desc None
  part-empty nodes node desc law depth around f at value leaves frame v shallow address =
      let some = (shallow node (held-node node desc)).2 in
      law (depth - 1) around f at value leaves frame v some address

  sub-given : (depth offset : ℕ) (walk : Option ℕ) (f : Frame) → arm_row tables source.space.now depth (option_map (row.Sub offset) walk) f ≡ walk_given source tables blocks capacity depth walk (frame_in f offset)
  sub-given depth offset (Some walk) f = sub-edges source.space.now (walk_edges tables source.space.now depth) offset walk f
  sub-given depth offset None f = refl

  node-row : (nodes : Nodes) (node : TypeId) (desc : Option Expr) (offset : ℕ) (walk : Option ℕ) → PartLaw nodes node desc walk → RowLaw source tables blocks capacity nodes (ty.Node node desc) offset (option_map (row.Sub offset) walk)
  node-row nodes node desc offset walk law depth around f at value leaves frame v shallow is =
      sub-given depth offset walk f
      ∙ law depth around (frame_in f offset) at value leaves (entered-frame source around nodes f node offset at frame (is refl)) v shallow (is refl)

  -- ---- what has no pointers

  number-row : (nodes : Nodes) (scalar : Scalar) (offset : ℕ) → RowLaw source tables blocks capacity nodes (ty.Num scalar) offset None
  number-row nodes scalar offset depth around f at value leaves frame v shallow is = sym (number-edges source.program.now blocks (base source) source.layouts.now.structures at scalar value leaves v.has)

  bits-row : (nodes : Nodes) (unit : Scalar) (width offset : ℕ) → RowLaw source tables blocks capacity nodes (ty.Bits unit width) offset None
  bits-row nodes unit width offset depth around f at value leaves frame v shallow is = sym (bits-edges source.program.now blocks (base source) source.layouts.now.structures at unit width value leaves v.has)

  opaque-row : (nodes : Nodes) (size align offset : ℕ) → RowLaw source tables blocks capacity nodes (ty.Opaque size align) offset None
  opaque-row nodes size align offset depth around f at value leaves frame v shallow is = sym (opaque-edges source.program.now blocks (base source) source.layouts.now.structures at size align value leaves v.has)

  -- ---- all rows

  module _ (space : IsSpace source.space.now) (few : HaveFew blocks) where
    mutual
      pub row-gives : {nodes : Nodes} {type : Ty} {offset : ℕ} {r : Option WalkRow} → IsRowOf source.program.now source.layouts.now tables nodes type offset r → RowLaw source tables blocks capacity nodes type offset r
      row-gives (IsRowOf.number {around} {scalar} {offset}) = number-row around scalar offset
      row-gives (IsRowOf.bits {around} {unit} {width} {offset}) = bits-row around unit width offset
      row-gives (IsRowOf.opaque {around} {size} {align} {offset}) = opaque-row around size align offset
      row-gives (IsRowOf.pointer p) = pointer-row source tables blocks capacity space few p
      row-gives (IsRowOf.structure {around} {node} {desc} {offset} {walk} p) = node-row around node desc offset walk (part-gives p)
      row-gives (IsRowOf.array {around} {type} {elem} {n} {offset} {r} e p) = array-row source tables blocks capacity around type elem r (row-gives p) offset n e
      row-gives (IsRowOf.tail {around} {type} {elem} {len} {e = x} {offset} {r} e expr p) = tail-row source tables blocks capacity around type elem r (row-gives p) offset len x e expr

      pub part-gives : {nodes : Nodes} {node : TypeId} {desc : Option Expr} {walk : Option ℕ} → IsPartOf source.program.now source.layouts.now tables nodes node desc walk → PartLaw nodes node desc walk
      part-gives (IsPartOf.walked {around} {node} {desc} {walk} {plane} {rows} late laid some is p) = part-walked around node desc walk plane.size None rows is (rows-give p)
      part-gives (IsPartOf.empty {around} {node} {desc} p) = part-empty around node desc (rows-give p)

      pub rows-give : {nodes : Nodes} {node : TypeId} {desc : Option Expr} {rows : List WalkRow} → AreRowsOf source.program.now source.layouts.now tables nodes node desc rows → RowsLaw source tables blocks capacity nodes node desc rows
      rows-give (AreRowsOf.struct {around} {node} {desc} {s} {plane} {rows} has struct laid p) = struct-rows source tables blocks capacity around node desc s plane rows has struct laid (fields-give p)
      rows-give (AreRowsOf.union {around} {node} {desc} {s} {e} arms has union p some expr) = union-rows source tables blocks capacity around node desc s has union e arms (arms-give p) expr
      rows-give (AreRowsOf.bare {around} {node} {desc} {s} {arms} has union p silent) = bare-rows source tables blocks capacity around node desc s has union arms (arms-give p) silent

      pub fields-give : {nodes : Nodes} {types : List Ty} {spots : List FieldSpot} {rows : List WalkRow} → AreFieldRows source.program.now source.layouts.now tables nodes types spots rows
          → FieldsLaw source tables blocks capacity nodes types spots rows
      fields-give (AreFieldRows.none {around}) = fields-none source tables blocks capacity around
      fields-give (AreFieldRows.more {around} {type} {types} {spot} {spots} {r} {rows} p ps) = fields-more source tables blocks capacity around type types spot spots r rows (row-gives p) (fields-give ps)

      pub arms-give : {nodes : Nodes} {fields : List Field} {arms : List Arm} → AreArmsOf source.program.now source.layouts.now tables nodes fields arms → ArmsLaw source tables blocks capacity nodes fields arms
      arms-give AreArmsOf.no_arms = tt
      arms-give (AreArmsOf.more_arms same p ps) = (same, row-gives p, arms-give ps)
