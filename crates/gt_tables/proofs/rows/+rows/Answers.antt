use Rattle.std.proofs.Common.{rules, ◌≡◌, ◌≢◌, ◌∙◌, ℕ, ◌^◌, ◌≤◌, ◌<◌, ap, sym, subst, inl, inr, arith, length, [], ◌∷◌, ◌++◌, Some, None, get_or}
use Rattle.std.specs.Prelude.{All, IfSome, flat_map, option_to_list}
use Rattle.std.specs.Option.{option_map}
use Rattle.std.proofs.lemmas.List.Elements.{All-append, All-nil, All-cons}
use Rattle.gt_types.specs.declared.types.TypeId.{TypeId}
use Rattle.gt_types.specs.declared.types.Ty.{Ty, out-Ty}
use Rattle.gt_types.specs.declared.types.Ty.TheOpen as part
use Rattle.gt_types.specs.declared.types.Ty.TheVariants as node
use Rattle.gt_types.specs.declared.types.Ty.TheVariants.{Ptr, outs-Arr, outs-Tail}
use Rattle.gt_types.specs.Shapes.{dimensions}
use Rattle.gt_types.specs.Contains.{held_by}
use Rattle.gt_layout.specs.declared.planes.FieldSpot.{FieldSpot}
use Rattle.gt_layout.specs.Storages.{extent_of}
use Rattle.gt_layout.specs.Progress.{IsWithinDepth, HoldsWithinDepth}
use Rattle.gt_layout.proofs.Laying.{read_at}
use Rattle.gt_layout.proofs.Capacities.{node_within, shallow_fields}
use Rattle.gt_tree.specs.LeafLaws.{IsTypeIn, of_field, of_array, of_tail}
use Rattle.gt_tree.proofs.Types.{held-array, held-tail}
use Rattle.gt_tree.proofs.FixedScopes.{innermost-array, innermost-tail}
use Rattle.gt_value.proofs.Dimensions.{array-dimensions, tail-dimensions}
use Rattle.gt_value.proofs.ZeroSteps.{fields-flat}
use Rattle.gt_walk.specs.declared.rows.RowExpr.{RowExpr}
use Rattle.gt_walk.specs.declared.rows.WalkRow.TheVariants.{Rep, Tail}
use Rattle.gt_walk.specs.Nested.{parts_in}
use Rattle.gt_edges.specs.Walks.{IsRowExpr, IsDescExpr, IsPointerRow, IsRowOf, number, bits, opaque, pointer}
use Rattle.gt_tables.specs.Building.{first_of, around_of, parts_of, IsPointerRow as NamesBlocks, AreRows, IsRow, IsWalkOf, Keeps, Grows, IsPlaced, AreServed, ServesType, ServesPart}
use Rattle.gt_tables.specs.Ordered.{IsOrdered}
use Rattle.gt_tables.specs.Counting.{Stays, Counts, with_site}
use Rattle.gt_tables.proofs.Growing.{rows-note, rows-add, row-pointer, IsArm}
use Rattle.gt_tables.proofs.Keeping.{on-ok, if-ok, if-both, on-both, grows-not, grows-on, rows-on, arms-on, rep-row, tail-row, sub-row, some-deeper, switch-some, known-walk, kept-walk, kept-grows}
use Rattle.gt_tables.proofs.Serving.{entered, entered-here, field-placed, element-placed, contains-at, sub-serves, array-serves, tail-serves, fields-begin, fields-step, fields-end, arms-step, arms-end, struct-serves, union-serves, kept-walked, kept-serves, kept-served}
use Rattle.gt_tables.proofs.PartCounts.{if-kept, with-more, counts-not, counts-bare, counts-known, counts-after, counts-before, counts-site, counts-deeper, counts-on, part-counts}
use Rattle.gt_tables.proofs.NamedParts.{arms_name, note-none, parts-add, noted-parts, pointer-none, sub-named, rep-named, tail-named, arms-add, switch-named}
use Rattle.gt_tables.proofs.Fields.{spots-long}
use Rattle.gt_tables.proofs.rows.+rows.Goals as goal

pub add_fields-type_row-requires : goal.add_fields-type_row-requires
add_fields-type_row-requires t c =
    let f = c.index-fields-i.result in
    let shallow = subst (λ g. HoldsWithinDepth c.args.source.now.program.now g.ty c.args.depth) (sym c.index-fields-i.is) (c.requires.shallow c.loop-i.i f c.loop-i-test.true) in
    let flat = subst (λ g. dimensions g.ty ≤ 4) (sym c.index-fields-i.is) (c.requires.flat c.loop-i.i f c.loop-i-test.true) in
    let within : c.loop-i.i < length c.requires.fields.0.fields = omega (arith, c.loop-i-test.true, ap length c.requires.fields.2) in
    let got = read_at c.args.fields.now c.requires.fields.0.fields c.loop-i.i f (sym c.requires.fields.2) within c.index-fields-i.is in
    let placed =
    field-placed c.args.source.now.program.now c.in_field-lies.result c.args.inner c.args.id c.requires.fields.0 f c.loop-i.i c.in_field-lies.ensures.around c.in_field-lies.ensures.site c.requires.around c.requires.here
    c.requires.fields.1 got in
    let typed = of_field c.args.id c.requires.fields.0 f c.requires.fields.1 (contains-at c.requires.fields.0.fields c.loop-i.i f got) in
    (omega (arith, flat), (c.requires.source, (c.loop-i.invariant.grows.are, (c.loop-i.invariant.served, (placed, (typed, (shallow, flat)))))))

pub add_fields-loop-i-preserved : goal.add_fields-loop-i-preserved
add_fields-loop-i-preserved t c =
    let program = c.args.source.now.program.now in
    let first = first_of c.args.source.now in
    let f = c.index-fields-i.result in
    let deep = IsWithinDepth program c.args.id.0 in
    let deeper : (depth : _) → deep depth → HoldsWithinDepth program f.ty depth =
    λ depth within. subst (λ g. HoldsWithinDepth program g.ty depth) (sym c.index-fields-i.is) (c.requires.deep depth within c.loop-i.i f c.loop-i-test.true) in
    record {
      grows = grows-on program c.args.parts.now c.loop-i.parts c.type_row.new.parts c.loop-i.invariant.grows c.in_ok-row.ensures.grows;
      served = c.in_ok-row.ensures.served;
      counts =
          let named = flat_map parts_in c.loop-i.rows.items in
          let before = flat_map parts_in c.args.rows.now.items in
          let more = parts_of c.in_ok-row.row in
          counts-after c.args.source.now deep (λ n. n) c.args.parts.now c.type_row.new.parts before (named ++ more) (flat_map parts_in c.add_row.new.rows.items)
          (ap (λ l. flat_map parts_in l) c.in_ok-add_row.ensures ∙ parts-add c.loop-i.rows.items c.in_ok-row.row)
          (counts-on c.args.source.now deep c.args.parts.now c.loop-i.parts c.type_row.new.parts before named more c.loop-i.invariant.counts
          (counts-deeper c.args.source.now (HoldsWithinDepth program f.ty) (λ n. n) c.loop-i.parts c.type_row.new.parts deep [] more deeper
          (counts-site c.args.source.now (HoldsWithinDepth program f.ty) c.in_field-lies.result.site c.loop-i.parts c.type_row.new.parts _ [] more c.in_field-lies.ensures.site c.in_ok-row.ensures.counts)));
      adds =
          let first_spot : FieldSpot = record { offset = 0; bit = 0 } in
          fields-step c.args.source.now c.loop-i.parts c.type_row.new.parts c.in_ok-row.ensures.grows c.args.inner c.args.fields.now c.args.spots.now c.loop-i.i c.args.rows.now.items c.loop-i.rows.items
          c.add_row.new.rows.items f first_spot c.in_ok-row.row c.loop-i.invariant.adds c.loop-i-test.true (omega (arith, c.loop-i-test.true, c.requires.spots)) c.index-fields-i.is
          (subst (λ a. ServesType c.args.source.now c.type_row.new.parts.walks.items a f.ty (get_or c.args.spots.now c.loop-i.i first_spot).offset c.in_ok-row.row) c.in_field-lies.ensures.around c.in_ok-row.ensures.serves)
          c.in_ok-add_row.ensures;
      rows =
          subst (AreRows first c.type_row.new.parts.walks.items deep) (sym c.in_ok-add_row.ensures)
          (rows-add first c.type_row.new.parts.walks.items deep c.loop-i.rows.items c.in_ok-row.row
          (rows-on first program c.loop-i.parts c.type_row.new.parts c.in_ok-row.ensures.grows deep c.loop-i.rows.items c.loop-i.invariant.rows)
          (some-deeper first c.type_row.new.parts.walks.items (HoldsWithinDepth program f.ty) deep deeper c.in_ok-row.row c.in_ok-row.ensures.row));
    }

pub part_walk-returns-in-Some-clause-walk : goal.part_walk-returns-in-Some-clause-walk
part_walk-returns-in-Some-clause-walk t c =
    known-walk c.args.source.now.program.now c.args.parts.now c.requires.parts c.part_of-part.result c.args.id.0 c.part_of-part.ensures.node c.in-Some.known c.in-Some.ensures.known

pub part_walk-returns-clause-grows : goal.part_walk-returns-clause-grows
part_walk-returns-clause-grows t c =
    let program = c.args.source.now.program.now in
    on-ok (Keeps c.first_part.result c.part_of-part.result c.in_ok-rows.rows.items c.structure_rows.new.parts c.keep.new.self) (Grows program c.args.parts.now c.keep.new.self) c.keep.result
    (λ walk keeps.
    let kept = subst (λ n. Keeps n c.part_of-part.result c.in_ok-rows.rows.items c.structure_rows.new.parts c.keep.new.self walk) c.first_part.ensures keeps in
    grows-on program c.args.parts.now c.structure_rows.new.parts c.keep.new.self c.in_ok-rows.ensures.grows
    (kept-grows program c.requires.source.settled c.part_of-part.result c.args.id.0 c.in_ok-rows.rows.items c.structure_rows.new.parts c.keep.new.self walk c.in_ok-rows.ensures.grows.are
    c.in_ok-rows.ensures.rows kept c.part_of-part.ensures.node)) c.keep.ensures.keeps

pub part_walk-returns-clause-walk : goal.part_walk-returns-clause-walk
part_walk-returns-clause-walk t c =
    let program = c.args.source.now.program.now in
    if-ok (Keeps c.first_part.result c.part_of-part.result c.in_ok-rows.rows.items c.structure_rows.new.parts c.keep.new.self)
    (λ walk. IfSome walk (IsWalkOf program (first_of c.args.source.now) c.keep.new.self.walks.items c.args.id.0)) c.keep.result
    (λ walk keeps.
    let kept = subst (λ n. Keeps n c.part_of-part.result c.in_ok-rows.rows.items c.structure_rows.new.parts c.keep.new.self walk) c.first_part.ensures keeps in
    kept-walk program c.requires.source.settled c.part_of-part.result c.args.id.0 c.in_ok-rows.rows.items c.structure_rows.new.parts c.keep.new.self walk
    c.in_ok-rows.ensures.rows kept) c.keep.ensures.keeps

pub structure_rows-union_arms-requires : goal.structure_rows-union_arms-requires
structure_rows-union_arms-requires t c =
    let program = c.args.source.now.program.now in
    let s = c.index-as_slice-id.result in
    let has = read_at c.as_slice.result.now program.structures c.args.id.0 s c.as_slice.ensures.items c.requires.there c.index-as_slice-id.is in
    let same = c.as_slice-fields.ensures.items in
    let few = (c.requires.source.settled.structures c.args.id s has).few_fields in
    let shallow = shallow_fields program c.args.id.0 c.args.depth s c.as_slice-fields.result.now c.requires.source.settled has c.requires.shallow same in
    let flat = fields-flat program c.args.id s c.as_slice-fields.result.now c.requires.source.settled has same in
    let deep = λ (most : ℕ) (within : IsWithinDepth program c.args.id.0 most). shallow_fields program c.args.id.0 most s c.as_slice-fields.result.now c.requires.source.settled has within same in
    let short : length c.as_slice-fields.result.now < 2 ^ 32 = omega (arith, few, ap length same) in
    (omega arith, (c.requires.source, (c.requires.parts, (c.requires.served, (c.requires.around, (c.requires.here, ((s, has, sym same), (short, (shallow, (flat, deep))))))))))

pub structure_rows-returns-then-structure-clause-rows : goal.structure_rows-returns-then-structure-clause-rows
structure_rows-returns-then-structure-clause-rows t c =
    let program = c.args.source.now.program.now in
    let first = first_of c.args.source.now in
    let walks = c.union_arms.new.parts.walks.items in
    let deep = IsWithinDepth program c.args.id.0 in
    subst (AreRows first walks deep) (sym c.in_ok-add_row.ensures)
    (rows-add first walks deep c.in_ok-rows.rows.items c.in_ok-row.row (subst (AreRows first walks deep) (sym c.in_ok-rows.ensures) (rows-note first walks deep c.index-as_slice-id-2.result.size c.args.chain))
    (switch-some first walks deep (IsDescExpr program c.args.source.now.layouts.now (around_of c.args.inner) c.args.desc.now) c.in_ok-arms.arms c.in_ok-row.row c.in_ok-arms.ensures.arms c.in_ok-row.ensures.row))

pub structure_rows-add_fields-requires : goal.structure_rows-add_fields-requires
structure_rows-add_fields-requires t c =
    let program = c.args.source.now.program.now in
    let planes = c.args.source.now.layouts.now.structures in
    let s = c.index-as_slice-id.result in
    let plane = c.index-as_slice-id-2.result in
    let settled = c.requires.source.settled in
    let has = read_at c.as_slice.result.now program.structures c.args.id.0 s c.as_slice.ensures.items c.requires.there c.index-as_slice-id.is in
    let all = c.requires.source.laid.structures.all in
    let there : c.args.id.0 < length planes = omega (arith, all, c.requires.there) in
    let laid = read_at c.as_slice-2.result.now planes c.args.id.0 plane c.as_slice-2.ensures.items there c.index-as_slice-id-2.is in
    let same = c.as_slice-fields.ensures.items in
    let few = (settled.structures c.args.id s has).few_fields in
    let within = IsWithinDepth program c.args.id.0 in
    let shallow = shallow_fields program c.args.id.0 c.args.depth s c.as_slice-fields.result.now settled has c.requires.shallow same in
    let flat = fields-flat program c.args.id s c.as_slice-fields.result.now settled has same in
    let deep = λ (most : ℕ) (h : within most). shallow_fields program c.args.id.0 most s c.as_slice-fields.result.now settled has h same in
    let short : length c.as_slice-fields.result.now < 2 ^ 32 = omega (arith, few, ap length same) in
    let spots : length c.as_slice-spots.result.now ≡ length c.as_slice-fields.result.now =
    ap length c.as_slice-spots.ensures.items ∙ sym (spots-long program planes c.requires.source.laid.structures c.args.id s plane has laid c.if-structure.false) ∙ sym (ap length same) in
    let rows = subst (AreRows (first_of c.args.source.now) c.args.parts.now.walks.items within) (sym c.in_ok-rows.ensures) (rows-note (first_of c.args.source.now) c.args.parts.now.walks.items within plane.size c.args.chain) in (
      omega arith,
      (
        c.requires.source,
        (c.requires.parts, (c.requires.served, (c.requires.around, (c.requires.here, ((s, has, sym same), (short, (spots, (shallow, (flat, (deep, rows)))))))))),
      ),
    )

pub type_row-overflow_sub-depth : goal.type_row-overflow_sub-depth
type_row-overflow_sub-depth t c = (node_within c.args.source.now.program.now c.args.ty.now c.in-Node.id c.in-Node.desc c.args.depth c.requires.shallow c.in-Node.is).1

pub type_row-part_walk-requires : goal.type_row-part_walk-requires
type_row-part_walk-requires t c =
    let inner = node_within c.args.source.now.program.now c.args.ty.now c.in-Node.id c.in-Node.desc c.args.depth c.requires.shallow c.in-Node.is in
    (omega (arith, inner.1), (c.requires.source, (c.requires.parts, (c.requires.served, (subst (IsPlaced c.args.source.now.program.now c.args.lies) c.in-Node.is c.requires.placed, (inner.0, inner.2))))))

pub type_row-returns-in-Str-clause-row : goal.type_row-returns-in-Str-clause-row
type_row-returns-in-Str-clause-row t c =
    row-pointer (first_of c.args.source.now) c.args.parts.now.walks.items (HoldsWithinDepth c.args.source.now.program.now c.args.ty.now) c.string_row.result c.string_row.ensures.row

pub type_row-returns-in_ok-walk-in-Node-clause-row : goal.type_row-returns-in_ok-walk-in-Node-clause-row
type_row-returns-in_ok-walk-in-Node-clause-row t c =
    let program = c.args.source.now.program.now in
    sub-row (first_of c.args.source.now) c.part_walk.new.parts.walks.items (HoldsWithinDepth program c.args.ty.now) program c.in-Node.id.0 c.args.offset
    (λ depth deep. let inner = node_within program c.args.ty.now c.in-Node.id c.in-Node.desc depth deep c.in-Node.is in (inner.1, inner.2)) c.in_ok-walk-in-Node.walk c.sub_row.result c.sub_row.ensures
    c.in_ok-walk-in-Node.ensures.walk

pub type_row-returns-in_ok-row-in-Arr-clause-row : goal.type_row-returns-in_ok-row-in-Arr-clause-row
type_row-returns-in_ok-row-in-Arr-clause-row t c =
    let program = c.args.source.now.program.now in
    let elem = c.get.result.now in
    let is : out-Ty c.args.ty.now ≡ part.Arr c.in-Arr.n elem = ap out-Ty c.in-Arr.is ∙ outs-Arr c.in-Arr.n c.in-Arr.elem ∙ ap (part.Arr c.in-Arr.n) (sym c.get.ensures) in
    rep-row (first_of c.args.source.now) c.type_row.new.parts.walks.items (HoldsWithinDepth program elem) (HoldsWithinDepth program c.args.ty.now)
    (λ depth deep node held. deep node (held-array c.args.ty.now elem c.in-Arr.n is ∙ held)) c.args.offset c.in-Arr.n c.size_of-size.result c.in_ok-row-in-Arr.row c.rep_row.result
    c.in_ok-row-in-Arr.ensures.row c.rep_row.ensures

pub type_row-returns-in_ok-row-in-Tail-clause-row : goal.type_row-returns-in_ok-row-in-Tail-clause-row
type_row-returns-in_ok-row-in-Tail-clause-row t c =
    let program = c.args.source.now.program.now in
    let elem = c.get-in-Tail.result.now in
    let is : out-Ty c.args.ty.now ≡ part.Tail c.in-Tail.len elem = ap out-Ty c.in-Tail.is ∙ outs-Tail c.in-Tail.len c.in-Tail.elem ∙ ap (part.Tail c.in-Tail.len) (sym c.get-in-Tail.ensures) in
    tail-row (first_of c.args.source.now) c.type_row-in-Tail.new.parts.walks.items (HoldsWithinDepth program elem) (HoldsWithinDepth program c.args.ty.now)
    (λ depth deep node held. deep node (held-tail c.args.ty.now elem c.in-Tail.len is ∙ held))
    (λ e. c.in_ok-row-in-Tail.row ≢ None → IsRowExpr program c.args.source.now.layouts.now (around_of c.args.lies.around) c.in-Tail.len e) c.args.offset c.size_of-size-in-Tail.result c.in_ok-row-in-Tail.row c.tail_row.result
    c.in_ok-row-in-Tail.ensures.row c.tail_row.ensures

pub union_arms-loop-i-preserved : goal.union_arms-loop-i-preserved
union_arms-loop-i-preserved t c =
    let program = c.args.source.now.program.now in
    let first = first_of c.args.source.now in
    let f = c.index-fields-i.result in
    let walks = c.type_row.new.parts.walks.items in
    let deep = IsWithinDepth program c.args.id.0 in
    let P = IsArm first walks deep in
    let deeper : (depth : _) → deep depth → HoldsWithinDepth program f.ty depth =
    λ depth within. subst (λ g. HoldsWithinDepth program g.ty depth) (sym c.index-fields-i.is) (c.requires.deep depth within c.loop-i.i f c.loop-i-test.true) in
    record {
      grows = grows-on program c.args.parts.now c.loop-i.parts c.type_row.new.parts c.loop-i.invariant.grows c.in_ok-row.ensures.grows;
      served = c.in_ok-row.ensures.served;
      counts =
          let named = arms_name c.loop-i.arms.items in
          let more = parts_of c.in_ok-row.row in
          counts-after c.args.source.now deep (λ n. n) c.args.parts.now c.type_row.new.parts [] (named ++ more) (arms_name c.push.new.self.items)
          (ap arms_name c.in_ok-push.ensures.items ∙ arms-add c.loop-i.arms.items c.in_ok-made.made c.in_ok-row.row c.in_ok-made.ensures.row)
          (counts-on c.args.source.now deep c.args.parts.now c.loop-i.parts c.type_row.new.parts [] named more c.loop-i.invariant.counts
          (counts-deeper c.args.source.now (HoldsWithinDepth program f.ty) (λ n. n) c.loop-i.parts c.type_row.new.parts deep [] more deeper
          (counts-site c.args.source.now (HoldsWithinDepth program f.ty) c.in_field-lies.result.site c.loop-i.parts c.type_row.new.parts _ [] more c.in_field-lies.ensures.site c.in_ok-row.ensures.counts)));
      serves =
          arms-step c.args.source.now c.loop-i.parts c.type_row.new.parts c.in_ok-row.ensures.grows c.args.inner c.args.fields.now c.loop-i.i c.loop-i.arms.items c.push.new.self.items f c.in_ok-made.made
          c.in_ok-row.row c.loop-i.invariant.serves c.loop-i-test.true c.index-fields-i.is c.in_ok-made.ensures.active c.in_ok-made.ensures.row
          (subst (λ a. ServesType c.args.source.now walks a f.ty 0 c.in_ok-row.row) c.in_field-lies.ensures.around c.in_ok-row.ensures.serves) c.in_ok-push.ensures.items;
      arms =
          subst (All P) (sym c.in_ok-push.ensures.items)
          (All-append P c.loop-i.arms.items (c.in_ok-made.made ∷ []) (arms-on first program c.loop-i.parts c.type_row.new.parts c.in_ok-row.ensures.grows deep c.loop-i.arms.items c.loop-i.invariant.arms)
          (All-cons P c.in_ok-made.made []
          (subst (λ o. IfSome o (IsRow first walks deep)) (sym c.in_ok-made.ensures.row)
          (some-deeper first walks (HoldsWithinDepth program f.ty) deep deeper c.in_ok-row.row c.in_ok-row.ensures.row)) (All-nil P)));
    }

pub union_arms-type_row-requires : goal.union_arms-type_row-requires
union_arms-type_row-requires t c =
    let f = c.index-fields-i.result in
    let shallow = subst (λ g. HoldsWithinDepth c.args.source.now.program.now g.ty c.args.depth) (sym c.index-fields-i.is) (c.requires.shallow c.loop-i.i f c.loop-i-test.true) in
    let flat = subst (λ g. dimensions g.ty ≤ 4) (sym c.index-fields-i.is) (c.requires.flat c.loop-i.i f c.loop-i-test.true) in
    let within : c.loop-i.i < length c.requires.fields.0.fields = omega (arith, c.loop-i-test.true, ap length c.requires.fields.2) in
    let got = read_at c.args.fields.now c.requires.fields.0.fields c.loop-i.i f (sym c.requires.fields.2) within c.index-fields-i.is in
    let placed =
    field-placed c.args.source.now.program.now c.in_field-lies.result c.args.inner c.args.id c.requires.fields.0 f c.loop-i.i c.in_field-lies.ensures.around c.in_field-lies.ensures.site c.requires.around c.requires.here
    c.requires.fields.1 got in
    let typed = of_field c.args.id c.requires.fields.0 f c.requires.fields.1 (contains-at c.requires.fields.0.fields c.loop-i.i f got) in
    (omega (arith, flat), (c.requires.source, (c.loop-i.invariant.grows.are, (c.loop-i.invariant.served, (placed, (typed, (shallow, flat)))))))

-- ---- what rows serve

pub add_fields-loop-i-init : goal.add_fields-loop-i-init
add_fields-loop-i-init t c = record {
  grows = grows-not c.args.source.now.program.now c.args.parts.now c.requires.parts;
  served = c.requires.served;
  counts = counts-not c.args.source.now (IsWithinDepth c.args.source.now.program.now c.args.id.0) (λ n. n) (flat_map parts_in c.args.rows.now.items) c.args.parts.now (λ n. omega arith);
  adds = fields-begin c.args.source.now c.args.parts.now.walks.items c.args.inner c.args.fields.now c.args.spots.now c.args.rows.now.items;
  rows = c.requires.rows;
}

pub add_fields-returns-clause-adds : goal.add_fields-returns-clause-adds
add_fields-returns-clause-adds t c =
    fields-end c.args.source.now c.loop-i.parts.walks.items c.args.inner c.args.fields.now c.args.spots.now c.loop-i.i c.args.rows.now.items c.loop-i.rows.items c.loop-i.invariant.adds c.loop-i-test.false c.requires.spots

pub union_arms-returns-clause-serves : goal.union_arms-returns-clause-serves
union_arms-returns-clause-serves t c =
    arms-end c.args.source.now c.loop-i.parts.walks.items c.args.inner c.args.fields.now c.loop-i.i c.loop-i.arms.items c.loop-i.invariant.serves c.loop-i-test.false

pub structure_rows-returns-then-structure-clause-serves : goal.structure_rows-returns-then-structure-clause-serves
structure_rows-returns-then-structure-clause-serves t c =
    let program = c.args.source.now.program.now in
    let planes = c.args.source.now.layouts.now.structures in
    let s = c.index-as_slice-id.result in
    let plane = c.index-as_slice-id-2.result in
    let has = read_at c.as_slice.result.now program.structures c.args.id.0 s c.as_slice.ensures.items c.requires.there c.index-as_slice-id.is in
    let all = c.requires.source.laid.structures.all in
    let there : c.args.id.0 < length planes = omega (arith, all, c.requires.there) in
    let laid = read_at c.as_slice-2.result.now planes c.args.id.0 plane c.as_slice-2.ensures.items there c.index-as_slice-id-2.is in
    union-serves c.args.source.now c.union_arms.new.parts.walks.items c.args.inner c.args.id c.args.desc.now s c.in_ok-arms.arms c.args.chain plane c.as_slice-fields.result.now c.in_ok-row.row c.in_ok-rows.rows.items
    c.add_row.new.rows.items has c.if-structure.true laid c.as_slice-fields.ensures.items c.in_ok-rows.ensures c.in_ok-add_row.ensures c.in_ok-row.ensures.row c.in_ok-row.ensures.some c.in_ok-row.ensures.none c.in_ok-arms.ensures.serves

pub structure_rows-returns-clause-serves : goal.structure_rows-returns-clause-serves
structure_rows-returns-clause-serves t c =
    let program = c.args.source.now.program.now in
    let planes = c.args.source.now.layouts.now.structures in
    let s = c.index-as_slice-id.result in
    let plane = c.index-as_slice-id-2.result in
    let has = read_at c.as_slice.result.now program.structures c.args.id.0 s c.as_slice.ensures.items c.requires.there c.index-as_slice-id.is in
    let all = c.requires.source.laid.structures.all in
    let there : c.args.id.0 < length planes = omega (arith, all, c.requires.there) in
    let laid = read_at c.as_slice-2.result.now planes c.args.id.0 plane c.as_slice-2.ensures.items there c.index-as_slice-id-2.is in
    struct-serves c.args.source.now c.add_fields.new.parts.walks.items c.args.inner c.args.id c.args.desc.now c.args.chain s plane c.as_slice-fields.result.now c.as_slice-spots.result.now c.in_ok-rows.rows.items
    c.add_fields.new.rows.items has c.if-structure.false laid c.as_slice-fields.ensures.items c.as_slice-spots.ensures.items c.in_ok-rows.ensures c.in_ok-add_fields.ensures.adds

-- a part is known from then on wherever it lies
pub part_walk-structure_rows-requires : goal.part_walk-structure_rows-requires
part_walk-structure_rows-requires t c =
    let around = around_of c.args.lies.around in
    let is = entered c.args.source.now.program.now c.args.lies c.args.id c.args.desc.now c.enter-inner.result c.requires.placed c.requires.there c.enter-inner.ensures in
    let here = entered-here c.enter-inner.result around c.args.id c.enter-inner.ensures in
    (omega arith, (c.requires.source, (c.requires.parts, (c.requires.served, (is, (here, (c.requires.there, c.requires.shallow)))))))

pub part_walk-returns-in-Some-clause-serves : goal.part_walk-returns-in-Some-clause-serves
part_walk-returns-in-Some-clause-serves t c =
    let known = c.in-Some.ensures.known in
    c.requires.served.known known.0 c.in-Some.known c.args.lies c.args.id c.args.desc.now known.2 (sym c.part_of-part.ensures.part ∙ known.1) c.requires.placed

pub part_walk-returns-clause-serves : goal.part_walk-returns-clause-serves
part_walk-returns-clause-serves t c =
    let source = c.args.source.now in
    let rows = c.in_ok-rows.rows.items in
    if-both (Keeps c.first_part.result c.part_of-part.result rows c.structure_rows.new.parts c.keep.new.self) (λ walk. walk ≡ None → length rows ≤ 1)
    (ServesPart source c.keep.new.self.walks.items c.args.lies.around c.args.id c.args.desc.now) c.keep.result
    (λ walk keeps few.
    kept-serves source c.requires.source c.first_part.result c.first_part.ensures c.args.lies c.args.id c.args.desc.now c.part_of-part.result rows c.structure_rows.new.parts c.keep.new.self c.enter-inner.result
    c.enter-inner.ensures walk keeps few c.in_ok-rows.ensures.serves) c.keep.ensures.keeps c.keep.ensures.bare

pub part_walk-returns-clause-served : goal.part_walk-returns-clause-served
part_walk-returns-clause-served t c =
    let source = c.args.source.now in
    let rows = c.in_ok-rows.rows.items in
    on-both (Keeps c.first_part.result c.part_of-part.result rows c.structure_rows.new.parts c.keep.new.self) (λ walk. walk ≡ None → length rows ≤ 1) (AreServed source c.keep.new.self) c.keep.result
    (λ walk keeps few.
    kept-served source c.requires.source c.first_part.result c.first_part.ensures c.args.lies c.args.id c.args.desc.now c.part_of-part.result rows c.structure_rows.new.parts c.keep.new.self c.enter-inner.result
    c.enter-inner.ensures walk keeps c.part_of-part.ensures.part c.requires.placed c.in_ok-rows.ensures.served
    (kept-serves source c.requires.source c.first_part.result c.first_part.ensures c.args.lies c.args.id c.args.desc.now c.part_of-part.result rows c.structure_rows.new.parts c.keep.new.self c.enter-inner.result
    c.enter-inner.ensures walk keeps few c.in_ok-rows.ensures.serves)) c.keep.ensures.keeps c.keep.ensures.bare

-- the elements of an array lie where it does
pub type_row-type_row-requires : goal.type_row-type_row-requires
type_row-type_row-requires t c =
    let program = c.args.source.now.program.now in
    let elem = c.get.result.now in
    let is : out-Ty c.args.ty.now ≡ part.Arr c.in-Arr.n elem = ap out-Ty c.in-Arr.is ∙ outs-Arr c.in-Arr.n c.in-Arr.elem ∙ ap (part.Arr c.in-Arr.n) (sym c.get.ensures) in
    let more = array-dimensions c.args.ty.now elem c.in-Arr.n is in
    let shallow = λ (node : TypeId) (held : held_by elem ≡ Some node). c.requires.shallow node (held-array c.args.ty.now elem c.in-Arr.n is ∙ held) in
    let flat : dimensions elem ≤ 4 = omega (arith, more, c.requires.flat) in
    let placed = element-placed program c.args.lies c.args.ty.now elem (innermost-array c.args.ty.now elem c.in-Arr.n is) c.requires.placed in
    (omega (arith, more), (c.requires.source, (c.requires.parts, (c.requires.served, (placed, (of_array c.requires.typed is, (shallow, flat)))))))

pub type_row-type_row-requires-in-Tail : goal.type_row-type_row-requires-in-Tail
type_row-type_row-requires-in-Tail t c =
    let program = c.args.source.now.program.now in
    let elem = c.get-in-Tail.result.now in
    let is : out-Ty c.args.ty.now ≡ part.Tail c.in-Tail.len elem = ap out-Ty c.in-Tail.is ∙ outs-Tail c.in-Tail.len c.in-Tail.elem ∙ ap (part.Tail c.in-Tail.len) (sym c.get-in-Tail.ensures) in
    let more = tail-dimensions c.args.ty.now elem c.in-Tail.len is in
    let shallow = λ (node : TypeId) (held : held_by elem ≡ Some node). c.requires.shallow node (held-tail c.args.ty.now elem c.in-Tail.len is ∙ held) in
    let flat : dimensions elem ≤ 4 = omega (arith, more, c.requires.flat) in
    let placed = element-placed program c.args.lies c.args.ty.now elem (innermost-tail c.args.ty.now elem c.in-Tail.len is) c.requires.placed in
    (omega (arith, more), (c.requires.source, (c.requires.parts, (c.requires.served, (placed, (of_tail c.requires.typed is, (shallow, flat)))))))

-- rows of each form of type serve it
pub type_row-returns-in-Num-clause-serves : goal.type_row-returns-in-Num-clause-serves
type_row-returns-in-Num-clause-serves t c tables h =
    let Row = λ (type : Ty). IsRowOf c.args.source.now.program.now c.args.source.now.layouts.now tables (around_of c.args.lies.around) type c.args.offset None in
    elim c.in-Num.is as (λ w. Row c.args.ty.now) [
      | inl num ↦ subst Row (sym num.1) number
      | inr other ↦ elim other as (λ w. Row c.args.ty.now) [
        | inl bit ↦ subst Row (sym bit.2) bits
        | inr bytes ↦ subst Row (sym bytes.2) opaque
      ]
    ]

pub type_row-returns-in-Str-clause-serves : goal.type_row-returns-in-Str-clause-serves
type_row-returns-in-Str-clause-serves t c tables h =
    subst (λ type. IsRowOf c.args.source.now.program.now c.args.source.now.layouts.now tables (around_of c.args.lies.around) type c.args.offset (Some c.string_row.result)) (sym c.in-Str.is)
    (pointer (c.string_row.ensures.serves (around_of c.args.lies.around) c.in-Str.field-0))

pub type_row-returns-in-Ptr-clause-serves : goal.type_row-returns-in-Ptr-clause-serves
type_row-returns-in-Ptr-clause-serves t c =
    let program = c.args.source.now.program.now in
    let layouts = c.args.source.now.layouts.now in
    let around = around_of c.args.lies.around in
    let type = Ptr c.in-Ptr.target c.in-Ptr.kind c.in-Ptr.reorder in
    if-ok (IsPointerRow program layouts around type c.args.offset) (ServesType c.args.source.now c.args.parts.now.walks.items c.args.lies.around c.args.ty.now c.args.offset) c.pointer_row.result
    (λ made is tables h. subst (λ type. IsRowOf program layouts tables around type c.args.offset made) (sym c.in-Ptr.is) (pointer is)) c.pointer_row.ensures.serves

pub type_row-returns-in_ok-walk-in-Node-clause-serves : goal.type_row-returns-in_ok-walk-in-Node-clause-serves
type_row-returns-in_ok-walk-in-Node-clause-serves t c =
    let walks = c.part_walk.new.parts.walks.items in
    subst (λ type. ServesType c.args.source.now walks c.args.lies.around type c.args.offset c.sub_row.result) (sym c.in-Node.is)
    (sub-serves c.args.source.now walks c.args.lies.around c.in-Node.id c.in-Node.desc c.args.offset c.in_ok-walk-in-Node.walk c.sub_row.result c.sub_row.ensures c.in_ok-walk-in-Node.ensures.serves)

pub type_row-returns-in_ok-row-in-Arr-clause-serves : goal.type_row-returns-in_ok-row-in-Arr-clause-serves
type_row-returns-in_ok-row-in-Arr-clause-serves t c =
    let source = c.args.source.now in
    let walks = c.type_row.new.parts.walks.items in
    let elem = c.get.result.now in
    let row = c.in_ok-row-in-Arr.row in
    let is : out-Ty c.args.ty.now ≡ part.Arr c.in-Arr.n elem = ap out-Ty c.in-Arr.is ∙ outs-Arr c.in-Arr.n c.in-Arr.elem ∙ ap (part.Arr c.in-Arr.n) (sym c.get.ensures) in
    let same : c.get-in-Arr.result.now ≡ elem = c.get-in-Arr.ensures ∙ sym c.get.ensures in
    let typed = subst (IsTypeIn source.program.now) (sym same) (of_array c.requires.typed is) in
    let long = c.size_of-size.ensures.size source.program.now c.requires.source.settled c.requires.source.laid c.requires.source.within typed ∙ ap (λ e. (extent_of source.layouts.now.structures e).size) same in
    if-ok (λ made. made ≡ option_map (Rep c.args.offset c.in-Arr.n c.size_of-size.result) row) (ServesType source walks c.args.lies.around c.args.ty.now c.args.offset) c.rep_row.result
    (λ made made-is. array-serves source walks c.args.lies.around c.args.ty.now elem c.in-Arr.n c.args.offset c.size_of-size.result row made is long made-is c.in_ok-row-in-Arr.ensures.serves) c.rep_row.ensures

pub type_row-returns-in_ok-row-in-Tail-clause-serves : goal.type_row-returns-in_ok-row-in-Tail-clause-serves
type_row-returns-in_ok-row-in-Tail-clause-serves t c =
    let source = c.args.source.now in
    let around = c.args.lies.around in
    let walks = c.type_row-in-Tail.new.parts.walks.items in
    let elem = c.get-in-Tail.result.now in
    let row = c.in_ok-row-in-Tail.row in
    let size = c.size_of-size-in-Tail.result in
    let is : out-Ty c.args.ty.now ≡ part.Tail c.in-Tail.len elem = ap out-Ty c.in-Tail.is ∙ outs-Tail c.in-Tail.len c.in-Tail.elem ∙ ap (part.Tail c.in-Tail.len) (sym c.get-in-Tail.ensures) in
    let same : c.get-in-Tail-2.result.now ≡ elem = c.get-in-Tail-2.ensures ∙ sym c.get-in-Tail.ensures in
    let typed = subst (IsTypeIn source.program.now) (sym same) (of_tail c.requires.typed is) in
    let long = c.size_of-size-in-Tail.ensures.size source.program.now c.requires.source.settled c.requires.source.laid c.requires.source.within typed ∙ ap (λ e. (extent_of source.layouts.now.structures e).size) same in
    if-ok (λ made. (e : RowExpr) × (made ≡ option_map (Tail c.args.offset e size) row) × (row ≢ None → IsRowExpr source.program.now source.layouts.now (around_of around) c.in-Tail.len e) × (row ≢ None → IsOrdered e))
    (ServesType source walks around c.args.ty.now c.args.offset) c.tail_row.result
    (λ made h. tail-serves source walks around c.args.ty.now elem c.in-Tail.len c.args.offset size row made is long (h.0, h.1, h.2) c.in_ok-row-in-Tail.ensures.serves) c.tail_row.ensures

-- what looking at a part, or at the elements of an array, adds
pub part_walk-returns-clause-counts : goal.part_walk-returns-clause-counts
part_walk-returns-clause-counts t c =
    let source = c.args.source.now in
    let program = source.program.now in
    let rows = c.in_ok-rows.rows.items in
    let mid = c.structure_rows.new.parts in
    let new = c.keep.new.self in
    let part = c.part_of-part.result in
    let none : c.get.result ≡ None = search rules in
    let made = c.in_ok-rows.ensures.serves in
    if-kept (Keeps c.first_part.result part rows mid new) (λ walk. walk ≡ None → length rows ≤ 1)
    (λ walk. Counts source (HoldsWithinDepth program (node.Node c.args.id c.args.desc.now)) (with_site c.args.lies.site) [] (option_to_list walk) c.args.parts.now new) (Stays part mid new) c.keep.result
    (λ walk keeps few stays.
    part-counts source c.requires.source c.args.lies c.args.id c.args.desc.now c.args.depth c.first_part.result part rows c.args.parts.now mid new walk made.plane made.rest made.is c.first_part.ensures c.requires.placed c.requires.there c.requires.shallow
    c.part_of-part.ensures.part c.part_of-part.ensures.node (c.get.ensures.unknown none) c.in_ok-rows.ensures.counts keeps few
    (λ w is. kept-walked source c.requires.source c.first_part.result c.first_part.ensures c.args.lies c.args.id c.args.desc.now part rows mid new c.enter-inner.result c.enter-inner.ensures walk keeps w is c.in_ok-rows.ensures.serves)
    stays) c.keep.ensures.keeps c.keep.ensures.bare c.keep.ensures.stays

pub part_walk-returns-in-Some-clause-counts : goal.part_walk-returns-in-Some-clause-counts
part_walk-returns-in-Some-clause-counts t c =
    counts-known c.args.source.now (HoldsWithinDepth c.args.source.now.program.now (node.Node c.args.id c.args.desc.now)) (with_site c.args.lies.site) c.args.parts.now c.part_of-part.result c.in-Some.known
    (λ n. with-more c.args.lies.site n) c.in-Some.ensures.known

pub type_row-returns-in-Num-clause-counts : goal.type_row-returns-in-Num-clause-counts
type_row-returns-in-Num-clause-counts t c =
    counts-not c.args.source.now (HoldsWithinDepth c.args.source.now.program.now c.args.ty.now) (with_site c.args.lies.site) [] c.args.parts.now (λ n. with-more c.args.lies.site n)

pub type_row-returns-in-Str-clause-counts : goal.type_row-returns-in-Str-clause-counts
type_row-returns-in-Str-clause-counts t c =
    counts-bare c.args.source.now (HoldsWithinDepth c.args.source.now.program.now c.args.ty.now) (with_site c.args.lies.site) (parts_in c.string_row.result) c.args.parts.now (λ n. with-more c.args.lies.site n)
    c.string_row.ensures.row.parts

pub type_row-returns-in-Ptr-clause-counts : goal.type_row-returns-in-Ptr-clause-counts
type_row-returns-in-Ptr-clause-counts t c =
    let deep = HoldsWithinDepth c.args.source.now.program.now c.args.ty.now in
    let first = first_of c.args.source.now in
    if-ok (λ made. IfSome made (NamesBlocks first)) (λ made. Counts c.args.source.now deep (with_site c.args.lies.site) [] (parts_of made) c.args.parts.now c.args.parts.now) c.pointer_row.result
    (λ made is. counts-bare c.args.source.now deep (with_site c.args.lies.site) (parts_of made) c.args.parts.now (λ n. with-more c.args.lies.site n) (pointer-none first made is)) c.pointer_row.ensures.row

pub type_row-returns-in_ok-walk-in-Node-clause-counts : goal.type_row-returns-in_ok-walk-in-Node-clause-counts
type_row-returns-in_ok-walk-in-Node-clause-counts t c =
    let program = c.args.source.now.program.now in
    let old = c.args.parts.now in
    let new = c.part_walk.new.parts in
    let walk = c.in_ok-walk-in-Node.walk in
    let named = parts_of c.sub_row.result in
    subst (λ type. Counts c.args.source.now (HoldsWithinDepth program type) (with_site c.args.lies.site) [] named old new) (sym c.in-Node.is)
    (counts-after c.args.source.now (HoldsWithinDepth program (node.Node c.in-Node.id c.in-Node.desc)) (with_site c.args.lies.site) old new [] (option_to_list walk) named
    (ap parts_of c.sub_row.ensures ∙ sub-named c.args.offset walk) c.in_ok-walk-in-Node.ensures.counts)

pub type_row-returns-in_ok-row-in-Arr-clause-counts : goal.type_row-returns-in_ok-row-in-Arr-clause-counts
type_row-returns-in_ok-row-in-Arr-clause-counts t c =
    let source = c.args.source.now in
    let program = source.program.now in
    let elem = c.get.result.now in
    let row = c.in_ok-row-in-Arr.row in
    let size = c.size_of-size.result in
    let old = c.args.parts.now in
    let new = c.type_row.new.parts in
    let is : out-Ty c.args.ty.now ≡ part.Arr c.in-Arr.n elem = ap out-Ty c.in-Arr.is ∙ outs-Arr c.in-Arr.n c.in-Arr.elem ∙ ap (part.Arr c.in-Arr.n) (sym c.get.ensures) in
    let deep = HoldsWithinDepth program c.args.ty.now in
    let inner = HoldsWithinDepth program elem in
    if-ok (λ made. made ≡ option_map (Rep c.args.offset c.in-Arr.n size) row) (λ made. Counts source deep (with_site c.args.lies.site) [] (parts_of made) old new) c.rep_row.result
    (λ made made-is.
    counts-deeper source inner (with_site c.args.lies.site) old new deep [] (parts_of made) (λ depth holds node held. holds node (held-array c.args.ty.now elem c.in-Arr.n is ∙ held))
    (counts-after source inner (with_site c.args.lies.site) old new [] (parts_of row) (parts_of made) (ap parts_of made-is ∙ rep-named c.args.offset c.in-Arr.n size row) c.in_ok-row-in-Arr.ensures.counts)) c.rep_row.ensures

pub type_row-returns-in_ok-row-in-Tail-clause-counts : goal.type_row-returns-in_ok-row-in-Tail-clause-counts
type_row-returns-in_ok-row-in-Tail-clause-counts t c =
    let source = c.args.source.now in
    let program = source.program.now in
    let elem = c.get-in-Tail.result.now in
    let row = c.in_ok-row-in-Tail.row in
    let size = c.size_of-size-in-Tail.result in
    let old = c.args.parts.now in
    let new = c.type_row-in-Tail.new.parts in
    let is : out-Ty c.args.ty.now ≡ part.Tail c.in-Tail.len elem = ap out-Ty c.in-Tail.is ∙ outs-Tail c.in-Tail.len c.in-Tail.elem ∙ ap (part.Tail c.in-Tail.len) (sym c.get-in-Tail.ensures) in
    let deep = HoldsWithinDepth program c.args.ty.now in
    let inner = HoldsWithinDepth program elem in
    if-ok (λ made. (e : RowExpr) × (made ≡ option_map (Tail c.args.offset e size) row) × (row ≢ None → IsRowExpr program source.layouts.now (around_of c.args.lies.around) c.in-Tail.len e) × (row ≢ None → IsOrdered e))
    (λ made. Counts source deep (with_site c.args.lies.site) [] (parts_of made) old new) c.tail_row.result
    (λ made h.
    counts-deeper source inner (with_site c.args.lies.site) old new deep [] (parts_of made) (λ depth holds node held. holds node (held-tail c.args.ty.now elem c.in-Tail.len is ∙ held))
    (counts-after source inner (with_site c.args.lies.site) old new [] (parts_of row) (parts_of made) (ap parts_of h.1 ∙ tail-named c.args.offset h.0 size row) c.in_ok-row-in-Tail.ensures.counts)) c.tail_row.ensures

-- what the rows of a structure name, its arms or its fields do
pub structure_rows-returns-then-structure-clause-counts : goal.structure_rows-returns-then-structure-clause-counts
structure_rows-returns-then-structure-clause-counts t c =
    let source = c.args.source.now in
    let arms = c.in_ok-arms.arms in
    let row = c.in_ok-row.row in
    let named = noted-parts c.index-as_slice-id-2.result.size c.args.chain row c.in_ok-rows.rows.items c.add_row.new.rows.items c.in_ok-rows.ensures c.in_ok-add_row.ensures in
    let union = switch-named (IsDescExpr source.program.now source.layouts.now (around_of c.args.inner) c.args.desc.now) row arms c.in_ok-row.ensures.row c.in_ok-row.ensures.none in
    counts-after source (IsWithinDepth source.program.now c.args.id.0) (λ n. n) c.args.parts.now c.union_arms.new.parts [] (arms_name arms.items) (flat_map parts_in c.add_row.new.rows.items) (named ∙ union)
    c.in_ok-arms.ensures.counts

pub structure_rows-returns-clause-counts : goal.structure_rows-returns-clause-counts
structure_rows-returns-clause-counts t c =
    let source = c.args.source.now in
    let none = note-none c.index-as_slice-id-2.result.size c.args.chain in
    counts-before source (IsWithinDepth source.program.now c.args.id.0) (λ n. n) c.args.parts.now c.add_fields.new.parts (flat_map parts_in c.in_ok-rows.rows.items) [] (flat_map parts_in c.add_fields.new.rows.items)
    (sym (ap (λ l. flat_map parts_in l) c.in_ok-rows.ensures ∙ none)) c.in_ok-add_fields.ensures.counts
