use Rattle.std.proofs.Common.{◌≡◌, ◌∙◌, ◌<◌, [], ◌∷◌, length, ap, Some, get_or, arith}
use Rattle.std.specs.Prelude.{flat_map, slice_get}
use Rattle.gt_layout.proofs.Laying.{read_at}
use Rattle.gt_walk.specs.declared.rows.WalkRow.TheVariants as row
use Rattle.gt_walk.specs.Nested.{parts_in}
use Rattle.gt_tables.specs.Building.{Grows, around_of, ServesStructure, ServesWalk}
use Rattle.gt_layout.specs.Progress.{IsWithinDepth}
use Rattle.gt_tables.specs.Counting.{StaysCounted, Counts}
use Rattle.gt_tables.proofs.PartCounts.{stays-bare, stays-of}
use Rattle.gt_tables.proofs.NamedParts.{note-none}
use Rattle.gt_tables.proofs.Keeping.{on-ok, if-ok, grows-not}
use Rattle.gt_tables.proofs.Serving.{entered-alone}
use Rattle.gt_tables.proofs.ServingBlocks.{is-alone, walk-stands, walk-inner}
use Rattle.gt_tables.proofs.blocks.standing_rows.Goals as goal

pub returns-then-not-may_stand-clause-grows : goal.returns-then-not-may_stand-clause-grows
returns-then-not-may_stand-clause-grows c =
    let plane = c.index-as_slice-id-then-not-may_stand.result in
    let held = get_or c.as_slice-then-not-may_stand.result.now c.args.id.0 plane in
    on-ok (λ rows. rows.items ≡ row.Note held.size c.chain_offset-chain.result ∷ []) (Grows c.args.source.now.program.now c.args.parts.now c.args.parts.now) c.note.result
    (λ rows is. grows-not c.args.source.now.program.now c.args.parts.now c.requires.parts) c.note.ensures

pub returns-then-not-may_stand-clause-serves : goal.returns-then-not-may_stand-clause-serves
returns-then-not-may_stand-clause-serves c =
    let source = c.args.source.now in
    let program = source.program.now in
    let planes = source.layouts.now.structures in
    let s = c.index-as_slice-id.result in
    let plane = c.index-as_slice-id-then-not-may_stand.result in
    let has = read_at c.as_slice.result.now program.structures c.args.id.0 s c.as_slice.ensures.items c.requires.there c.index-as_slice-id.is in
    let all = c.requires.source.laid.structures.all in
    let there : c.args.id.0 < length planes = omega (arith, all, c.requires.there) in
    let laid = read_at c.as_slice-then-not-may_stand.result.now planes c.args.id.0 plane c.as_slice-then-not-may_stand.ensures.items there c.index-as_slice-id-then-not-may_stand.is in
    let held = get_or c.as_slice-then-not-may_stand.result.now c.args.id.0 plane in
    let held-is : slice_get planes c.args.id.0 ≡ Some held = laid ∙ ap Some c.index-as_slice-id-then-not-may_stand.is in
    if-ok (λ rows. rows.items ≡ row.Note held.size c.chain_offset-chain.result ∷ []) (λ rows. ServesWalk source c.args.parts.now.walks.items c.args.id rows.items) c.note.result
    (λ rows is.
    walk-inner source c.args.parts.now.walks.items c.args.id s held c.chain_offset-chain.result rows.items has held-is (λ may. absurd (cc (c.may_stand.ensures.1 may, c.if-not-may_stand.true))) c.chain_offset-chain.ensures.offset is)
    c.note.ensures

pub structure_rows-requires-clause-around : goal.structure_rows-requires-clause-around
structure_rows-requires-clause-around c = entered-alone c.args.source.now.program.now c.enter-inner.result (around_of c.outside.result) c.args.id c.outside.ensures c.requires.there c.enter-inner.ensures

pub returns-clause-serves : goal.returns-clause-serves
returns-clause-serves c =
    let source = c.args.source.now in
    let walks = c.structure_rows.new.parts.walks.items in
    let s = c.index-as_slice-id.result in
    let has = read_at c.as_slice.result.now source.program.now.structures c.args.id.0 s c.as_slice.ensures.items c.requires.there c.index-as_slice-id.is in
    let stands = c.may_stand.ensures.0 c.if-not-may_stand.false in
    let alone = is-alone c.enter-inner.result (around_of c.outside.result) c.args.id c.outside.ensures c.enter-inner.ensures in
    if-ok (λ rows. ServesStructure source walks c.enter-inner.result c.args.id s.desc c.chain_offset-chain.result rows.items) (λ rows. ServesWalk source walks c.args.id rows.items) c.structure_rows.result
    (λ rows serves. walk-stands source walks c.args.id s c.enter-inner.result c.chain_offset-chain.result rows.items has stands alone c.chain_offset-chain.ensures.offset serves) c.structure_rows.ensures.serves

pub returns-then-not-may_stand-clause-counted : goal.returns-then-not-may_stand-clause-counted
returns-then-not-may_stand-clause-counted c =
    let plane = c.index-as_slice-id-then-not-may_stand.result in
    let held = get_or c.as_slice-then-not-may_stand.result.now c.args.id.0 plane in
    let parts = c.args.parts.now in
    if-ok (λ rows. rows.items ≡ row.Note held.size c.chain_offset-chain.result ∷ []) (λ rows. StaysCounted c.args.source.now (flat_map parts_in rows.items) parts parts) c.note.result
    (λ rows is. stays-bare c.args.source.now (flat_map parts_in rows.items) parts (ap (λ l. flat_map parts_in l) is ∙ note-none held.size c.chain_offset-chain.result)) c.note.ensures

pub returns-clause-counted : goal.returns-clause-counted
returns-clause-counted c =
    let program = c.args.source.now.program.now in
    let old = c.args.parts.now in
    let new = c.structure_rows.new.parts in
    let deep = IsWithinDepth program c.args.id.0 in
    if-ok (λ rows. Counts c.args.source.now deep (λ n. n) [] (flat_map parts_in rows.items) old new) (λ rows. StaysCounted c.args.source.now (flat_map parts_in rows.items) old new) c.structure_rows.result
    (λ rows counts. stays-of c.args.source.now deep (flat_map parts_in rows.items) old new counts) c.structure_rows.ensures.counts
