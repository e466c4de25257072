use Rattle.std.proofs.Common.{◌≡◌, ◌∙◌, Some, length, ap, refl, arith}
use Rattle.std.specs.Prelude.{slice_get}
use Rattle.gt_tables.proofs.Readers.{more-read, reads-told, told-kept}
use Rattle.gt_layout.proofs.Laying.{field_within, read_at}
use Rattle.gt_tables.proofs.naming.+readers.Goals as goal

pub reads-held_reads-inside-requires : goal.reads-held_reads-inside-requires
reads-held_reads-inside-requires t c = (
  omega arith,
  (
    c.requires.settled,
    (
      c.loop-field.invariant.all ∙ c.requires.all,
      (
        field_within c.args.program.now c.args.place c.args.depth c.as_slice.result.now c.index-as_slice-place.result c.as_slice-field-items.result.now c.loop-field.field-index c.field-item.result
            c.requires.settled c.as_slice.ensures.items c.requires.inside c.index-as_slice-place.is c.as_slice-field-items.ensures.items c.loop-field-test.true c.field-item.is c.requires.shallow,
        c.loop-field.invariant.told,
      ),
    ),
  ),
)

-- what is known of a structure was told
pub reads-returns-in-Some-clause-reads : goal.reads-returns-in-Some-clause-reads
reads-returns-in-Some-clause-reads t c =
    let known = c.args.known.now.items in
    let at : slice_get known c.args.place ≡ Some c.index.result.now = read_at known known c.args.place c.index.result.now refl (omega (arith, c.requires.all, c.requires.inside)) c.index.ensures in
    c.requires.told (record { 0 = c.args.place }) c.in-Some.found (at ∙ ap (λ o. Some o) c.in-Some.is)

-- one more field is gone through
pub reads-loop-field-preserved : goal.reads-loop-field-preserved
reads-loop-field-preserved t c =
    more-read c.args.program.now c.reads_itself-found.result c.as_slice-field-items.result.now c.loop-field.field-index c.field-item.result c.loop-field.found c.held_reads-inside.result c.loop-field.known.items
    c.held_reads-inside.new.known.items (length c.args.known.now.items) c.loop-field.invariant c.loop-field-test.true c.field-item.is c.held_reads-inside.ensures.all c.held_reads-inside.ensures.told
    c.held_reads-inside.ensures.reads

-- what is found in the end is so, and is kept
pub reads-returns-clause-reads : goal.reads-returns-clause-reads
reads-returns-clause-reads t c =
    let s = c.index-as_slice-place.result in
    let has : slice_get c.args.program.now.structures c.args.place ≡ Some s =
    read_at c.as_slice.result.now c.args.program.now.structures c.args.place s c.as_slice.ensures.items c.requires.inside c.index-as_slice-place.is in
    reads-told c.args.program.now c.args.place s has c.reads_itself-found.result c.loop-field.found c.as_slice-field-items.result.now c.loop-field.field-index c.loop-field.known.items
    (length c.args.known.now.items) c.reads_itself-found.ensures c.as_slice-field-items.ensures.items c.loop-field-test.false c.loop-field.invariant

pub reads-returns-clause-told : goal.reads-returns-clause-told
reads-returns-clause-told t c =
    let s = c.index-as_slice-place.result in
    let has : slice_get c.args.program.now.structures c.args.place ≡ Some s =
    read_at c.as_slice.result.now c.args.program.now.structures c.args.place s c.as_slice.ensures.items c.requires.inside c.index-as_slice-place.is in
    told-kept c.args.program.now c.loop-field.known.items c.args.place c.loop-field.found c.loop-field.invariant.told (omega (arith, c.loop-field.invariant.all, c.requires.all, c.requires.inside))
    (reads-told c.args.program.now c.args.place s has c.reads_itself-found.result c.loop-field.found c.as_slice-field-items.result.now c.loop-field.field-index c.loop-field.known.items
    (length c.args.known.now.items) c.reads_itself-found.ensures c.as_slice-field-items.ensures.items c.loop-field-test.false c.loop-field.invariant)
