use Rattle.std.proofs.Common.{length, ap, arith}
use Rattle.gt_markers.specs.Typing.{node}
use Rattle.gt_rules.specs.Parts.{AtPlace, StructureFaults}
use Rattle.gt_rules.proofs.FirstLemmas.{first_at_place, first_below_more, first_below_none, first_of_each}
use Rattle.gt_rules.proofs.MadeLemmas.{as_many_fields, as_many_structures, read_at, small_at}
use Rattle.gt_rules.proofs.structures.of_structures.Goals as goal

pub loop-place-init : goal.loop-place-init
loop-place-init c =
    let draft = c.args.known.draft.now in
    let program = c.args.known.program.now in
    first_below_none draft.structures (λ k ds. AtPlace program.structures k (λ s. StructureFaults draft program (node k) ds s)) c.args.earliest

pub bounds-made-place : goal.bounds-made-place
bounds-made-place c =
    omega (arith, ap length c.as_slice-structures.ensures.items, ap length c.as_slice-made.ensures.items, as_many_structures c.args.known.draft.now c.args.known.program.now c.requires.made)

pub overflow_cast-structure : goal.overflow_cast-structure
overflow_cast-structure c = omega (arith, ap length c.as_slice-structures.ensures.items, c.requires.sound.few_structures)

pub of_structure-requires-clause-small : goal.of_structure-requires-clause-small
of_structure-requires-clause-small c =
    small_at c.args.known.draft.now c.as_slice-structures.result.now c.loop-place.place c.index-structures-place.result c.requires.sound c.as_slice-structures.ensures.items (omega arith)
    c.index-structures-place.is

pub of_structure-requires-clause-same : goal.of_structure-requires-clause-same
of_structure-requires-clause-same c =
    let draft = c.args.known.draft.now in
    let program = c.args.known.program.now in
    let place = c.loop-place.place in
    let ds = c.index-structures-place.result in
    let s = c.index-made-place.result in
    as_many_fields draft program c.requires.made place ds s
    (read_at c.as_slice-structures.result.now draft.structures place ds c.as_slice-structures.ensures.items (omega arith) c.index-structures-place.is)
    (read_at c.as_slice-made.result.now program.structures place s c.as_slice-made.ensures.items
    (omega (arith, ap length c.as_slice-structures.ensures.items, ap length c.as_slice-made.ensures.items, as_many_structures draft program c.requires.made)) c.index-made-place.is)

pub loop-place-preserved : goal.loop-place-preserved
loop-place-preserved c =
    let draft = c.args.known.draft.now in
    let program = c.args.known.program.now in
    let place = c.loop-place.place in
    let ds = c.index-structures-place.result in
    let s = c.index-made-place.result in
    first_below_more draft.structures (λ k d. AtPlace program.structures k (λ s. StructureFaults draft program (node k) d s)) place ds c.args.earliest c.loop-place.earliest
    c.in_ok-earliest.earliest
    (read_at c.as_slice-structures.result.now draft.structures place ds c.as_slice-structures.ensures.items (omega arith) c.index-structures-place.is) c.loop-place.invariant
    (first_at_place program.structures place (StructureFaults draft program (node place) ds) s c.loop-place.earliest c.in_ok-earliest.earliest
    (read_at c.as_slice-made.result.now program.structures place s c.as_slice-made.ensures.items
    (omega (arith, ap length c.as_slice-structures.ensures.items, ap length c.as_slice-made.ensures.items, as_many_structures draft program c.requires.made)) c.index-made-place.is)
    c.in_ok-earliest.ensures.first)

pub returns : goal.returns
returns c =
    let draft = c.args.known.draft.now in
    let program = c.args.known.program.now in
    record {
      first =
          first_of_each draft.structures (λ k ds. AtPlace program.structures k (λ s. StructureFaults draft program (node k) ds s)) c.loop-place.place c.args.earliest c.loop-place.earliest
          (omega (arith, ap length c.as_slice-structures.ensures.items)) c.loop-place.invariant;
    }
