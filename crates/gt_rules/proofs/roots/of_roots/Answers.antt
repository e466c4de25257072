use Rattle.std.proofs.Common.{length, ap, arith}
use Rattle.gt_rules.specs.Parts.{AtPlace, RootFaults}
use Rattle.gt_rules.proofs.FirstLemmas.{first_at_place, first_below_more, first_below_none, first_of_each}
use Rattle.gt_rules.proofs.MadeLemmas.{as_many_roots, read_at, small_root_at}
use Rattle.gt_rules.proofs.roots.of_roots.Goals as goal

pub loop-place-init : goal.loop-place-init
loop-place-init c =
    let draft = c.args.known.draft.now in
    let program = c.args.known.program.now in
    first_below_none draft.roots (λ k dr. AtPlace program.roots k (λ r. RootFaults draft program dr r)) c.args.earliest

pub bounds-made-place : goal.bounds-made-place
bounds-made-place c =
    omega (arith, ap length c.as_slice-roots.ensures.items, ap length c.as_slice-made.ensures.items, as_many_roots c.args.known.draft.now c.args.known.program.now c.requires.made)

pub of_root-requires-clause-small : goal.of_root-requires-clause-small
of_root-requires-clause-small c =
    small_root_at c.args.known.draft.now c.as_slice-roots.result.now c.loop-place.place c.index-roots-place.result c.requires.sound c.as_slice-roots.ensures.items (omega arith) c.index-roots-place.is

pub loop-place-preserved : goal.loop-place-preserved
loop-place-preserved c =
    let draft = c.args.known.draft.now in
    let program = c.args.known.program.now in
    let place = c.loop-place.place in
    let dr = c.index-roots-place.result in
    let r = c.index-made-place.result in
    first_below_more draft.roots (λ k d. AtPlace program.roots k (λ r. RootFaults draft program d r)) place dr c.args.earliest c.loop-place.earliest c.in_ok-earliest.earliest
    (read_at c.as_slice-roots.result.now draft.roots place dr c.as_slice-roots.ensures.items (omega arith) c.index-roots-place.is) c.loop-place.invariant
    (first_at_place program.roots place (RootFaults draft program dr) r c.loop-place.earliest c.in_ok-earliest.earliest
    (read_at c.as_slice-made.result.now program.roots place r c.as_slice-made.ensures.items
    (omega (arith, ap length c.as_slice-roots.ensures.items, ap length c.as_slice-made.ensures.items, as_many_roots draft program c.requires.made)) c.index-made-place.is) c.in_ok-earliest.ensures.first)

pub returns : goal.returns
returns c =
    let draft = c.args.known.draft.now in
    let program = c.args.known.program.now in
    record {
      first =
          first_of_each draft.roots (λ k dr. AtPlace program.roots k (λ r. RootFaults draft program dr r)) c.loop-place.place c.args.earliest c.loop-place.earliest
          (omega (arith, ap length c.as_slice-roots.ensures.items)) c.loop-place.invariant;
    }
