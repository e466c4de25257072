use Rattle.std.proofs.Common.{ap}
use Rattle.sample_heap.specs.Named.{walked_in, walks_of}
use Rattle.sample_heap.proofs.Ready.{can_still}
use Rattle.sample_heap.proofs.heap.mark_known.Goals as goal

pub mark_from-requires : goal.mark_from-requires
mark_from-requires c = record { ready = (walks_of c.args.known.now.slots, ap walked_in c.in-Some.ensures.is, c.requires.ready) }

pub returns-in-Some : goal.returns-in-Some
returns-in-Some c = record {
  can = λ blocks can.
      can_still c.args.tables.now c.args.space.now c.args.known.now.slots blocks c.args.addr c.args.pages.now c.mark_from.new.pages can c.requires.ready
      (c.mark_from.ensures.marked (walks_of c.args.known.now.slots) (ap walked_in c.in-Some.ensures.is) c.requires.ready);
}
