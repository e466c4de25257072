use Rattle.std.proofs.Common.{sym, subst}
use Rattle.gt_objects.specs.Knowing.{IsKnownAt}
use Rattle.gt_objects.proofs.Finding.{has_places, known_is}
use Rattle.gt_objects.proofs.objects.Objects.known.Goals as goal

pub known_block-requires : goal.known_block-requires
known_block-requires c = let ready = c.requires.ready in record { places = has_places ready.0 ready.1 c.args.self.now ready.2 ready.3 }

pub returns : goal.returns
returns c = record {
  known = λ program layouts heap is. subst (IsKnownAt heap.graph.objects c.args.addr) (sym c.known_block.ensures.known) (known_is program layouts c.args.self.now heap is c.args.addr);
}
