use Rattle.std.proofs.Common.{◌≤◌, List, ap, sym, subst, ◌∙◌, arith}
use Rattle.std.specs.List.{All}
use Rattle.gt_layout.specs.declared.planes.TailSpot.{TailSpot}
use Rattle.gt_layout.specs.declared.planes.TheConstants.{MAX_SIZE}
use Rattle.gt_layout.specs.Growths.{end_of_tails}
use Rattle.gt_layout.proofs.Laying.{read_at}
use Rattle.gt_layout.proofs.Growing.{growth-at}
use Rattle.gt_layout.proofs.Capacities.{positive, room_size_there, small_tails}
use Rattle.gt_layout.proofs.planes.Layouts.size.Goals as goal

pub end_of_tails-end-requires : goal.end_of_tails-end-requires
end_of_tails-end-requires c = record {
  small =
      subst (λ (tails : List TailSpot). All (λ (tail : TailSpot). tail.elem_size ≤ MAX_SIZE) tails) (sym c.as_slice-3.ensures.items)
      (small_tails c.args.program.now c.args.self.now.structures c.args.id c.index-as_slice-id-2.result.tails c.requires.within.structures
      (growth-at c.args.program.now c.args.self.now.structures c.args.self.now.growths c.as_slice-2.result.now c.args.id c.index-as_slice-id-2.result c.requires.laid_out.growths c.as_slice-2.ensures.items c.requires.there c.index-as_slice-id-2.is));
}

pub round_up-requires-clause-some : goal.round_up-requires-clause-some
round_up-requires-clause-some c =
    positive c.args.program.now c.args.self.now.structures c.args.id.0 c.index-as_slice-id.result c.requires.laid_out.structures
    (read_at c.as_slice.result.now c.args.self.now.structures c.args.id.0 c.index-as_slice-id.result c.as_slice.ensures.items (omega (arith, c.requires.there, c.requires.laid_out.structures.all)) c.index-as_slice-id.is)

pub returns : goal.returns
returns c =
    room_size_there c.args.program.now c.args.self.now.structures c.args.capacity c.requires.settled c.requires.laid_out.structures c.args.id c.index-as_slice-id.result c.index-as_slice-id-2.result.tails
    c.end_of_tails-end.result c.max.result c.round_up.result c.requires.there
    (read_at c.as_slice.result.now c.args.self.now.structures c.args.id.0 c.index-as_slice-id.result c.as_slice.ensures.items (omega (arith, c.requires.there, c.requires.laid_out.structures.all)) c.index-as_slice-id.is)
    (growth-at c.args.program.now c.args.self.now.structures c.args.self.now.growths c.as_slice-2.result.now c.args.id c.index-as_slice-id-2.result c.requires.laid_out.growths c.as_slice-2.ensures.items c.requires.there c.index-as_slice-id-2.is)
    (c.end_of_tails-end.ensures.end ∙ ap (end_of_tails c.args.capacity) c.as_slice-3.ensures.items) c.max.ensures c.round_up.ensures.value
