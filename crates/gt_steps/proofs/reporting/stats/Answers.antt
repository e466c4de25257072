use Rattle.std.proofs.Common.{◌∙◌, sym}
use Rattle.gt_steps.proofs.Stepped.{stats_are}
use Rattle.gt_steps.proofs.reporting.stats.Goals as goal

pub returns : goal.returns
returns c = record {
  next = λ told state stands.
      stats_are state c.allocated.result c.args.s.now.last c.threshold.result c.image_pages.result c.args.s.now.rounds
      (c.allocated.ensures.bytes c.args.s.now.schema.program c.args.s.now.schema.layouts state.heap stands.holds.heap) (sym stands.holds.last) (c.threshold.ensures ∙ c.heuristic.ensures.threshold told state stands)
      (c.image_pages.ensures.image c.args.s.now.schema.program c.args.s.now.schema.layouts state.heap stands.holds.heap) (sym stands.holds.rounds);
}
