use Rattle.gt_headers.proofs.SomeOutcomes.{not_nothing}
use Rattle.gt_headers.proofs.laws.some_outcome.Goals as goal

pub returns : goal.returns
returns c = record { outcome = not_nothing c.each_text.ensures.reading c.each_resolution.ensures.resolution c.one_outcome.ensures.resolved }
