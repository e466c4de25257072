use Rattle.std.proofs.Common.{arith}
use Rattle.gt_bits.proofs.OnesLemmas.{AreStarts-one, AreStarts-more}
use Rattle.gt_bits.proofs.places.starts_of.Goals as goal

pub steps-init : goal.steps-init
steps-init c = (omega arith, omega (arith, c.requires.some), AreStarts-one c.args.word)

pub steps-preserved : goal.steps-preserved
steps-preserved c = (
  omega (arith, c.steps.invariant.0),
  omega (arith, c.min-more.ensures, c.steps-test.true),
  AreStarts-more c.args.word c.steps.len c.min-more.result c.steps.starts c.steps.invariant.2 (omega (arith, c.min-more.ensures)),
)
