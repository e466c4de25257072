use Rattle.gt_pages.proofs.SizeLemmas.{number_large, number_middle, number_small}
use Rattle.gt_objects.proofs.totals.place_of.Goals as goal

pub returns-then-size-lt16-clause-number : goal.returns-then-size-lt16-clause-number
returns-then-size-lt16-clause-number c = (number_small c.args.size c.requires c.if-size-lt16.true).0

pub returns-then-size-le256-clause-number : goal.returns-then-size-le256-clause-number
returns-then-size-le256-clause-number c = (number_middle c.args.size c.requires c.if-size-lt16.false c.if-size-le256.true).0

pub returns-clause-number : goal.returns-clause-number
returns-clause-number c = (number_large c.args.size c.requires c.if-size-le256.false).0

pub returns-clause-below : goal.returns-clause-below
returns-clause-below c = (number_large c.args.size c.requires c.if-size-le256.false).1
