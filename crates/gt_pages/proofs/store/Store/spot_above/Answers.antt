use Rattle.gt_pages.specs.Parts.{parts_of}
use Rattle.gt_pages.proofs.NextLemmas.{above_spot}
use Rattle.gt_pages.proofs.store.Store.spot_above.Goals as goal

pub returns-in-Some-clause-above : goal.returns-in-Some-clause-above
returns-in-Some-clause-above c = above_spot (parts_of c.args.self.now) c.args.after c.requires c.in-Some.spot c.in-Some.ensures.some
