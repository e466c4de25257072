use Rattle.std.proofs.Common.{subst}
use Rattle.gt_pages.specs.Contents.{CachesEmptied}
use Rattle.gt_pages.specs.Parts.{contents_of, parts_of}
use Rattle.gt_pages.proofs.pages.Pages.sweep.Goals as goal

pub returns-clause-cached : goal.returns-clause-cached
returns-clause-cached c = subst (λ v. CachesEmptied v (contents_of (parts_of c.sweep.new.self))) c.self.view_is c.sweep.ensures.cached
