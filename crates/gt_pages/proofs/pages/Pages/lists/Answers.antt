use Rattle.std.proofs.Common.{subst}
use Rattle.gt_pages.specs.Contents.{HasLists}
use Rattle.gt_pages.specs.Parts.{parts_of}
use Rattle.gt_pages.proofs.ListViewLemmas.{has_lists}
use Rattle.gt_pages.proofs.pages.Pages.lists.Goals as goal

pub returns-clause-ordered : goal.returns-clause-ordered
returns-clause-ordered c =
    subst (λ v. HasLists v) c.self.view_is (has_lists (parts_of c.self.inside.store) c.self.invariant c.lists_are_disjoint.ensures.distinct)
