use Rattle.std.proofs.Common.{sym, subst}
use Rattle.gt_pages.specs.Slots.{StartsSome}
use Rattle.gt_pages.proofs.pages.Pages.mark.Goals as goal

pub mark-requires-clause-start : goal.mark-requires-clause-start
mark-requires-clause-start c = subst (λ v. StartsSome v.slots c.args.addr) (sym c.self.view_is) c.requires.start
