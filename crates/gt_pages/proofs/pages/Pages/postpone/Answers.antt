use Rattle.std.proofs.Common.{sym, subst}
use Rattle.gt_pages.specs.Slots.{StartsSome}
use Rattle.gt_pages.proofs.pages.Pages.postpone.Goals as goal

pub postpone-requires-clause-start : goal.postpone-requires-clause-start
postpone-requires-clause-start c = subst (λ v. StartsSome v.slots c.args.addr) (sym c.self.view_is) c.requires.start
