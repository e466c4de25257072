use Rattle.std.proofs.Common.{sym, subst}
use Rattle.gt_pages.specs.Slots.{StartsSome}
use Rattle.gt_pages.proofs.pages.Pages.set_walked.Goals as goal

pub set_walked-requires-clause-start : goal.set_walked-requires-clause-start
set_walked-requires-clause-start c = subst (λ v. StartsSome v.slots c.args.addr) (sym c.self.view_is) c.requires.start
