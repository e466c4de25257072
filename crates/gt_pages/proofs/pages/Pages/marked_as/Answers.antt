use Rattle.std.proofs.Common.{ap, sym, subst, ◌∙◌}
use Rattle.gt_pages.specs.Slots.{StartsSome, mark_at}
use Rattle.gt_pages.proofs.pages.Pages.marked_as.Goals as goal

pub marked_as-requires-clause-start : goal.marked_as-requires-clause-start
marked_as-requires-clause-start c = subst (λ v. StartsSome v.slots c.args.addr) (sym c.self.view_is) c.requires.start

pub returns : goal.returns
returns c = record { mark = c.marked_as.ensures ∙ ap (λ v. mark_at v.slots c.args.addr) c.self.view_is }
