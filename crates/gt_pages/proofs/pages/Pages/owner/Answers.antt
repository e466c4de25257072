use Rattle.std.proofs.Common.{ap, ◌∙◌}
use Rattle.gt_pages.specs.Slots.{owner_of}
use Rattle.gt_pages.proofs.pages.Pages.owner.Goals as goal

pub returns : goal.returns
returns c = record { owner = c.owner.ensures ∙ ap (λ v. owner_of v.slots c.args.addr) c.self.view_is }
