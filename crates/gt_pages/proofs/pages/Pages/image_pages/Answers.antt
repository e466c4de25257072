use Rattle.std.proofs.Common.{ap}
use Rattle.gt_pages.proofs.pages.Pages.image_pages.Goals as goal

pub returns : goal.returns
returns c = record { image = ap (λ v. v.image.count) c.self.view_is }
