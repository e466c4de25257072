use Rattle.std.proofs.Common.{subst}
use Rattle.gt_pages.specs.Contents.{AreLaidOut}
use Rattle.gt_pages.specs.Parts.{parts_of}
use Rattle.gt_pages.proofs.ViewLemmas.{laid_out}
use Rattle.gt_pages.proofs.pages.Pages.sound.Goals as goal

pub returns : goal.returns
returns c = record { laid = subst (λ v. AreLaidOut v) c.self.view_is (laid_out (parts_of c.self.inside.store) c.self.invariant) }
