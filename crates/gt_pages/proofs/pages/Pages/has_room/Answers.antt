use Rattle.std.proofs.Common.{subst}
use Rattle.std.specs.Prelude.{◌↔◌, IsTrue}
use Rattle.gt_pages.specs.Ledger.{Room}
use Rattle.gt_pages.specs.Contents.{ledger_of}
use Rattle.gt_pages.proofs.pages.Pages.has_room.Goals as goal

pub returns : goal.returns
returns c = record { room = subst (λ v. IsTrue c.has_room.result ↔ Room (ledger_of v) c.args.size) c.self.view_is c.has_room.ensures }
