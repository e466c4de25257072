use Rattle.std.proofs.Common.{◌≡◌, subst}
use Rattle.std.specs.Prelude.{IfErr, OnOk}
use Rattle.gt_pages.specs.declared.pages.SlotFail.TheVariants as fail
use Rattle.gt_pages.specs.Ledger.{Room}
use Rattle.gt_pages.specs.Contents.{UsesCached, ledger_of}
use Rattle.gt_pages.specs.Parts.{contents_of, parts_of}
use Rattle.gt_pages.proofs.pages.Pages.alloc_slot.Goals as goal

pub returns-clause-room : goal.returns-clause-room
returns-clause-room c = subst (λ v. OnOk c.alloc_slot.result (Room (ledger_of v) c.args.size)) c.self.view_is c.alloc_slot.ensures.room

pub returns-clause-memory : goal.returns-clause-memory
returns-clause-memory c =
    subst (λ v. IfErr c.alloc_slot.result (λ e. e ≡ fail.Memory → Room (ledger_of v) c.args.size)) c.self.view_is c.alloc_slot.ensures.memory

pub returns-clause-cached : goal.returns-clause-cached
returns-clause-cached c =
    subst (λ v. OnOk c.alloc_slot.result (UsesCached v c.args.size (contents_of (parts_of c.alloc_slot.new.self)))) c.self.view_is c.alloc_slot.ensures.cached
