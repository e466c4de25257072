use Rattle.std.proofs.Common.{sym, subst, ◌∙◌}
use Rattle.std.specs.Prelude.{IfNone, IfSome}
use Rattle.gt_pages.specs.Parts.{parts_of}
use Rattle.gt_pages.specs.Spots.{IsNowhere, IsSpot}
use Rattle.gt_pages.proofs.WhereLemmas.{owner_nowhere, owner_spot}
use Rattle.gt_pages.proofs.store.Store.owner.Goals as goal

pub returns-in-None : goal.returns-in-None
returns-in-None c =
    sym (owner_nowhere (parts_of c.args.self.now) c.args.addr c.requires
    (subst (λ r. IfNone r (IsNowhere (parts_of c.args.self.now) c.args.addr)) c.in-None.is c.spot.ensures.none))

pub returns-in-Some : goal.returns-in-Some
returns-in-Some c =
    c.block_at.ensures
    ∙ sym (owner_spot (parts_of c.args.self.now) c.args.addr c.in-Some.spot c.requires
    (subst (λ r. IfSome r (IsSpot (parts_of c.args.self.now) c.args.addr)) c.in-Some.is c.spot.ensures.some))
