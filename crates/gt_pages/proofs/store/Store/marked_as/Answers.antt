use Rattle.std.proofs.Common.{sym, subst, ◌∙◌, arith}
use Rattle.std.specs.Prelude.{IfNone, IfSome}
use Rattle.gt_pages.specs.Parts.{parts_of}
use Rattle.gt_pages.specs.Spots.{IsNowhere, IsSpot}
use Rattle.gt_pages.proofs.MarkLemmas.{mark_spot, start_nowhere}
use Rattle.gt_pages.proofs.store.Store.marked_as.Goals as goal

pub returns-in-None : goal.returns-in-None
returns-in-None c =
    absurd (start_nowhere (parts_of c.args.self.now) c.args.addr c.requires.kept c.requires.start
    (subst (λ r. IfNone r (IsNowhere (parts_of c.args.self.now) c.args.addr)) c.in-None.is c.spot.ensures.none))

pub mark_of-requires : goal.mark_of-requires
mark_of-requires c =
    let is = subst (λ r. IfSome r (IsSpot (parts_of c.args.self.now) c.args.addr)) c.in-Some.is c.spot.ensures.some in
    let low = c.requires.kept.starts c.in-Some.spot.page is.starts in
    omega (arith, low, c.requires.kept.entries)

pub returns-in-Some : goal.returns-in-Some
returns-in-Some c =
    c.mark_of.ensures
    ∙ sym (mark_spot (parts_of c.args.self.now) c.args.addr c.requires.kept c.requires.start c.in-Some.spot
    (subst (λ r. IfSome r (IsSpot (parts_of c.args.self.now) c.args.addr)) c.in-Some.is c.spot.ensures.some))
