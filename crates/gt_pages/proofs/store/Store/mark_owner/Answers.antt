use Rattle.std.proofs.Common.{subst, arith}
use Rattle.std.specs.Prelude.{IfNone, IfSome}
use Rattle.gt_pages.specs.Slots.{new_mark}
use Rattle.gt_pages.specs.Parts.{parts_of}
use Rattle.gt_pages.specs.Spots.{IsNowhere, IsSpot}
use Rattle.gt_pages.proofs.WhereLemmas.{owner_nowhere}
use Rattle.gt_pages.proofs.OwnerLemmas.{marks_none, marks_owner}
use Rattle.gt_pages.proofs.store.Store.mark_owner.Goals as goal

pub returns-in-None : goal.returns-in-None
returns-in-None c =
    let p = parts_of c.args.self.now in
    let nowhere = subst (λ r. IfNone r (IsNowhere (parts_of c.args.self.now) c.args.addr)) c.in-None.is c.spot.ensures.none in
    let is = marks_none p c.args.addr (new_mark c.args.walk c.args.count) c.requires (owner_nowhere p c.args.addr c.requires nowhere) in
    record { kept = is.kept; none = is.none; fresh = is.fresh; marked = is.marked; unchanged = is.unchanged }

pub mark_used-requires : goal.mark_used-requires
mark_used-requires c =
    let is = subst (λ r. IfSome r (IsSpot (parts_of c.args.self.now) c.args.addr)) c.in-Some.is c.spot.ensures.some in
    let low = c.requires.starts c.in-Some.spot.page is.starts in
    omega (arith, low, c.requires.entries)

pub returns-in-Some : goal.returns-in-Some
returns-in-Some c =
    let p = parts_of c.args.self.now in
    let spot = subst (λ r. IfSome r (IsSpot (parts_of c.args.self.now) c.args.addr)) c.in-Some.is c.spot.ensures.some in
    let is = marks_owner p c.args.addr c.in-Some.spot c.requires spot (new_mark c.args.walk c.args.count) c.mark_used.result (parts_of c.mark_used.new.self)
    c.mark_used.ensures.free c.mark_used.ensures.used c.mark_used.ensures.fresh c.mark_used.ensures.marked c.mark_used.ensures.unchanged in
    record { kept = is.kept; none = is.none; fresh = is.fresh; marked = is.marked; unchanged = is.unchanged }
