use Rattle.std.proofs.Common.{ap, sym, subst, ◌∙◌, arith}
use Rattle.std.specs.Prelude.{IfNone, IfSome}
use Rattle.gt_entries.specs.Cells.{cell_at, mark_in}
use Rattle.gt_pages.specs.Contents.{with_slots}
use Rattle.gt_pages.specs.Slots.{postponed, with_mark_at}
use Rattle.gt_pages.specs.Parts.{contents_of, entry_at, parts_of}
use Rattle.gt_pages.specs.Spots.{IsNowhere, IsSpot}
use Rattle.gt_pages.proofs.MarkLemmas.{mark_spot, start_nowhere, start_spot, start_used}
use Rattle.gt_pages.proofs.SetLemmas.{contents_mark, kept_mark}
use Rattle.gt_pages.proofs.store.Store.postpone.Goals as goal

pub returns-in-None : goal.returns-in-None
returns-in-None c =
    absurd (start_nowhere (parts_of c.args.self.now) c.args.addr c.requires.kept c.requires.start
    (subst (λ r. IfNone r (IsNowhere (parts_of c.args.self.now) c.args.addr)) c.in-None.is c.spot.ensures.none))

pub postpone_spot-requires : goal.postpone_spot-requires
postpone_spot-requires c =
    let p = parts_of c.args.self.now in
    let is = subst (λ r. IfSome r (IsSpot (parts_of c.args.self.now) c.args.addr)) c.in-Some.is c.spot.ensures.some in
    let low = c.requires.kept.starts c.in-Some.spot.page is.starts in
    record {
      page = omega (arith, low, c.requires.kept.entries);
      used = start_used p c.args.addr c.in-Some.spot (start_spot p c.args.addr c.requires.kept c.requires.start c.in-Some.spot is);
    }

pub returns-in-Some : goal.returns-in-Some
returns-in-Some c =
    let p = parts_of c.args.self.now in
    let is = subst (λ r. IfSome r (IsSpot (parts_of c.args.self.now) c.args.addr)) c.in-Some.is c.spot.ensures.some in
    let used = start_used p c.args.addr c.in-Some.spot (start_spot p c.args.addr c.requires.kept c.requires.start c.in-Some.spot is) in
    let m = postponed (mark_in (cell_at (entry_at p.entries c.in-Some.spot.page).places c.in-Some.spot.place)) in
    record {
      kept = rw c.postpone_spot.ensures (kept_mark p c.args.addr c.in-Some.spot m c.requires.kept is used);
      postponed =
          ap contents_of c.postpone_spot.ensures
          ∙ contents_mark p c.args.addr c.in-Some.spot m c.requires.kept is used c.requires.start
          ∙ ap (λ x. with_slots (contents_of p) (with_mark_at (contents_of p).slots c.args.addr (postponed x)))
          (sym (mark_spot p c.args.addr c.requires.kept c.requires.start c.in-Some.spot is));
    }
