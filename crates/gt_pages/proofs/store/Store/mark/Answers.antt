use Rattle.std.proofs.Common.{Some, ap, ◌∙◌, inl, inr, arith}
use Rattle.std.proofs.lemmas.Bool.{cases_Bool}
use Rattle.gt_entries.specs.Cells.{cell_at}
use Rattle.gt_pages.specs.Slots.{new_mark}
use Rattle.gt_pages.specs.Parts.{contents_of, entry_at, parts_of}
use Rattle.gt_pages.proofs.MarkLemmas.{fresh_iff, mark_spot, start_spot, start_used}
use Rattle.gt_pages.proofs.SetLemmas.{contents_mark, kept_mark}
use Rattle.gt_pages.proofs.store.Store.mark.Goals as goal

pub mark_spot-requires : goal.mark_spot-requires
mark_spot-requires c =
    let p = parts_of c.args.self.now in
    let is = c.start_spot-spot.ensures in
    let low = c.requires.kept.starts c.start_spot-spot.result.page is.starts in
    record {
      page = omega (arith, low, c.requires.kept.entries);
      used = start_used p c.args.addr c.start_spot-spot.result (start_spot p c.args.addr c.requires.kept c.requires.start c.start_spot-spot.result is);
    }

pub returns : goal.returns
returns c =
    let p = parts_of c.args.self.now in
    let is = c.start_spot-spot.ensures in
    let spot = c.start_spot-spot.result in
    let used = start_used p c.args.addr spot (start_spot p c.args.addr c.requires.kept c.requires.start spot is) in
    let m = Some (new_mark c.args.walk c.args.count) in
    record {
      kept = elim (cases_Bool c.mark_spot.result) [
        | inl marked ↦ rw (c.mark_spot.ensures.marked marked) (kept_mark p c.args.addr spot m c.requires.kept is used)
        | inr old ↦ rw (c.mark_spot.ensures.unchanged old) c.requires.kept
      ];
      fresh = fresh_iff c.mark_spot.result (cell_at (entry_at p.entries spot.page).places spot.place) _ c.mark_spot.ensures.fresh
          (mark_spot p c.args.addr c.requires.kept c.requires.start spot is);
      marked = λ marked.
          ap contents_of (c.mark_spot.ensures.marked marked)
          ∙ contents_mark p c.args.addr spot m c.requires.kept is used c.requires.start;
      unchanged = λ old. ap contents_of (c.mark_spot.ensures.unchanged old);
    }
