use Rattle.std.proofs.Common.{◌<◌, count_by, sym, subst, ◌∙◌, arith}
use Rattle.std.proofs.lemmas.Bool.{false≢true}
use Rattle.gt_entries.specs.Cells.{is_free}
use Rattle.gt_pages.specs.Parts.{parts_of}
use Rattle.gt_pages.proofs.RoomLemmas.{first_listed, first_some, none_shared, some_shared}
use Rattle.gt_pages.proofs.WhereLemmas.{entry_read}
use Rattle.gt_pages.proofs.store.Store.has_shared.Goals as goal

pub returns-in-None : goal.returns-in-None
returns-in-None c =
    let p = parts_of c.args.self.now in (
      λ e. absurd (false≢true e),
      λ shared. absurd (none_shared p c.requires.kept c.list_of.result c.args.size c.list_of.ensures.number (sym c.first.ensures.first ∙ c.in-None.is) shared),
    )

pub returns-in-Some : goal.returns-in-Some
returns-in-Some c =
    let p = parts_of c.args.self.now in
    let at = sym c.first.ensures.first ∙ c.in-Some.is in
    let listed = first_listed p c.requires.kept c.list_of.result c.args.size c.list_of.ensures.number c.in-Some.page at in
    let inside = c.requires.kept.starts c.in-Some.page listed.starts in
    let len = c.requires.kept.entries in
    let read = entry_read c.args.self.now.entries.items c.in-Some.page c.index.result.now (omega (arith, inside, len)) c.index.ensures in (
      λ e. (
        c.in-Some.page,
        some_shared p c.requires.kept c.list_of.result c.args.size c.list_of.ensures.number c.in-Some.page at
            (subst (λ x. 0 < count_by is_free x.places) read (c.has_free.ensures.free.0 e)),
      ),
      λ shared.
          c.has_free.ensures.free.1
          (subst (λ x. 0 < count_by is_free x.places) (sym read)
          (first_some p c.requires.kept c.list_of.result c.args.size c.list_of.ensures.number c.in-Some.page at shared)),
    )
