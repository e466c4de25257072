use Rattle.std.proofs.Common.{◌≡◌, ◌<◌, ℕ, Bool, inl, inr, true, false, sym, subst, ◌∙◌, arith}
use Rattle.std.proofs.lemmas.Bool.{cases_eq, false≢true}
use Rattle.gt_pages.specs.Changes.{Sweeps}
use Rattle.gt_pages.specs.Parts.{IsKept, entry_at, free_places, parts_of}
use Rattle.gt_pages.proofs.SweepLemmas.{front_after, free_swept, kept_stays, some_used, sweeps_entry}
use Rattle.gt_pages.proofs.store.Store.sweep_listed.Goals as goal
use Rattle.gt_pages.proofs.store.Store.sweep_listed.Goals.{else-was_full-via-then-was_full+else-freed-gt0, else-was_full-via-else-was_full}

pub returns-then-freed-gt0-clause-kept : goal.returns-then-freed-gt0-clause-kept
returns-then-freed-gt0-clause-kept c =
    let low = c.requires.kept.starts c.args.page c.requires.starts in
    let lost = c.sweep_places-freed.ensures.freed in
    (front_after (parts_of c.args.self.now) (parts_of c.sweep_places-freed.new.self) (parts_of c.move_front.new.self) c.args.page c.requires.kept c.requires.starts c.requires.outside
    c.requires.marked (omega (arith, lost, c.if-freed-gt0.true)) c.sweep_places-freed.ensures.swept c.move_front.ensures.moved c.move_front.ensures.alone).0

pub returns-then-freed-gt0-clause-swept : goal.returns-then-freed-gt0-clause-swept
returns-then-freed-gt0-clause-swept c =
    let lost = c.sweep_places-freed.ensures.freed in
    (front_after (parts_of c.args.self.now) (parts_of c.sweep_places-freed.new.self) (parts_of c.move_front.new.self) c.args.page c.requires.kept c.requires.starts c.requires.outside
    c.requires.marked (omega (arith, lost, c.if-freed-gt0.true)) c.sweep_places-freed.ensures.swept c.move_front.ensures.moved c.move_front.ensures.alone).1

pub returns-else-was_full-clause-kept : goal.returns-else-was_full-clause-kept
returns-else-was_full-clause-kept c =
    let p = parts_of c.args.self.now in
    let low = c.requires.kept.starts c.args.page c.requires.starts in
    let places = (entry_at p.entries c.args.page).places in
    let more = free_swept places in
    let lost = c.sweep_places-freed.ensures.freed in
    subst (λ q. IsKept q) (sym c.sweep_places-freed.ensures.swept)
    (kept_stays p c.args.page c.requires.kept (omega (arith, low, c.requires.kept.entries)) (λ _ _. some_used places c.requires.marked)
    (λ _ _ some. elim c.else-was_full.branch [
      | else-was_full-via-then-was_full+else-freed-gt0 w ↦ omega (arith, some, more, lost, w.if-freed-gt0.false)
      | else-was_full-via-else-was_full w ↦ some_free (free_places p c.args.page) c.is_full-was_full.result c.is_full-was_full.ensures.1 w.if-was_full.false
    ]))
  where
    some_free : (n : ℕ) (full : Bool) → (n ≡ 0 → full ≡ true) → full ≡ false → 0 < n
    some_free n full when not_full = elim (cases_eq n 0) [
      | inl none ↦ absurd (false≢true (sym not_full ∙ when none))
      | inr some ↦ omega (arith, some)
    ]

pub returns-else-was_full-clause-swept : goal.returns-else-was_full-clause-swept
returns-else-was_full-clause-swept c =
    let p = parts_of c.args.self.now in
    let low = c.requires.kept.starts c.args.page c.requires.starts in
    subst (λ q. Sweeps p c.args.page q) (sym c.sweep_places-freed.ensures.swept)
    (sweeps_entry p c.args.page (omega (arith, low, c.requires.kept.entries)) c.requires.starts)
