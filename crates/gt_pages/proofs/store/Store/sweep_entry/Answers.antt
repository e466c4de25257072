use Rattle.std.proofs.Common.{sym, subst, ◌∙◌, arith}
use Rattle.std.proofs.lemmas.Bool.{false≢true}
use Rattle.gt_pages.specs.Changes.{Sweeps}
use Rattle.gt_pages.specs.Parts.{IsKept, parts_of}
use Rattle.gt_pages.proofs.SweepLemmas.{closed_after, kept_stays, sweeps_entry}
use Rattle.gt_pages.proofs.store.Store.sweep_entry.Goals as goal

pub returns-then-is_of_image-clause-kept : goal.returns-then-is_of_image-clause-kept
returns-then-is_of_image-clause-kept c =
    let p = parts_of c.args.self.now in
    let low = c.requires.kept.starts c.args.page c.requires.starts in
    let of = c.is_of_image.ensures.0 c.if-is_of_image.true in
    subst (λ q. IsKept q) (sym c.sweep_places.ensures.swept)
    (kept_stays p c.args.page c.requires.kept (omega (arith, low, c.requires.kept.entries)) (λ _ out. absurd (out of)) (λ _ out _. absurd (out of)))

pub returns-then-is_of_image-clause-swept : goal.returns-then-is_of_image-clause-swept
returns-then-is_of_image-clause-swept c =
    let p = parts_of c.args.self.now in
    let low = c.requires.kept.starts c.args.page c.requires.starts in
    subst (λ q. Sweeps p c.args.page q) (sym c.sweep_places.ensures.swept)
    (sweeps_entry p c.args.page (omega (arith, low, c.requires.kept.entries)) c.requires.starts)

pub returns-then-is_unmarked-clause-kept : goal.returns-then-is_unmarked-clause-kept
returns-then-is_unmarked-clause-kept c =
    (closed_after (parts_of c.args.self.now) (parts_of c.close.new.self) (parts_of c.sweep_places-then-is_unmarked.new.self) c.args.page c.requires.kept c.requires.starts
    (λ of. false≢true (sym c.if-is_of_image.false ∙ c.is_of_image.ensures.1 of)) (c.is_unmarked.ensures.0 c.if-is_unmarked.true) c.close.ensures c.sweep_places-then-is_unmarked.ensures.swept).0

pub returns-then-is_unmarked-clause-swept : goal.returns-then-is_unmarked-clause-swept
returns-then-is_unmarked-clause-swept c =
    (closed_after (parts_of c.args.self.now) (parts_of c.close.new.self) (parts_of c.sweep_places-then-is_unmarked.new.self) c.args.page c.requires.kept c.requires.starts
    (λ of. false≢true (sym c.if-is_of_image.false ∙ c.is_of_image.ensures.1 of)) (c.is_unmarked.ensures.0 c.if-is_unmarked.true) c.close.ensures c.sweep_places-then-is_unmarked.ensures.swept).1
