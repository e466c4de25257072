use Rattle.std.proofs.Common.{◌≡◌, ◌∙◌, ap, sym, subst, map, None}
use Rattle.std.specs.Prelude.{All}
use Rattle.gt_pages.specs.Slots.{block_of}
use Rattle.gt_objects.proofs.Marking.{blocks_unmarked, heap_marked, none_marked}
use Rattle.gt_objects.proofs.objects.Objects.clear_marks.Goals as goal

pub returns-clause-none : goal.returns-clause-none
returns-clause-none c = subst (All (λ s. s.mark ≡ None)) (sym (ap (λ p. p.slots) c.clear_marks.ensures.cleared)) (none_marked c.args.self.now.pages.slots)

pub returns-clause-heap : goal.returns-clause-heap
returns-clause-heap c = λ program layouts heap is.
    heap_marked program layouts c.args.self.now heap is c.clear_marks.new.self (ap (λ p. map block_of p.slots) c.clear_marks.ensures.cleared ∙ blocks_unmarked c.args.self.now.pages.slots)
    (ap (λ p. p.image) c.clear_marks.ensures.cleared) (ap (λ p. p.pages) c.clear_marks.ensures.cleared)
