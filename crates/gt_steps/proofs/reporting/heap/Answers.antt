use Rattle.std.proofs.Common.{sym, subst}
use Rattle.gt_next.specs.declared.answer.Answer.TheVariants.{Heap}
use Rattle.gt_next.specs.Next.{NextHeap}
use Rattle.gt_steps.proofs.reporting.heap.Goals as goal

pub returns : goal.returns
returns c = record { next = λ told state stands. subst (λ t. NextHeap state (Heap t) state) (sym (c.in_ok-report.ensures.text told state stands)) NextHeap.reports }
