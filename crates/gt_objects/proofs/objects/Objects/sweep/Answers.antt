use Rattle.std.proofs.Common.{◌∙◌, ap, length}
use Rattle.std.specs.Prelude.{◌+◌}
use Rattle.gt_objects.specs.Marks.{marked_in}
use Rattle.gt_objects.proofs.Marking.{count_left, heap_swept}
use Rattle.gt_objects.proofs.objects.Objects.sweep.Goals as goal

pub returns-clause-swept : goal.returns-clause-swept
returns-clause-swept c = λ program layouts heap settled is closed. heap_swept program layouts c.args.self.now heap is closed c.sweep.new.self c.sweep.ensures.kept c.sweep.ensures.pages

pub returns-clause-freed : goal.returns-clause-freed
returns-clause-freed c = λ program layouts heap is.
    ap (λ n. n + length (marked_in c.args.self.now heap.graph.objects)) c.sweep.ensures.freed ∙ count_left program layouts c.args.self.now heap is
