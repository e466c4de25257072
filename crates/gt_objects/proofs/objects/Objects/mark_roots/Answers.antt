use Rattle.std.proofs.Common.{ap}
use Rattle.gt_mark.specs.Reached.{root_targets}
use Rattle.gt_objects.proofs.Marking.{blocks_after, heap_marked}
use Rattle.gt_objects.proofs.objects.Objects.mark_roots.Goals as goal

pub returns-clause-heap : goal.returns-clause-heap
returns-clause-heap c = λ program layouts heap is.
    let r = c.requires.ready in
    let m = c.mark_roots.ensures.marked r.0 r.1 r.2 in
    heap_marked program layouts c.args.self.now heap is c.mark_roots.new.self
    (blocks_after c.args.tables.now c.args.self.now.space r.0 (root_targets c.args.tables.now c.args.self.now.space) c.args.self.now.pages c.mark_roots.new.self m)
    (ap (λ p. p.image) m.marked) (ap (λ p. p.pages) m.marked)
