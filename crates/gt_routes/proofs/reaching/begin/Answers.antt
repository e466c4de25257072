use Rattle.std.proofs.Common.{◌≡◌, [], ◌∷◌, ◌++◌, ap, sym, subst, ◌∙◌}
use Rattle.gt_value.specs.Bytes.{StandForStatics}
use Rattle.gt_value.specs.Cursors.{IsAtRoot}
use Rattle.gt_graph.specs.Changes.{Statics}
use Rattle.gt_next.specs.Spots.{spot}
use Rattle.gt_elements.proofs.Found.{roots}
use Rattle.gt_routes.specs.Reaching.{IsStart, IsValueAt}
use Rattle.gt_routes.proofs.HeapSteps.{statics-for, root-end, object-end}
use Rattle.gt_routes.proofs.reaching.begin.Goals as goal

pub at_root-requires-clause-stands : goal.at_root-requires-clause-stands
at_root-requires-clause-stands c =
    let schema = c.args.schema.now in
    let objects = c.args.objects.now in
    let heap = c.requires.ready.0 in
    let stand = roots schema.program schema.layouts c.requires.schema.settled c.requires.schema.laid objects heap c.requires.ready.1 c.sound.ensures.space c.requires.schema.within in
    (heap.graph.statics, subst (λ r. StandForStatics schema.program schema.layouts r heap.graph.statics) (sym c.space-space.ensures) (statics-for schema.program schema.layouts objects heap stand))

pub returns-in-Object-clause-ends : goal.returns-in-Object-clause-ends
returns-in-Object-clause-ends c heap is =
    let schema = c.args.schema.now in
    let starts = subst (IsStart schema.program heap) c.in-Object.is (c.requires.starts heap is) in
    object-end schema.program heap.graph c.in-Object.address c.clear.new.self.items starts.0 c.clear.ensures.items starts.1

pub returns-in-Ok-clause-ends : goal.returns-in-Ok-clause-ends
returns-in-Ok-clause-ends c heap is =
    let schema = c.args.schema.now in
    let objects = c.args.objects.now in
    let stand = roots schema.program schema.layouts c.requires.schema.settled c.requires.schema.laid objects heap is c.sound.ensures.space c.requires.schema.within in
    let values = subst (λ r. StandForStatics schema.program schema.layouts r heap.graph.statics) (sym c.space-space.ensures) (statics-for schema.program schema.layouts objects heap stand) in
    let root = subst (λ r. IsAtRoot schema.program schema.layouts r heap.graph.statics c.in-Root.place c.in-Some.at) c.space-space.ensures (c.in-Some.ensures.root heap.graph.statics values) in
    let items : c.push.new.self.items ≡ c.in-Root.place ∷ [] = c.in-Ok.ensures.ok ∙ ap (λ xs. xs ++ c.in-Root.place ∷ []) c.clear.ensures.items in
    subst (λ xs. IsValueAt schema.program schema.layouts objects heap (spot Statics xs) c.in-Some.at) (sym items) (root-end schema.program schema.layouts objects heap c.in-Root.place c.in-Some.at root)
