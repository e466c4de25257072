use Rattle.std.proofs.Common.{◌∙◌, ap, sym, subst}
use Rattle.gt_space.specs.Range.{IsInside}
use Rattle.gt_tree.specs.Reshapes.{AssignsStatics}
use Rattle.gt_objects.specs.InBytes.{blocks_in}
use Rattle.gt_elements.proofs.Found.{roots}
use Rattle.gt_writes.proofs.AnewStatics.{roots_by, root_put_by}
use Rattle.gt_writes.proofs.roots.judge_root.Goals as goal

pub judge_static_leaf-verdict-requires-clause-inside : goal.judge_static_leaf-verdict-requires-clause-inside
judge_static_leaf-verdict-requires-clause-inside c =
    let heap = c.requires.ready.0 in
    let is = c.requires.ready.1 in
    let stand = roots c.args.schema.now.program c.args.schema.now.layouts c.requires.schema.settled c.requires.schema.laid c.args.objects.now heap is c.sound.ensures.space c.requires.schema.within in
    subst (λ r. IsInside r r.start c.args.schema.now.layouts.statics.size) (sym c.space.ensures) stand.inside

pub judge_static_leaf-verdict-requires-clause-stands : goal.judge_static_leaf-verdict-requires-clause-stands
judge_static_leaf-verdict-requires-clause-stands c =
    let heap = c.requires.ready.0 in
    let is = c.requires.ready.1 in
    let same = ap blocks_in c.of-names.ensures.objects ∙ c.of-names.ensures.blocks c.args.schema.now.program c.args.schema.now.layouts heap c.requires.schema.settled c.requires.schema.laid is in
    let stand = roots c.args.schema.now.program c.args.schema.now.layouts c.requires.schema.settled c.requires.schema.laid c.args.objects.now heap is c.sound.ensures.space c.requires.schema.within in
    (heap.graph.statics, roots_by same c.space.ensures stand.stand)

pub returns-clause-in_place : goal.returns-clause-in_place
returns-clause-in_place c = λ place e heap is.
    let same = ap blocks_in c.of-names.ensures.objects ∙ c.of-names.ensures.blocks c.args.schema.now.program c.args.schema.now.layouts heap c.requires.schema.settled c.requires.schema.laid is in
    let stand = roots c.args.schema.now.program c.args.schema.now.layouts c.requires.schema.settled c.requires.schema.laid c.args.objects.now heap is c.sound.ensures.space c.requires.schema.within in
    root_put_by same c.space.ensures (c.judge_static_leaf-verdict.ensures.in_place place (c.only_active.ensures.place place e) heap.graph.statics (roots_by same c.space.ensures stand.stand))

pub returns-clause-misfit : goal.returns-clause-misfit
returns-clause-misfit c = λ e heap tree is means news assigns.
    let same = ap blocks_in c.of-names.ensures.objects ∙ c.of-names.ensures.blocks c.args.schema.now.program c.args.schema.now.layouts heap c.requires.schema.settled c.requires.schema.laid is in
    let stand = roots c.args.schema.now.program c.args.schema.now.layouts c.requires.schema.settled c.requires.schema.laid c.args.objects.now heap is c.sound.ensures.space c.requires.schema.within in
    (c.judge_static_leaf-verdict.ensures.misfit (c.only_active.ensures.misfit e) heap.graph.statics (roots_by same c.space.ensures stand.stand)).1 tree news means
    (subst (λ bs. AssignsStatics c.args.schema.now.program bs heap.graph.statics c.args.path.now tree news) (sym same) assigns)
