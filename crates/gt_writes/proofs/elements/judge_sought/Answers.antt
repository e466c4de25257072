use Rattle.std.proofs.Common.{◌∙◌, ap, sym, subst}
use Rattle.gt_objects.specs.InBytes.{blocks_in}
use Rattle.gt_tree.specs.Reshapes.{Assigns}
use Rattle.gt_writes.proofs.Anew.{beside_by, put_by}
use Rattle.gt_writes.proofs.elements.judge_sought.Goals as goal

pub judge_leaf-verdict-requires-clause-stands : goal.judge_leaf-verdict-requires-clause-stands
judge_leaf-verdict-requires-clause-stands c =
    let ready = c.requires.ready in
    let heap = ready.0 in
    let s = c.requires.stands heap ready.1 in
    let same = ap blocks_in c.of-names.ensures.objects ∙ c.of-names.ensures.blocks c.args.schema.now.program c.args.schema.now.layouts heap c.requires.schema.settled c.requires.schema.laid ready.1 in
    (heap.graph.statics, s.0, beside_by same c.space.ensures s.1)

pub returns-clause-in_place : goal.returns-clause-in_place
returns-clause-in_place c = λ place e heap value is s.
    let same = ap blocks_in c.of-names.ensures.objects ∙ c.of-names.ensures.blocks c.args.schema.now.program c.args.schema.now.layouts heap c.requires.schema.settled c.requires.schema.laid is in
    put_by same c.space.ensures (c.judge_leaf-verdict.ensures.in_place place (c.only_active.ensures.place place e) heap.graph.statics value (beside_by same c.space.ensures s))

pub returns-clause-misfit : goal.returns-clause-misfit
returns-clause-misfit c = λ e heap value tree is s means new.
    let same = ap blocks_in c.of-names.ensures.objects ∙ c.of-names.ensures.blocks c.args.schema.now.program c.args.schema.now.layouts heap c.requires.schema.settled c.requires.schema.laid is in
    λ assigns. (c.judge_leaf-verdict.ensures.misfit (c.only_active.ensures.misfit e) heap.graph.statics value (beside_by same c.space.ensures s)).1 tree new means
    (subst (λ bs. Assigns c.args.schema.now.program bs heap.graph.statics c.args.element.capacity c.args.ty.now value c.args.path.now tree new) (sym same) assigns)
