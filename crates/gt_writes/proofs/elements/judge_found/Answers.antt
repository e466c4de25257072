use Rattle.std.proofs.Common.{◌∙◌, refl, ap, sym, subst}
use Rattle.gt_objects.specs.InBytes.{blocks_in}
use Rattle.gt_tree.specs.Reshapes.{Assigns}
use Rattle.gt_leaf.proofs.WritePlaces.{stands-for}
use Rattle.gt_writes.proofs.Anew.{beside_by, put_by}
use Rattle.gt_writes.proofs.elements.judge_found.Goals as goal

pub returns-clause-in_place : goal.returns-clause-in_place
returns-clause-in_place c = λ other e heap value is s.
    let schema = c.args.schema.now in
    let objects = c.args.objects.now in
    let same = ap blocks_in c.of-names.ensures.objects ∙ c.of-names.ensures.blocks schema.program schema.layouts heap c.requires.schema.settled c.requires.schema.laid is in
    put_by same refl
    (c.judge_leaf_at-verdict.ensures.in_place other (c.only_active.ensures.place other e) schema.layouts heap.graph.statics c.args.element.capacity objects.space c.args.element.addr value
    (record { laid = c.requires.schema.laid; inside = c.requires.inside; stands = beside_by same refl s; at = c.requires.place heap.graph.statics value (stands-for s) }))

pub returns-clause-misfit : goal.returns-clause-misfit
returns-clause-misfit c = λ e heap value tree is s means new assigns.
    let schema = c.args.schema.now in
    let objects = c.args.objects.now in
    let same = ap blocks_in c.of-names.ensures.objects ∙ c.of-names.ensures.blocks schema.program schema.layouts heap c.requires.schema.settled c.requires.schema.laid is in
    (c.judge_leaf_at-verdict.ensures.misfit (c.only_active.ensures.misfit e) schema.layouts heap.graph.statics c.args.element.capacity objects.space c.args.element.addr value
    (record { laid = c.requires.schema.laid; inside = c.requires.inside; stands = beside_by same refl s; at = c.requires.place heap.graph.statics value (stands-for s) })).1 tree new means
    (subst (λ bs. Assigns schema.program bs heap.graph.statics c.args.element.capacity c.args.ty.now value c.args.path.now tree new) (sym same) assigns)

pub of-names-requires : goal.of-names-requires
of-names-requires c = record {
  ready = (
    c.args.schema.now.program,
    c.args.schema.now.layouts,
    c.requires.ready.0,
    c.requires.schema.settled,
    c.requires.schema.laid,
    c.requires.ready.1,
    λ t e. c.requires.target t e c.requires.ready.0 c.requires.ready.1,
  );
}
