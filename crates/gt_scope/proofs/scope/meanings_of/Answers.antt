use Rattle.std.proofs.Common.{◌∙◌, length, ap, subst, sym}
use Rattle.gt_scope.specs.Chains.{AreMeanings}
use Rattle.gt_scope.specs.Kinds.{names_in}
use Rattle.gt_scope.specs.Repeats.{AreLinks, AreNamed, AreTargets}
use Rattle.gt_scope.proofs.ScopeLemmas.{all_meant}
use Rattle.gt_scope.proofs.scope.meanings_of.Goals as goal

pub type_names-requires : goal.type_names-requires
type_names-requires c =
    let tags = names_in c.in_ok-targets.targets.tags in
    let are : AreLinks c.args.tags.now c.args.typedefs.now.table tags c.in_ok-links.links.items =
    c.in_ok-links.ensures.links c.args.tags.now tags
    (subst (AreTargets c.args.tags.now c.args.typedefs.now.table tags c.args.declarations.now) (sym c.deref-2.ensures.value) c.in_ok-targets.ensures.targets) in
    record { counted = ap length c.deref-4.ensures.value ∙ c.in_ok-meant.ensures.meanings.counted ∙ ap length c.deref-3.ensures.value ∙ are.counted }

pub returns-clause-meant : goal.returns-clause-meant
returns-clause-meant c =
    let tags = names_in c.in_ok-targets.targets.tags in
    let are : AreLinks c.args.tags.now c.args.typedefs.now.table tags c.in_ok-links.links.items =
    c.in_ok-links.ensures.links c.args.tags.now tags
    (subst (AreTargets c.args.tags.now c.args.typedefs.now.table tags c.args.declarations.now) (sym c.deref-2.ensures.value) c.in_ok-targets.ensures.targets) in
    all_meant c.args.declarations.now c.args.tags.now c.args.typedefs.now.table tags c.in_ok-links.links.items c.in_ok-meant.meant.items
    c.in_ok-types.types.items c.requires.tagged c.requires.typed are
    (subst (λ links. AreMeanings links c.in_ok-meant.meant.items) c.deref-3.ensures.value c.in_ok-meant.ensures.meanings) c.in_ok-types.ensures.names
    (subst (λ meant. AreNamed tags meant c.in_ok-types.types.items) c.deref-4.ensures.value c.in_ok-types.ensures.named)
