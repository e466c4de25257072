use Rattle.std.proofs.Common.{◌∙◌, [], ap, subst, sym}
use Rattle.gt_scope.specs.Declarations.{as_constant}
use Rattle.gt_scope.specs.Kinds.{names_in}
use Rattle.gt_scope.specs.Meanings.{AreTypeNames, as_tag, as_typedef}
use Rattle.gt_scope.specs.Repeats.{AreFirsts, AreRepeats, AreTargets}
use Rattle.gt_scope.specs.Tables.{values_from}
use Rattle.gt_scope.proofs.scope.scope_over.Goals as goal

pub meanings_of-requires : goal.meanings_of-requires
meanings_of-requires c =
    record {
      repeated = subst (λ ds. AreRepeats ds c.args.repeated.now) (sym c.deref-4.ensures.value) c.requires.repeated;
      firsts =
          subst (λ ds. AreFirsts ds c.in_ok-typedefs.typedefs.table c.in_ok-typedefs.typedefs.firsts.items)
          (c.deref-3.ensures.value ∙ sym c.deref-4.ensures.value) c.in_ok-typedefs.ensures.firsts;
      tagged = c.in_ok-tags.ensures.tags ∙ ap (values_from as_tag []) (c.deref.ensures.value ∙ sym c.deref-4.ensures.value);
      typed = c.in_ok-typedefs.ensures.typedefs ∙ ap (values_from as_typedef []) (c.deref-3.ensures.value ∙ sym c.deref-4.ensures.value);
    }

pub returns-clause-named : goal.returns-clause-named
returns-clause-named c =
    subst (λ ds. AreTypeNames ds c.in_ok-meanings.meanings.types.items) c.deref-4.ensures.value c.in_ok-meanings.ensures.meant.names

pub invariant_of-result : goal.invariant_of-result
invariant_of-result c =
    record {
      tagged = c.in_ok-tags.ensures.tags ∙ ap (values_from as_tag []) c.deref.ensures.value;
      constant = c.in_ok-constants.ensures.constants ∙ ap (values_from as_constant []) c.deref-2.ensures.value;
      typed = c.in_ok-typedefs.ensures.typedefs ∙ ap (values_from as_typedef []) c.deref-3.ensures.value;
      named = (subst (λ ds. AreTypeNames ds c.in_ok-meanings.meanings.types.items) c.deref-4.ensures.value c.in_ok-meanings.ensures.meant.names).names;
      leads =
          subst (λ ds. AreTargets c.in_ok-tags.tags c.in_ok-typedefs.typedefs.table (names_in c.in_ok-meanings.meanings.targets.tags) ds
          c.in_ok-meanings.meanings.targets.targets.items) c.deref-4.ensures.value c.in_ok-meanings.ensures.leads;
      meanings = c.in_ok-meanings.ensures.meant.have;
    }
