use Rattle.gt_types.specs.Shapes.{innermost}
use Rattle.gt_markers.specs.declared.TheConstants.{MISSING_DESC, BAD_PATH}
use Rattle.std.proofs.Common.{◌⊎◌}
use Rattle.gt_rules.specs.Inner.{IsDeclaredInner}
use Rattle.gt_rules.specs.Faults.{IsBareUnion, LacksDesc, NamesBareUnion, NamesInner, names_node}
use Rattle.gt_rules.proofs.FirstLemmas.{first_if, first_of_both}
use Rattle.gt_rules.proofs.PartLemmas.{named_by_number, or_named_by_number}
use Rattle.gt_rules.proofs.fields.of_type.Goals as goal

pub returns : goal.returns
returns c =
    let program = c.args.known.program.now in
    let options = c.args.options.options.now in
    let declared = c.args.declared.now in
    let lacks : Type 0 = LacksDesc program (innermost c.args.ty.now) in
    let named = c.names_node-named.result in
    let found = names_node options declared in
    record {
      first =
          first_of_both
          (first_if c.args.earliest c.with_fault-earliest.result c.lacks_its_desc-undescribed.result (lacks ⊎ NamesBareUnion program options declared) MISSING_DESC c.args.options.file c.args.at
          c.with_fault-earliest.ensures.same
          (or_named_by_number lacks found named (IsBareUnion program) c.lacks_its_desc-undescribed.result c.names_node-named.ensures.named c.lacks_its_desc-undescribed.ensures.decides))
          (first_if c.with_fault-earliest.result c.with_fault.result c.is_named_inner-inner.result (NamesInner c.args.known.draft.now options declared) BAD_PATH c.args.options.file c.args.at
          c.with_fault.ensures.same
          (named_by_number found named (IsDeclaredInner c.args.known.draft.now) c.is_named_inner-inner.result c.names_node-named.ensures.named c.is_named_inner-inner.ensures.decides));
    }
