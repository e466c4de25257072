use Rattle.gt_types.specs.declared.expressions.Base.TheVariants.{Outermost}
use Rattle.gt_tables.proofs.NamesIn.{in-told}
use Rattle.gt_tables.proofs.naming.reads_itself.Goals as goal

-- where its own expressions do not name it, the `desc` of unions tell
pub returns-else-own_names : goal.returns-else-own_names
returns-else-own_names c =
    in-told Outermost c.args.structure.now c.own_names.result c.descs_name.result c.as_slice.result.now c.own_names.ensures c.if-own_names.false c.as_slice.ensures.items c.descs_name.ensures
