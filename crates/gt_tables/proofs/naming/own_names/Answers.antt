use Rattle.gt_tables.proofs.NamesIn.{own-told}
use Rattle.gt_tables.proofs.naming.own_names.Goals as goal

-- where its `desc` does not name it, the lengths of fields tell
pub returns-else-may_name : goal.returns-else-may_name
returns-else-may_name c =
    own-told c.args.base c.args.structure.now c.may_name.result c.counts_name.result c.as_slice.result.now c.may_name.ensures c.if-may_name.false c.as_slice.ensures.items c.counts_name.ensures
