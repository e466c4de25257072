use Rattle.std.proofs.Common.{sym}
use Rattle.gt_rules.specs.Faults.{plain_node}
use Rattle.gt_rules.specs.Parts.{RootReorderFaultOf}
use Rattle.gt_rules.proofs.PartLemmas.{nothing_held, one_held}
use Rattle.gt_rules.proofs.roots.of_reorder.Goals as goal

pub returns-in-None : goal.returns-in-None
returns-in-None c =
    let options = c.args.options.options.now in
    record {
      first =
          nothing_held (plain_node options c.args.declared.now) (RootReorderFaultOf c.args.program.now options c.args.options.file) c.args.earliest (sym c.in-None.ensures.named);
    }

pub returns-in-Some : goal.returns-in-Some
returns-in-Some c =
    let options = c.args.options.options.now in
    record {
      first =
          one_held (plain_node options c.args.declared.now) (RootReorderFaultOf c.args.program.now options c.args.options.file) c.in-Some.node c.args.earliest
          c.of_root_reorder.result (sym c.in-Some.ensures.named) c.of_root_reorder.ensures.first;
    }
