use Rattle.std.proofs.Common.{◌-◌, drop, take, get_or, length, ap, Some, None, option_copied}
use Rattle.gt_value.proofs.CursorSteps.{split-path}
use Rattle.gt_starts.specs.Paths.{BeginsIn}
use Rattle.gt_starts.specs.Ways.{way_to}
use Rattle.gt_leaf.specs.Unread.{none_around, structures_from}
use Rattle.gt_leaf.proofs.TableLemmas.{top-leads, first-outermost}
use Rattle.gt_leaf.proofs.reads.Reads.+is_read_outermost.Goals as goal

pub returns-in-Node : goal.returns-in-Node
returns-in-Node t c =
    let program = c.args.program.now in
    let path = c.args.path.now in
    let node = c.in-Node.id in
    record {
      read = top-leads (BeginsIn c.args.self.now.outermost) c.args.name.now (structures_from program (none_around None) (option_copied c.args.ty) path).outermost (node, way_to program (Some node) path) c.leads.result
          (first-outermost program (option_copied c.args.ty) c.in-Some.ty.now node c.in-Node.desc path (get_or path 0 0) (take (length path - 1) (drop 1 path)) (ap option_copied c.in-Some.is) c.in-Node.is (split-path path c.in-len1-up.len_at_least))
          c.leads.ensures.leads;
    }
