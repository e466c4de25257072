use Rattle.std.proofs.Common.{◌≡◌, true, subst, arith}
use Rattle.gt_tree.specs.Trees.{Tree, is_word, part_at}
use Rattle.gt_value.specs.Values.{tree_of}
use Rattle.gt_assign.specs.Checks.{is_word_there}
use Rattle.gt_assign.specs.Turning.{Gives, record_made}
use Rattle.gt_assign.proofs.Assigned.{a-leaf}
use Rattle.gt_assign.proofs.Records.{given-fits, given-else, given-none}
use Rattle.gt_assign.proofs.statics.reshape_statics.Goals as goal

pub returns : goal.returns
returns c =
    let given = subst (λ (t : Tree). Gives c.record_anew.result (record_made c.args.program.now 256 t)) c.in_ok-written.ensures c.record_anew.ensures in
    let a_part : is_word (tree_of c.args.leaf) ≡ true = cc in
    let there : is_word_there (part_at (tree_of c.args.values) c.args.path.now) ≡ true = cc in
    record {
      fits = given-fits c.args.program.now c.requires.settled (tree_of c.args.values) c.args.path.now (tree_of c.args.leaf) 256 c.record_anew.result c.requires.roots.0 c.requires.roots.1 (a-leaf (tree_of c.args.values) c.args.path.now there) a_part given;
      misfit = given-else c.args.program.now c.requires.settled (tree_of c.args.values) c.args.path.now (tree_of c.args.leaf) 256 c.record_anew.result (omega arith) given;
      shape = given-none c.args.program.now c.requires.settled (tree_of c.args.values) c.args.path.now (tree_of c.args.leaf) 256 c.record_anew.result (omega arith) given;
    }
