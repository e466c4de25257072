use Rattle.std.proofs.Common.{◌≡◌, true, subst, arith}
use Rattle.gt_tree.specs.Trees.{Tree, End, is_word, part_at}
use Rattle.gt_value.specs.Values.{tree_of}
use Rattle.gt_assign.specs.Checks.{is_word_there}
use Rattle.gt_assign.specs.Pasts.{Whole, past_outside}
use Rattle.gt_assign.specs.Turning.{Gives, made}
use Rattle.gt_assign.proofs.Assigned.{a-leaf, given-fits, given-else, given-none}
use Rattle.gt_assign.proofs.assigning.reshape.Goals as goal

pub returns : goal.returns
returns c =
    let given = subst (λ (t : Tree). Gives c.make_anew.result (made c.args.program.now c.args.capacity 256 (past_outside End) c.args.ty.now (Whole t))) c.in_ok-old.ensures c.make_anew.ensures in
    let a_part : is_word (tree_of c.args.leaf) ≡ true = cc in
    let there : is_word_there (part_at (tree_of c.args.value) c.args.path.now) ≡ true = cc in
    record {
      fits = given-fits c.args.program.now c.requires.settled c.args.capacity (tree_of c.args.value) c.args.path.now (tree_of c.args.leaf) 256 c.args.ty.now c.make_anew.result (a-leaf (tree_of c.args.value) c.args.path.now there) a_part given;
      misfit = given-else c.args.program.now c.requires.settled c.args.capacity (tree_of c.args.value) c.args.path.now (tree_of c.args.leaf) 256 c.args.ty.now c.make_anew.result (omega arith) c.requires.element given;
      shape = given-none c.args.program.now c.requires.settled c.args.capacity (tree_of c.args.value) c.args.path.now (tree_of c.args.leaf) 256 c.args.ty.now c.make_anew.result (omega arith) c.requires.element given;
    }
