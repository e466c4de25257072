use Rattle.std.proofs.Common.{refl}
use Rattle.gt_leaf.proofs.TableLemmas.{table-of}
use Rattle.gt_leaf.proofs.reads.Reads.of_few.Goals as goal

pub returns : goal.returns
returns c = record {
  table = table-of c.args.program.now c.in_ok-inside.inside c.in_ok-outermost.outermost c.add_named.new.self c.new-roots.result _ refl c.in_ok-inside.ensures.paths c.in_ok-outermost.ensures.paths c.new-roots.ensures.empty c.in_ok-add_named.ensures.added;
}
