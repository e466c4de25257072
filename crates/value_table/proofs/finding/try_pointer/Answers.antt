use Rattle.std.proofs.Common.{sym, subst}
use Rattle.gt_types.specs.Paths.{MayStand}
use Rattle.gt_tree.specs.Trees.{End}
use Rattle.gt_tree.specs.Blocks.{Pointers}
use Rattle.sample_program.specs.Sample.{node}
use Rattle.value_notation.specs.Blocks.{blocks}
use Rattle.value_notation.proofs.Alone.{item_stands}
use Rattle.value_table.proofs.finding.try_pointer.Goals as goal

pub zero-requires-clause-element : goal.zero-requires-clause-element
zero-requires-clause-element c = (Pointers (node 0), subst (λ p. MayStand p (node 0)) (sym c.requires.ready.is_sample) item_stands, c.requires.pointer)

pub write_one-requires-clause-element : goal.write_one-requires-clause-element
write_one-requires-clause-element c = (Pointers (node 0), subst (λ p. MayStand p (node 0)) (sym c.requires.ready.is_sample) item_stands, c.requires.pointer)

pub write_one-requires-clause-fits : goal.write_one-requires-clause-fits
write_one-requires-clause-fits c = (End, (c.in_ok-nothing.ensures.zero blocks End).fits)

pub find_stored-requires-clause-element : goal.find_stored-requires-clause-element
find_stored-requires-clause-element c = (Pointers (node 0), subst (λ p. MayStand p (node 0)) (sym c.requires.ready.is_sample) item_stands, c.requires.pointer)
