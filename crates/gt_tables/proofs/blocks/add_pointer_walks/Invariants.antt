use Rattle.std.proofs.Common.{◌≡◌, ◌+◌, ◌++◌, length, List}
use Rattle.std.specs.Prelude.{All}
use Rattle.gt_walk.specs.declared.rows.WalkRow.{WalkRow}
use Rattle.gt_tables.specs.Building.{first_of, AreRows, Shallow}
use Rattle.gt_tables.specs.Counting.{named_by}
use Rattle.gt_tables.proofs.ServingBlocks.{EachPoints}
use Rattle.gt_tables.proofs.blocks.add_pointer_walks.Given as goal

abbrev pub invariant-loop-i : goal.invariant-loop-i
invariant-loop-i l = record {
  walks : (parts : List (List WalkRow)) → All (AreRows (first_of l.source) parts Shallow) l.fn.walks.items → All (AreRows (first_of l.source) parts Shallow) l.walks.items;
  kept : (more : List (List WalkRow)) × (l.walks.items ≡ l.fn.walks.items ++ more);
  pointers : EachPoints l.source.program.now (length l.fn.walks.items) l.walks.items;
  bare : named_by l.walks.items ≡ named_by l.fn.walks.items;
  long : length l.walks.items ≡ length l.fn.walks.items + l.i;
}
