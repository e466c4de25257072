use Rattle.std.proofs.Common.{◌≡◌, length}
use Rattle.std.specs.Prelude.{All}
use Rattle.gt_tables.specs.Building.{first_of, AreRows, Grows, Shallow, AreServed}
use Rattle.gt_tables.specs.Counting.{named_by, StaysCounted}
use Rattle.gt_tables.proofs.ServingBlocks.{EachServes}
use Rattle.gt_tables.proofs.blocks.standing_walks.Given as goal

abbrev pub invariant-loop-i : goal.invariant-loop-i
invariant-loop-i l = record {
  grows : Grows l.source.program.now l.fn.parts l.parts;
  served : AreServed l.source l.parts;
  counted : StaysCounted l.source (named_by l.walks.items) l.fn.parts l.parts;
  serves : EachServes l.source l.parts.walks.items l.walks.items;
  walks : All (AreRows (first_of l.source) l.parts.walks.items Shallow) l.walks.items;
  long : length l.walks.items ≡ l.i;
}
