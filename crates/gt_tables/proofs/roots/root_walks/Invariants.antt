use Rattle.std.proofs.Common.{◌≡◌, ℕ, ◌+◌, ◌*◌, List, [], length, drop}
use Rattle.std.specs.Prelude.{All}
use Rattle.std.specs.List.{filter}
use Rattle.gt_edges.specs.Edges.{has_walk}
use Rattle.gt_tables.specs.Building.{first_of, Grows, IsThere, AreServed, ServesRoots}
use Rattle.gt_tables.specs.Counting.{Counted}
use Rattle.gt_tables.proofs.roots.root_walks.Given as goal

abbrev pub invariant-loop-i : goal.invariant-loop-i
invariant-loop-i l = record {
  grows : Grows l.source.program.now l.fn.parts l.parts;
  served : AreServed l.source l.parts;
  counted : (n : ℕ) (hand : List ℕ) → Counted l.source l.fn.parts n [] hand → Counted l.source l.parts (n + 2 * length l.roots.items) l.roots.items hand;
  serves : ServesRoots l.source l.parts.walks.items l.i l.roots.items;
  roots : All (IsThere (first_of l.source) l.parts.walks.items) l.roots.items;
  count : length l.roots.items + length (filter has_walk (drop l.i l.all)) ≡ length (filter has_walk l.all);
}
