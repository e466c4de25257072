use Rattle.std.proofs.Common.{◌≡◌, [], None}
use Rattle.std.specs.Prelude.{All}
use Rattle.gt_mark.specs.Reached.{NamesBlock, root_edges, root_targets}
use Rattle.gt_mark.specs.Steps.{Task, start_state, state_of}
use Rattle.gt_mark.specs.Wide.{Wide}
use Rattle.gt_mark.proofs.Roots.{RootsTaken}
use Rattle.gt_mark.proofs.marking.mark_roots.Given as goal

abbrev pub invariant-loop-walk : goal.invariant-loop-walk
invariant-loop-walk l = record {
  same_reference : l.marker.pages.ghost_name ≡ l.initial.marker.pages.ghost_name;
  empty : l.marker.stack.items ≡ [];
  taken : (t : Task l.tables l.space) → start_state t.before ≡ state_of l.initial.marker → t.starts ≡ root_targets l.tables l.space → All (NamesBlock t.before.slots t.walks) (root_edges l.tables l.space)
      → RootsTaken t l.walk-items l.walk-index (state_of l.marker);
  wide : (t : Task l.tables l.space) → start_state t.before ≡ state_of l.initial.marker → t.starts ≡ root_targets l.tables l.space → All (NamesBlock t.before.slots t.walks) (root_edges l.tables l.space) → Wide t (state_of l.marker) None;
}
