use Rattle.std.proofs.Common.{◌≡◌, List, ℕ, [], None}
use Rattle.gt_mark.specs.Steps.{Task, Holds, PassesOver, ahead, state_of}
use Rattle.gt_mark.proofs.marker.Marker.run_pass.Given as goal

abbrev pub invariant-blocks-2 : goal.invariant-blocks-2
invariant-blocks-2 l = record {
  ready : (t : Task l.tables l.space) × (begun : List ℕ) × Holds t begun None (state_of l.self);
  empty : l.self.stack.items ≡ [];
  same_reference : l.self.pages.ghost_name ≡ l.initial.self.pages.ghost_name;
  goes : (t : Task l.tables l.space) (begun : List ℕ) → Holds t begun None (state_of l.initial.self) → PassesOver t begun (state_of l.initial.self) (state_of l.self);
}

abbrev pub decreases-blocks-2 : goal.decreases-blocks-2
decreases-blocks-2 l = ahead (state_of l.self)
