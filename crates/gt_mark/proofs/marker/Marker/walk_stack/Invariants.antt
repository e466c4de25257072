use Rattle.std.proofs.Common.{◌≡◌, ℕ, List, None}
use Rattle.gt_mark.specs.Steps.{Task, Goes, Holds, left, state_of}
use Rattle.gt_mark.specs.Wide.{Wide}
use Rattle.gt_mark.proofs.marker.Marker.walk_stack.Given as goal

abbrev pub invariant-stack : goal.invariant-stack
invariant-stack l = record {
  ready : (t : Task l.tables l.space) × (begun : List ℕ) × Holds t begun None (state_of l.self);
  same_reference : l.self.pages.ghost_name ≡ l.initial.self.pages.ghost_name;
  goes : (t : Task l.tables l.space) (begun : List ℕ) → Holds t begun None (state_of l.initial.self) → Goes t begun None (state_of l.initial.self) (state_of l.self);
  wide : (t : Task l.tables l.space) (begun : List ℕ) → Holds t begun None (state_of l.initial.self) → Wide t (state_of l.initial.self) None → Wide t (state_of l.self) None;
}

abbrev pub decreases-stack : goal.decreases-stack
decreases-stack l = left (state_of l.self)
