use Rattle.std.proofs.Common.{◌≡◌, ◌⊎◌, ◌≤◌, ℕ, List, [], None}
use Rattle.gt_mark.specs.Steps.{Task, Ends, Holds, passes, place_of, state_of}
use Rattle.gt_mark.proofs.marker.Marker.walk_rest.Given as goal

abbrev pub invariant-rounds : goal.invariant-rounds
invariant-rounds l = record {
  ready : (t : Task l.tables l.space) × (begun : List ℕ) × Holds t begun None (state_of l.self);
  idle : place_of (state_of l.self) ≡ None;
  empty : l.self.stack.items ≡ [];
  same_reference : l.self.pages.ghost_name ≡ l.initial.self.pages.ghost_name;
  ends : (t : Task l.tables l.space) (begun : List ℕ) → Holds t begun None (state_of l.initial.self) → Ends t begun l.rounds (state_of l.initial.self) (state_of l.self);
  at_least : 1 ≤ l.rounds;
  again : (state_of l.self ≡ state_of l.initial.self) ⊎ (2 ≤ l.rounds);
  one : l.initial.self.lost ≡ None → (l.rounds ≡ 1) × (l.self.lost ≡ None);
}

abbrev pub decreases-rounds : goal.decreases-rounds
decreases-rounds l = passes (state_of l.self)
