use Rattle.std.proofs.Common.{◌≡◌, ℕ, List, Some}
use Rattle.gt_mark.specs.Chains.{AreLinks}
use Rattle.gt_mark.specs.Steps.{Task, Holds, left, one_of, state_of}
use Rattle.gt_mark.proofs.Steps.{WentOn}
use Rattle.gt_mark.specs.Wide.{Wide}
use Rattle.gt_mark.proofs.marker.Marker.walk_links.Given as goal

abbrev pub invariant-links : goal.invariant-links
invariant-links l = record {
  ready : (t : Task l.tables l.space) × (begun : List ℕ) × Holds t begun (Some (one_of l.links.walk l.addr)) (state_of l.self);
  links : AreLinks l.tables l.space (one_of l.links.walk l.addr) l.links;
  same_reference : l.self.pages.ghost_name ≡ l.initial.self.pages.ghost_name;
  goes : (t : Task l.tables l.space) (begun : List ℕ) → Holds t begun (Some l.fn.block) (state_of l.initial.self) → WentOn t begun (one_of l.links.walk l.addr) (state_of l.initial.self) (state_of l.self);
  wide : (t : Task l.tables l.space) (begun : List ℕ) → Holds t begun (Some l.fn.block) (state_of l.initial.self) → Wide t (state_of l.initial.self) (Some l.fn.block) → Wide t (state_of l.self) (Some (one_of l.links.walk l.addr));
}

abbrev pub decreases-links : goal.decreases-links
decreases-links l = left (state_of l.self)
