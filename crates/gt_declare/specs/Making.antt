-- No promise: how the planes of the structures of a draft are made, one after another.
use Rattle.std.specs.Prelude.{◌≡◌, ◌≤◌, ◌<◌, ℕ, suc, ◌-◌, List, Some, length, map, slice_get}
use Rattle.gt_layout.specs.declared.planes.Plane.{Plane}
use Rattle.gt_layout.specs.Planes.{IsPlane, held}
use Rattle.gt_layout.specs.Progress.{AreSound, Holds, IsLaid}
use Rattle.gt_drafts.specs.declared.types.DeclaredType.{DeclaredType}
use Rattle.gt_drafts.specs.declared.draft.Draft.{Draft}
use Rattle.gt_drafts.specs.declared.draft.DraftStructure.{DraftStructure}
use Rattle.gt_drafts.specs.Shapes.{IsNested, held_type}
use Rattle.gt_declare.specs.Programs.{unchained}

-- the planes of the structures of a draft; a structure by value has its size and alignment by the same list
pub record AreLaidBy (draft : Draft) (planes : List Plane) : Type 0 where
  pub all : length planes ≡ length draft.structures
  pub each : (place : ℕ) (s : DraftStructure) (plane : Plane) → slice_get draft.structures place ≡ Some s → slice_get planes place ≡ Some plane
      → IsPlane planes (unchained draft planes s) plane

-- what is held of the planes of a draft
pub record AreHeldBy (draft : Draft) (known : List Plane) : Type 0 where
  pub all : length known ≡ length draft.structures
  pub held : (planes : List Plane) → AreLaidBy draft planes → known ≡ map held planes

-- more is laid out than before
pub record Grows (draft : Draft) (before now : List Plane) : Type 0 where
  pub all : length now ≡ length before
  pub kept : (place : ℕ) → IsLaid before place → IsLaid now place
  pub sound : AreSound before → AreSound now
  pub holds : (planes : List Plane) → AreLaidBy draft planes → Holds planes before → Holds planes now

-- containments stand one inside another at most so deep from this structure on
abbrev pub IsShallow : Draft → ℕ → ℕ → Type 0
IsShallow draft depth place = ¬ IsNested draft.structures (suc depth) place

-- what a type holds by value is in the draft, and less deep
abbrev pub HoldsShallow : Draft → ℕ → DeclaredType → Type 0
HoldsShallow draft depth t = (id : ℕ) → held_type t ≡ Some id → (id < length draft.structures) × (1 ≤ depth) × IsShallow draft (depth - 1) id

-- what a type holds by value is laid out
abbrev pub IsHeldLaid : List Plane → DeclaredType → Type 0
IsHeldLaid known t = (id : ℕ) → held_type t ≡ Some id → IsLaid known id
