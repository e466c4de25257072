-- No promise: from which structures a cycle is searched, and what the answers are good for.
use Rattle.std.specs.Prelude.{◌≡◌, ◌⊎◌, ℕ, ◌==◌, ◌&&◌, ◌||◌, nat_lt, ◌<◌, Bool, true, false, List, Option, Some, None, slice_get}
use Rattle.gt_drafts.specs.declared.draft.DraftStructure.{DraftStructure}
use Rattle.gt_drafts.specs.Shapes.{has_flag, AreShapes}

-- the tag of one structure stands before the tag of another
abbrev pub comes_before : DraftStructure → DraftStructure → Bool
comes_before s t = nat_lt s.file t.file || (s.file == t.file && nat_lt s.tag.at t.tag.at)

-- a structure that is too deep, with this tag
pub record IsDeepAt (structures : List DraftStructure) (deep : List Bool) (i : ℕ) (s : DraftStructure) : Type 0 where
  pub there : slice_get structures i ≡ Some s
  pub is_deep : has_flag deep i ≡ true

-- the structure at this place is too deep, and of so many others none that is stands before it
pub record IsFirstOf (structures : List DraftStructure) (deep : List Bool) (n i : ℕ) : Type 0 where
  pub t : DraftStructure
  pub is : IsDeepAt structures deep i t
  pub none_before : (j : ℕ) (s : DraftStructure) → j < n → IsDeepAt structures deep j s → comes_before s t ≡ false

-- the one of so many that is too deep and stands first, or none where none is too deep
abbrev pub FirstSoFar : List DraftStructure → List Bool → ℕ → Option ℕ → Type 0
FirstSoFar structures deep n None = (j : ℕ) (s : DraftStructure) → j < n → ¬ IsDeepAt structures deep j s
FirstSoFar structures deep n (Some i) = IsFirstOf structures deep n i

-- a structure that is too deep stands before the one at this place
pub record IsPreceded (structures : List DraftStructure) (deep : List Bool) (i : ℕ) : Type 0 where
  pub j : ℕ
  pub s : DraftStructure
  pub t : DraftStructure
  pub is : IsDeepAt structures deep j s
  pub there : slice_get structures i ≡ Some t
  pub before : comes_before s t ≡ true

-- flags of cycles, of which some may be missing: those of structures before which a structure stands that is too deep
pub record Suffice (structures : List DraftStructure) (deep cyclic told : List Bool) : Type 0 where
  pub only : (i : ℕ) → slice_get told i ≡ Some true → slice_get cyclic i ≡ Some true
  pub known : (i : ℕ) → slice_get cyclic i ≡ Some true → (slice_get told i ≡ Some true) ⊎ IsPreceded structures deep i

-- the flags are the shapes of structures, but for cycles that may be missing
pub record AreShapesFor (structures : List DraftStructure) (told deep tails : List Bool) : Type 0 where
  pub cyclic : List Bool
  pub shapes : AreShapes structures cyclic deep tails
  pub suffice : Suffice structures deep cyclic told
