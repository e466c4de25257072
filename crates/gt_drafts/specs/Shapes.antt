-- Which structures contain which by value, and which end in an array with `length`.
use Rattle.std.specs.Prelude.{◌≡◌, ℕ, zero, suc, ◌<◌, ◌↔◌, Bool, true, false, ◌&&◌, ◌||◌, not, List, [], ◌∷◌, length, Option, Some, None, Contains, IsTrue, filter_map, slice_get, if◌then◌else◌}
use Rattle.std.specs.Option.{option_map_or}
use Rattle.gt_items.specs.declared.items.Stars.{Stars}
use Rattle.gt_items.specs.declared.items.Stars.TheVariants.{Zero}
use Rattle.gt_types.specs.declared.limits.TheConstants.{MAX_DEPTH}
use Rattle.gt_drafts.specs.declared.types.BaseType.{BaseType}
use Rattle.gt_drafts.specs.declared.types.BaseType.TheVariants.{Structure}
use Rattle.gt_drafts.specs.declared.types.DeclaredType.{DeclaredType}
use Rattle.gt_drafts.specs.declared.draft.DraftField.{DraftField}
use Rattle.gt_drafts.specs.declared.draft.DraftStructure.{DraftStructure}
use Rattle.gt_drafts.specs.Options.{has_skip, has_length}

-- the flag at a place; there is none after the last
abbrev pub has_flag : List Bool → ℕ → Bool
has_flag flags place = option_map_or (λ flag. flag) (slice_get flags place) false

-- ---- containment

-- the structure that a base without a star is
abbrev pub structure_by_value : BaseType → Stars → Option ℕ
structure_by_value (Structure id) Zero = Some id
structure_by_value base stars = None

-- the structure that something of this type contains by value, alone or in an array
abbrev pub held_type : DeclaredType → Option ℕ
held_type t = if t.is_function then None else structure_by_value t.resolved.base t.resolved.stars

-- the structures that a structure's fields contain by value, in order
abbrev pub held_in : DraftStructure → List ℕ
held_in s = filter_map (λ f. held_type f.ty) s.fields

-- the same of the structure at a place
abbrev pub held_at : List DraftStructure → ℕ → List ℕ
held_at structures id = option_map_or held_in (slice_get structures id) []

-- a structure contains another by value, at any depth
pub data Holds (structures : List DraftStructure) : ℕ → ℕ → Type 0 where
  directly : {i j : ℕ} → Contains (held_at structures i) j → Holds structures i j
  through : {i j k : ℕ} → Contains (held_at structures i) j → Holds structures j k → Holds structures i k

-- so many containments stand one inside another, from a structure on
abbrev pub IsNested : List DraftStructure → ℕ → ℕ → Type 0
IsNested structures zero i = Unit {0}
IsNested structures (suc depth) i = (j : ℕ) × Contains (held_at structures i) j × IsNested structures depth j

-- ---- tails

-- whether there is no item
abbrev pub is_nil : {A : Type 0} → List A → Bool
is_nil [] = true
is_nil (x ∷ xs) = false

-- an array with `length`
abbrev pub is_tail_array : DraftField → Bool
is_tail_array f = has_length f.options && not (is_nil f.ty.bounds) && not f.ty.is_function

-- the last field is such an array
abbrev pub ends_in_tail : List DraftField → Bool
ends_in_tail [] = false
ends_in_tail (f ∷ []) = is_tail_array f
ends_in_tail (f ∷ fs) = ends_in_tail fs

-- the structure that a member of a union is, by value and in no array; one with `skip` is none
abbrev pub member_structure : DraftField → Option ℕ
member_structure f = if has_skip f.options || not (is_nil f.ty.bounds) then None else held_type f.ty

-- A structure is of a tail type: a struct that ends in an array with `length`, or a union with a member of a tail type. There are no
-- others.
pub data IsTail (structures : List DraftStructure) : ℕ → Type 0 where
  struct_tail : {i : ℕ} (s : DraftStructure) → slice_get structures i ≡ Some s → s.is_union ≡ false → IsTrue (ends_in_tail s.fields) → IsTail structures i
  union_tail : {i j : ℕ} (s : DraftStructure) → slice_get structures i ≡ Some s → s.is_union ≡ true → Contains (filter_map member_structure s.fields) j
      → IsTail structures j → IsTail structures i

-- ---- shapes

-- for each structure: whether it contains itself, whether it is too deep, and whether it is of a tail type
pub record AreShapes (structures : List DraftStructure) (cyclic deep tails : List Bool) : Type 0 where
  pub counts : (length cyclic ≡ length structures) × (length deep ≡ length structures) × (length tails ≡ length structures)
  pub cycles : (i : ℕ) → i < length structures → (slice_get cyclic i ≡ Some true) ↔ Holds structures i i
  pub depths : (i : ℕ) → i < length structures → (slice_get deep i ≡ Some true) ↔ IsNested structures (suc MAX_DEPTH) i
  pub tail_types : (i : ℕ) → i < length structures → (slice_get tails i ≡ Some true) ↔ IsTail structures i
