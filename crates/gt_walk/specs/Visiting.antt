-- No promise: what the proofs of visiting speak of.
use Rattle.std.specs.Prelude.{ℕ, zero, suc, ◌+◌, ◌-◌, Bool, true, false, List, [], ◌∷◌, flat_map, Option, Some, None, find, ℤ}
use Rattle.gt_space.specs.Range.{Range}
use Rattle.gt_tree.specs.Fits.{is_tag, is_default}
use Rattle.gt_walk.specs.Rows.{Edge, edge, Frame, frame_at, Gives, MOST_NESTED, word_at, row_edges, walk_edges, first_some}
use Rattle.gt_walk.specs.declared.rows.Arm.{Arm, out-Arm}
use Rattle.gt_walk.specs.declared.rows.Count.{Count}
use Rattle.gt_walk.specs.declared.rows.Count.TheVariants.{Fixed, Length}
use Rattle.gt_walk.specs.declared.rows.WalkRow.{WalkRow}
use Rattle.gt_walk.specs.declared.rows.WalkRow.TheOpen.{WalkRow-F, Ptr}
use Rattle.gt_walk.specs.declared.tables.Tables.{Tables}
use Rattle.gt_walk.specs.declared.visiting.Elements.{Elements}

-- the edges of one row, where less than so many walks nest
abbrev pub row_at : Tables → Range → ℕ → WalkRow → Gives
row_at tables range left row = row_edges range (walk_edges tables range left) row

-- the edges of rows, one after another
abbrev pub rows_at : Tables → Range → ℕ → List WalkRow → Gives
rows_at tables range left rows f = flat_map (λ row. row_at tables range left row f) rows

-- the same structures around, at another address
abbrev pub stood : Frame → ℕ → Frame
stood f address = record f { at = address }

-- so many elements from an address on, as the program holds them
abbrev pub elements : (place size n : ℕ) → Elements
elements place size n = record { place = place; size = size; n = n }

-- the arm of a value, of arms as they are held
abbrev pub chosen_of : Option ℤ → List Arm → Option Arm
chosen_of value arms = first_some (find (λ a. is_tag value (out-Arm a).active) arms) (find (λ a. is_default (out-Arm a).active) arms)

-- an arm without a row gives no edge
abbrev pub arm_row : Tables → Range → ℕ → Option WalkRow → Gives
arm_row tables range left (Some row) f = row_at tables range left row f
arm_row tables range left None f = []

-- the edges of an arm
abbrev pub arm_at : Tables → Range → ℕ → Option Arm → Gives
arm_at tables range left (Some arm) f = arm_row tables range left (out-Arm arm).row f
arm_at tables range left None f = []

-- the edges of one row at an element of a block
abbrev pub element_row : Tables → Range → ℕ → WalkRow → List Edge
element_row tables range address row = row_at tables range (MOST_NESTED - 1) row (frame_at address)

-- ---- rows of plain pointers

-- whether a count is no expression
abbrev pub is_fixed : Count → Bool
is_fixed (Fixed n) = true
is_fixed (Length e) = false

-- whether a row is a pointer to a block of a fixed count
abbrev pub is_plain : {A B : Type 0} → WalkRow-F A B → Bool
is_plain (Ptr offset walk count reorder) = is_fixed count
is_plain row = false

-- a pointer to a block of a fixed count is an edge where it is not null
abbrev pub fixed_edges : (place walk count : ℕ) → Option ℕ → List Edge
fixed_edges place walk count None = []
fixed_edges place walk count (Some zero) = []
fixed_edges place walk count (Some (suc target)) = edge place (suc target) walk count ∷ []

-- the edges of a pointer whose count is no expression
abbrev pub counted_edges : Range → (place walk : ℕ) → Count → List Edge
counted_edges range place walk (Fixed n) = fixed_edges place walk n (word_at range place)
counted_edges range place walk (Length e) = []

-- what such a row gives at an address
abbrev pub plain_edges : {A B : Type 0} → Range → ℕ → WalkRow-F A B → List Edge
plain_edges range at (Ptr offset walk count reorder) = counted_edges range (at + offset) walk count
plain_edges range at row = []
