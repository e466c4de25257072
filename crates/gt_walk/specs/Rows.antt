-- Which edges the rows of walks give on the bytes of a space.
use Rattle.std.specs.Prelude.{ℕ, zero, suc, ◌+◌, ◌-◌, ◌*◌, ◌&&◌, Bool, cond, min, nat_le, ℤ, pos, negsuc, List, [], ◌∷◌, Option, Some, None, length, flat_map, find, slice_get, slice_index_or}
use Rattle.std.specs.List.{range_with_len}
use Rattle.gt_types.specs.declared.expressions.Base.TheVariants.{Here, Outer, Outermost}
use Rattle.gt_types.specs.declared.program.Active.{Active}
use Rattle.gt_types.specs.Values.{value_of, within_i64}
use Rattle.gt_space.specs.Range.{Range}
use Rattle.gt_space.specs.Numbers.{u64_at}
use Rattle.gt_tree.specs.Fits.{is_tag, is_default}
use Rattle.gt_tree.specs.Scopes.{◌then◌}
use Rattle.gt_value.specs.Reading.{bits_from, end_from, bits_number, number_from}
use Rattle.gt_walk.specs.declared.rows.Origin.{Origin}
use Rattle.gt_walk.specs.declared.rows.Origin.TheVariants.{Inside, Zero}
use Rattle.gt_walk.specs.declared.rows.RowLeaf.{RowLeaf}
use Rattle.gt_walk.specs.declared.rows.RowExpr.{RowExpr}
use Rattle.gt_walk.specs.declared.rows.Count.{Count}
use Rattle.gt_walk.specs.declared.rows.Count.TheVariants.{Fixed, Length}
use Rattle.gt_walk.specs.declared.rows.WalkRow.{WalkRow, out-WalkRow}
use Rattle.gt_walk.specs.declared.rows.WalkRow.TheOpen.{WalkRow-F, Arm-F, Note, Ptr, Sub, Rep, Tail, Switch}
use Rattle.gt_walk.specs.declared.rows.WalkRow.TheFolds.{fold-WalkRow}
use Rattle.gt_walk.specs.declared.tables.Tables.{Tables}

-- an edge: the address of a pointer, the address that it holds, and the walk and the count of the block there
pub record Edge : Type 0 where
  pub place : ℕ
  pub target : ℕ
  pub walk : ℕ
  pub count : ℕ

-- the edge of these four numbers
abbrev pub edge : (place target walk count : ℕ) → Edge
edge place target walk count = record { place = place; target = target; walk = walk; count = count }

-- ---- where rows stand

-- the address from which offsets count, and the structures around: the innermost, the one that contains it, and the outermost
pub record Frame : Type 0 where
  pub at : ℕ
  pub here : Option ℕ
  pub outer : Option ℕ
  pub outermost : Option ℕ

-- An element of a block is the innermost structure and the outermost (in a block of pointers or strings no row has an expression, so it does not matter there).
-- At address 0 are the roots, in no structure.
abbrev pub frame_at : ℕ → Frame
frame_at zero = record { at = 0; here = None; outer = None; outermost = None }
frame_at (suc address) = record { at = suc address; here = Some (suc address); outer = None; outermost = Some (suc address) }

-- so many bytes on, in the same structures
abbrev pub moved : Frame → ℕ → Frame
moved f bytes = record f { at = f.at + bytes }

-- the first address where there is one, else the other
abbrev pub first_of : Option ℕ → ℕ → ℕ
first_of (Some address) other = address
first_of None other = other

-- inside the structure that begins so many bytes on: what was the innermost contains it
abbrev pub entered : Frame → ℕ → Frame
entered f bytes = record { at = f.at + bytes; here = Some (f.at + bytes); outer = f.here; outermost = Some (first_of f.outermost (f.at + bytes)) }

-- ---- what expressions read

-- from where an offset counts; none where there is no such structure
abbrev pub origin_of : Frame → Origin → Option ℕ
origin_of f (Inside Here) = f.here
origin_of f (Inside Outer) = f.outer
origin_of f (Inside Outermost) = f.outermost
origin_of f Zero = Some 0

-- from 1 to 64 bits from a bit of the byte at an address on lie in the space
abbrev pub has_bits : Range → (address bit width : ℕ) → Bool
has_bits range address bit width = nat_le range.start address && nat_le (bit + width) (end_from range (address - range.start)) && nat_le 1 width && nat_le width 64

-- the number of so many bits there, with a sign or without; none where they do not lie in the space
abbrev pub number_at : Range → (address : ℕ) → RowLeaf → Option ℤ
number_at range address l =
    cond (has_bits range address l.bit l.width) (Some (number_from l.signed l.width (bits_number (bits_from range (address - range.start)) l.bit l.width))) None

-- the value of a leaf: none outside i64
abbrev pub leaf_value : Range → Frame → RowLeaf → Option ℤ
leaf_value range f l = origin_of f l.origin then λ from. number_at range (from + l.offset) l then within_i64

-- the expressions of rows read no paths: a path has no value
abbrev pub no_path : {A B : Type 0} → A → B → Option ℤ
no_path base steps = None

-- the value of an expression, in which `Root(i)` reads the i-th of its leaves
abbrev pub row_value : Range → Frame → RowExpr → Option ℤ
row_value range f e = value_of no_path (λ i. slice_get e.leaves i then leaf_value range f) e.expr

-- a length: without a value, or below 0, it counts as 0, and above 4,294,967,295 as that
abbrev pub length_of : Option ℤ → ℕ
length_of None = 0
length_of (Some (negsuc n)) = 0
length_of (Some (pos n)) = min n 4294967295

-- how many elements the block has that a pointer names
abbrev pub count_of : Range → Frame → Count → ℕ
count_of range f (Fixed n) = n
count_of range f (Length e) = length_of (row_value range f e)

-- ---- the edges of rows

-- the eight bytes at an address; none where they do not lie in the space
abbrev pub word_at : Range → ℕ → Option ℕ
word_at range address = cond (nat_le range.start address && nat_le (address + 8) (range.start + length range.bytes)) (Some (u64_at range address)) None

-- a pointer that is not null is an edge
abbrev pub pointer_edges : Range → Frame → ℕ → ℕ → Count → Option ℕ → List Edge
pointer_edges range f place walk count None = []
pointer_edges range f place walk count (Some zero) = []
pointer_edges range f place walk count (Some (suc target)) = edge place (suc target) walk (count_of range f count) ∷ []

-- so many elements, each so many bytes after the one before it
abbrev pub each_edges : (Frame → List Edge) → Frame → (bytes size n : ℕ) → List Edge
each_edges elem f bytes size n = flat_map (λ i. elem (moved f (bytes + i * size))) (range_with_len 0 n)

-- what a row gives, by what the walks of parts and the rows of elements and arms give
abbrev pub Gives : Type 0
Gives = Frame → List Edge

-- an arm without a row gives no edge
abbrev pub given_arm : Option Gives → Gives
given_arm (Some gives) f = gives f
given_arm None f = []

-- the first where there is one, else the other
abbrev pub first_some : {A : Type 0} → Option A → Option A → Option A
first_some (Some a) other = Some a
first_some None other = other

-- the arm of a value: the one with this tag, else the default, else none
abbrev pub chosen : Option ℤ → List (Active × Option Gives) → Option (Active × Option Gives)
chosen value arms = first_some (find (λ arm. is_tag value arm.0) arms) (find (λ arm. is_default arm.0) arms)

-- the edges of the arm that is chosen; where none is, there are none
abbrev pub arm_edges : Option (Active × Option Gives) → Frame → List Edge
arm_edges (Some arm) f = given_arm arm.1 f
arm_edges None f = []

-- the edges of a row, by its form
abbrev pub row_step : Range → (ℕ → Gives) → WalkRow-F Gives (Active × Option Gives) → Gives
row_step range walks (Note size chain) f = []
row_step range walks (Ptr offset walk count reorder) f = pointer_edges range f (f.at + offset) walk count (word_at range (f.at + offset))
row_step range walks (Sub offset walk) f = walks walk (entered f offset)
row_step range walks (Rep offset n size elem) f = each_edges elem f offset size n
row_step range walks (Tail offset len size elem) f = each_edges elem f offset size (length_of (row_value range f len))
row_step range walks (Switch desc arms) f = arm_edges (chosen (row_value range f desc) arms.items) f

-- an arm is the member of the union that it is for, and what its row gives
abbrev pub arm_step : Arm-F Gives (Active × Option Gives) → Active × Option Gives
arm_step arm = (arm.active, arm.row)

-- the edges of a row, by what the walks of parts give
abbrev pub row_edges : Range → (ℕ → Gives) → WalkRow → Gives
row_edges range walks = fold-WalkRow Gives (Active × Option Gives) (row_step range walks) arm_step

-- ---- the edges of walks

-- no more walks stand one inside another
abbrev pub MOST_NESTED : ℕ
MOST_NESTED = 34

-- the rows of a walk; none where there is no such walk
abbrev pub rows_of : Tables → ℕ → List WalkRow
rows_of tables walk = slice_index_or tables.walks walk []

-- the edges of a walk where it stands, row by row, where less than so many walks nest
abbrev pub walk_edges : Tables → Range → ℕ → ℕ → Gives
walk_edges tables range zero walk f = []
walk_edges tables range (suc depth) walk f = flat_map (λ row. row_edges range (walk_edges tables range depth) row f) (rows_of tables walk)

-- the bytes that a note says; another row says none
abbrev pub note_size : {A B : Type 0} → WalkRow-F A B → ℕ
note_size (Note size chain) = size
note_size row = 0

-- the bytes of an element, by the note with which the rows begin
abbrev pub size_in_note : List WalkRow → ℕ
size_in_note [] = 0
size_in_note (row ∷ rows) = note_size (out-WalkRow row)

-- The edges of so many elements of a walk from an address on, each as many bytes after the one before it as the walk's note says.
abbrev pub edges_of : Tables → (walk count : ℕ) → Range → ℕ → List Edge
edges_of tables walk count range address =
    flat_map (λ i. walk_edges tables range MOST_NESTED walk (frame_at (address + i * size_in_note (rows_of tables walk)))) (range_with_len 0 count)
