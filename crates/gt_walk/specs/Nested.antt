-- Which tables are nested: those that are made of a program are.
use Rattle.std.specs.Prelude.{◌≡◌, ◌<◌, ℕ, zero, suc, ◌-◌, Bool, true, false, IsTrue, List, [], ◌∷◌, flat_map, Option, Some, None, length, All}
use Rattle.std.specs.List.{concat, list_any}
use Rattle.gt_walk.specs.declared.rows.WalkRow.{WalkRow, out-WalkRow}
use Rattle.gt_walk.specs.declared.rows.WalkRow.TheOpen.{WalkRow-F, Arm-F, Note, Ptr, Sub, Rep, Tail, Switch}
use Rattle.gt_walk.specs.declared.rows.WalkRow.TheFolds.{fold-WalkRow}
use Rattle.gt_walk.specs.declared.tables.Tables.{Tables}
use Rattle.gt_walk.specs.Rows.{MOST_NESTED, rows_of}
use Rattle.gt_walk.specs.ByRows.{is_note}

-- ---- notes

-- whether one row has a note, by what its elements and arms have
abbrev pub note_at : WalkRow-F Bool Bool → Bool
note_at (Note size chain) = true
note_at (Ptr offset walk count reorder) = false
note_at (Sub offset walk) = false
note_at (Rep offset n size elem) = elem
note_at (Tail offset len size elem) = elem
note_at (Switch desc arms) = list_any (λ arm. arm) arms.items

-- an arm without a row has none
abbrev pub if_row : Option Bool → Bool
if_row (Some row) = row
if_row None = false

-- what an arm has is what its row has
abbrev pub note_in_arm : Arm-F Bool Bool → Bool
note_in_arm arm = if_row arm.row

-- whether a row is a note, or has one in its elements or its arms
abbrev pub has_note : WalkRow → Bool
has_note = fold-WalkRow Bool Bool note_at note_in_arm

-- rows begin with a note and have no other
abbrev pub HaveOneNote : List WalkRow → Type 0
HaveOneNote [] = ⊥
HaveOneNote (row ∷ rows) = IsTrue (is_note (out-WalkRow row)) × All (λ r. has_note r ≡ false) rows

-- ---- the walks that rows name

-- an arm without a row names no walk
abbrev pub all_of : Option (List ℕ) → List ℕ
all_of (Some walks) = walks
all_of None = []

-- the walks that an arm names are those of its row
abbrev pub in_arm : Arm-F (List ℕ) (List ℕ) → List ℕ
in_arm arm = all_of arm.row

-- the walks of parts that one row names, by those of its elements and arms
abbrev pub part_at : WalkRow-F (List ℕ) (List ℕ) → List ℕ
part_at (Note size chain) = []
part_at (Ptr offset walk count reorder) = []
part_at (Sub offset walk) = walk ∷ []
part_at (Rep offset n size elem) = elem
part_at (Tail offset len size elem) = elem
part_at (Switch desc arms) = concat arms.items

-- the walks of parts that a row names, in its elements and arms too
abbrev pub parts_in : WalkRow → List ℕ
parts_in = fold-WalkRow (List ℕ) (List ℕ) part_at in_arm

-- the same with the walks of the blocks that pointers name
abbrev pub name_at : WalkRow-F (List ℕ) (List ℕ) → List ℕ
name_at (Ptr offset walk count reorder) = walk ∷ []
name_at row = part_at row

-- all walks that a row names
abbrev pub names_in : WalkRow → List ℕ
names_in = fold-WalkRow (List ℕ) (List ℕ) name_at in_arm

-- a walk of the tables, by its place
abbrev pub IsWalk : Tables → ℕ → Type 0
IsWalk tables walk = walk < length tables.walks

-- ---- nested tables

-- at most so many parts of a walk lie one inside another
abbrev pub NestsWithin : Tables → ℕ → ℕ → Type 0
NestsWithin tables zero walk = flat_map parts_in (rows_of tables walk) ≡ []
NestsWithin tables (suc most) walk = All (NestsWithin tables most) (flat_map parts_in (rows_of tables walk))

-- Each walk begins with its note and has no other; each walk that a row, a root or a cache names is one of the tables' walks; and at
-- most 33 parts (`MOST_NESTED`, but for the walk itself) lie one inside another.
pub record IsNested (tables : Tables) : Type 0 where
  pub notes : All HaveOneNote tables.walks
  pub rows : All (λ rows. All (IsWalk tables) (flat_map names_in rows)) tables.walks
  pub roots : All (IsWalk tables) tables.roots
  pub caches : All (λ cache. IsWalk tables cache.key × IsWalk tables cache.value) tables.caches
  pub shallow : (walk : ℕ) → IsWalk tables walk → NestsWithin tables (MOST_NESTED - 1) walk
