-- The edges of elements, for a caller that has the rows of their walk at hand. The law of this crate says that they are the edges of the walk.
use Rattle.std.specs.Prelude.{ℕ, zero, suc, ◌+◌, ◌-◌, Bool, true, false, if◌then◌else◌, List, [], ◌∷◌, ◌++◌, flat_map}
use Rattle.gt_space.specs.Range.{Range}
use Rattle.gt_walk.specs.declared.rows.WalkRow.{WalkRow, out-WalkRow}
use Rattle.gt_walk.specs.declared.rows.WalkRow.TheOpen.{WalkRow-F, Note}
use Rattle.gt_walk.specs.declared.tables.Tables.{Tables}
use Rattle.gt_walk.specs.Rows.{Edge, MOST_NESTED, frame_at, row_edges, size_in_note, walk_edges}

-- whether a row is a note itself
abbrev pub is_note : {A B : Type 0} → WalkRow-F A B → Bool
is_note (Note size chain) = true
is_note row = false

-- the rows after the note with which they begin
abbrev pub after_note : List WalkRow → List WalkRow
after_note [] = []
after_note (row ∷ rows) = if is_note (out-WalkRow row) then rows else row ∷ rows

-- the edges of the element at an address, row by row; of the `MOST_NESTED` walks that may nest, its own is the first
abbrev pub element_edges : Tables → Range → List WalkRow → ℕ → List Edge
element_edges tables range rows address = flat_map (λ row. row_edges range (walk_edges tables range (MOST_NESTED - 1)) row (frame_at address)) rows

-- what is given at so many addresses, each so many bytes after the one before it
abbrev pub run_edges : (ℕ → List Edge) → (place size n : ℕ) → List Edge
run_edges gives place size zero = []
run_edges gives place size (suc n) = gives place ++ run_edges gives (place + size) size n

-- the edges of so many elements from an address on, each as many bytes after the one before it as the note says
abbrev pub edges_of_rows : Tables → List WalkRow → (count : ℕ) → Range → ℕ → List Edge
edges_of_rows tables rows count range address = run_edges (element_edges tables range rows) address (size_in_note rows) count
