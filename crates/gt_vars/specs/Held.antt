-- Variables as they are held, and those that stay bound.
use Rattle.std.specs.Prelude.{◌≡◌, ◌↔◌, ℕ, List, Some}
use Rattle.std.specs.Ordering.{nat_cmp}
use Rattle.std.specs.Cmp.Lexicographic.{slice_cmp}
use Rattle.std.specs.FinMap as fin
use Rattle.gt_next.specs.States.{Variables, meaning}

-- the variables of a list of names and objects
abbrev pub variables_of : List (List ℕ × ℕ) → Variables
variables_of entries = fin.from_entries {R = slice_cmp nat_cmp} entries

-- variables of objects of which this holds stay bound to them, and the others are bound no more
abbrev pub KeepsThose : (ℕ → Type 0) → (old new : Variables) → Type 0
KeepsThose Holds old new = (name : List ℕ) (id : ℕ) → (meaning new name ≡ Some id) ↔ ((meaning old name ≡ Some id) × Holds id)
