-- Files as a finite map from their names to their bytes.
use Rattle.std.specs.Prelude.{◌≡◌, ◌≢◌, ℕ, List, Option}
use Rattle.std.specs.Ordering.{nat_cmp}
use Rattle.std.specs.Cmp.Lexicographic.{slice_cmp}
use Rattle.std.specs.FinMap as map

-- the files that a store holds: bytes under names, which are characters
abbrev pub Held : Type 0
Held = map.FinMap (slice_cmp nat_cmp) (List ℕ)

-- no file at all
abbrev pub none_held : Held
none_held = map.empty {R = slice_cmp nat_cmp}

-- the bytes under a name, or none where there is no such file
abbrev pub contents : Held → List ℕ → Option (List ℕ)
contents held name = map.get {R = slice_cmp nat_cmp} held name

-- the same files, with these bytes under this name
abbrev pub with_contents : Held → List ℕ → List ℕ → Held
with_contents held name bytes = map.insert {R = slice_cmp nat_cmp} held name bytes

-- every file but this one is as it was
abbrev pub SameBut : List ℕ → Held → Held → Type 0
SameBut name old new = (other : List ℕ) → other ≢ name → contents new other ≡ contents old other

-- the files of a list of names and bytes
abbrev pub held_of : List (List ℕ × List ℕ) → Held
held_of entries = map.from_entries {R = slice_cmp nat_cmp} entries
