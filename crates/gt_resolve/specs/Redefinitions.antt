-- Second definitions with another meaning, found by the first definition of each name.
use Rattle.std.specs.Prelude.{ℕ, suc, Bool, true, ◌&&◌, ◌||◌, not, ◌==◌, if◌then◌else◌, List, [], ◌∷◌, ◌++◌, slice_get, slice_set}
use Rattle.std.specs.Option.{option_map_or}
use Rattle.gt_types.specs.declared.faults.Fault.{Fault}
use Rattle.gt_resolve.specs.declared.TheConstants.{REDEFINED}
use Rattle.gt_scope.specs.declared.declaration.Declaration.{Declaration}
use Rattle.gt_scope.specs.declared.declaration.What.{What}
use Rattle.gt_scope.specs.declared.meaning.TypedefMeaning.{TypedefMeaning}
use Rattle.gt_names.specs.declared.tables.Entry.{Entry}
use Rattle.gt_resolve.specs.Faults.{agree, is_tag}
use Rattle.gt_drafts.specs.FirstFaults.{fault_if}
use Rattle.gt_drafts.specs.Shapes.{has_flag}
use Rattle.gt_drafts.specs.Sameness.{same_bool}
use Rattle.gt_names.specs.Entries.{value_in, with_value}

-- the places with one more declaration, where it is of this space of names
abbrev pub with_first : (tags : Bool) → ℕ → Declaration → List (Entry ℕ) → List (Entry ℕ)
with_first tags place d entries = if same_bool tags (is_tag d.what) then with_value entries d.name.word place else entries

-- the places of the first declarations of each name of a space, where the first declaration has this place
unfoldable pub first_places : (tags : Bool) → ℕ → List (Entry ℕ) → List Declaration → List (Entry ℕ)
first_places tags place entries [] = entries
first_places tags place entries (d ∷ ds) = first_places tags (suc place) (with_first tags place d entries) ds

-- the place of the first declaration of the name of a declaration, by the places of tags and of other names
abbrev pub first_place : (tags others : List (Entry ℕ)) → Declaration → ℕ → ℕ
first_place tags others d place = option_map_or (λ first. first) (value_in (if is_tag d.what then tags else others) d.name.word) place

-- the definition agrees with the first of its name
abbrev pub agrees_at : List Declaration → List TypedefMeaning → What → ℕ → Bool
agrees_at all types w first = option_map_or (λ other. agree all types w other.what) (slice_get all first) true

-- the definition has another meaning than the first of its name, or than one between that has another
abbrev pub is_clash : List Declaration → List TypedefMeaning → (clashed : List Bool) → What → (first place : ℕ) → Bool
is_clash all types clashed w first place = not (first == place) && (has_flag clashed first || not (agrees_at all types w first))

abbrev pub with_clash : Bool → ℕ → List Bool → List Bool
with_clash clash first clashed = if clash then slice_set clashed first true else clashed

-- the faults of declarations of which the first has this place, where some first declarations are marked
unfoldable pub marked_faults : List Declaration → List TypedefMeaning → (tags others : List (Entry ℕ)) → ℕ → List Bool → List Declaration → List Fault
marked_faults all types tags others place clashed [] = []
marked_faults all types tags others place clashed (d ∷ ds) =
    let first = first_place tags others d place in
    let clash = is_clash all types clashed d.what first place in
    fault_if clash REDEFINED d.file d.name.at ++ marked_faults all types tags others (suc place) (with_clash clash first clashed) ds
