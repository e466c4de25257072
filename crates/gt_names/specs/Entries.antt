-- Values by name.
use Rattle.std.specs.Prelude.{ℕ, Some, None, if◌then◌else◌, List, [], ◌∷◌, ◌++◌, Option, find, option_map}
use Rattle.std.specs.List.{list_any}
use Rattle.std.specs.Str.{bytes_eq}
use Rattle.gt_names.specs.declared.tables.Entry.{Entry}

-- the value of a name, where it has one
abbrev pub value_in : {A : Type 0} → List (Entry A) → List ℕ → Option A
value_in entries word = option_map (λ e. e.value) (find (λ e. bytes_eq e.name word) entries)

-- entries with one more at the end
abbrev pub with_last : {A : Type 0} → List (Entry A) → List ℕ → A → List (Entry A)
with_last entries word value = entries ++ record { name = word; value = value } ∷ []

-- a name is given a value at the end, where it has none
abbrev pub with_value : {A : Type 0} → List (Entry A) → List ℕ → A → List (Entry A)
with_value entries word value =
    if list_any (λ e. bytes_eq e.name word) entries then entries else with_last entries word value

-- the one of two that is there, the first where both are
abbrev pub first_some : {A : Type 0} → Option A → Option A → Option A
first_some (Some x) other = Some x
first_some None other = other
