-- Values by name, where the first of a name counts.
use Rattle.std.specs.Prelude.{ℕ, ℤ, if◌then◌else◌, List, [], ◌∷◌, Option, Some, None}
use Rattle.std.specs.Str.{bytes_eq}
use Rattle.gt_names.specs.Entries.{first_some}

-- a value, where this is its name
abbrev pub value_named : List ℕ → ℤ → List ℕ → Option ℤ
value_named name value word = if bytes_eq name word then Some value else None

-- the value of the first name that is the word, where these are the names and their values
abbrev pub first_value : List (List ℕ) → List ℤ → List ℕ → Option ℤ
first_value [] values word = None
first_value (name ∷ names) [] word = None
first_value (name ∷ names) (value ∷ values) word = first_some (value_named name value word) (first_value names values word)

-- the same of a list of names and the list of their values
abbrev pub value_in : List (List ℕ) × List ℤ → List ℕ → Option ℤ
value_in constants word = first_value constants.0 constants.1 word
