-- Distinct names.
use Rattle.std.specs.Prelude.{ℕ, if◌then◌else◌, List, [], ◌∷◌, ◌++◌}
use Rattle.std.specs.List.{list_any}
use Rattle.std.specs.Str.{bytes_eq}

-- distinct names with one more at the end, where it is new
abbrev pub with_name : List (List ℕ) → List ℕ → List (List ℕ)
with_name names word = if list_any (λ name. bytes_eq name word) names then names else names ++ word ∷ []
