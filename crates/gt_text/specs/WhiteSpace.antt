-- Which bytes are white space.
use Rattle.std.specs.Prelude.{ℕ, Bool, [], ◌∷◌, ◌==◌}
use Rattle.std.specs.List.{list_any}

-- tab, newline, vertical tab, form feed, carriage return and space
unfoldable pub is_white_space_of : ℕ → Bool
is_white_space_of byte = list_any (λ space. space == byte) (9 ∷ 10 ∷ 11 ∷ 12 ∷ 13 ∷ 32 ∷ [])
