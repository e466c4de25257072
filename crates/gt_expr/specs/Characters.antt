-- The characters of a text that may be no UTF-8.
use Rattle.std.specs.Prelude.{ℕ, zero, suc, ◌+◌, ◌-◌, Bool, false, List, [], ◌∷◌, take, Option, None, slice_get, if◌then◌else◌}
use Rattle.std.specs.Option.{option_map_or}
use Rattle.std.specs.Char.{len_utf8}
use Rattle.std.specs.Str.{is_utf8, chars, continuation_len}

-- as many bytes at the front as the first one says that its character has
abbrev pub front_of : List ℕ → List ℕ
front_of [] = []
front_of (b ∷ bs) = take (1 + continuation_len b) (b ∷ bs)

-- the character at the front, or None where the bytes there are no character in UTF-8
unfoldable pub character_at : List ℕ → Option ℕ
character_at text = if is_utf8 (front_of text) then slice_get (chars (front_of text)) 0 else None

-- how many bytes that character has; a byte of no character stands by itself
abbrev pub width_at : List ℕ → ℕ
width_at text = option_map_or len_utf8 (character_at text) 1

-- whether the character at the front passes a test
abbrev pub begins_with : (ℕ → Bool) → List ℕ → Bool
begins_with p text = option_map_or p (character_at text) false

-- how many bytes the first n bytes and the characters directly after them that pass a test have together
unfoldable pub run_after : ℕ → (ℕ → Bool) → List ℕ → ℕ
run_after n p [] = 0
run_after (suc n) p (b ∷ bs) = 1 + run_after n p bs
run_after zero p (b ∷ bs) = if begins_with p (b ∷ bs) then 1 + run_after (width_at (b ∷ bs) - 1) p bs else 0
