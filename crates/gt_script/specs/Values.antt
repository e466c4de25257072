-- What a word means where a name, a type or a value is wanted.
use Rattle.std.specs.Prelude.{ℕ, Bool, true, false, not, ◌&&◌, ◌==◌, if◌then◌else◌, codes, List, [], ◌∷◌, length, Option, Some, None}
use Rattle.std.specs.Option.{option_map, option_map_or}
use Rattle.std.specs.List.{list_all, list_any}
use Rattle.std.specs.Str.{is_utf8, chars, bytes_eq}
use Rattle.gt_text.specs.Identifier.{starts_identifier_of, continues_identifier_of}
use Rattle.gt_script.specs.declared.command.TypeName.{TypeName}
use Rattle.gt_script.specs.declared.command.Given.{Given}
use Rattle.gt_script.specs.declared.command.Given.TheVariants.{Integer, Null, Var}
use Rattle.gt_split.specs.Texts.{◌>>=◌, following, before}
use Rattle.gt_split.specs.Numbers.{integer_at}

-- an identifier: a character that may begin one, and then characters that may continue one
unfoldable pub is_identifier_of : List ℕ → Bool
is_identifier_of [] = false
is_identifier_of (c ∷ cs) = starts_identifier_of c && list_all continues_identifier_of cs

-- a name is an identifier in UTF-8, and is seen as its characters
unfoldable pub name_at : List ℕ → Option (List ℕ)
name_at text = if is_utf8 text && is_identifier_of (chars text) then Some (chars text) else None

-- a variable is $ and a name
unfoldable pub variable_at : List ℕ → Option (List ℕ)
variable_at text = do
  name ← following (codes "$") text
  name_at name

-- a type is a name, or a name and * for the pointer to it
abbrev pub named_type : Bool → List ℕ → Option TypeName
named_type star text = option_map (λ name. record { name = name; star = star }) (name_at text)

unfoldable pub type_at : List ℕ → Option TypeName
type_at text = option_map_or (named_type true) (before (codes "*") text) (named_type false text)

-- null, a variable or an integer
unfoldable pub given_at : List ℕ → Option Given
given_at text =
    if bytes_eq text (codes "null") then Some Null
    else option_map_or (λ name. option_map Var (name_at name)) (following (codes "$") text) (option_map Integer (integer_at text))

-- the name of a file is not empty and has no zero
unfoldable pub file_at : List ℕ → Option (List ℕ)
file_at text = if not (length text == 0) && not (list_any (λ c. c == 0) text) && is_utf8 text then Some (chars text) else None
