-- How the fields of a structure are read.
use Rattle.std.specs.Prelude.{ℕ, zero, suc, Bool, true, false, ◌||◌, if◌then◌else◌, List, [], ◌∷◌, ◌++◌, length, codes, Option, Some, None}
use Rattle.std.specs.Str.{bytes_eq}
use Rattle.gt_search.specs.declared.faults.TheConstants.{UNSUPPORTED}
use Rattle.gt_items.specs.declared.items.Declarator.{Declarator}
use Rattle.gt_items.specs.declared.items.RawField.{RawField}
use Rattle.gt_items.specs.declared.items.Stars.TheVariants.{Zero}
use Rattle.gt_search.specs.declared.lexeme.Bracket.TheVariants.{Round, Brace}
use Rattle.gt_search.specs.declared.lexeme.Lexeme.{Lexeme}
use Rattle.gt_search.specs.declared.lexeme.Lexeme.TheVariants as lexeme
use Rattle.gt_marked.specs.declared.types.Context.TheVariants.{InField}
use Rattle.gt_search.specs.Lexemes.{kept_text}
use Rattle.gt_marked.specs.Outcome.{Outcome, Read, Stops, Ends, ◌>>=◌, unexpected}
use Rattle.gt_marked.specs.Markers.{maybe_marker, open_round_at, close_round_at}
use Rattle.gt_marked.specs.Types.{without_qualifiers, stars_at, name_at, type_at}
use Rattle.gt_marked.specs.Groups.{inside_from, before_end, bounds_from}

-- the text of a bit count after a colon, or none
unfoldable pub bits_at : List Lexeme → Outcome (Option (List ℕ))
bits_at (lexeme.Colon s ∷ ts) = before_end 0 ts >>= λ text. Read (Some (kept_text text.0)) text.1
bits_at ts = Read None ts

-- no bracket may stand after the name of a field: it would be a member function
unfoldable pub no_function_at : List Lexeme → Outcome (Unit {0})
no_function_at (lexeme.Open Round s ∷ ts) = Stops UNSUPPORTED s.start
no_function_at ts = Read tt ts

-- {"*"} [marker] NAME {"[" text "]"} [":" text]
unfoldable pub plain_declarator_at : List Lexeme → Outcome Declarator
plain_declarator_at ts = do
  options ← maybe_marker (stars_at ts).1
  name ← name_at options.1
  no_function ← no_function_at name.1
  bounds ← bounds_from (length no_function.1) [] no_function.1
  bits ← bits_at bounds.1
  Read (record { is_function = false; stars = (stars_at ts).0; options = options.0; name = name.0; bounds = bounds.0; bits = bits.0 }) bits.1

-- a star that has to stand at the front
abbrev pub star_at : List Lexeme → Outcome (Unit {0})
star_at (lexeme.Star s ∷ ts) = Read tt ts
star_at ts = unexpected ts

-- "(" "*" [marker] NAME ")" "(" skipped ")", after the first bracket
unfoldable pub function_declarator_at : List Lexeme → Outcome Declarator
function_declarator_at ts = do
  star ← star_at ts
  options ← maybe_marker (without_qualifiers star.1)
  name ← name_at options.1
  closed ← close_round_at name.1
  opened ← open_round_at closed.1
  skipped ← inside_from 0 opened.1
  Read (record { is_function = true; stars = Zero; options = options.0; name = name.0; bounds = []; bits = None }) skipped.1

-- what declares a field
unfoldable pub declarator_at : List Lexeme → Outcome Declarator
declarator_at (lexeme.Open Round s ∷ ts) = function_declarator_at ts
declarator_at ts = plain_declarator_at ts

-- whether a list goes on after a comma, or a semicolon ends it
abbrev pub goes_on_at : List Lexeme → Outcome Bool
goes_on_at (lexeme.Comma s ∷ ts) = Read true ts
goes_on_at (lexeme.Semicolon s ∷ ts) = Read false ts
goes_on_at ts = unexpected ts

-- what goes on after a comma, and what was read where a semicolon ends it
abbrev pub after_declarator : {A : Type 0} → (List Lexeme → Outcome A) → A → List Lexeme → Outcome A
after_declarator go declarators (lexeme.Comma s ∷ ts) = go ts
after_declarator go declarators (lexeme.Semicolon s ∷ ts) = Read declarators ts
after_declarator go declarators ts = unexpected ts

-- declarators with commas between them and a semicolon after them, after those that were read; at most count
unfoldable pub declarators_from : ℕ → List Declarator → List Lexeme → Outcome (List Declarator)
declarators_from zero declarators ts = Ends
declarators_from (suc count) declarators ts = do
  one ← declarator_at ts
  after_declarator (declarators_from count (declarators ++ one.0 ∷ [])) (declarators ++ one.0 ∷ []) one.1

-- the words of access labels
abbrev pub is_access : List ℕ → Bool
is_access word = bytes_eq word (codes "public") || bytes_eq word (codes "private") || bytes_eq word (codes "protected")

-- no access label may stand at the front
unfoldable pub no_label_at : List Lexeme → Outcome (Unit {0})
no_label_at (lexeme.Name s ∷ lexeme.Colon c ∷ ts) = if is_access s.word then Stops UNSUPPORTED s.start else Read tt (lexeme.Name s ∷ lexeme.Colon c ∷ ts)
no_label_at ts = Read tt ts

-- field := type declarator {"," declarator} ";"
unfoldable pub field_at : List Lexeme → Outcome RawField
field_at ts = do
  no_label ← no_label_at ts
  type ← type_at InField no_label.1
  declarators ← declarators_from (length type.1) [] type.1
  Read (record { ty = type.0; declarators = declarators.0 }) declarators.1

-- the tokens after a brace that closes at the front
abbrev pub brace_after : List Lexeme → Option (List Lexeme)
brace_after (lexeme.Close Brace s ∷ ts) = Some ts
brace_after ts = None

-- what was read where a brace ends it, or else what goes on
abbrev pub until_brace : {A : Type 0} → (List Lexeme → Outcome A) → A → List Lexeme → Outcome A
until_brace go fields (lexeme.Close Brace s ∷ ts) = Read fields ts
until_brace go fields ts = go ts

-- one field or more up to a closing brace, after those that were read; at most count
unfoldable pub fields_from : ℕ → List RawField → List Lexeme → Outcome (List RawField)
fields_from zero fields ts = Ends
fields_from (suc count) fields ts = do
  one ← field_at ts
  until_brace (fields_from count (fields ++ one.0 ∷ [])) (fields ++ one.0 ∷ []) one.1
