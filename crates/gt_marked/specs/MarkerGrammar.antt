-- The grammar of markers and of types. Each case is a rule: which tokens are read as what, or with which fault reading stops. The
-- relations say nothing of how tokens are read.
use Rattle.std.specs.Prelude.{◌≡◌, ℕ, ◌==◌, Bool, true, false, List, [], ◌∷◌, ◌++◌, encode_utf8_all, Option, Some, None, Result, Ok, Err}
use Rattle.std.specs.Option.{option_map}
use Rattle.gt_expr.specs.declared.raw.RawExpr.{RawExpr}
use Rattle.gt_expr.specs.declared.TheConstants.{BAD_EXPR}
use Rattle.gt_expr.specs.Expression.{expression_of}
use Rattle.gt_items.specs.declared.items.RawOption.{RawOption}
use Rattle.gt_items.specs.declared.items.Parameter.{Parameter}
use Rattle.gt_items.specs.declared.items.Parameter.TheVariants.{Absent, Expression, Text}
use Rattle.gt_search.specs.declared.lexeme.TokenText.{TokenText}
use Rattle.gt_search.specs.declared.lexeme.Bracket.TheVariants.{Round}
use Rattle.gt_search.specs.declared.lexeme.Lexeme.{Lexeme}
use Rattle.gt_search.specs.declared.lexeme.Lexeme.TheVariants as lexeme
use Rattle.gt_search.specs.Lexemes.{spot_of, is_identifier, name_of}
use Rattle.gt_marked.specs.Markers.{inside_quotes, takes_expression}
use Rattle.gt_marked.specs.Outcome.{Outcome, Read, Stops, Ends, unexpected}
use Rattle.gt_search.specs.Search.{is_gty}

-- ---- the words of the rules

-- why something is not read: a fault, with its number and its place; or the tokens end too early
pub data Failure : Type 0 where
  Fault : (number at : ℕ) → Failure
  Early : Failure

abbrev pub failed : {A : Type 0} → Failure → Outcome A
failed (Fault number at) = Stops number at
failed Early = Ends

-- whether there is a first token and it passes a test
abbrev pub begins : (Lexeme → Bool) → List Lexeme → Bool
begins test [] = false
begins test (t ∷ ts) = test t

abbrev pub is_quoted : Lexeme → Bool
is_quoted (lexeme.Quoted s) = true
is_quoted t = false

abbrev pub is_comma : Lexeme → Bool
is_comma (lexeme.Comma s) = true
is_comma t = false

abbrev pub opens_round : Lexeme → Bool
opens_round (lexeme.Open Round s) = true
opens_round t = false

abbrev pub closes_round : Lexeme → Bool
closes_round (lexeme.Close Round s) = true
closes_round t = false

-- ---- markers and their options

-- the bytes that a literal's inside means: a backslash (92) may stand before a quote (34) or a backslash alone; otherwise there are none
pub data Unescapes : List ℕ → Option (List ℕ) → Type 0 where
  nothing : Unescapes [] (Some [])
  byte : {bytes : List ℕ} {text : Option (List ℕ)} (b : ℕ) → (b == 92) ≡ false → Unescapes bytes text → Unescapes (b ∷ bytes) (option_map (λ rest. b ∷ rest) text)
  quote : {bytes : List ℕ} {text : Option (List ℕ)} → Unescapes bytes text → Unescapes (92 ∷ 34 ∷ bytes) (option_map (λ rest. 34 ∷ rest) text)
  backslash : {bytes : List ℕ} {text : Option (List ℕ)} → Unescapes bytes text → Unescapes (92 ∷ 92 ∷ bytes) (option_map (λ rest. 92 ∷ rest) text)
  other : {bytes : List ℕ} (b : ℕ) → (b == 34) ≡ false → (b == 92) ≡ false → Unescapes (92 ∷ b ∷ bytes) None
  alone : Unescapes (92 ∷ []) None

-- what the joined strings of an option of this name are: its parameter, or the number of a fault
pub data IsParameter : List ℕ → List ℕ → Result Parameter ℕ → Type 0 where
  -- an empty text is no parameter
  empty : {name bytes : List ℕ} → Unescapes bytes (Some []) → IsParameter name bytes (Ok Absent)
  -- a text, where the option takes no expression
  text : {name bytes text : List ℕ} (b : ℕ) → Unescapes bytes (Some (b ∷ text)) → takes_expression name ≡ false → IsParameter name bytes (Ok (Text (b ∷ text)))
  -- the text of an expression, where the option takes one; 5 or 6 where it is none
  expression : {name bytes text : List ℕ} {tree : RawExpr} (b : ℕ) → Unescapes bytes (Some (b ∷ text)) → takes_expression name ≡ true
      → expression_of (b ∷ text) ≡ Ok tree → IsParameter name bytes (Ok (Expression tree))
  no_expression : {name bytes text : List ℕ} {number : ℕ} (b : ℕ) → Unescapes bytes (Some (b ∷ text)) → takes_expression name ≡ true
      → expression_of (b ∷ text) ≡ Err number → IsParameter name bytes (Err number)
  -- 5: a backslash before something else
  bad_backslash : {name bytes : List ℕ} → Unescapes bytes None → IsParameter name bytes (Err BAD_EXPR)

-- as many string literals as follow one another, the text that they join to, and the tokens after them
pub data Joins : List Lexeme → List ℕ → List Lexeme → Type 0 where
  no_string : {ts : List Lexeme} → begins is_quoted ts ≡ false → Joins ts [] ts
  string : {ts us : List Lexeme} {text : List ℕ} (s : TokenText) → Joins ts text us
      → Joins (lexeme.Quoted s ∷ ts) (inside_quotes (encode_utf8_all s.word) ++ text) us

-- option := NAME ["(" string+ ")"], whose name is any identifier
pub data AnOption : List Lexeme → Outcome RawOption → Type 0 where
  name_alone : {ts : List Lexeme} (t : Lexeme) → is_identifier t ≡ true → begins opens_round ts ≡ false
      → AnOption (t ∷ ts) (Read (record { name = name_of (spot_of t); parameter = Absent }) ts)
  with_strings : {ts rest : List Lexeme} {text : List ℕ} {parameter : Parameter} (t : Lexeme) (o q c : TokenText) → is_identifier t ≡ true
      → Joins (lexeme.Quoted q ∷ ts) text (lexeme.Close Round c ∷ rest) → IsParameter (spot_of t).word text (Ok parameter)
      → AnOption (t ∷ lexeme.Open Round o ∷ lexeme.Quoted q ∷ ts) (Read (record { name = name_of (spot_of t); parameter = parameter }) rest)
  -- 5, 6: a whole option whose strings are no parameter, at its name
  bad_strings : {ts rest : List Lexeme} {text : List ℕ} {number : ℕ} (t : Lexeme) (o q c : TokenText) → is_identifier t ≡ true
      → Joins (lexeme.Quoted q ∷ ts) text (lexeme.Close Round c ∷ rest) → IsParameter (spot_of t).word text (Err number)
      → AnOption (t ∷ lexeme.Open Round o ∷ lexeme.Quoted q ∷ ts) (Stops number (spot_of t).start)
  -- 8: an identifier has to stand here; a string; a string or a closing bracket
  no_identifier : {ts : List Lexeme} → begins is_identifier ts ≡ false → AnOption ts (unexpected ts)
  no_string : {ts : List Lexeme} (t : Lexeme) (o : TokenText) → is_identifier t ≡ true → begins is_quoted ts ≡ false
      → AnOption (t ∷ lexeme.Open Round o ∷ ts) (unexpected ts)
  not_closed : {ts rest : List Lexeme} {text : List ℕ} (t : Lexeme) (o q : TokenText) → is_identifier t ≡ true
      → Joins (lexeme.Quoted q ∷ ts) text rest → begins closes_round rest ≡ false
      → AnOption (t ∷ lexeme.Open Round o ∷ lexeme.Quoted q ∷ ts) (unexpected rest)

-- options := option {"," option}
pub data Options : List Lexeme → Outcome (List RawOption) → Type 0 where
  last : {ts rest : List Lexeme} {option : RawOption} → AnOption ts (Read option rest) → begins is_comma rest ≡ false → Options ts (Read (option ∷ []) rest)
  more : {ts us rest : List Lexeme} {option : RawOption} {options : List RawOption} (c : TokenText) → AnOption ts (Read option (lexeme.Comma c ∷ us))
      → Options us (Read options rest) → Options ts (Read (option ∷ options) rest)
  -- the fault of an option
  in_option : {ts : List Lexeme} (why : Failure) → AnOption ts (failed why) → Options ts (failed why)
  in_more : {ts us : List Lexeme} {option : RawOption} (c : TokenText) (why : Failure) → AnOption ts (Read option (lexeme.Comma c ∷ us))
      → Options us (failed why) → Options ts (failed why)

-- [options], before a closing bracket
pub data MaybeOptions : List Lexeme → Outcome (List RawOption) → Type 0 where
  none : {ts : List Lexeme} (c : TokenText) → MaybeOptions (lexeme.Close Round c ∷ ts) (Read [] (lexeme.Close Round c ∷ ts))
  some : {ts : List Lexeme} {o : Outcome (List RawOption)} → begins closes_round ts ≡ false → Options ts o → MaybeOptions ts o

-- marker := "GTY" "(" "(" [options] ")" ")"
pub data Marker : List Lexeme → Outcome (List RawOption) → Type 0 where
  marker : {ts rest : List Lexeme} {options : List RawOption} (a b c d e : TokenText)
      → MaybeOptions ts (Read options (lexeme.Close Round d ∷ lexeme.Close Round e ∷ rest))
      → Marker (lexeme.Gty a ∷ lexeme.Open Round b ∷ lexeme.Open Round c ∷ ts) (Read options rest)
  -- the fault of an option
  in_options : {ts : List Lexeme} (a b c : TokenText) (why : Failure) → MaybeOptions ts (failed why)
      → Marker (lexeme.Gty a ∷ lexeme.Open Round b ∷ lexeme.Open Round c ∷ ts) (failed why)
  -- 8: GTY has to stand here; an opening bracket, and one more; a comma or a closing bracket; one more closing bracket
  no_word : {ts : List Lexeme} → begins is_gty ts ≡ false → Marker ts (unexpected ts)
  not_opened : {ts : List Lexeme} (a : TokenText) → begins opens_round ts ≡ false → Marker (lexeme.Gty a ∷ ts) (unexpected ts)
  not_opened_twice : {ts : List Lexeme} (a b : TokenText) → begins opens_round ts ≡ false → Marker (lexeme.Gty a ∷ lexeme.Open Round b ∷ ts) (unexpected ts)
  not_closed : {ts rest : List Lexeme} {options : List RawOption} (a b c : TokenText) → MaybeOptions ts (Read options rest) → begins closes_round rest ≡ false
      → Marker (lexeme.Gty a ∷ lexeme.Open Round b ∷ lexeme.Open Round c ∷ ts) (unexpected rest)
  not_closed_twice : {ts rest : List Lexeme} {options : List RawOption} (a b c d : TokenText) → MaybeOptions ts (Read options (lexeme.Close Round d ∷ rest))
      → begins closes_round rest ≡ false → Marker (lexeme.Gty a ∷ lexeme.Open Round b ∷ lexeme.Open Round c ∷ ts) (unexpected rest)

-- a marker may stand here; without one there is no option
pub data MaybeMarker : List Lexeme → Outcome (List RawOption) → Type 0 where
  marked : {ts : List Lexeme} {o : Outcome (List RawOption)} (a : TokenText) → Marker (lexeme.Gty a ∷ ts) o → MaybeMarker (lexeme.Gty a ∷ ts) o
  unmarked : {ts : List Lexeme} → begins is_gty ts ≡ false → MaybeMarker ts (Read [] ts)
