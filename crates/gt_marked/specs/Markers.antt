-- How markers and their options are read.
use Rattle.std.specs.Prelude.{ℕ, zero, suc, ◌-◌, ◌==◌, ◌||◌, if◌then◌else◌, Bool, true, false, List, [], ◌∷◌, ◌++◌, length, drop, take, codes, encode_utf8_all, Option, Some, None, Result, Ok, Err}
use Rattle.std.specs.List.{list_any}
use Rattle.std.specs.Option.{option_map}
use Rattle.std.specs.Str.{bytes_eq}
use Rattle.gt_expr.specs.declared.raw.RawExpr.{RawExpr}
use Rattle.gt_expr.specs.declared.TheConstants.{BAD_EXPR}
use Rattle.gt_expr.specs.Expression.{expression_of}
use Rattle.gt_items.specs.declared.items.RawOption.{RawOption}
use Rattle.gt_items.specs.declared.items.Parameter.{Parameter}
use Rattle.gt_items.specs.declared.items.Parameter.TheVariants.{Absent, Expression, Text}
use Rattle.gt_search.specs.declared.lexeme.TokenText.{TokenText}
use Rattle.gt_search.specs.declared.lexeme.Bracket.TheVariants.{Round}
use Rattle.gt_search.specs.declared.lexeme.Lexeme.{Lexeme}
use Rattle.gt_search.specs.declared.lexeme.Lexeme.TheVariants as lexeme
use Rattle.gt_search.specs.Lexemes.{spot_of, is_identifier, name_of}
use Rattle.gt_marked.specs.Outcome.{Outcome, Read, Stops, Ends, ◌>>=◌, unexpected}

-- what stands between the quotes of a string literal
abbrev pub inside_quotes : List ℕ → List ℕ
inside_quotes literal = drop 1 (take (length literal - 1) literal)

-- The bytes without the backslashes that stand before a quote (34) or a backslash (92). Before another byte a backslash is
-- wrong. The first argument says whether a backslash stands before these.
unfoldable pub unescaped : Bool → List ℕ → Option (List ℕ)
unescaped false [] = Some []
unescaped true [] = None
unescaped false (b ∷ bs) = if b == 92 then unescaped true bs else option_map (λ rest. b ∷ rest) (unescaped false bs)
unescaped true (b ∷ bs) = if (b == 34) || (b == 92) then option_map (λ rest. b ∷ rest) (unescaped false bs) else None

-- the options whose texts are expressions
abbrev pub expression_options : List (List ℕ)
expression_options =
    codes "length" ∷ codes "desc" ∷ codes "tag" ∷ codes "string_length" ∷ codes "chain_next" ∷ codes "chain_prev" ∷ codes "chain_circular" ∷ []

abbrev pub takes_expression : List ℕ → Bool
takes_expression name = list_any (bytes_eq name) expression_options

-- what an expression's text gives an option that stands at an offset
abbrev pub expression_at : ℕ → Result RawExpr ℕ → List Lexeme → Outcome Parameter
expression_at at (Ok tree) ts = Read (Expression tree) ts
expression_at at (Err number) ts = Stops number at

-- the parameter that the joined strings of an option are: none where the text is empty, else an expression or a text
abbrev pub parameter_at : TokenText → Option (List ℕ) → List Lexeme → Outcome Parameter
parameter_at name None ts = Stops BAD_EXPR name.start
parameter_at name (Some []) ts = Read Absent ts
parameter_at name (Some (b ∷ bs)) ts =
    if takes_expression name.word then expression_at name.start (expression_of (b ∷ bs)) ts else Read (Text (b ∷ bs)) ts

-- a token that has to stand at the front, and those after it
abbrev pub open_round_at : List Lexeme → Outcome (Unit {0})
open_round_at (lexeme.Open Round s ∷ ts) = Read tt ts
open_round_at ts = unexpected ts

abbrev pub close_round_at : List Lexeme → Outcome (Unit {0})
close_round_at (lexeme.Close Round s ∷ ts) = Read tt ts
close_round_at ts = unexpected ts

abbrev pub gty_at : List Lexeme → Outcome (Unit {0})
gty_at (lexeme.Gty s ∷ ts) = Read tt ts
gty_at ts = unexpected ts

-- string literals one after another join to one text, which stands after what came before
unfoldable pub more_strings : List ℕ → List Lexeme → Outcome (List ℕ)
more_strings text (lexeme.Quoted s ∷ ts) = more_strings (text ++ inside_quotes (encode_utf8_all s.word)) ts
more_strings text ts = Read text ts

-- at least one string literal
unfoldable pub strings_at : List Lexeme → Outcome (List ℕ)
strings_at (lexeme.Quoted s ∷ ts) = more_strings (inside_quotes (encode_utf8_all s.word)) ts
strings_at ts = unexpected ts

-- the parameter of an option, after its name: strings in brackets, or none
unfoldable pub parameters_at : TokenText → List Lexeme → Outcome Parameter
parameters_at name (lexeme.Open Round s ∷ ts) = do
  text ← strings_at ts
  closed ← close_round_at text.1
  parameter_at name (unescaped false text.0) closed.1
parameters_at name ts = Read Absent ts

-- option := NAME ["(" string+ ")"], whose name is any identifier
unfoldable pub option_at : List Lexeme → Outcome RawOption
option_at [] = Ends
option_at (t ∷ ts) =
    if is_identifier t
    then (parameters_at (spot_of t) ts >>= λ parameter. Read (record { name = name_of (spot_of t); parameter = parameter.0 }) parameter.1)
    else unexpected (t ∷ ts)

-- the tokens after a comma at the front
abbrev pub comma_after : List Lexeme → Option (List Lexeme)
comma_after (lexeme.Comma s ∷ ts) = Some ts
comma_after ts = None

-- what goes on after a comma, or else what was read so far
abbrev pub after_comma : {A : Type 0} → (List Lexeme → Outcome A) → Outcome A → List Lexeme → Outcome A
after_comma go stop (lexeme.Comma s ∷ ts) = go ts
after_comma go stop ts = stop

-- options with commas between them, after those that were read; at most count
unfoldable pub options_from : ℕ → List RawOption → List Lexeme → Outcome (List RawOption)
options_from zero options ts = Ends
options_from (suc count) options ts = do
  one ← option_at ts
  after_comma (options_from count (options ++ one.0 ∷ [])) (Read (options ++ one.0 ∷ []) one.1) one.1

-- no option where the bracket is closed at once
unfoldable pub options_at : List Lexeme → Outcome (List RawOption)
options_at (lexeme.Close Round s ∷ ts) = Read [] (lexeme.Close Round s ∷ ts)
options_at ts = options_from (length ts) [] ts

-- marker := "GTY" "(" "(" [option {"," option}] ")" ")"
unfoldable pub marker_at : List Lexeme → Outcome (List RawOption)
marker_at ts = do
  gty ← gty_at ts
  first ← open_round_at gty.1
  second ← open_round_at first.1
  options ← options_at second.1
  inner ← close_round_at options.1
  outer ← close_round_at inner.1
  Read options.0 outer.1

-- a marker may stand at the front; without one there is no option
unfoldable pub maybe_marker : List Lexeme → Outcome (List RawOption)
maybe_marker (lexeme.Gty s ∷ ts) = marker_at (lexeme.Gty s ∷ ts)
maybe_marker ts = Read [] ts
