-- How the functions of this crate go over a text, step by step. Nothing is promised in these words.
use Rattle.std.specs.Prelude.{ℕ, Bool, true, false, ◌&&◌, ◌||◌, not, ◌==◌, if◌then◌else◌, List, [], ◌∷◌, drop, Option, Some, None}
use Rattle.std.specs.Option.{option_map}
use Rattle.gt_text.specs.Identifier.{continues_identifier_of}
use Rattle.gt_lex.specs.declared.starts.Start.{Start}
use Rattle.gt_lex.specs.declared.starts.Start.TheVariants.{End, Space, Block, Line, Continuation, Directive, BadNumber, Token}
use Rattle.gt_lex.specs.declared.tokens.Kind.{Kind}
use Rattle.gt_lex.specs.declared.tokens.Kind.TheVariants.{Ident, Number, Quoted, CharLit, Punct}
use Rattle.gt_lex.specs.Characters.{newline, star, dot, slash, backslash, first_is}
use Rattle.gt_lex.specs.Extents.{is_exponent, is_sign}

-- what follows the characters at the front that pass a test
abbrev pub rest_while : (ℕ → Bool) → List ℕ → List ℕ
rest_while test [] = []
rest_while test (c ∷ cs) = if test c then rest_while test cs else c ∷ cs

-- whether a character goes on a number after the character before it
abbrev pub continues_number_of : ℕ → ℕ → Bool
continues_number_of before c = continues_identifier_of c || (c == dot) || (is_exponent before && is_sign c)

-- what follows a number, after one of its characters
abbrev pub number_rest : ℕ → List ℕ → List ℕ
number_rest before [] = []
number_rest before (c ∷ cs) = if continues_number_of before c then number_rest c cs else c ∷ cs

-- whether a newline was passed up to a comment's close, and what follows it
abbrev pub comment_rest : Bool → List ℕ → Option (Bool × List ℕ)
comment_rest passed [] = None
comment_rest passed (c ∷ cs) =
    if (c == star) && first_is slash cs then Some (passed, drop 1 cs)
    else comment_rest (passed || (c == newline)) cs

-- what follows a literal's closing quote; escaped says that an escape has begun
abbrev pub literal_rest : ℕ → Bool → List ℕ → Option (List ℕ)
literal_rest quote escaped [] = None
literal_rest quote escaped (c ∷ cs) =
    if c == newline then None
    else if not escaped && (c == quote) then Some cs
    else literal_rest quote (not escaped && (c == backslash)) cs

-- no newline was passed
abbrev pub within_line : List ℕ → Bool × List ℕ
within_line rest = (false, rest)

-- what follows a token, after its first character
abbrev pub token_rest : Kind → ℕ → List ℕ → Option (List ℕ)
token_rest Ident c cs = Some (rest_while continues_identifier_of cs)
token_rest Number c cs = Some (number_rest c cs)
token_rest Quoted c cs = literal_rest c false cs
token_rest CharLit c cs = literal_rest c false cs
token_rest Punct c cs = Some cs

-- what follows a part, after its first character, and whether a newline was passed
abbrev pub part_rest : Start → ℕ → List ℕ → Option (Bool × List ℕ)
part_rest Space c cs = Some (c == newline, cs)
part_rest Block c cs = comment_rest false (drop 1 cs)
part_rest Line c cs = Some (within_line (rest_while (λ d. not (d == newline)) cs))
part_rest Continuation c cs = Some (true, if first_is newline cs then drop 1 cs else drop 2 cs)
part_rest (Token kind) c cs = option_map within_line (token_rest kind c cs)
part_rest End c cs = None
part_rest Directive c cs = None
part_rest BadNumber c cs = None

-- the same from the first character on
abbrev pub rest_of : Start → List ℕ → Option (Bool × List ℕ)
rest_of start [] = None
rest_of start (c ∷ cs) = part_rest start c cs
