-- What begins at a place, by the characters from there on.
use Rattle.std.specs.Prelude.{ℕ, Bool, false, ◌&&◌, ◌||◌, not, ◌==◌, if◌then◌else◌, List, [], ◌∷◌}
use Rattle.std.specs.Char.{is_ascii_digit, is_ascii_hexdigit}
use Rattle.gt_text.specs.Identifier.{starts_identifier_of}
use Rattle.gt_text.specs.WhiteSpace.{is_white_space_of}
use Rattle.gt_lex.specs.declared.starts.Start.{Start}
use Rattle.gt_lex.specs.declared.starts.Start.TheVariants.{End, Space, Block, Line, Continuation, Directive, BadNumber, Token}
use Rattle.gt_lex.specs.declared.tokens.Kind.TheVariants.{Ident, Number, Quoted, CharLit, Punct}
use Rattle.gt_lex.specs.Characters.{newline, carriage_return, double_quote, hash, single_quote, star, dot, slash, backslash, first_passes, first_is}

-- white space, a comment, an identifier, a number (a digit, or a dot and a digit), or any other character
abbrev pub plain_start : List ℕ → Start
plain_start [] = End
plain_start (c ∷ cs) =
    if is_white_space_of c then Space
    else if (c == slash) && first_is star cs then Block
    else if (c == slash) && first_is slash cs then Line
    else if starts_identifier_of c then Token Ident
    else if is_ascii_digit c || ((c == dot) && first_passes is_ascii_digit cs) then Token Number
    else Token Punct

-- whether an x without a hexadecimal digit after it begins
abbrev pub is_bare_prefix : List ℕ → Bool
is_bare_prefix [] = false
is_bare_prefix (x ∷ cs) = ((x == 120) || (x == 88)) && not (first_passes is_ascii_hexdigit cs)

-- whether a number begins with 0x or 0X and has no hexadecimal digit directly after it
abbrev pub is_bad_number : List ℕ → Bool
is_bad_number [] = false
is_bad_number (z ∷ cs) = (z == 48) && is_bare_prefix cs

-- In a text: a directive where no token stands before the `#` on its line, a bad number, a literal, or one of the above.
abbrev pub text_start : Bool → List ℕ → Start
text_start fresh cs =
    if fresh && first_is hash cs then Directive
    else if is_bad_number cs then BadNumber
    else if first_is double_quote cs then Token Quoted
    else if first_is single_quote cs then Token CharLit
    else plain_start cs

-- whether a text begins with a line's end, which may be written with a carriage return
abbrev pub is_line_break : List ℕ → Bool
is_line_break [] = false
is_line_break (c ∷ cs) = (c == newline) || ((c == carriage_return) && first_is newline cs)

-- whether a backslash stands directly before a line's end
abbrev pub is_continuation : List ℕ → Bool
is_continuation [] = false
is_continuation (c ∷ cs) = (c == backslash) && is_line_break cs

-- In a directive: its end at the line's end, a continuation, or one of the above. Quotes are any other character there.
abbrev pub directive_start : List ℕ → Start
directive_start cs =
    if first_is newline cs then End
    else if is_continuation cs then Continuation
    else plain_start cs
