-- How the tokens of a directive are taken in, one after another. Nothing is promised in these words.
use Rattle.std.specs.Prelude.{ℕ, ◌+◌, if◌then◌else◌, List, length, codes, Option, Some, None, ℤ}
use Rattle.std.specs.Str.{bytes_eq}
use Rattle.gt_lex.specs.declared.starts.Start.{Start}
use Rattle.gt_lex.specs.declared.starts.Start.TheVariants as start
use Rattle.gt_lex.specs.declared.constants.Seen.{Seen}
use Rattle.gt_lex.specs.declared.constants.Seen.TheVariants.{Nothing, Word, Name, Minus, Constant, Other}
use Rattle.gt_lex.specs.declared.tokens.Define.{Define}
use Rattle.gt_lex.specs.Constants.{Lexeme, is_name, value_of, negative_value_of}

-- the tokens of a directive so far, as far as they may be those of a constant
abbrev pub named_from : Lexeme → Seen
named_from name = Name name.start (name.start + length name.text)

abbrev pub constant_from : ℕ → ℕ → Option ℤ → Seen
constant_from start end None = Other
constant_from start end (Some value) = Constant (record { start = start; end = end; value = value })

abbrev pub then_of : Seen → Lexeme → Seen
then_of Nothing token = if bytes_eq token.text (codes "define") then Word else Other
then_of Word token = if is_name token.kind then named_from token else Other
then_of (Name start end) token = if bytes_eq token.text (codes "-") then Minus start end else constant_from start end (value_of token)
then_of (Minus start end) token = constant_from start end (negative_value_of token)
then_of (Constant define) token = Other
then_of Other token = Other

-- after one more part, which is a token or not
abbrev pub seen_with : Seen → Start → List ℕ → ℕ → Seen
seen_with seen (start.Token kind) text at = then_of seen (record { kind = kind; text = text; start = at })
seen_with seen start.End text at = seen
seen_with seen start.Space text at = seen
seen_with seen start.Block text at = seen
seen_with seen start.Line text at = seen
seen_with seen start.Continuation text at = seen
seen_with seen start.Directive text at = seen
seen_with seen start.BadNumber text at = seen

-- the constant that they make
abbrev pub constant_seen : Seen → Option Define
constant_seen Nothing = None
constant_seen Word = None
constant_seen (Name start end) = None
constant_seen (Minus start end) = None
constant_seen (Constant define) = Some define
constant_seen Other = None
