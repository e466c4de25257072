-- Which pieces a text has, what they give, and which fault is its first.
use Rattle.std.specs.Prelude.{◌≡◌, ℕ, ◌+◌, Bool, true, false, ◌&&◌, ◌||◌, not, List, [], ◌∷◌, ◌++◌, IsTrue, Result, Ok, Err}
use Rattle.std.specs.Option.{option_to_list}
use Rattle.std.specs.Str.{IsUtf8, chars}
use Rattle.std.specs.Str.Lossy.{utf8_valid_len}
use Rattle.gt_lex.specs.declared.starts.Start.{Start}
use Rattle.gt_lex.specs.declared.starts.Start.TheVariants as start
use Rattle.gt_lex.specs.declared.faults.TheConstants.{BAD_UTF8, OPEN_COMMENT, OPEN_STRING, BAD_NUMBER}
use Rattle.gt_lex.specs.declared.tokens.Token.{Token}
use Rattle.gt_lex.specs.declared.tokens.Define.{Define}
use Rattle.gt_lex.specs.declared.tokens.Lexed.{Lexed}
use Rattle.gt_types.specs.declared.faults.Fault.{Fault}
use Rattle.gt_types.specs.declared.faults.Stop.{Stop}
use Rattle.gt_types.specs.declared.faults.Stop.TheVariants.{Memory, At}
use Rattle.gt_lex.specs.Characters.{double_quote, hash, single_quote, has_newline, EndsLine, byte_len}
use Rattle.gt_lex.specs.Parts.{Part, Space, Block, Line, Continuation, Item, Piece, Plain, Directive, spelling, spellings, piece_spelling, text_of}
use Rattle.gt_lex.specs.Starts.{text_start, directive_start, is_bad_number}
use Rattle.gt_lex.specs.Extents.{Reaches, IsOpenComment, IsOpenLiteral}
use Rattle.gt_lex.specs.Constants.{lexemes_from, constant_of}

-- how a part begins
abbrev pub start_of : Part → Start
start_of (Space c) = start.Space
start_of (Block inside) = start.Block
start_of (Line inside) = start.Line
start_of (Continuation end) = start.Continuation
start_of (Item kind cs) = start.Token kind

-- the parts of a directive, of which each begins as it must there and reaches so far, where rest follows them
abbrev pub AreInDirective : List Part → List ℕ → Type 0
AreInDirective [] rest = Unit {0}
AreInDirective (p ∷ ps) rest = (directive_start (spelling p ++ (spellings ps ++ rest)) ≡ start_of p) × Reaches p (spellings ps ++ rest) × AreInDirective ps rest

-- A piece that stands before rest, on a line where no token stands before it if fresh is true. A directive is the first
-- of its line and runs to the line's end.
abbrev pub Stands : Bool → Piece → List ℕ → Type 0
Stands fresh (Plain p) rest = (text_start fresh (spelling p ++ rest) ≡ start_of p) × Reaches p rest
Stands fresh (Directive ps) rest = IsTrue fresh × AreInDirective ps rest × EndsLine rest

-- whether a part or a piece is a token
abbrev pub is_item : Part → Bool
is_item (Space c) = false
is_item (Block inside) = false
is_item (Line inside) = false
is_item (Continuation end) = false
is_item (Item kind cs) = true

abbrev pub is_token : Piece → Bool
is_token (Plain p) = is_item p
is_token (Directive ps) = false

-- whether no token stands on the line before what follows a piece
abbrev pub fresh_after : Bool → Piece → Bool
fresh_after fresh p = not (is_token p) && (fresh || has_newline (piece_spelling p))

-- the pieces of a text from a place on, up to rest
abbrev pub ArePieces : Bool → List Piece → List ℕ → Type 0
ArePieces fresh [] rest = Unit {0}
ArePieces fresh (p ∷ ps) rest = Stands fresh p (text_of ps ++ rest) × ArePieces (fresh_after fresh p) ps rest

-- whether no token stands on the line before what follows pieces
abbrev pub fresh_past : Bool → List Piece → Bool
fresh_past fresh [] = fresh
fresh_past fresh (p ∷ ps) = fresh_past (fresh_after fresh p) ps

-- the token of a piece that begins at an offset, and the tokens of pieces
abbrev pub token_at : ℕ → Piece → List Token
token_at at (Plain (Item kind cs)) = record { kind = kind; start = at; end = at + byte_len cs } ∷ []
token_at at (Plain (Space c)) = []
token_at at (Plain (Block inside)) = []
token_at at (Plain (Line inside)) = []
token_at at (Plain (Continuation end)) = []
token_at at (Directive ps) = []

abbrev pub tokens_from : ℕ → List Piece → List Token
tokens_from at [] = []
tokens_from at (p ∷ ps) = token_at at p ++ tokens_from (at + byte_len (piece_spelling p)) ps

-- the constant of a piece that begins at an offset, and the constants of pieces
abbrev pub define_at : ℕ → Piece → List Define
define_at at (Plain p) = []
define_at at (Directive ps) = option_to_list (constant_of (lexemes_from (at + 1) ps))

abbrev pub defines_from : ℕ → List Piece → List Define
defines_from at [] = []
defines_from at (p ∷ ps) = define_at at p ++ defines_from (at + byte_len (piece_spelling p)) ps

-- a text is UTF-8 and has pieces to its end, which give these tokens and constants
pub record IsLexed (text : List ℕ) (tokens : List Token) (defines : List Define) : Type 0 where
  pub utf8 : IsUtf8 text
  pub pieces : List Piece
  pub whole : chars text ≡ text_of pieces
  pub each : ArePieces true pieces []
  pub tokens_are : tokens ≡ tokens_from 0 pieces
  pub defines_are : defines ≡ defines_from 0 pieces

-- a fault that stands where characters go on: its number, and its offset from there
pub data HasFault (fresh : Bool) (cs : List ℕ) : ℕ → ℕ → Type 0 where
  open_comment : IsOpenComment cs → HasFault fresh cs OPEN_COMMENT 0
  open_comment_in_directive : (ps : List Part) (rest : List ℕ) → IsTrue fresh → cs ≡ hash ∷ (spellings ps ++ rest)
      → AreInDirective ps rest → IsOpenComment rest → HasFault fresh cs OPEN_COMMENT (1 + byte_len (spellings ps))
  open_string : IsOpenLiteral double_quote cs → HasFault fresh cs OPEN_STRING 0
  open_character : IsOpenLiteral single_quote cs → HasFault fresh cs OPEN_STRING 0
  bad_number : IsTrue (is_bad_number cs) → HasFault fresh cs BAD_NUMBER 0

-- the first fault of a text: that it is not UTF-8, or the one that stands after pieces without a fault
pub data IsFirstFault (text : List ℕ) : ℕ → ℕ → Type 0 where
  bad_utf8 : (IsUtf8 text → ⊥) → IsFirstFault text BAD_UTF8 (utf8_valid_len text)
  following : (pieces : List Piece) (rest : List ℕ) (number offset : ℕ) → IsUtf8 text → chars text ≡ text_of pieces ++ rest
      → ArePieces true pieces rest → HasFault (fresh_past true pieces) rest number offset → IsFirstFault text number (byte_len (text_of pieces) + offset)

-- a text has tokens, or a first fault
pub data HasAnswer (text : List ℕ) : Type 0 where
  has_tokens : (tokens : List Token) (defines : List Define) → IsLexed text tokens defines → HasAnswer text
  has_fault : (number at : ℕ) → IsFirstFault text number at → HasAnswer text

-- what may be answered in place of tokens: out of memory, or the first fault
abbrev pub IsStop : ℕ → List ℕ → Stop → Type 0
IsStop file text Memory = Unit {0}
IsStop file text (At fault) = (fault.file ≡ file) × IsFirstFault text fault.number fault.at

-- these tokens and constants are answered, unless memory runs out
abbrev pub GivesTokens : Result Lexed Stop → List Token → List Define → Type 0
GivesTokens (Ok lexed) tokens defines = (lexed.tokens ≡ tokens) × (lexed.defines ≡ defines)
GivesTokens (Err Memory) tokens defines = Unit {0}
GivesTokens (Err (At fault)) tokens defines = ⊥

-- this fault is answered, unless memory runs out
abbrev pub GivesFault : Result Lexed Stop → Fault → Type 0
GivesFault (Ok lexed) is = ⊥
GivesFault (Err Memory) is = Unit {0}
GivesFault (Err (At fault)) is = fault ≡ is
