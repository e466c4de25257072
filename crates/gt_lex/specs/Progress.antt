-- What the functions that go over directives and texts have read. Nothing is promised in these words.
use Rattle.std.specs.Prelude.{◌≡◌, ℕ, ◌+◌, ◌-◌, ◌≤◌, Bool, true, false, ◌||◌, List, [], ◌∷◌, ◌++◌, length, Option}
use Rattle.std.specs.Option.{option_to_list}
use Rattle.std.specs.Str.{IsUtf8, chars}
use Rattle.gt_lex.specs.declared.tokens.Define.{Define}
use Rattle.gt_lex.specs.declared.tokens.Token.{Token}
use Rattle.gt_lex.specs.declared.starts.Start.{Start}
use Rattle.gt_lex.specs.declared.starts.Start.TheVariants as start
use Rattle.gt_lex.specs.declared.pieces.Found.{Found}
use Rattle.gt_lex.specs.declared.pieces.Found.TheVariants as found
use Rattle.gt_lex.specs.declared.faults.TheConstants.{OPEN_COMMENT, OPEN_STRING}
use Rattle.gt_lex.specs.Characters.{EndsLine, byte_len}
use Rattle.gt_lex.specs.Parts.{Part, spellings, Piece, piece_spelling}
use Rattle.gt_lex.specs.Extents.{IsOpenComment}
use Rattle.gt_lex.specs.Texts.{AreInDirective, Stands, token_at, define_at, fresh_after, HasFault}
use Rattle.gt_lex.specs.Constants.{lexemes_from, constant_of}

-- a text, which is what follows a `#`, has a directive at its front, which begins at an offset and gives a constant or not
pub record IsDirective (at : ℕ) (text : List ℕ) (constant : Option Define) (rest : List ℕ) : Type 0 where
  pub parts : List Part
  pub whole : chars text ≡ spellings parts ++ chars rest
  pub each : AreInDirective parts (chars rest)
  pub ends : EndsLine (chars rest)
  pub constant_is : constant ≡ constant_of (lexemes_from at parts)
  pub utf8 : IsUtf8 rest

-- or a comment in the directive does not end
pub record StopsInDirective (text open_at : List ℕ) : Type 0 where
  pub parts : List Part
  pub whole : chars text ≡ spellings parts ++ chars open_at
  pub each : AreInDirective parts (chars open_at)
  pub stops : IsOpenComment (chars open_at)
  pub utf8 : IsUtf8 open_at

-- ---- pieces

-- what a piece is found to be, by how it begins and whether a newline stands in it
abbrev pub found_of : Start → Bool → Found
found_of (start.Token kind) newline = found.Token kind
found_of start.End newline = found.Gap newline
found_of start.Space newline = found.Gap newline
found_of start.Block newline = found.Gap newline
found_of start.Line newline = found.Gap newline
found_of start.Continuation newline = found.Gap newline
found_of start.Directive newline = found.Gap newline
found_of start.BadNumber newline = found.Gap newline

-- the fault of what does not end
abbrev pub open_fault_of : Start → ℕ
open_fault_of start.Block = OPEN_COMMENT
open_fault_of start.End = OPEN_STRING
open_fault_of start.Space = OPEN_STRING
open_fault_of start.Line = OPEN_STRING
open_fault_of start.Continuation = OPEN_STRING
open_fault_of start.Directive = OPEN_STRING
open_fault_of start.BadNumber = OPEN_STRING
open_fault_of (start.Token kind) = OPEN_STRING

abbrev pub fresh_with : Bool → Found → Bool
fresh_with fresh (found.Gap newline) = fresh || newline
fresh_with fresh (found.Token kind) = false
fresh_with fresh (found.Directive constant) = true

abbrev pub tokens_with : Found → ℕ → ℕ → List Token
tokens_with (found.Gap newline) start end = []
tokens_with (found.Token kind) start end = record { kind = kind; start = start; end = end } ∷ []
tokens_with (found.Directive constant) start end = []

abbrev pub defines_with : Found → List Define
defines_with (found.Gap newline) = []
defines_with (found.Token kind) = []
defines_with (found.Directive constant) = option_to_list constant

-- a text has a piece at its front, which begins at an offset, and is found to be this
pub record IsNext (at : ℕ) (fresh : Bool) (text : List ℕ) (is : Found) (rest : List ℕ) : Type 0 where
  pub piece : Piece
  pub whole : chars text ≡ piece_spelling piece ++ chars rest
  pub stands : Stands fresh piece (chars rest)
  pub tokens : tokens_with is at (at + byte_len (piece_spelling piece)) ≡ token_at at piece
  pub defines : defines_with is ≡ define_at at piece
  pub fresh_is : fresh_with fresh is ≡ fresh_after fresh piece
  pub utf8 : IsUtf8 rest

-- or a fault, from which on the rest is
pub record IsRefused (fresh : Bool) (text : List ℕ) (number : ℕ) (rest : List ℕ) : Type 0 where
  pub within : length rest ≤ length text
  pub fault : HasFault fresh (chars text) number (length text - length rest)
