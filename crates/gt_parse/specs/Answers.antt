-- What is answered for a text, by its search and the reading of each of its items.
use Rattle.std.specs.Prelude.{◌≡◌, ℕ, List, [], ◌∷◌, map, if◌then◌else◌, nat_lt, Option, Some, None, Result, Ok, Err}
use Rattle.std.specs.List.{flat_map}
use Rattle.gt_types.specs.declared.faults.Stop.{Stop}
use Rattle.gt_types.specs.declared.faults.Stop.TheVariants.{Memory, At}
use Rattle.gt_lex.specs.declared.tokens.Token.{Token}
use Rattle.gt_lex.specs.declared.tokens.Define.{Define}
use Rattle.gt_items.specs.declared.items.Item.{Item}
use Rattle.gt_items.specs.declared.items.Items.{Items}
use Rattle.gt_search.specs.declared.lexeme.Lexeme.{Lexeme}
use Rattle.gt_search.specs.declared.search.End.{End}
use Rattle.gt_search.specs.declared.search.End.TheVariants.{Complete, Fails}
use Rattle.gt_search.specs.Lexemes.{lexemes_of}
use Rattle.gt_marked.specs.Outcome.{Outcome, Read, Stops, Ends}
use Rattle.gt_parse.specs.Reading.{item_at}
use Rattle.gt_search.specs.Search.{Searches}
use Rattle.gt_parse.specs.Header.{constant_in, item_faults}

-- what a whole item declares, if anything
abbrev pub items_by : Outcome (Option Item) → List Item
items_by (Read (Some found) following) = found ∷ []
items_by (Read None following) = []
items_by (Stops number at) = []
items_by Ends = []

abbrev pub item_items : List Lexeme → List Item
item_items one = items_by (item_at one)

-- the earlier of two faults, the first where both stand at one place
abbrev pub earlier : End → End → End
earlier Complete other = other
earlier (Fails number at) Complete = Fails number at
earlier (Fails number at) (Fails other place) = if nat_lt place at then Fails other place else Fails number at

-- the first of some faults
abbrev pub first_of : List (ℕ × ℕ) → End
first_of [] = Complete
first_of (fault ∷ faults) = earlier (Fails fault.0 fault.1) (first_of faults)

-- the text has these items and constants, and no fault
pub record HasItems (text : List ℕ) (tokens : List Token) (defines : List Define) (items : Items) : Type 0 where
  pub cut : List (List Lexeme)
  pub searched : Searches [] (lexemes_of text tokens) cut Complete
  pub no_fault : first_of (flat_map item_faults cut) ≡ Complete
  pub items_are : items.items ≡ flat_map item_items cut
  pub constants_are : items.constants ≡ map (constant_in text) defines

-- the text has this first fault
pub record HasFault (text : List ℕ) (tokens : List Token) (number at : ℕ) : Type 0 where
  pub cut : List (List Lexeme)
  pub end : End
  pub searched : Searches [] (lexemes_of text tokens) cut end
  pub first : earlier (first_of (flat_map item_faults cut)) end ≡ Fails number at

-- what is answered is so
abbrev pub IsAnswer : ℕ → List ℕ → List Token → List Define → Result Items Stop → Type 0
IsAnswer file text tokens defines (Ok items) = HasItems text tokens defines items
IsAnswer file text tokens defines (Err Memory) = Unit {0}
IsAnswer file text tokens defines (Err (At fault)) = (fault.file ≡ file) × HasFault text tokens fault.number fault.at
