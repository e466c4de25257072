-- The items of a header, and its first fault.
use Rattle.std.specs.Prelude.{◌≡◌, ℕ, ◌<◌, ◌≤◌, ◌⊎◌, List, [], ◌∷◌, ◌++◌, map, All, slice_range, Some, None, Result, Ok, Err}
use Rattle.std.specs.List.{flat_map}
use Rattle.std.specs.Str.{chars}
use Rattle.gt_types.specs.declared.faults.Fault.{Fault}
use Rattle.gt_types.specs.declared.faults.Stop.{Stop}
use Rattle.gt_types.specs.declared.faults.Stop.TheVariants.{Memory, At}
use Rattle.gt_lex.specs.declared.tokens.Token.{Token}
use Rattle.gt_lex.specs.declared.tokens.Define.{Define}
use Rattle.gt_search.specs.declared.faults.TheConstants.{UNCLOSED}
use Rattle.gt_items.specs.declared.items.Item.{Item}
use Rattle.gt_items.specs.declared.items.Items.{Items}
use Rattle.gt_items.specs.declared.items.RawConstant.{RawConstant}
use Rattle.gt_search.specs.declared.lexeme.Lexeme.{Lexeme}
use Rattle.gt_search.specs.declared.search.End.{End}
use Rattle.gt_search.specs.declared.search.End.TheVariants.{Complete, Fails}
use Rattle.gt_search.specs.Lexemes.{spot_of, lexemes_of}
use Rattle.gt_marked.specs.Outcome.{Outcome, Read, Stops, Ends}
use Rattle.gt_parse.specs.Reading.{item_at}
use Rattle.gt_search.specs.Search.{Searches}

-- the constant of a text that a definition names
abbrev pub constant_in : List ℕ → Define → RawConstant
constant_in text d = record { name = record { word = chars (slice_range text d.start d.end); at = d.start }; value = d.value }

-- what some whole items declare: one item each, or nothing, in order, where none has a fault
abbrev pub Declare : List (List Lexeme) → List Item → Type 0
Declare [] items = items ≡ []
Declare (one ∷ others) items =
    ((found : Item) × (following : List Lexeme) × (rest : List Item) × (item_at one ≡ Read (Some found) following) × (items ≡ found ∷ rest) × Declare others rest)
    ⊎ ((following : List Lexeme) × (item_at one ≡ Read None following) × Declare others items)

-- the text's tokens are items to its end, which declare these; and these are its constants
pub record AreItems (text : List ℕ) (tokens : List Token) (defines : List Define) (items : Items) : Type 0 where
  pub cut : List (List Lexeme)
  pub searched : Searches [] (lexemes_of text tokens) cut Complete
  pub declared : Declare cut items.items
  pub constants : items.constants ≡ map (constant_in text) defines

-- the fault of an item whose tokens end too early, which cannot come in a whole item
abbrev pub unclosed_faults : List Lexeme → List (ℕ × ℕ)
unclosed_faults [] = []
unclosed_faults (t ∷ ts) = (UNCLOSED, (spot_of t).start) ∷ []

-- the fault of a whole item, its number and place, if it has one
abbrev pub faults_by : {A : Type 0} → List Lexeme → Outcome A → List (ℕ × ℕ)
faults_by one (Read found following) = []
faults_by one (Stops number at) = (number, at) ∷ []
faults_by one Ends = unclosed_faults one

abbrev pub item_faults : List Lexeme → List (ℕ × ℕ)
item_faults one = faults_by one (item_at one)

-- the fault with which the search ends, if it does
abbrev pub end_faults : End → List (ℕ × ℕ)
end_faults Complete = []
end_faults (Fails number at) = (number, at) ∷ []

-- The first of all faults of the text, those of its whole items and that of the search: the one with the earliest place, and of
-- those that stand there the first in the order of the items.
pub record IsFirstFault (text : List ℕ) (tokens : List Token) (number at : ℕ) : Type 0 where
  pub cut : List (List Lexeme)
  pub end : End
  pub before : List (ℕ × ℕ)
  pub after : List (ℕ × ℕ)
  pub searched : Searches [] (lexemes_of text tokens) cut end
  pub among : flat_map item_faults cut ++ end_faults end ≡ before ++ (number, at) ∷ after
  pub earlier : All (λ fault. at < fault.1) before
  pub later : All (λ fault. at ≤ fault.1) after

-- what may be answered in place of items: out of memory, or the first fault
abbrev pub IsStop : ℕ → List ℕ → List Token → Stop → Type 0
IsStop file text tokens Memory = Unit {0}
IsStop file text tokens (At fault) = (fault.file ≡ file) × IsFirstFault text tokens fault.number fault.at

-- these items are answered, unless memory runs out
abbrev pub GivesItems : Result Items Stop → Items → Type 0
GivesItems (Ok found) items = found ≡ items
GivesItems (Err Memory) items = Unit {0}
GivesItems (Err (At fault)) items = ⊥

-- this fault is answered, unless memory runs out
abbrev pub GivesFault : Result Items Stop → Fault → Type 0
GivesFault (Ok found) is = ⊥
GivesFault (Err Memory) is = Unit {0}
GivesFault (Err (At fault)) is = fault ≡ is
