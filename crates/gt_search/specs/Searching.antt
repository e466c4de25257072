-- Searching for items from left to right, one token at a time.
use Rattle.std.specs.Prelude.{ℕ, suc, ◌<◌, ◌≤◌, Bool, true, false, ◌&&◌, ◌||◌, not, if◌then◌else◌, List, [], ◌∷◌, length, codes, Option, Some, None}
use Rattle.std.specs.Str.{bytes_eq}
use Rattle.gt_search.specs.declared.faults.TheConstants.{UNCLOSED, UNEXPECTED}
use Rattle.gt_search.specs.declared.lexeme.Bracket.{Bracket}
use Rattle.gt_search.specs.declared.lexeme.Bracket.TheVariants.{Round, Square, Brace}
use Rattle.gt_search.specs.declared.lexeme.Lexeme.{Lexeme}
use Rattle.gt_search.specs.declared.lexeme.Lexeme.TheVariants as lexeme
use Rattle.gt_search.specs.declared.search.Begun.{Begun}
use Rattle.gt_search.specs.declared.search.End.{End}
use Rattle.gt_search.specs.declared.search.End.TheVariants.{Complete, Fails}
use Rattle.gt_search.specs.declared.search.ItemEnd.{ItemEnd}
use Rattle.gt_search.specs.declared.search.ItemEnd.TheVariants.{Whole, Unmatched, Unended}
use Rattle.gt_search.specs.declared.search.Step.{Step}
use Rattle.gt_search.specs.declared.search.Step.TheVariants.{Goes, Ends, Stops}
use Rattle.gt_search.specs.declared.search.Turn.{Turn}
use Rattle.gt_search.specs.declared.search.Turn.TheVariants.{Wrapper, WrapperEnd, Item, Last}
use Rattle.gt_search.specs.Search.{is_gty, is_equals, unclosed_place, outermost}

-- ---- an item, token by token

-- whether two brackets are of one kind
abbrev pub same_bracket : Bracket → Bracket → Bool
same_bracket Round Round = true
same_bracket Square Square = true
same_bracket Brace Brace = true
same_bracket a b = false

-- whether a brace would begin a function's body after a bracket, where marks says whether GTY stands before it
abbrev pub called_after : Bracket → (marks called : Bool) → Bool
called_after Round marks called = called || not marks
called_after Square marks called = called
called_after Brace marks called = called

-- whether a bracket closes the body of a function, where no other stays open
abbrev pub ends_body : Bracket → Bool → List Bracket → Bool
ends_body Brace called [] = called
ends_body b called opened = false

-- after an opening bracket
abbrev pub opened_with : List Bracket → (marks called : Bool) → Bracket → Begun
opened_with [] marks called b = record { opened = b ∷ []; marks = false; called = called_after b marks called }
opened_with (last ∷ others) marks called b = record { opened = b ∷ last ∷ others; marks = marks; called = called }

abbrev pub opened_in : Begun → Bracket → Begun
opened_in begun b = opened_with begun.opened begun.marks begun.called b

-- a closing bracket at an offset
abbrev pub closed_with : List Bracket → (marks called : Bool) → Bracket → ℕ → Step
closed_with [] marks called b at = Stops at
closed_with (last ∷ others) marks called b at =
    if same_bracket last b then (if ends_body b called others then Ends else Goes (record { opened = others; marks = marks; called = called })) else Stops at

abbrev pub closed_in : Begun → Bracket → ℕ → Step
closed_in begun b at = closed_with begun.opened begun.marks begun.called b at

-- any other token
abbrev pub passed_with : List Bracket → (marks called : Bool) → Lexeme → Step
passed_with [] marks called (lexeme.Semicolon s) = Ends
passed_with [] marks called t = Goes (record { opened = []; marks = is_gty t; called = called && not (is_equals t) })
passed_with (last ∷ others) marks called t = Goes (record { opened = last ∷ others; marks = marks; called = called })

abbrev pub passed_in : Begun → Lexeme → Step
passed_in begun t = passed_with begun.opened begun.marks begun.called t

-- one more token of an item
abbrev pub step : Begun → Lexeme → Step
step begun (lexeme.Open b s) = Goes (opened_in begun b)
step begun (lexeme.Close b s) = closed_in begun b s.start
step begun t = passed_in begun t

-- one more token stands before
abbrev pub one_longer : ItemEnd → ItemEnd
one_longer (Whole len) = Whole (suc len)
one_longer (Unmatched at) = Unmatched at
one_longer Unended = Unended

-- how an item ends after a token, by how it goes on
abbrev pub end_after : (Begun → ItemEnd) → Step → ItemEnd
end_after go (Goes begun) = one_longer (go begun)
end_after go Ends = Whole 1
end_after go (Stops at) = Unmatched at

-- how an item ends that has begun so
unfoldable pub item_end : Begun → List Lexeme → ItemEnd
item_end begun [] = Unended
item_end begun (t ∷ ts) = end_after (λ next. item_end next ts) (step begun t)

-- no token of an item stands before
abbrev pub none_begun : Begun
none_begun = record { opened = []; marks = false; called = false }

-- ---- a text, item by item

-- the wrapper at the front: the place of its brace, and how many tokens it has
unfoldable pub wrapper_at : List Lexeme → Option (ℕ × ℕ)
wrapper_at (lexeme.Extern e ∷ lexeme.Quoted q ∷ lexeme.Open Brace b ∷ ts) = if bytes_eq q.word (codes "\"C\"") then Some (b.start, 3) else None
wrapper_at (lexeme.Reserved r ∷ lexeme.Open Brace b ∷ ts) = if bytes_eq r.word (codes "namespace") then Some (b.start, 2) else None
wrapper_at (lexeme.Reserved r ∷ lexeme.Name n ∷ lexeme.Open Brace b ∷ ts) = if bytes_eq r.word (codes "namespace") then Some (b.start, 3) else None
wrapper_at ts = None

-- the lowest item of a stack
abbrev pub lowest : {X : Type 0} → X → List X → X
lowest x [] = x
lowest x (y ∷ ys) = lowest y ys

abbrev pub bottom : {X : Type 0} → List X → Option X
bottom [] = None
bottom (x ∷ xs) = Some (lowest x xs)

-- the end of a text in some wrappers
abbrev pub end_in : List ℕ → End
end_in [] = Complete
end_in (w ∷ ws) = Fails UNCLOSED (outermost w ws)

-- the turn of an item, whose first token is given
abbrev pub item_turn : List ℕ → Lexeme → ItemEnd → Turn
item_turn wrappers t (Whole len) = Item len
item_turn wrappers t (Unmatched at) = Last (Fails UNEXPECTED at)
item_turn wrappers t Unended = Last (Fails UNCLOSED (unclosed_place wrappers t))

-- what stands at the front where no wrapper begins
abbrev pub plain_turn : List ℕ → List Lexeme → Turn
plain_turn wrappers [] = Last (end_in wrappers)
plain_turn (w ∷ ws) (lexeme.Close Brace s ∷ ts) = WrapperEnd
plain_turn wrappers (t ∷ ts) = item_turn wrappers t (item_end none_begun (t ∷ ts))

abbrev pub turn_with : List ℕ → List Lexeme → Option (ℕ × ℕ) → Turn
turn_with wrappers ts (Some found) = Wrapper found.0 found.1
turn_with wrappers ts None = plain_turn wrappers ts

-- what stands at the front where some wrappers are open
unfoldable pub turn_at : List ℕ → List Lexeme → Turn
turn_at wrappers ts = turn_with wrappers ts (wrapper_at ts)

-- the tokens have as many tokens as a turn takes, which is at least one
abbrev pub FitsIn : List Lexeme → Turn → Type 0
FitsIn ts (Wrapper brace len) = (0 < len) × (len ≤ length ts)
FitsIn ts WrapperEnd = 0 < length ts
FitsIn ts (Item len) = (0 < len) × (len ≤ length ts)
FitsIn ts (Last end) = Unit {0}
