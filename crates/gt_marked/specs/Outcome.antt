-- What reading from the front of the tokens of an item comes to.
use Rattle.std.specs.Prelude.{◌≡◌, ℕ, List, [], ◌∷◌, Result, Ok, Err}
use Rattle.gt_search.specs.declared.faults.TheConstants.{UNEXPECTED}
use Rattle.gt_search.specs.declared.lexeme.Lexeme.{Lexeme}
use Rattle.gt_marked.specs.declared.unread.Unread.{Unread}
use Rattle.gt_marked.specs.declared.unread.Unread.TheVariants.{Memory, Ended, Fault}
use Rattle.gt_search.specs.Lexemes.{spot_of}

-- something was read, and these tokens stand after it; or reading stops with a fault, its number and its place; or the tokens end
pub data Outcome (A : Type 0) : Type 0 where
  Read : A → List Lexeme → Outcome A
  Stops : (number at : ℕ) → Outcome A
  Ends : Outcome A

-- a step on what the one before read, and on the tokens after it
infixl 10 ◌>>=◌
abbrev pub ◌>>=◌ : {A B : Type 0} → Outcome A → (A × List Lexeme → Outcome B) → Outcome B
(Read x ts) >>= f = f (x, ts)
(Stops number at) >>= f = Stops number at
Ends >>= f = Ends

-- the first of the tokens may not stand at its place
abbrev pub unexpected : {A : Type 0} → List Lexeme → Outcome A
unexpected [] = Ends
unexpected (t ∷ ts) = Stops UNEXPECTED (spot_of t).start

-- what an error says of an outcome
abbrev pub Fails : {A : Type 0} → Unread → Outcome A → Type 0
Fails Memory o = Unit {0}
Fails Ended o = o ≡ Ends
Fails (Fault number at) o = o ≡ Stops number at

-- what a function returned, seen as a value and the tokens after it, is the outcome, unless memory ran out
abbrev pub Gives : {X A : Type 0} → (X → A × List Lexeme) → Result X Unread → Outcome A → Type 0
Gives view (Ok x) o = o ≡ Read (view x).0 (view x).1
Gives view (Err e) o = Fails e o

-- what a function returned is what reading gives, whatever stands after, unless memory ran out
abbrev pub GivesBefore : {A : Type 0} → Result A Unread → (List Lexeme → Outcome A) → Type 0
GivesBefore result reading = (ts : List Lexeme) → Gives (λ x. (x, ts)) result (reading ts)

-- the error of a token that may not stand at its place, the first of these
abbrev pub unexpected_as : List Lexeme → Unread
unexpected_as [] = Ended
unexpected_as (t ∷ ts) = Fault UNEXPECTED (spot_of t).start

-- what the reading of an item returned is the outcome, whatever stands after the item, unless memory ran out
abbrev pub ItemGives : {A : Type 0} → Result A Unread → Outcome A → Type 0
ItemGives (Ok found) o = (following : List Lexeme) × (o ≡ Read found following)
ItemGives (Err e) o = Fails e o
