-- Where items begin and end: a text's tokens are cut into items, and what surrounds some of them is passed over.
use Rattle.std.specs.Prelude.{◌≡◌, ◌≢◌, ℕ, Bool, true, false, ◌&&◌, ◌||◌, not, List, [], ◌∷◌, ◌++◌, codes}
use Rattle.std.specs.Str.{bytes_eq}
use Rattle.gt_search.specs.declared.faults.TheConstants.{UNCLOSED, UNEXPECTED}
use Rattle.gt_search.specs.declared.lexeme.TokenText.{TokenText}
use Rattle.gt_search.specs.declared.lexeme.Bracket.{Bracket}
use Rattle.gt_search.specs.declared.lexeme.Bracket.TheVariants.{Round, Square, Brace}
use Rattle.gt_search.specs.declared.lexeme.Lexeme.{Lexeme}
use Rattle.gt_search.specs.declared.lexeme.Lexeme.TheVariants as lexeme
use Rattle.gt_search.specs.declared.search.End.{End}
use Rattle.gt_search.specs.declared.search.End.TheVariants.{Complete, Fails}
use Rattle.gt_search.specs.Lexemes.{spot_of}

-- a token that is no bracket; and one that is neither a bracket nor a semicolon
abbrev pub is_no_bracket : Lexeme → Bool
is_no_bracket (lexeme.Open b s) = false
is_no_bracket (lexeme.Close b s) = false
is_no_bracket t = true

abbrev pub is_plain : Lexeme → Bool
is_plain (lexeme.Semicolon s) = false
is_plain t = is_no_bracket t

abbrev pub is_gty : Lexeme → Bool
is_gty (lexeme.Gty s) = true
is_gty t = false

abbrev pub is_equals : Lexeme → Bool
is_equals (lexeme.Equals s) = true
is_equals t = false

-- tokens in which each bracket is closed by its like
pub data Balanced : List Lexeme → Type 0 where
  nothing : Balanced []
  token : {ts : List Lexeme} (t : Lexeme) → is_no_bracket t ≡ true → Balanced ts → Balanced (t ∷ ts)
  group : {inside ts : List Lexeme} (b : Bracket) (o c : TokenText) → Balanced inside → Balanced ts
      → Balanced (lexeme.Open b o ∷ inside ++ lexeme.Close b c ∷ ts)

-- The tokens with which an item ends. It ends at the first semicolon that stands in no brackets, or with the body of a function: a
-- brace opens one where a round bracket was closed before it in the item, which is in no other bracket and closes no marker, and no
-- `=` stood after that. marks says whether GTY stands directly before these tokens, called whether such a bracket was closed.
pub data EndsItem : (marks called : Bool) → List Lexeme → Type 0 where
  semicolon : {marks called : Bool} (s : TokenText) → EndsItem marks called (lexeme.Semicolon s ∷ [])
  body : {marks : Bool} {inside : List Lexeme} (o c : TokenText) → Balanced inside
      → EndsItem marks true (lexeme.Open Brace o ∷ inside ++ lexeme.Close Brace c ∷ [])
  token : {marks called : Bool} {ts : List Lexeme} (t : Lexeme) → is_plain t ≡ true → EndsItem (is_gty t) (called && not (is_equals t)) ts
      → EndsItem marks called (t ∷ ts)
  round : {marks called : Bool} {inside ts : List Lexeme} (o c : TokenText) → Balanced inside → EndsItem false (called || not marks) ts
      → EndsItem marks called (lexeme.Open Round o ∷ inside ++ lexeme.Close Round c ∷ ts)
  square : {marks called : Bool} {inside ts : List Lexeme} (o c : TokenText) → Balanced inside → EndsItem false called ts
      → EndsItem marks called (lexeme.Open Square o ∷ inside ++ lexeme.Close Square c ∷ ts)
  braces : {marks : Bool} {inside ts : List Lexeme} (o c : TokenText) → Balanced inside → EndsItem false false ts
      → EndsItem marks false (lexeme.Open Brace o ∷ inside ++ lexeme.Close Brace c ∷ ts)

-- tokens after an opening bracket that does not close, and the brackets that are open after them within it, the last one first
pub data Inside : List Lexeme → List Bracket → Type 0 where
  nothing : Inside [] []
  token : {ts : List Lexeme} {opened : List Bracket} (t : Lexeme) → is_no_bracket t ≡ true → Inside ts opened → Inside (t ∷ ts) opened
  group : {inside ts : List Lexeme} {opened : List Bracket} (b : Bracket) (o c : TokenText) → Balanced inside → Inside ts opened
      → Inside (lexeme.Open b o ∷ inside ++ lexeme.Close b c ∷ ts) opened
  unclosed : {ts : List Lexeme} {opened : List Bracket} (b : Bracket) (o : TokenText) → Inside ts opened → Inside (lexeme.Open b o ∷ ts) (opened ++ b ∷ [])

-- tokens with which an item begins and does not end, and the brackets that are open after them, the last one first
pub data BeginsItem : (marks called : Bool) → List Lexeme → List Bracket → Type 0 where
  nothing : {marks called : Bool} → BeginsItem marks called [] []
  token : {marks called : Bool} {ts : List Lexeme} {opened : List Bracket} (t : Lexeme) → is_plain t ≡ true
      → BeginsItem (is_gty t) (called && not (is_equals t)) ts opened → BeginsItem marks called (t ∷ ts) opened
  round : {marks called : Bool} {inside ts : List Lexeme} {opened : List Bracket} (o c : TokenText) → Balanced inside
      → BeginsItem false (called || not marks) ts opened → BeginsItem marks called (lexeme.Open Round o ∷ inside ++ lexeme.Close Round c ∷ ts) opened
  square : {marks called : Bool} {inside ts : List Lexeme} {opened : List Bracket} (o c : TokenText) → Balanced inside
      → BeginsItem false called ts opened → BeginsItem marks called (lexeme.Open Square o ∷ inside ++ lexeme.Close Square c ∷ ts) opened
  braces : {marks : Bool} {inside ts : List Lexeme} {opened : List Bracket} (o c : TokenText) → Balanced inside
      → BeginsItem false false ts opened → BeginsItem marks false (lexeme.Open Brace o ∷ inside ++ lexeme.Close Brace c ∷ ts) opened
  unclosed : {marks called : Bool} {ts : List Lexeme} {opened : List Bracket} (b : Bracket) (o : TokenText) → Inside ts opened
      → BeginsItem marks called (lexeme.Open b o ∷ ts) (opened ++ b ∷ [])

-- whether a wrapper stands at the front, which is passed over: `extern "C" {`, `namespace {` or `namespace NAME {`
unfoldable pub begins_wrapper : List Lexeme → Bool
begins_wrapper (lexeme.Extern e ∷ lexeme.Quoted q ∷ lexeme.Open Brace b ∷ ts) = bytes_eq q.word (codes "\"C\"")
begins_wrapper (lexeme.Reserved r ∷ lexeme.Open Brace b ∷ ts) = bytes_eq r.word (codes "namespace")
begins_wrapper (lexeme.Reserved r ∷ lexeme.Name n ∷ lexeme.Open Brace b ∷ ts) = bytes_eq r.word (codes "namespace")
begins_wrapper ts = false

-- the tokens of a wrapper, and the place of its brace
pub data IsWrapper : List Lexeme → ℕ → Type 0 where
  extern_c : (e q b : TokenText) → IsWrapper (lexeme.Extern e ∷ lexeme.Quoted q ∷ lexeme.Open Brace b ∷ []) b.start
  namespace : (r b : TokenText) → IsWrapper (lexeme.Reserved r ∷ lexeme.Open Brace b ∷ []) b.start
  named_namespace : (r n b : TokenText) → IsWrapper (lexeme.Reserved r ∷ lexeme.Name n ∷ lexeme.Open Brace b ∷ []) b.start

-- a closing bracket that does not match the last one that is open, if one is
abbrev pub IsUnmatched : Bracket → List Bracket → Type 0
IsUnmatched b [] = Unit {0}
IsUnmatched b (last ∷ others) = b ≢ last

-- the brace of the outermost of some wrappers, which stand from the inside out
abbrev pub outermost : ℕ → List ℕ → ℕ
outermost w [] = w
outermost w (v ∷ ws) = outermost v ws

-- where what the text does not close stands: the outermost open wrapper, or else the first token of the item
abbrev pub unclosed_place : List ℕ → Lexeme → ℕ
unclosed_place [] t = (spot_of t).start
unclosed_place (w ∷ ws) t = outermost w ws

-- the closing brace is that of the innermost wrapper: no item has begun, and a wrapper is open
abbrev pub ClosesWrapper : List ℕ → List Lexeme → Bracket → Type 0
ClosesWrapper wrappers front b = (front ≡ []) × (b ≡ Brace) × (wrappers ≢ [])

-- The items of the tokens, where some wrappers are open, and how the search ends: at the end of the text, or with a fault. The
-- wrappers are given by the places of their braces, the innermost first.
pub data Searches : List ℕ → List Lexeme → List (List Lexeme) → End → Type 0 where
  -- all is closed
  complete : Searches [] [] [] Complete
  -- a wrapper is passed over, and so is its closing brace
  wrapper : {wrappers : List ℕ} {front ts : List Lexeme} {items : List (List Lexeme)} {end : End} (brace : ℕ)
      → IsWrapper front brace → begins_wrapper (front ++ ts) ≡ true → Searches (brace ∷ wrappers) ts items end → Searches wrappers (front ++ ts) items end
  closed_wrapper : {wrappers : List ℕ} {ts : List Lexeme} {items : List (List Lexeme)} {end : End} (w : ℕ) (s : TokenText)
      → Searches wrappers ts items end → Searches (w ∷ wrappers) (lexeme.Close Brace s ∷ ts) items end
  -- an item
  item : {wrappers : List ℕ} {one ts : List Lexeme} {items : List (List Lexeme)} {end : End}
      → begins_wrapper (one ++ ts) ≡ false → EndsItem false false one → Searches wrappers ts items end → Searches wrappers (one ++ ts) (one ∷ items) end
  -- 8: a closing bracket that does not match, at the bracket
  unmatched : {wrappers : List ℕ} {front : List Lexeme} {opened : List Bracket} (b : Bracket) (s : TokenText) (ts : List Lexeme)
      → begins_wrapper (front ++ lexeme.Close b s ∷ ts) ≡ false → BeginsItem false false front opened → IsUnmatched b opened
      → (ClosesWrapper wrappers front b → ⊥) → Searches wrappers (front ++ lexeme.Close b s ∷ ts) [] (Fails UNEXPECTED s.start)
  -- 7: the text ends in an item, or in a wrapper
  unclosed_item : {wrappers : List ℕ} {ts : List Lexeme} {opened : List Bracket} (t : Lexeme)
      → begins_wrapper (t ∷ ts) ≡ false → BeginsItem false false (t ∷ ts) opened → Searches wrappers (t ∷ ts) [] (Fails UNCLOSED (unclosed_place wrappers t))
  unclosed_wrapper : {wrappers : List ℕ} (w : ℕ) → Searches (w ∷ wrappers) [] [] (Fails UNCLOSED (outermost w wrappers))
