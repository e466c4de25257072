-- How far each part reaches.
use Rattle.std.specs.Prelude.{◌≡◌, ◌≢◌, ℕ, ◌≤◌, Bool, ◌&&◌, ◌||◌, ◌==◌, ◌⊎◌, List, [], ◌∷◌, ◌++◌, length, IsTrue, IsFalse}
use Rattle.std.specs.List.{list_all, list_any}
use Rattle.std.specs.Char.{is_ascii_digit}
use Rattle.gt_text.specs.Identifier.{starts_identifier_of, continues_identifier_of}
use Rattle.gt_lex.specs.declared.tokens.Kind.TheVariants.{Ident, Number, Quoted, CharLit, Punct}
use Rattle.gt_lex.specs.Characters.{newline, carriage_return, double_quote, single_quote, star, dot, slash, backslash, first_is, has_newline, EndsLine}
use Rattle.gt_lex.specs.Parts.{Part, Space, Block, Line, Continuation, Item}

-- front is the longest of the texts with a property that the whole, front and then rest, begins with
pub record IsLongest (Has : List ℕ → Type 0) (front rest : List ℕ) : Type 0 where
  pub fits : Has front
  pub longest : (other more : List ℕ) → Has other → other ++ more ≡ front ++ rest → length other ≤ length front

-- an identifier: a character that may begin one, and characters that may continue one
abbrev pub IsIdentifier : List ℕ → Type 0
IsIdentifier [] = ⊥
IsIdentifier (c ∷ cs) = IsTrue (starts_identifier_of c) × IsTrue (list_all continues_identifier_of cs)

-- the letters of an exponent, e, E, p and P, and the signs that may follow them
abbrev pub is_exponent : ℕ → Bool
is_exponent c = list_any (λ letter. letter == c) (101 ∷ 69 ∷ 112 ∷ 80 ∷ [])

abbrev pub is_sign : ℕ → Bool
is_sign c = (c == 43) || (c == 45)

-- a preprocessing number of C, by the rules of its grammar (C11, 6.4.8)
pub data IsNumber : List ℕ → Type 0 where
  first_digit : (c : ℕ) → IsTrue (is_ascii_digit c) → IsNumber (c ∷ [])
  first_point : (c : ℕ) → IsTrue (is_ascii_digit c) → IsNumber (dot ∷ c ∷ [])
  digit : (cs : List ℕ) (c : ℕ) → IsNumber cs → IsTrue (is_ascii_digit c) → IsNumber (cs ++ c ∷ [])
  letter : (cs : List ℕ) (c : ℕ) → IsNumber cs → IsTrue (continues_identifier_of c) → IsNumber (cs ++ c ∷ [])
  exponent : (cs : List ℕ) (e sign : ℕ) → IsNumber cs → IsTrue (is_exponent e) → IsTrue (is_sign sign) → IsNumber (cs ++ e ∷ sign ∷ [])
  point : (cs : List ℕ) → IsNumber cs → IsNumber (cs ++ dot ∷ [])

-- what may stand between the quotes of a literal: other characters of the line, and escapes, a backslash with the
-- next character of the line
pub data IsInside (quote : ℕ) : List ℕ → Type 0 where
  nothing : IsInside quote []
  other : (c : ℕ) (cs : List ℕ) → c ≢ quote → c ≢ backslash → c ≢ newline → IsInside quote cs → IsInside quote (c ∷ cs)
  escape : (c : ℕ) (cs : List ℕ) → c ≢ newline → IsInside quote cs → IsInside quote (backslash ∷ c ∷ cs)

-- a literal: the quote, what may stand in it, and the quote
abbrev pub IsLiteral : ℕ → List ℕ → Type 0
IsLiteral quote cs = (inside : List ℕ) × IsInside quote inside × (cs ≡ quote ∷ (inside ++ quote ∷ []))

-- a text in which no star is followed by a slash
abbrev pub HasNoClose : List ℕ → Type 0
HasNoClose [] = Unit {0}
HasNoClose (c ∷ cs) = IsFalse ((c == star) && first_is slash cs) × HasNoClose cs

-- A part that begins reaches so far, where rest follows it: an identifier and a number are the longest that fit, and a
-- block comment ends at the first star and slash.
abbrev pub Reaches : Part → List ℕ → Type 0
Reaches (Space c) rest = Unit {0}
Reaches (Block inside) rest = HasNoClose (inside ++ star ∷ [])
Reaches (Line inside) rest = IsFalse (has_newline inside) × EndsLine rest
Reaches (Continuation end) rest = (end ≡ newline ∷ []) ⊎ (end ≡ carriage_return ∷ newline ∷ [])
Reaches (Item Ident cs) rest = IsLongest IsIdentifier cs rest
Reaches (Item Number cs) rest = IsLongest IsNumber cs rest
Reaches (Item Quoted cs) rest = IsLiteral double_quote cs
Reaches (Item CharLit cs) rest = IsLiteral single_quote cs
Reaches (Item Punct cs) rest = length cs ≡ 1

-- a block comment that does not end: no star and slash after its opening
abbrev pub IsOpenComment : List ℕ → Type 0
IsOpenComment cs = (inside : List ℕ) × (cs ≡ slash ∷ star ∷ inside) × HasNoClose inside

-- where a literal finds the line's end instead of its quote, perhaps after a backslash
abbrev pub StopsLiteral : List ℕ → Type 0
StopsLiteral [] = Unit {0}
StopsLiteral (c ∷ cs) = (c ≡ newline) ⊎ ((c ≡ backslash) × EndsLine cs)

-- a literal that does not end on its line
abbrev pub IsOpenLiteral : ℕ → List ℕ → Type 0
IsOpenLiteral quote cs = (inside rest : List ℕ) × (cs ≡ quote ∷ (inside ++ rest)) × IsInside quote inside × StopsLiteral rest
