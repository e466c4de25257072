-- What unmarked typedefs and enums declare. They give no faults.
use Rattle.std.specs.Prelude.{ℕ, zero, suc, Bool, true, false, List, [], ◌∷◌, ◌++◌, length, Option, Some, None}
use Rattle.gt_search.specs.declared.faults.TheConstants.{BAD_MARKER_PLACE}
use Rattle.gt_items.specs.declared.items.Name.{Name}
use Rattle.gt_items.specs.declared.items.Alias.{Alias}
use Rattle.gt_items.specs.declared.items.Keyword.{Keyword}
use Rattle.gt_items.specs.declared.items.Keyword.TheVariants as keyword
use Rattle.gt_items.specs.declared.items.Stars.TheVariants.{Zero}
use Rattle.gt_items.specs.declared.items.Item.{Item}
use Rattle.gt_items.specs.declared.items.Item.TheVariants.{Typedef, Enum}
use Rattle.gt_items.specs.declared.items.Meaning.{Meaning}
use Rattle.gt_items.specs.declared.items.Meaning.TheVariants as meaning
use Rattle.gt_items.specs.declared.items.RawEnum.{RawEnum}
use Rattle.gt_items.specs.declared.items.RawTypedef.{RawTypedef}
use Rattle.gt_items.specs.declared.items.Enumerator.{Enumerator}
use Rattle.gt_items.specs.declared.items.Enumerator.TheVariants.{Counted, Valued, Undefined, Passed}
use Rattle.gt_search.specs.declared.lexeme.Bracket.TheVariants.{Round, Brace}
use Rattle.gt_search.specs.declared.lexeme.Lexeme.{Lexeme}
use Rattle.gt_search.specs.declared.lexeme.Lexeme.TheVariants as lexeme
use Rattle.gt_marked.specs.declared.types.Context.TheVariants.{Elsewhere}
use Rattle.gt_search.specs.Lexemes.{name_of, kept_text}
use Rattle.gt_marked.specs.Outcome.{Outcome, Read, Stops, Ends, ◌>>=◌, unexpected}
use Rattle.gt_marked.specs.Types.{without_qualifiers, type_at}
use Rattle.gt_marked.specs.Groups.{inside_from}
use Rattle.gt_marked.specs.Marked.{alias_at}

-- ---- enums

-- a piece of the body of an enum
abbrev pub enumerator_of : List Lexeme → Enumerator
enumerator_of (lexeme.Name s ∷ []) = Counted (name_of s)
enumerator_of (lexeme.Name s ∷ lexeme.Equals e ∷ ts) = Valued (name_of s) (kept_text ts)
enumerator_of (lexeme.Name s ∷ ts) = Undefined (name_of s)
enumerator_of ts = Passed

-- whether a token is a comma
abbrev pub is_comma : Lexeme → Bool
is_comma (lexeme.Comma s) = true
is_comma t = false

-- the pieces of a body, which commas that stand in no brackets part; depth brackets are open, and piece is what stands before in
-- the first piece
unfoldable pub pieces_from : ℕ → List Lexeme → List Lexeme → List (List Lexeme)
pieces_from depth piece [] = piece ∷ []
pieces_from zero piece (lexeme.Comma s ∷ ts) = piece ∷ pieces_from zero [] ts
pieces_from depth piece (lexeme.Open b s ∷ ts) = pieces_from (suc depth) (piece ++ lexeme.Open b s ∷ []) ts
pieces_from zero piece (lexeme.Close b s ∷ ts) = pieces_from zero (piece ++ lexeme.Close b s ∷ []) ts
pieces_from (suc depth) piece (lexeme.Close b s ∷ ts) = pieces_from depth (piece ++ lexeme.Close b s ∷ []) ts
pieces_from depth piece (t ∷ ts) = pieces_from depth (piece ++ t ∷ []) ts

-- the constants of a body
unfoldable pub enumerators_of : List (List Lexeme) → List Enumerator
enumerators_of [] = []
enumerators_of (piece ∷ pieces) = enumerator_of piece ∷ enumerators_of pieces

-- an enum with a tag or without, after the brace of its body
unfoldable pub enum_body_at : Option Name → List Lexeme → Outcome RawEnum
enum_body_at tag ts = inside_from 0 ts >>= λ body. Read (record { tag = tag; constants = enumerators_of (pieces_from 0 [] body.0) }) body.1

-- `enum [NAME] {` begins a definition; another enum declares nothing
abbrev pub enum_of : Outcome RawEnum → Option Item
enum_of (Read found ts) = Some (Enum found)
enum_of (Stops number at) = None
enum_of Ends = None

unfoldable pub enum_at : List Lexeme → Option Item
enum_at (lexeme.Open Brace b ∷ ts) = enum_of (enum_body_at None ts)
enum_at (lexeme.Name s ∷ lexeme.Open Brace b ∷ ts) = enum_of (enum_body_at (Some (name_of s)) ts)
enum_at ts = None

-- ---- typedefs of the first form: a type, which may be defined here, and names

-- a structure or an enum with a body, after its brace
unfoldable pub body_at : Keyword → Option Name → List Lexeme → Outcome Meaning
body_at keyword.Struct tag ts = inside_from 0 ts >>= λ body. Read (meaning.Body keyword.Struct tag) (without_qualifiers body.1)
body_at keyword.Union tag ts = inside_from 0 ts >>= λ body. Read (meaning.Body keyword.Union tag) (without_qualifiers body.1)
body_at keyword.Enum tag ts = enum_body_at tag ts >>= λ found. Read (meaning.Enum found.0) (without_qualifiers found.1)

-- a type without a body
unfoldable pub plain_meaning_at : List Lexeme → Outcome Meaning
plain_meaning_at ts = type_at Elsewhere ts >>= λ type. Read (meaning.Type type.0) type.1

-- what stands after a keyword and a tag: a body, or else the type ends here
abbrev pub tagged_meaning_at : Keyword → Name → List Lexeme → List Lexeme → Outcome Meaning
tagged_meaning_at k tag whole (lexeme.Open Brace s ∷ ts) = body_at k (Some tag) ts
tagged_meaning_at k tag whole ts = plain_meaning_at whole

-- what stands after a keyword: a body without a tag, a tag, or else no type
abbrev pub keyword_meaning_at : Keyword → List Lexeme → List Lexeme → Outcome Meaning
keyword_meaning_at k whole (lexeme.Open Brace s ∷ ts) = body_at k None ts
keyword_meaning_at k whole (lexeme.Name s ∷ ts) = tagged_meaning_at k (name_of s) whole (without_qualifiers ts)
keyword_meaning_at k whole ts = unexpected ts

-- what a typedef means: a type, or one with a body
unfoldable pub bare_meaning_at : List Lexeme → Outcome Meaning
bare_meaning_at (lexeme.Tag k s ∷ ts) = keyword_meaning_at k (lexeme.Tag k s ∷ ts) (without_qualifiers ts)
bare_meaning_at ts = plain_meaning_at ts

unfoldable pub meaning_at : List Lexeme → Outcome Meaning
meaning_at ts = bare_meaning_at (without_qualifiers ts)

-- what goes on after a comma, and what was read where a semicolon ends the item
abbrev pub after_alias : {A : Type 0} → (List Lexeme → Outcome A) → A → List Lexeme → Outcome A
after_alias go names (lexeme.Comma s ∷ ts) = go ts
after_alias go names (lexeme.Semicolon s ∷ ts) = Read names ts
after_alias go names ts = unexpected ts

-- names with commas between them and a semicolon after them, after those that were read; at most count
unfoldable pub aliases_from : ℕ → List Alias → List Lexeme → Outcome (List Alias)
aliases_from zero names ts = Ends
aliases_from (suc count) names ts = do
  one ← alias_at ts
  after_alias (aliases_from count (names ++ one.0 ∷ [])) (names ++ one.0 ∷ []) one.1

unfoldable pub first_form_at : List Lexeme → Outcome RawTypedef
first_form_at ts = do
  means ← meaning_at ts
  names ← aliases_from (length means.1) [] means.1
  Read (record { means = means.0; names = names.0 }) names.1

-- ---- other typedefs: one opaque name

-- the last name that stands in no brackets, or else the one that stood before
unfoldable pub last_name : ℕ → Option Name → List Lexeme → Option Name
last_name depth last [] = last
last_name depth last (lexeme.Open b s ∷ ts) = last_name (suc depth) last ts
last_name zero last (lexeme.Close b s ∷ ts) = last_name zero last ts
last_name (suc depth) last (lexeme.Close b s ∷ ts) = last_name depth last ts
last_name zero last (lexeme.Name s ∷ ts) = last_name zero (Some (name_of s)) ts
last_name depth last (t ∷ ts) = last_name depth last ts

-- whether a token is a round bracket that opens
abbrev pub opens_round : Lexeme → Bool
opens_round (lexeme.Open Round s) = true
opens_round t = false

-- the tokens after the first round bracket that opens in no other bracket; none where there is no such bracket
unfoldable pub after_round : ℕ → List Lexeme → List Lexeme
after_round depth [] = []
after_round zero (lexeme.Open Round s ∷ ts) = ts
after_round depth (lexeme.Open b s ∷ ts) = after_round (suc depth) ts
after_round zero (lexeme.Close b s ∷ ts) = after_round zero ts
after_round (suc depth) (lexeme.Close b s ∷ ts) = after_round depth ts
after_round depth (t ∷ ts) = after_round depth ts

-- the name after stars
unfoldable pub starred_name : List Lexeme → Option Name
starred_name (lexeme.Star s ∷ ts) = starred_name ts
starred_name (lexeme.Qualifier s ∷ ts) = starred_name ts
starred_name (lexeme.Name s ∷ ts) = Some (name_of s)
starred_name ts = None

-- the one opaque name of a typedef: where a star stands directly after its first round bracket, the name after the stars there;
-- otherwise the last name
abbrev pub opaque_name : List Lexeme → List Lexeme → Option Name
opaque_name ts (lexeme.Star s ∷ following) = starred_name following
opaque_name ts following = last_name 0 None ts

abbrev pub opaque_typedef : Option Name → Option Item
opaque_typedef None = None
opaque_typedef (Some name) = Some (Typedef (record { means = meaning.Opaque; names = record { stars = Zero; name = name } ∷ [] }))

-- an unmarked typedef, after the word
abbrev pub typedef_of : List Lexeme → Outcome RawTypedef → Option Item
typedef_of ts (Read found following) = Some (Typedef found)
typedef_of ts (Stops number at) = opaque_typedef (opaque_name ts (after_round 0 ts))
typedef_of ts Ends = opaque_typedef (opaque_name ts (after_round 0 ts))

unfoldable pub typedef_at : List Lexeme → Option Item
typedef_at ts = typedef_of ts (first_form_at ts)

-- ---- unmarked items

-- what an unmarked item declares
unfoldable pub unmarked_of : List Lexeme → Option Item
unmarked_of (lexeme.Typedef s ∷ ts) = typedef_at ts
unmarked_of (lexeme.Tag keyword.Enum s ∷ ts) = enum_at ts
unmarked_of ts = None

-- no marker may stand in an unmarked item
unfoldable pub unmarked_at : List Lexeme → List Lexeme → Outcome (Option Item)
unmarked_at whole [] = Read (unmarked_of whole) []
unmarked_at whole (lexeme.Gty s ∷ ts) = Stops BAD_MARKER_PLACE s.start
unmarked_at whole (t ∷ ts) = unmarked_at whole ts
