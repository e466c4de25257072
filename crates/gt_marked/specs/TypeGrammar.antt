-- The grammar of types. Each case is a rule: which tokens are read as what, or with which fault reading stops.
use Rattle.std.specs.Prelude.{◌≡◌, Bool, true, false, ◌&&◌, List, ◌∷◌, codes, Some, None}
use Rattle.std.specs.Str.{bytes_eq}
use Rattle.gt_search.specs.declared.faults.TheConstants.{UNEXPECTED, UNSUPPORTED}
use Rattle.gt_items.specs.declared.items.Stars.{Stars}
use Rattle.gt_items.specs.declared.items.Stars.TheVariants.{Zero}
use Rattle.gt_items.specs.declared.items.Combination.{Combination}
use Rattle.gt_items.specs.declared.items.Keyword.{Keyword}
use Rattle.gt_items.specs.declared.items.Keyword.TheVariants as keyword
use Rattle.gt_items.specs.declared.items.RawOption.{RawOption}
use Rattle.gt_items.specs.declared.items.RawType.{RawType}
use Rattle.gt_items.specs.declared.items.RawType.TheVariants.{Words, UnsignedHostWide, Tagged, Named}
use Rattle.gt_search.specs.declared.lexeme.TokenText.{TokenText}
use Rattle.gt_search.specs.declared.lexeme.Bracket.TheVariants.{Round, Brace}
use Rattle.gt_search.specs.declared.lexeme.TypeWord.{TypeWord}
use Rattle.gt_search.specs.declared.lexeme.Lexeme.{Lexeme}
use Rattle.gt_search.specs.declared.lexeme.Lexeme.TheVariants as lexeme
use Rattle.gt_marked.specs.declared.types.Context.{Context}
use Rattle.gt_marked.specs.declared.types.Context.TheVariants.{InField, Elsewhere}
use Rattle.gt_search.specs.Lexemes.{name_of}
use Rattle.gt_marked.specs.MarkerGrammar.{Failure, failed, begins, opens_round, closes_round, Marker}
use Rattle.gt_marked.specs.Outcome.{Outcome, Read, Stops, unexpected}
use Rattle.gt_search.specs.Search.{is_gty}
use Rattle.gt_marked.specs.Types.{no_words, with_word, is_unsigned_alone, one_more, definition_fault}

-- ---- the words of the rules

abbrev pub is_name : Lexeme → Bool
is_name (lexeme.Name s) = true
is_name t = false

abbrev pub is_star : Lexeme → Bool
is_star (lexeme.Star s) = true
is_star t = false

abbrev pub is_qualifier : Lexeme → Bool
is_qualifier (lexeme.Qualifier s) = true
is_qualifier t = false

abbrev pub opens_brace : Lexeme → Bool
opens_brace (lexeme.Open Brace s) = true
opens_brace t = false

-- a token with which a type begins: a type word, struct, union or enum, or a name
abbrev pub begins_type : Lexeme → Bool
begins_type (lexeme.Type w s) = true
begins_type (lexeme.Tag k s) = true
begins_type (lexeme.Name s) = true
begins_type t = false

-- a token that may go on with a combination of type words
abbrev pub goes_on : Lexeme → Bool
goes_on (lexeme.Type w s) = true
goes_on (lexeme.Qualifier s) = true
goes_on (lexeme.Name s) = true
goes_on t = false

-- a field, where a pointer to a function may be declared
abbrev pub in_field : Context → Bool
in_field InField = true
in_field Elsewhere = false

-- ---- qualifiers and stars

-- as many of const and volatile as follow one another, which mean nothing, and the tokens after them
pub data Qualifiers : List Lexeme → List Lexeme → Type 0 where
  no_qualifier : {ts : List Lexeme} → begins is_qualifier ts ≡ false → Qualifiers ts ts
  qualifier : {ts rest : List Lexeme} (s : TokenText) → Qualifiers ts rest → Qualifiers (lexeme.Qualifier s ∷ ts) rest

-- as many stars as follow one another, with const and volatile after each, how many they are, and the tokens after them
pub data AreStars : List Lexeme → Stars → List Lexeme → Type 0 where
  no_star : {ts : List Lexeme} → begins is_star ts ≡ false → AreStars ts Zero ts
  star : {ts us rest : List Lexeme} {stars : Stars} (s : TokenText) → Qualifiers ts us → AreStars us stars rest
      → AreStars (lexeme.Star s ∷ ts) (one_more stars) rest

-- ---- types

-- what words make of a combination that stands before them
pub data MoreWords : Combination → List Lexeme → Outcome RawType → Type 0 where
  -- one more word, where a type of C has it together with those before it; otherwise 8 at that word
  word : {before with_it : Combination} {ts : List Lexeme} {o : Outcome RawType} (w : TypeWord) (s : TokenText) → with_word w before ≡ Some with_it
      → MoreWords with_it ts o → MoreWords before (lexeme.Type w s ∷ ts) o
  bad_word : {before : Combination} {ts : List Lexeme} (w : TypeWord) (s : TokenText) → with_word w before ≡ None
      → MoreWords before (lexeme.Type w s ∷ ts) (Stops UNEXPECTED s.start)
  qualifier : {before : Combination} {ts : List Lexeme} {o : Outcome RawType} (s : TokenText) → MoreWords before ts o
      → MoreWords before (lexeme.Qualifier s ∷ ts) o
  -- unsigned HOST_WIDE_INT; another name is no part of the combination
  host_wide : {before : Combination} {ts rest : List Lexeme} (s : TokenText) → is_unsigned_alone before ≡ true → bytes_eq s.word (codes "HOST_WIDE_INT") ≡ true
      → Qualifiers ts rest → MoreWords before (lexeme.Name s ∷ ts) (Read UnsignedHostWide rest)
  name_after : {before : Combination} {ts : List Lexeme} (s : TokenText) → (is_unsigned_alone before && bytes_eq s.word (codes "HOST_WIDE_INT")) ≡ false
      → MoreWords before (lexeme.Name s ∷ ts) (Read (Words before) (lexeme.Name s ∷ ts))
  -- no more words
  no_word : {before : Combination} {ts : List Lexeme} → begins goes_on ts ≡ false → MoreWords before ts (Read (Words before) ts)

-- A type that stands at a place and begins with no qualifier: words, a keyword and a tag, or a name. A type that is defined there is
-- 9 in a field, and 8 elsewhere.
pub data BareType (place : Context) : List Lexeme → Outcome RawType → Type 0 where
  words : {ts : List Lexeme} {o : Outcome RawType} (w : TypeWord) (s : TokenText) → MoreWords no_words (lexeme.Type w s ∷ ts) o
      → BareType place (lexeme.Type w s ∷ ts) o
  -- (struct | union | enum) NAME
  tagged : {ts us rest : List Lexeme} (k : Keyword) (t s : TokenText) → Qualifiers ts (lexeme.Name s ∷ us) → Qualifiers us rest
      → begins opens_brace rest ≡ false → (in_field place && begins is_gty rest) ≡ false → BareType place (lexeme.Tag k t ∷ ts) (Read (Tagged k (name_of s)) rest)
  -- in a field, before the marker of its name
  before_marker : {ts us rest following : List Lexeme} {options : List RawOption} (k : Keyword) (t s g : TokenText) → in_field place ≡ true
      → Qualifiers ts (lexeme.Name s ∷ us) → Qualifiers us (lexeme.Gty g ∷ rest) → Marker (lexeme.Gty g ∷ rest) (Read options following) → begins opens_brace following ≡ false
      → BareType place (lexeme.Tag k t ∷ ts) (Read (Tagged k (name_of s)) (lexeme.Gty g ∷ rest))
  -- a body may stand neither after the tag nor in its place
  with_body : {ts us rest : List Lexeme} (k : Keyword) (t s b : TokenText) → Qualifiers ts (lexeme.Name s ∷ us) → Qualifiers us (lexeme.Open Brace b ∷ rest)
      → BareType place (lexeme.Tag k t ∷ ts) (Stops (definition_fault place) b.start)
  body_alone : {ts rest : List Lexeme} (k : Keyword) (t b : TokenText) → Qualifiers ts (lexeme.Open Brace b ∷ rest)
      → BareType place (lexeme.Tag k t ∷ ts) (Stops (definition_fault place) b.start)
  -- in a field it may not stand after a tag and a marker either; the fault of that marker
  marked_body : {ts us rest following : List Lexeme} {options : List RawOption} (k : Keyword) (t s g b : TokenText) → in_field place ≡ true
      → Qualifiers ts (lexeme.Name s ∷ us) → Qualifiers us (lexeme.Gty g ∷ rest) → Marker (lexeme.Gty g ∷ rest) (Read options (lexeme.Open Brace b ∷ following))
      → BareType place (lexeme.Tag k t ∷ ts) (Stops UNSUPPORTED b.start)
  in_marker : {ts us rest : List Lexeme} (k : Keyword) (t s g : TokenText) (why : Failure) → in_field place ≡ true
      → Qualifiers ts (lexeme.Name s ∷ us) → Qualifiers us (lexeme.Gty g ∷ rest) → Marker (lexeme.Gty g ∷ rest) (failed why)
      → BareType place (lexeme.Tag k t ∷ ts) (failed why)
  -- 8: a tag has to stand here
  no_tag : {ts rest : List Lexeme} (k : Keyword) (t : TokenText) → Qualifiers ts rest → begins is_name rest ≡ false → begins opens_brace rest ≡ false
      → BareType place (lexeme.Tag k t ∷ ts) (unexpected rest)
  -- a name
  named : {ts rest : List Lexeme} (s : TokenText) → bytes_eq s.word (codes "ENUM_BITFIELD") ≡ false → Qualifiers ts rest
      → BareType place (lexeme.Name s ∷ ts) (Read (Named (name_of s)) rest)
  -- "ENUM_BITFIELD" "(" NAME ")" is an enum
  bitfield : {ts us vs ws rest : List Lexeme} (s a n b : TokenText) → bytes_eq s.word (codes "ENUM_BITFIELD") ≡ true
      → Qualifiers ts (lexeme.Open Round a ∷ us) → Qualifiers us (lexeme.Name n ∷ vs) → Qualifiers vs (lexeme.Close Round b ∷ ws) → Qualifiers ws rest
      → BareType place (lexeme.Name s ∷ ts) (Read (Tagged keyword.Enum (name_of n)) rest)
  -- that word is a name like another, where no bracket stands after it, or in a field one with a star: a pointer to a function
  no_bitfield : {ts rest : List Lexeme} (s : TokenText) → bytes_eq s.word (codes "ENUM_BITFIELD") ≡ true → Qualifiers ts rest → begins opens_round rest ≡ false
      → BareType place (lexeme.Name s ∷ ts) (Read (Named (name_of s)) rest)
  function_pointer : {ts rest : List Lexeme} (s a p : TokenText) → in_field place ≡ true → bytes_eq s.word (codes "ENUM_BITFIELD") ≡ true
      → Qualifiers ts (lexeme.Open Round a ∷ lexeme.Star p ∷ rest)
      → BareType place (lexeme.Name s ∷ ts) (Read (Named (name_of s)) (lexeme.Open Round a ∷ lexeme.Star p ∷ rest))
  -- 8: a name has to stand here; a closing bracket
  bitfield_no_name : {ts us rest : List Lexeme} (s a : TokenText) → bytes_eq s.word (codes "ENUM_BITFIELD") ≡ true
      → Qualifiers ts (lexeme.Open Round a ∷ us) → (in_field place && begins is_star us) ≡ false → Qualifiers us rest → begins is_name rest ≡ false
      → BareType place (lexeme.Name s ∷ ts) (unexpected rest)
  bitfield_not_closed : {ts us vs rest : List Lexeme} (s a n : TokenText) → bytes_eq s.word (codes "ENUM_BITFIELD") ≡ true
      → Qualifiers ts (lexeme.Open Round a ∷ us) → Qualifiers us (lexeme.Name n ∷ vs) → Qualifiers vs rest → begins closes_round rest ≡ false
      → BareType place (lexeme.Name s ∷ ts) (unexpected rest)
  -- 8: a type has to stand here
  no_type : {ts : List Lexeme} → begins begins_type ts ≡ false → BareType place ts (unexpected ts)

-- a type, with qualifiers before it and in it
pub data AType (place : Context) : List Lexeme → Outcome RawType → Type 0 where
  type : {ts us : List Lexeme} {o : Outcome RawType} → Qualifiers ts us → BareType place us o → AType place ts o
