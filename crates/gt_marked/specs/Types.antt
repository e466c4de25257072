-- How types are read.
use Rattle.std.specs.Prelude.{ℕ, Bool, true, false, ◌&&◌, if◌then◌else◌, List, ◌∷◌, codes, Option, Some, None}
use Rattle.std.specs.Str.{bytes_eq}
use Rattle.gt_search.specs.declared.faults.TheConstants.{UNEXPECTED, UNSUPPORTED}
use Rattle.gt_items.specs.declared.items.Name.{Name}
use Rattle.gt_items.specs.declared.items.Stars.{Stars}
use Rattle.gt_items.specs.declared.items.Stars.TheVariants.{Zero, One, Two, More}
use Rattle.gt_items.specs.declared.items.Sign.{Sign}
use Rattle.gt_items.specs.declared.items.Sign.TheVariants as sign
use Rattle.gt_items.specs.declared.items.Size.{Size}
use Rattle.gt_items.specs.declared.items.Size.TheVariants as size
use Rattle.gt_items.specs.declared.items.Core.{Core}
use Rattle.gt_items.specs.declared.items.Core.TheVariants as core
use Rattle.gt_items.specs.declared.items.Combination.{Combination}
use Rattle.gt_items.specs.declared.items.Keyword.{Keyword}
use Rattle.gt_items.specs.declared.items.Keyword.TheVariants as keyword
use Rattle.gt_items.specs.declared.items.RawType.{RawType}
use Rattle.gt_items.specs.declared.items.RawType.TheVariants.{Words, UnsignedHostWide, Tagged, Named}
use Rattle.gt_search.specs.declared.lexeme.TokenText.{TokenText}
use Rattle.gt_search.specs.declared.lexeme.Bracket.TheVariants.{Round, Brace}
use Rattle.gt_search.specs.declared.lexeme.TypeWord.{TypeWord}
use Rattle.gt_search.specs.declared.lexeme.TypeWord.TheVariants as word
use Rattle.gt_search.specs.declared.lexeme.Lexeme.{Lexeme}
use Rattle.gt_search.specs.declared.lexeme.Lexeme.TheVariants as lexeme
use Rattle.gt_marked.specs.declared.types.Context.{Context}
use Rattle.gt_marked.specs.declared.types.Context.TheVariants.{InField, Elsewhere}
use Rattle.gt_search.specs.Lexemes.{name_of}
use Rattle.gt_marked.specs.Outcome.{Outcome, Read, Stops, ◌>>=◌, unexpected}
use Rattle.gt_marked.specs.Markers.{close_round_at, marker_at}

-- no word yet
abbrev pub no_words : Combination
no_words = record { sign = sign.Plain; size = size.Plain; core = core.Plain }

-- the words of a combination stand together in a type of C: any sign and size with int or alone, any sign with char, long with
-- double, and the others alone
abbrev pub is_combination : Sign → Size → Core → Bool
is_combination s z core.Plain = true
is_combination s z core.Int = true
is_combination s size.Plain core.Char = true
is_combination sign.Plain size.Plain core.Double = true
is_combination sign.Plain size.Long core.Double = true
is_combination sign.Plain size.Plain core.Bool = true
is_combination sign.Plain size.Plain core.Float = true
is_combination sign.Plain size.Plain core.Void = true
is_combination s z c = false

-- the combination where its words stand together in a type of C
abbrev pub checked : Combination → Option Combination
checked c = if is_combination c.sign c.size c.core then Some c else None

-- one more sign, where there is none; one more size, where there is none, or a second long; one more other word, where there is none
abbrev pub signed_as : Sign → Combination → Option Combination
signed_as s c = elim c.sign [ sign.Plain ↦ checked (record c { sign = s }) | sign.Signed ↦ None | sign.Unsigned ↦ None ]

abbrev pub sized_short : Combination → Option Combination
sized_short c = elim c.size [ size.Plain ↦ checked (record c { size = size.Short }) | size.Short ↦ None | size.Long ↦ None | size.LongLong ↦ None ]

abbrev pub sized_long : Combination → Option Combination
sized_long c = elim c.size [ size.Plain ↦ checked (record c { size = size.Long }) | size.Short ↦ None | size.Long ↦ checked (record c { size = size.LongLong }) | size.LongLong ↦ None ]

abbrev pub with_core : Core → Combination → Option Combination
with_core k c = elim c.core [ core.Plain ↦ checked (record c { core = k }) | core.Int ↦ None | core.Char ↦ None | core.Bool ↦ None | core.Float ↦ None | core.Double ↦ None | core.Void ↦ None ]

-- a combination with one more word, or none where no type of C has them together
abbrev pub with_word : TypeWord → Combination → Option Combination
with_word word.Unsigned c = signed_as sign.Unsigned c
with_word word.Signed c = signed_as sign.Signed c
with_word word.Short c = sized_short c
with_word word.Long c = sized_long c
with_word word.Int c = with_core core.Int c
with_word word.Char c = with_core core.Char c
with_word word.Bool c = with_core core.Bool c
with_word word.Float c = with_core core.Float c
with_word word.Double c = with_core core.Double c
with_word word.Void c = with_core core.Void c

-- unsigned, and no other word
abbrev pub are_unsigned_alone : Sign → Size → Core → Bool
are_unsigned_alone sign.Unsigned size.Plain core.Plain = true
are_unsigned_alone s z c = false

abbrev pub is_unsigned_alone : Combination → Bool
is_unsigned_alone c = are_unsigned_alone c.sign c.size c.core

-- const and volatile mean nothing, in a type and after a star
unfoldable pub without_qualifiers : List Lexeme → List Lexeme
without_qualifiers (lexeme.Qualifier s ∷ ts) = without_qualifiers ts
without_qualifiers ts = ts

-- as many stars as stand at the front, after those that were read, with const and volatile after each
abbrev pub one_more : Stars → Stars
one_more Zero = One
one_more One = Two
one_more Two = More
one_more More = More

unfoldable pub stars_from : Stars → List Lexeme → Stars × List Lexeme
stars_from stars (lexeme.Star s ∷ ts) = stars_from (one_more stars) ts
stars_from stars (lexeme.Qualifier s ∷ ts) = stars_from stars ts
stars_from stars ts = (stars, ts)

unfoldable pub stars_at : List Lexeme → Stars × List Lexeme
stars_at (lexeme.Star s ∷ ts) = stars_from One ts
stars_at ts = (Zero, ts)

-- a name at the front
unfoldable pub name_at : List Lexeme → Outcome Name
name_at (lexeme.Name s ∷ ts) = Read (name_of s) ts
name_at ts = unexpected ts

-- one more word of a combination, which stands at an offset
abbrev pub words_with : (Combination → Outcome RawType) → ℕ → Option Combination → Outcome RawType
words_with go at (Some c) = go c
words_with go at None = Stops UNEXPECTED at

-- a name after a combination is no part of it, but for unsigned HOST_WIDE_INT
abbrev pub words_before : Combination → TokenText → List Lexeme → Outcome RawType
words_before c s ts =
    if is_unsigned_alone c && bytes_eq s.word (codes "HOST_WIDE_INT") then Read UnsignedHostWide (without_qualifiers ts) else Read (Words c) (lexeme.Name s ∷ ts)

-- the words of a combination, after those that were read
unfoldable pub words_from : Combination → List Lexeme → Outcome RawType
words_from c (lexeme.Type w s ∷ ts) = words_with (λ d. words_from d ts) s.start (with_word w c)
words_from c (lexeme.Qualifier s ∷ ts) = words_from c ts
words_from c (lexeme.Name s ∷ ts) = words_before c s ts
words_from c ts = Read (Words c) ts

-- the number of the fault of a type that is defined at a place where none may be
abbrev pub definition_fault : Context → ℕ
definition_fault InField = UNSUPPORTED
definition_fault Elsewhere = UNEXPECTED

-- no brace may open a body at the front
abbrev pub no_brace_at : Context → List Lexeme → Outcome (Unit {0})
no_brace_at place (lexeme.Open Brace s ∷ ts) = Stops (definition_fault place) s.start
no_brace_at place ts = Read tt ts

-- no body may stand after a tag, nor in a field after a tag and a marker
unfoldable pub no_body_at : Context → List Lexeme → Outcome (Unit {0})
no_body_at InField (lexeme.Gty s ∷ ts) = do
  options ← marker_at (lexeme.Gty s ∷ ts)
  no_brace ← no_brace_at InField options.1
  Read tt (lexeme.Gty s ∷ ts)
no_body_at place ts = no_brace_at place ts

-- the tag after a keyword
unfoldable pub tagged_at : Context → Keyword → List Lexeme → Outcome RawType
tagged_at place k (lexeme.Name s ∷ ts) = no_body_at place (without_qualifiers ts) >>= λ no_body. Read (Tagged k (name_of s)) no_body.1
tagged_at place k (lexeme.Open Brace s ∷ ts) = Stops (definition_fault place) s.start
tagged_at place k ts = unexpected ts

-- the enum in the brackets of ENUM_BITFIELD
unfoldable pub bitfield_at : List Lexeme → Outcome RawType
bitfield_at ts = do
  tag ← name_at (without_qualifiers ts)
  closed ← close_round_at (without_qualifiers tag.1)
  Read (Tagged keyword.Enum tag.0) (without_qualifiers closed.1)

-- what stands after the word ENUM_BITFIELD: an enum in brackets, but for `(*` in a field, which declares a pointer to a function
abbrev pub after_bitfield : Context → TokenText → List Lexeme → Outcome RawType
after_bitfield InField s (lexeme.Open Round p ∷ lexeme.Star q ∷ ts) = Read (Named (name_of s)) (lexeme.Open Round p ∷ lexeme.Star q ∷ ts)
after_bitfield place s (lexeme.Open Round p ∷ ts) = bitfield_at ts
after_bitfield place s ts = Read (Named (name_of s)) ts

-- a type that begins with a name
abbrev pub named_at : Context → TokenText → List Lexeme → Outcome RawType
named_at place s ts = if bytes_eq s.word (codes "ENUM_BITFIELD") then after_bitfield place s (without_qualifiers ts) else Read (Named (name_of s)) (without_qualifiers ts)

-- a type at the front, without qualifiers before it
unfoldable pub bare_type_at : Context → List Lexeme → Outcome RawType
bare_type_at place (lexeme.Type w s ∷ ts) = words_with (λ c. words_from c ts) s.start (with_word w no_words)
bare_type_at place (lexeme.Tag k s ∷ ts) = tagged_at place k (without_qualifiers ts)
bare_type_at place (lexeme.Name s ∷ ts) = named_at place s ts
bare_type_at place ts = unexpected ts

-- a type that stands at a place, with the qualifiers before and after it
unfoldable pub type_at : Context → List Lexeme → Outcome RawType
type_at place ts = bare_type_at place (without_qualifiers ts)
