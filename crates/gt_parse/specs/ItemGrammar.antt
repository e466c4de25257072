-- The grammar of unmarked items, and of whole items. Each case is a rule: what some tokens declare, or with which fault reading stops.
use Rattle.std.specs.Prelude.{◌≡◌, Bool, true, false, List, [], ◌∷◌, ◌++◌, Option, Some, None}
use Rattle.std.specs.List.{list_any}
use Rattle.gt_search.specs.declared.faults.TheConstants.{BAD_MARKER_PLACE}
use Rattle.gt_items.specs.declared.items.Name.{Name}
use Rattle.gt_items.specs.declared.items.Alias.{Alias}
use Rattle.gt_items.specs.declared.items.Keyword.{Keyword}
use Rattle.gt_items.specs.declared.items.Keyword.TheVariants as keyword
use Rattle.gt_items.specs.declared.items.Item.{Item}
use Rattle.gt_items.specs.declared.items.Item.TheVariants.{Typedef, Enum}
use Rattle.gt_items.specs.declared.items.Meaning.{Meaning}
use Rattle.gt_items.specs.declared.items.Meaning.TheVariants as meaning
use Rattle.gt_items.specs.declared.items.RawEnum.{RawEnum}
use Rattle.gt_items.specs.declared.items.RawType.{RawType}
use Rattle.gt_items.specs.declared.items.RawTypedef.{RawTypedef}
use Rattle.gt_items.specs.declared.items.Enumerator.{Enumerator}
use Rattle.gt_items.specs.declared.items.Enumerator.TheVariants.{Counted, Valued, Undefined, Passed}
use Rattle.gt_items.specs.declared.items.Stars.{Stars}
use Rattle.gt_search.specs.declared.lexeme.TokenText.{TokenText}
use Rattle.gt_search.specs.declared.lexeme.Bracket.{Bracket}
use Rattle.gt_search.specs.declared.lexeme.Bracket.TheVariants.{Round, Brace}
use Rattle.gt_search.specs.declared.lexeme.Lexeme.{Lexeme}
use Rattle.gt_search.specs.declared.lexeme.Lexeme.TheVariants as lexeme
use Rattle.gt_marked.specs.declared.types.Context.TheVariants.{Elsewhere}
use Rattle.gt_marked.specs.FieldGrammar.{closes_any, depth_through, Stands, IsFree}
use Rattle.gt_search.specs.Lexemes.{name_of, kept_text}
use Rattle.gt_marked.specs.MarkedGrammar.{MarkedItem}
use Rattle.gt_marked.specs.MarkerGrammar.{Failure, failed, begins, is_comma, opens_round}
use Rattle.gt_marked.specs.Outcome.{Outcome, Read, Stops}
use Rattle.gt_search.specs.Search.{is_gty, is_equals}
use Rattle.gt_marked.specs.TypeGrammar.{is_name, Qualifiers, AreStars, AType}
use Rattle.gt_parse.specs.Unmarked.{opaque_typedef}

-- ---- the words of the rules

abbrev pub is_enum : Keyword → Bool
is_enum keyword.Struct = false
is_enum keyword.Union = false
is_enum keyword.Enum = true

-- whether a brace opens the body of an enum here, or after a name
abbrev pub begins_body : List Lexeme → Bool
begins_body (lexeme.Open Brace o ∷ ts) = true
begins_body (lexeme.Name n ∷ lexeme.Open Brace o ∷ ts) = true
begins_body ts = false

-- a star, a qualifier or a name
abbrev pub is_starred : Lexeme → Bool
is_starred (lexeme.Star s) = true
is_starred (lexeme.Qualifier s) = true
is_starred (lexeme.Name s) = true
is_starred t = false

-- typedef or enum
abbrev pub begins_unmarked : Lexeme → Bool
begins_unmarked (lexeme.Typedef s) = true
begins_unmarked (lexeme.Tag keyword.Enum s) = true
begins_unmarked t = false

-- ---- enums

-- a piece of the body of an enum: NAME, or NAME "=" text
pub data IsEnumerator : List Lexeme → Enumerator → Type 0 where
  counted : (n : TokenText) → IsEnumerator (lexeme.Name n ∷ []) (Counted (name_of n))
  valued : {text : List Lexeme} (n e : TokenText) → IsEnumerator (lexeme.Name n ∷ lexeme.Equals e ∷ text) (Valued (name_of n) (kept_text text))
  -- another piece that begins with a name is a constant without a value; one that does not is passed over
  undefined : {ts : List Lexeme} (n : TokenText) (t : Lexeme) → is_equals t ≡ false → IsEnumerator (lexeme.Name n ∷ t ∷ ts) (Undefined (name_of n))
  passed : {ts : List Lexeme} → begins is_name ts ≡ false → IsEnumerator ts Passed

-- pieces := piece {"," piece}, with the commas that stand in no brackets
pub data Enumerators : List Lexeme → List Enumerator → Type 0 where
  last : {piece : List Lexeme} {one : Enumerator} → ¬ Stands is_comma piece → IsEnumerator piece one → Enumerators piece (one ∷ [])
  more : {piece ts : List Lexeme} {one : Enumerator} {others : List Enumerator} (c : TokenText) → IsFree is_comma piece
      → IsEnumerator piece one → Enumerators ts others → Enumerators (piece ++ lexeme.Comma c ∷ ts) (one ∷ others)

-- pieces "}", and the tokens after them
pub data EnumBody (tag : Option Name) : List Lexeme → RawEnum → List Lexeme → Type 0 where
  body : {inside rest : List Lexeme} {constants : List Enumerator} (b : Bracket) (c : TokenText) → IsFree closes_any inside → Enumerators inside constants
      → EnumBody tag (inside ++ lexeme.Close b c ∷ rest) (record { tag = tag; constants = constants }) rest

-- enum := "enum" [NAME] "{" pieces "}", after the keyword; another enum declares nothing
pub data UnmarkedEnum : List Lexeme → Option Item → Type 0 where
  untagged : {ts rest : List Lexeme} {found : RawEnum} (o : TokenText) → EnumBody None ts found rest → UnmarkedEnum (lexeme.Open Brace o ∷ ts) (Some (Enum found))
  tagged : {ts rest : List Lexeme} {found : RawEnum} (n o : TokenText) → EnumBody (Some (name_of n)) ts found rest
      → UnmarkedEnum (lexeme.Name n ∷ lexeme.Open Brace o ∷ ts) (Some (Enum found))
  no_body : {ts : List Lexeme} → begins_body ts ≡ false → UnmarkedEnum ts None
  untagged_not_closed : {ts : List Lexeme} (o : TokenText) → ¬ Stands closes_any ts → UnmarkedEnum (lexeme.Open Brace o ∷ ts) None
  tagged_not_closed : {ts : List Lexeme} (n o : TokenText) → ¬ Stands closes_any ts → UnmarkedEnum (lexeme.Name n ∷ lexeme.Open Brace o ∷ ts) None

-- ---- typedefs of the first form

-- a body after its brace, what it means, and the tokens after it: fields, which are not read, or the constants of an enum
pub data HasBody : Keyword → Option Name → List Lexeme → Meaning → List Lexeme → Type 0 where
  fields : {k : Keyword} {tag : Option Name} {inside ts rest : List Lexeme} (b : Bracket) (c : TokenText) → is_enum k ≡ false → IsFree closes_any inside → Qualifiers ts rest
      → HasBody k tag (inside ++ lexeme.Close b c ∷ ts) (meaning.Body k tag) rest
  constants : {tag : Option Name} {ts us rest : List Lexeme} {found : RawEnum} → EnumBody tag ts found us → Qualifiers us rest
      → HasBody keyword.Enum tag ts (meaning.Enum found) rest

-- a type, which may have a body, with a tag or without
pub data HasMeaning : List Lexeme → Meaning → List Lexeme → Type 0 where
  type : {ts rest : List Lexeme} {type : RawType} → AType Elsewhere ts (Read type rest) → HasMeaning ts (meaning.Type type) rest
  untagged : {ts us vs rest : List Lexeme} {means : Meaning} (k : Keyword) (t o : TokenText) → Qualifiers ts (lexeme.Tag k t ∷ us)
      → Qualifiers us (lexeme.Open Brace o ∷ vs) → HasBody k None vs means rest → HasMeaning ts means rest
  tagged : {ts us vs ws rest : List Lexeme} {means : Meaning} (k : Keyword) (t n o : TokenText) → Qualifiers ts (lexeme.Tag k t ∷ us)
      → Qualifiers us (lexeme.Name n ∷ vs) → Qualifiers vs (lexeme.Open Brace o ∷ ws) → HasBody k (Some (name_of n)) ws means rest → HasMeaning ts means rest

-- {"*"} NAME {"," {"*"} NAME} ";"
pub data Aliases : List Lexeme → List Alias → Type 0 where
  last : {ts rest : List Lexeme} {stars : Stars} (n s : TokenText) → AreStars ts stars (lexeme.Name n ∷ lexeme.Semicolon s ∷ rest)
      → Aliases ts (record { stars = stars; name = name_of n } ∷ [])
  more : {ts us : List Lexeme} {stars : Stars} {others : List Alias} (n c : TokenText) → AreStars ts stars (lexeme.Name n ∷ lexeme.Comma c ∷ us) → Aliases us others
      → Aliases ts (record { stars = stars; name = name_of n } ∷ others)

-- a typedef of the first form, after the word typedef
pub data FirstForm : List Lexeme → RawTypedef → Type 0 where
  first_form : {ts us : List Lexeme} {means : Meaning} {names : List Alias} → HasMeaning ts means us → Aliases us names
      → FirstForm ts (record { means = means; names = names })

-- ---- other typedefs

-- the first "(" that stands in no brackets has a star directly after it
pub record HasPointer (ts : List Lexeme) : Type 0 where
  pub front : List Lexeme
  pub bracket : TokenText
  pub star : TokenText
  pub following : List Lexeme
  pub parts : ts ≡ front ++ lexeme.Open Round bracket ∷ lexeme.Star star ∷ following
  pub first : IsFree opens_round front

-- the name after stars, if there is one
pub data StarredName : List Lexeme → Option Name → Type 0 where
  name : {ts : List Lexeme} (n : TokenText) → StarredName (lexeme.Name n ∷ ts) (Some (name_of n))
  star : {ts : List Lexeme} {found : Option Name} (s : TokenText) → StarredName ts found → StarredName (lexeme.Star s ∷ ts) found
  qualifier : {ts : List Lexeme} {found : Option Name} (s : TokenText) → StarredName ts found → StarredName (lexeme.Qualifier s ∷ ts) found
  no_name : {ts : List Lexeme} → begins is_starred ts ≡ false → StarredName ts None

-- the last name that stands in no brackets, if there is one
pub data LastName : List Lexeme → Option Name → Type 0 where
  name : (front : List Lexeme) {following : List Lexeme} (n : TokenText) → depth_through 0 front ≡ 0 → ¬ Stands is_name following → LastName (front ++ lexeme.Name n ∷ following) (Some (name_of n))
  no_name : {ts : List Lexeme} → ¬ Stands is_name ts → LastName ts None

-- an unmarked typedef, after the word; one that is not of the first form declares one opaque name, or nothing where it has none
pub data UnmarkedTypedef : List Lexeme → Option Item → Type 0 where
  first_form : {ts : List Lexeme} {found : RawTypedef} → FirstForm ts found → UnmarkedTypedef ts (Some (Typedef found))
  pointer : {ts : List Lexeme} {found : Option Name} → ((first : RawTypedef) → ¬ FirstForm ts first) → (p : HasPointer ts) → StarredName p.following found
      → UnmarkedTypedef ts (opaque_typedef found)
  other : {ts : List Lexeme} {found : Option Name} → ((first : RawTypedef) → ¬ FirstForm ts first) → ¬ HasPointer ts → LastName ts found
      → UnmarkedTypedef ts (opaque_typedef found)

-- ---- items

-- an unmarked item
pub data UnmarkedItem : List Lexeme → Option Item → Type 0 where
  a_typedef : {ts : List Lexeme} {found : Option Item} (t : TokenText) → UnmarkedTypedef ts found → UnmarkedItem (lexeme.Typedef t ∷ ts) found
  an_enum : {ts : List Lexeme} {found : Option Item} (t : TokenText) → UnmarkedEnum ts found → UnmarkedItem (lexeme.Tag keyword.Enum t ∷ ts) found
  skipped : {ts : List Lexeme} → begins begins_unmarked ts ≡ false → UnmarkedItem ts None

-- an item: what it declares, if anything, or its fault
pub data AnItem : List Lexeme → Outcome (Option Item) → Type 0 where
  -- one with GTY in no brackets is marked
  marked : {ts rest : List Lexeme} {found : Item} → Stands is_gty ts → MarkedItem ts (Read found rest) → AnItem ts (Read (Some found) rest)
  in_marked : {ts : List Lexeme} (why : Failure) → Stands is_gty ts → MarkedItem ts (failed why) → AnItem ts (failed why)
  -- one without GTY is not; all of it is read
  unmarked : {ts : List Lexeme} {found : Option Item} → list_any is_gty ts ≡ false → UnmarkedItem ts found → AnItem ts (Read found [])
  -- 10: GTY stands in brackets alone; at the first
  bad_place : (front following : List Lexeme) (g : TokenText) → ¬ Stands is_gty (front ++ lexeme.Gty g ∷ following) → list_any is_gty front ≡ false
      → AnItem (front ++ lexeme.Gty g ∷ following) (Stops BAD_MARKER_PLACE g.start)
