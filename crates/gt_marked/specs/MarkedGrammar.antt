-- The grammar of marked items. Each case is a rule: which tokens are read as what, or with which fault reading stops.
use Rattle.std.specs.Prelude.{◌≡◌, ℕ, Bool, true, false, List, [], ◌∷◌, codes, Some, None}
use Rattle.std.specs.Str.{bytes_eq}
use Rattle.gt_search.specs.declared.faults.TheConstants.{UNEXPECTED, UNSUPPORTED, BAD_MARKER_PLACE}
use Rattle.gt_items.specs.declared.items.Name.{Name}
use Rattle.gt_items.specs.declared.items.Alias.{Alias}
use Rattle.gt_items.specs.declared.items.Item.{Item}
use Rattle.gt_items.specs.declared.items.Item.TheVariants.{Structure, Root, Cache}
use Rattle.gt_items.specs.declared.items.Keyword.TheVariants as keyword
use Rattle.gt_items.specs.declared.items.PointedType.{PointedType}
use Rattle.gt_items.specs.declared.items.RawField.{RawField}
use Rattle.gt_items.specs.declared.items.RawOption.{RawOption}
use Rattle.gt_items.specs.declared.items.RawType.{RawType}
use Rattle.gt_items.specs.declared.items.Stars.{Stars}
use Rattle.gt_search.specs.declared.lexeme.TokenText.{TokenText}
use Rattle.gt_search.specs.declared.lexeme.Bracket.TheVariants.{Brace}
use Rattle.gt_search.specs.declared.lexeme.Lexeme.{Lexeme}
use Rattle.gt_search.specs.declared.lexeme.Lexeme.TheVariants as lexeme
use Rattle.gt_marked.specs.declared.types.Context.TheVariants.{Elsewhere}
use Rattle.gt_marked.specs.FieldGrammar.{is_semicolon, is_colon, Bounds, FieldsToBrace}
use Rattle.gt_search.specs.Lexemes.{name_of}
use Rattle.gt_marked.specs.Marked.{is_cache}
use Rattle.gt_marked.specs.MarkerGrammar.{Failure, failed, begins, is_comma, Marker}
use Rattle.gt_marked.specs.Outcome.{Outcome, Read, Stops, unexpected}
use Rattle.gt_search.specs.Search.{is_gty, is_equals}
use Rattle.gt_marked.specs.TypeGrammar.{is_name, is_star, opens_brace, Qualifiers, AreStars, AType}

-- ---- the words of the rules

abbrev pub is_greater : Lexeme → Bool
is_greater (lexeme.Greater s) = true
is_greater t = false

abbrev pub is_structure : Lexeme → Bool
is_structure (lexeme.Tag keyword.Struct s) = true
is_structure (lexeme.Tag keyword.Union s) = true
is_structure t = false

-- a token with which a marked item begins, be it with a fault of its own
abbrev pub begins_marked : Lexeme → Bool
begins_marked (lexeme.Typedef s) = true
begins_marked (lexeme.Static s) = true
begins_marked (lexeme.Extern s) = true
begins_marked (lexeme.Reserved s) = true
begins_marked (lexeme.Gty s) = true
begins_marked t = is_structure t

-- whether a map's type stands at the front
abbrev pub begins_map : List Lexeme → Bool
begins_map (lexeme.Name s ∷ lexeme.Less l ∷ ts) = bytes_eq s.word (codes "hash_map")
begins_map ts = false

-- ---- structures

-- marker NAME | NAME marker
pub data TagAndMarker : List Lexeme → Outcome (Name × List RawOption) → Type 0 where
  marker_first : {ts rest : List Lexeme} {options : List RawOption} (a n : TokenText) → Marker (lexeme.Gty a ∷ ts) (Read options (lexeme.Name n ∷ rest))
      → TagAndMarker (lexeme.Gty a ∷ ts) (Read (name_of n, options) rest)
  name_first : {ts rest : List Lexeme} {options : List RawOption} (n a : TokenText) → Marker (lexeme.Gty a ∷ ts) (Read options rest)
      → TagAndMarker (lexeme.Name n ∷ lexeme.Gty a ∷ ts) (Read (name_of n, options) rest)
  -- 9: a base class, at the colon
  base_class : {ts : List Lexeme} (n c : TokenText) → TagAndMarker (lexeme.Name n ∷ lexeme.Colon c ∷ ts) (Stops UNSUPPORTED c.start)
  -- the fault of the marker
  in_first : {ts : List Lexeme} (a : TokenText) (why : Failure) → Marker (lexeme.Gty a ∷ ts) (failed why) → TagAndMarker (lexeme.Gty a ∷ ts) (failed why)
  in_second : {ts : List Lexeme} (n a : TokenText) (why : Failure) → Marker (lexeme.Gty a ∷ ts) (failed why)
      → TagAndMarker (lexeme.Name n ∷ lexeme.Gty a ∷ ts) (failed why)
  -- 8: a name has to stand here; a marker; either
  no_name : {ts rest : List Lexeme} {options : List RawOption} (a : TokenText) → Marker (lexeme.Gty a ∷ ts) (Read options rest) → begins is_name rest ≡ false
      → TagAndMarker (lexeme.Gty a ∷ ts) (unexpected rest)
  no_marker : {ts : List Lexeme} (n : TokenText) → begins is_gty ts ≡ false → begins is_colon ts ≡ false → TagAndMarker (lexeme.Name n ∷ ts) (unexpected ts)
  neither : {ts : List Lexeme} → begins is_gty ts ≡ false → begins is_name ts ≡ false → TagAndMarker ts (unexpected ts)

-- alias := {"*"} NAME
pub data AnAlias : List Lexeme → Outcome Alias → Type 0 where
  alias : {ts rest : List Lexeme} {stars : Stars} (n : TokenText) → AreStars ts stars (lexeme.Name n ∷ rest)
      → AnAlias ts (Read (record { stars = stars; name = name_of n }) rest)
  -- 8: a name has to stand here
  no_name : {ts rest : List Lexeme} {stars : Stars} → AreStars ts stars rest → begins is_name rest ≡ false → AnAlias ts (unexpected rest)

-- structure := ["typedef"] ("struct" | "union") (marker NAME | NAME marker) "{" field+ "}" [alias] ";", after the keyword; the alias
-- stands there exactly with typedef
pub data AStructure : (has_alias is_union : Bool) → List Lexeme → Outcome Item → Type 0 where
  structure : {is_union : Bool} {ts us rest : List Lexeme} {tag : Name × List RawOption} {fields : List RawField} (b s : TokenText)
      → TagAndMarker ts (Read tag (lexeme.Open Brace b ∷ us)) → FieldsToBrace us (Read fields (lexeme.Semicolon s ∷ rest))
      → AStructure false is_union ts (Read (Structure (record { is_union = is_union; tag = tag.0; options = tag.1; fields = fields; alias = None })) rest)
  with_alias : {is_union : Bool} {ts us vs rest : List Lexeme} {tag : Name × List RawOption} {fields : List RawField} {alias : Alias} (b s : TokenText)
      → TagAndMarker ts (Read tag (lexeme.Open Brace b ∷ us)) → FieldsToBrace us (Read fields vs) → AnAlias vs (Read alias (lexeme.Semicolon s ∷ rest))
      → AStructure true is_union ts (Read (Structure (record { is_union = is_union; tag = tag.0; options = tag.1; fields = fields; alias = Some alias })) rest)
  -- 9: a base class, at the colon
  base_class : {has_alias is_union : Bool} {ts us : List Lexeme} {tag : Name × List RawOption} (c : TokenText) → TagAndMarker ts (Read tag (lexeme.Colon c ∷ us))
      → AStructure has_alias is_union ts (Stops UNSUPPORTED c.start)
  -- the fault of the tag and the marker; of a field; of the alias
  in_tag : {has_alias is_union : Bool} {ts : List Lexeme} (why : Failure) → TagAndMarker ts (failed why) → AStructure has_alias is_union ts (failed why)
  in_fields : {has_alias is_union : Bool} {ts us : List Lexeme} {tag : Name × List RawOption} (b : TokenText) (why : Failure)
      → TagAndMarker ts (Read tag (lexeme.Open Brace b ∷ us)) → FieldsToBrace us (failed why) → AStructure has_alias is_union ts (failed why)
  in_alias : {is_union : Bool} {ts us vs : List Lexeme} {tag : Name × List RawOption} {fields : List RawField} (b : TokenText) (why : Failure)
      → TagAndMarker ts (Read tag (lexeme.Open Brace b ∷ us)) → FieldsToBrace us (Read fields vs) → AnAlias vs (failed why) → AStructure true is_union ts (failed why)
  -- 8: a brace has to stand here; a semicolon
  no_body : {has_alias is_union : Bool} {ts rest : List Lexeme} {tag : Name × List RawOption} → TagAndMarker ts (Read tag rest)
      → begins opens_brace rest ≡ false → begins is_colon rest ≡ false → AStructure has_alias is_union ts (unexpected rest)
  not_ended : {is_union : Bool} {ts us rest : List Lexeme} {tag : Name × List RawOption} {fields : List RawField} (b : TokenText)
      → TagAndMarker ts (Read tag (lexeme.Open Brace b ∷ us)) → FieldsToBrace us (Read fields rest) → begins is_semicolon rest ≡ false
      → AStructure false is_union ts (unexpected rest)
  alias_not_ended : {is_union : Bool} {ts us vs rest : List Lexeme} {tag : Name × List RawOption} {fields : List RawField} {alias : Alias} (b : TokenText)
      → TagAndMarker ts (Read tag (lexeme.Open Brace b ∷ us)) → FieldsToBrace us (Read fields vs) → AnAlias vs (Read alias rest)
      → begins is_semicolon rest ≡ false → AStructure true is_union ts (unexpected rest)

-- ---- globals

-- type {"*"} NAME bounds ["=" skipped] ";", after a marker with these options
pub data ARoot (options : List RawOption) : List Lexeme → Outcome Item → Type 0 where
  root : {ts us vs rest : List Lexeme} {type : RawType} {stars : Stars} {bounds : List (List ℕ)} (n s : TokenText) → AType Elsewhere ts (Read type us)
      → AreStars us stars (lexeme.Name n ∷ vs) → Bounds vs (Read bounds (lexeme.Semicolon s ∷ rest))
      → ARoot options ts (Read (Root (record { options = options; ty = type; stars = stars; name = name_of n; bounds = bounds })) rest)
  -- an initialiser is passed over to the end of the item
  initialised : {ts us vs skipped : List Lexeme} {type : RawType} {stars : Stars} {bounds : List (List ℕ)} (n e : TokenText) → AType Elsewhere ts (Read type us)
      → AreStars us stars (lexeme.Name n ∷ vs) → Bounds vs (Read bounds (lexeme.Equals e ∷ skipped))
      → ARoot options ts (Read (Root (record { options = options; ty = type; stars = stars; name = name_of n; bounds = bounds })) [])
  -- the fault of the type, 8 where one is defined there; of a bound
  in_type : {ts : List Lexeme} (why : Failure) → AType Elsewhere ts (failed why) → ARoot options ts (failed why)
  in_bounds : {ts us vs : List Lexeme} {type : RawType} {stars : Stars} (n : TokenText) (why : Failure) → AType Elsewhere ts (Read type us)
      → AreStars us stars (lexeme.Name n ∷ vs) → Bounds vs (failed why) → ARoot options ts (failed why)
  -- 8: a name has to stand here; a semicolon or the sign =
  no_name : {ts us rest : List Lexeme} {type : RawType} {stars : Stars} → AType Elsewhere ts (Read type us) → AreStars us stars rest
      → begins is_name rest ≡ false → ARoot options ts (unexpected rest)
  not_ended : {ts us vs rest : List Lexeme} {type : RawType} {stars : Stars} {bounds : List (List ℕ)} (n : TokenText) → AType Elsewhere ts (Read type us)
      → AreStars us stars (lexeme.Name n ∷ vs) → Bounds vs (Read bounds rest) → begins is_equals rest ≡ false → begins is_semicolon rest ≡ false
      → ARoot options ts (unexpected rest)

-- type {"*"}
pub data APointed : List Lexeme → Outcome PointedType → Type 0 where
  pointed : {ts us rest : List Lexeme} {type : RawType} {stars : Stars} → AType Elsewhere ts (Read type us) → AreStars us stars rest
      → APointed ts (Read (record { ty = type; stars = stars }) rest)
  in_type : {ts : List Lexeme} (why : Failure) → AType Elsewhere ts (failed why) → APointed ts (failed why)

-- traits := ["," NAME]
pub data Traits : List Lexeme → Outcome (Unit {0}) → Type 0 where
  named : {rest : List Lexeme} (c n : TokenText) → Traits (lexeme.Comma c ∷ lexeme.Name n ∷ rest) (Read tt rest)
  none : {ts : List Lexeme} → begins is_comma ts ≡ false → Traits ts (Read tt ts)
  -- 8: a name has to stand here
  no_name : {ts : List Lexeme} (c : TokenText) → begins is_name ts ≡ false → Traits (lexeme.Comma c ∷ ts) (unexpected ts)

-- type {"*"} "," type {"*"} traits ">" "*" NAME ";", after `hash_map <` and a marker with these options
pub data ACache (options : List RawOption) : List Lexeme → Outcome Item → Type 0 where
  cache : {ts us vs ws rest : List Lexeme} {key value : PointedType} (c g s n e : TokenText) → APointed ts (Read key (lexeme.Comma c ∷ us)) → APointed us (Read value vs)
      → Traits vs (Read tt (lexeme.Greater g ∷ lexeme.Star s ∷ ws)) → Qualifiers ws (lexeme.Name n ∷ lexeme.Semicolon e ∷ rest) → is_cache options ≡ true
      → ACache options ts (Read (Cache (record { options = options; key = key; value = value; name = name_of n })) rest)
  -- 9: a map without the option cache, at its name
  no_cache : {ts us vs ws rest : List Lexeme} {key value : PointedType} (c g s n : TokenText) → APointed ts (Read key (lexeme.Comma c ∷ us)) → APointed us (Read value vs)
      → Traits vs (Read tt (lexeme.Greater g ∷ lexeme.Star s ∷ ws)) → Qualifiers ws (lexeme.Name n ∷ rest) → is_cache options ≡ false
      → ACache options ts (Stops UNSUPPORTED n.start)
  -- the fault of a type
  in_key : {ts : List Lexeme} (why : Failure) → APointed ts (failed why) → ACache options ts (failed why)
  in_value : {ts us : List Lexeme} {key : PointedType} (c : TokenText) (why : Failure) → APointed ts (Read key (lexeme.Comma c ∷ us)) → APointed us (failed why)
      → ACache options ts (failed why)
  in_traits : {ts us vs : List Lexeme} {key value : PointedType} (c : TokenText) (why : Failure) → APointed ts (Read key (lexeme.Comma c ∷ us)) → APointed us (Read value vs)
      → Traits vs (failed why) → ACache options ts (failed why)
  -- 8: a comma has to stand here; a comma or the sign >; a star; a name; a semicolon
  no_value : {ts rest : List Lexeme} {key : PointedType} → APointed ts (Read key rest) → begins is_comma rest ≡ false → ACache options ts (unexpected rest)
  not_closed : {ts us vs rest : List Lexeme} {key value : PointedType} (c : TokenText) → APointed ts (Read key (lexeme.Comma c ∷ us)) → APointed us (Read value vs)
      → Traits vs (Read tt rest) → begins is_greater rest ≡ false → ACache options ts (unexpected rest)
  no_star : {ts us vs rest : List Lexeme} {key value : PointedType} (c g : TokenText) → APointed ts (Read key (lexeme.Comma c ∷ us)) → APointed us (Read value vs)
      → Traits vs (Read tt (lexeme.Greater g ∷ rest)) → begins is_star rest ≡ false → ACache options ts (unexpected rest)
  no_name : {ts us vs ws rest : List Lexeme} {key value : PointedType} (c g s : TokenText) → APointed ts (Read key (lexeme.Comma c ∷ us)) → APointed us (Read value vs)
      → Traits vs (Read tt (lexeme.Greater g ∷ lexeme.Star s ∷ ws)) → Qualifiers ws rest → begins is_name rest ≡ false → ACache options ts (unexpected rest)
  not_ended : {ts us vs ws rest : List Lexeme} {key value : PointedType} (c g s n : TokenText) → APointed ts (Read key (lexeme.Comma c ∷ us)) → APointed us (Read value vs)
      → Traits vs (Read tt (lexeme.Greater g ∷ lexeme.Star s ∷ ws)) → Qualifiers ws (lexeme.Name n ∷ rest) → is_cache options ≡ true → begins is_semicolon rest ≡ false
      → ACache options ts (unexpected rest)

-- global := ("static" | "extern") marker root | ("static" | "extern") marker "hash_map" "<" cache, after the first word
pub data AGlobal : List Lexeme → Outcome Item → Type 0 where
  root : {ts us : List Lexeme} {options : List RawOption} {o : Outcome Item} → Marker ts (Read options us) → begins_map us ≡ false → ARoot options us o → AGlobal ts o
  cache : {ts us : List Lexeme} {options : List RawOption} {o : Outcome Item} (s l : TokenText) → Marker ts (Read options (lexeme.Name s ∷ lexeme.Less l ∷ us))
      → bytes_eq s.word (codes "hash_map") ≡ true → ACache options us o → AGlobal ts o
  in_marker : {ts : List Lexeme} (why : Failure) → Marker ts (failed why) → AGlobal ts (failed why)

-- ---- marked items

pub data MarkedItem : List Lexeme → Outcome Item → Type 0 where
  structure : {ts : List Lexeme} {o : Outcome Item} (s : TokenText) → AStructure false false ts o → MarkedItem (lexeme.Tag keyword.Struct s ∷ ts) o
  union : {ts : List Lexeme} {o : Outcome Item} (s : TokenText) → AStructure false true ts o → MarkedItem (lexeme.Tag keyword.Union s ∷ ts) o
  typedef_structure : {ts : List Lexeme} {o : Outcome Item} (t s : TokenText) → AStructure true false ts o
      → MarkedItem (lexeme.Typedef t ∷ lexeme.Tag keyword.Struct s ∷ ts) o
  typedef_union : {ts : List Lexeme} {o : Outcome Item} (t s : TokenText) → AStructure true true ts o
      → MarkedItem (lexeme.Typedef t ∷ lexeme.Tag keyword.Union s ∷ ts) o
  static_global : {ts : List Lexeme} {o : Outcome Item} (s : TokenText) → AGlobal ts o → MarkedItem (lexeme.Static s ∷ ts) o
  extern_global : {ts : List Lexeme} {o : Outcome Item} (s : TokenText) → AGlobal ts o → MarkedItem (lexeme.Extern s ∷ ts) o
  -- 9: class and template
  unsupported : {ts : List Lexeme} (s : TokenText) → bytes_eq s.word (codes "namespace") ≡ false → MarkedItem (lexeme.Reserved s ∷ ts) (Stops UNSUPPORTED s.start)
  -- 10: the item begins with its marker
  bad_place : {ts : List Lexeme} (s : TokenText) → MarkedItem (lexeme.Gty s ∷ ts) (Stops BAD_MARKER_PLACE s.start)
  -- 8: struct or union has to stand here; namespace may not stand here; one of the words above has to
  no_keyword : {ts : List Lexeme} (t : TokenText) → begins is_structure ts ≡ false → MarkedItem (lexeme.Typedef t ∷ ts) (unexpected ts)
  namespace : {ts : List Lexeme} (s : TokenText) → bytes_eq s.word (codes "namespace") ≡ true → MarkedItem (lexeme.Reserved s ∷ ts) (Stops UNEXPECTED s.start)
  no_beginning : {ts : List Lexeme} → begins begins_marked ts ≡ false → MarkedItem ts (unexpected ts)
