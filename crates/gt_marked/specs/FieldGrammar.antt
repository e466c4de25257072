-- The grammar of fields. Each case is a rule: which tokens are read as what, or with which fault reading stops.
use Rattle.std.specs.Prelude.{◌≡◌, ℕ, zero, suc, Bool, true, false, List, [], ◌∷◌, ◌++◌, Option, Some, None}
use Rattle.gt_search.specs.declared.faults.TheConstants.{UNSUPPORTED}
use Rattle.gt_items.specs.declared.items.Declarator.{Declarator}
use Rattle.gt_items.specs.declared.items.RawField.{RawField}
use Rattle.gt_items.specs.declared.items.RawOption.{RawOption}
use Rattle.gt_items.specs.declared.items.RawType.{RawType}
use Rattle.gt_items.specs.declared.items.Stars.{Stars}
use Rattle.gt_items.specs.declared.items.Stars.TheVariants.{Zero}
use Rattle.gt_search.specs.declared.lexeme.TokenText.{TokenText}
use Rattle.gt_search.specs.declared.lexeme.Bracket.{Bracket}
use Rattle.gt_search.specs.declared.lexeme.Bracket.TheVariants.{Round, Square, Brace}
use Rattle.gt_search.specs.declared.lexeme.Lexeme.{Lexeme}
use Rattle.gt_search.specs.declared.lexeme.Lexeme.TheVariants as lexeme
use Rattle.gt_marked.specs.declared.types.Context.TheVariants.{InField}
use Rattle.gt_marked.specs.Fields.{is_access}
use Rattle.gt_search.specs.Lexemes.{name_of, kept_text}
use Rattle.gt_marked.specs.MarkerGrammar.{Failure, failed, begins, is_comma, opens_round, closes_round, MaybeMarker}
use Rattle.gt_marked.specs.Outcome.{Outcome, Read, Stops, Ends, unexpected}
use Rattle.gt_marked.specs.TypeGrammar.{is_name, is_star, Qualifiers, AreStars, AType}

-- ---- the words of the rules

abbrev pub is_semicolon : Lexeme → Bool
is_semicolon (lexeme.Semicolon s) = true
is_semicolon t = false

abbrev pub is_colon : Lexeme → Bool
is_colon (lexeme.Colon s) = true
is_colon t = false

abbrev pub opens_square : Lexeme → Bool
opens_square (lexeme.Open Square s) = true
opens_square t = false

abbrev pub closes_brace : Lexeme → Bool
closes_brace (lexeme.Close Brace s) = true
closes_brace t = false

abbrev pub closes_any : Lexeme → Bool
closes_any (lexeme.Close b s) = true
closes_any t = false

-- a token before which the text of a bit count ends
abbrev pub ends_text : Lexeme → Bool
ends_text (lexeme.Comma s) = true
ends_text (lexeme.Semicolon s) = true
ends_text (lexeme.Close b s) = true
ends_text t = false

-- whether an access label stands at the front
abbrev pub begins_label : List Lexeme → Bool
begins_label (lexeme.Name s ∷ lexeme.Colon c ∷ ts) = is_access s.word
begins_label ts = false

-- ---- brackets. That each is closed by its like is known of a whole item, and not asked again.

-- how many brackets are open after a token, where so many are open before it; a bracket that closes none counts for nothing
abbrev pub depth_after : ℕ → Lexeme → ℕ
depth_after depth (lexeme.Open b s) = suc depth
depth_after zero (lexeme.Close b s) = zero
depth_after (suc depth) (lexeme.Close b s) = depth
depth_after depth t = depth

-- how many are open after some tokens
abbrev pub depth_through : ℕ → List Lexeme → ℕ
depth_through depth [] = depth
depth_through depth (t ∷ ts) = depth_through (depth_after depth t) ts

-- a token that passes a test stands among these, in no brackets
pub record Stands (is : Lexeme → Bool) (ts : List Lexeme) : Type 0 where
  pub front : List Lexeme
  pub token : Lexeme
  pub following : List Lexeme
  pub parts : ts ≡ front ++ token ∷ following
  pub outside : depth_through 0 front ≡ 0
  pub passes : is token ≡ true

-- these tokens close each bracket that they open, and none of them that stands in no brackets passes a test
pub record IsFree (is : Lexeme → Bool) (ts : List Lexeme) : Type 0 where
  pub closed : depth_through 0 ts ≡ 0
  pub free : ¬ Stands is ts

-- ---- declarators

-- bounds := {"[" text "]"}
pub data Bounds : List Lexeme → Outcome (List (List ℕ)) → Type 0 where
  no_bound : {ts : List Lexeme} → begins opens_square ts ≡ false → Bounds ts (Read [] ts)
  bound : {inside ts rest : List Lexeme} {bounds : List (List ℕ)} (b : Bracket) (o p : TokenText) → IsFree closes_any inside → Bounds ts (Read bounds rest)
      → Bounds (lexeme.Open Square o ∷ inside ++ lexeme.Close b p ∷ ts) (Read (kept_text inside ∷ bounds) rest)
  -- the tokens end in a bound
  not_closed : {ts : List Lexeme} (o : TokenText) → ¬ Stands closes_any ts → Bounds (lexeme.Open Square o ∷ ts) Ends
  in_more : {inside ts : List Lexeme} (b : Bracket) (o p : TokenText) (why : Failure) → IsFree closes_any inside → Bounds ts (failed why)
      → Bounds (lexeme.Open Square o ∷ inside ++ lexeme.Close b p ∷ ts) (failed why)

-- bits := [":" text]
pub data Bits : List Lexeme → Outcome (Option (List ℕ)) → Type 0 where
  no_bits : {ts : List Lexeme} → begins is_colon ts ≡ false → Bits ts (Read None ts)
  bits : {text rest : List Lexeme} (c : TokenText) (t : Lexeme) → IsFree ends_text text → ends_text t ≡ true
      → Bits (lexeme.Colon c ∷ text ++ t ∷ rest) (Read (Some (kept_text text)) (t ∷ rest))
  -- the tokens end in the text
  endless : {ts : List Lexeme} (c : TokenText) → ¬ Stands ends_text ts → Bits (lexeme.Colon c ∷ ts) Ends

-- {"*"} [marker] NAME bounds bits
pub data PlainDeclarator : List Lexeme → Outcome Declarator → Type 0 where
  plain : {ts us vs ws rest : List Lexeme} {stars : Stars} {options : List RawOption} {bounds : List (List ℕ)} {bits : Option (List ℕ)} (n : TokenText)
      → AreStars ts stars us → MaybeMarker us (Read options (lexeme.Name n ∷ vs)) → begins opens_round vs ≡ false → Bounds vs (Read bounds ws) → Bits ws (Read bits rest)
      → PlainDeclarator ts (Read (record { is_function = false; stars = stars; options = options; name = name_of n; bounds = bounds; bits = bits }) rest)
  -- 9: a member function, at the bracket after its name
  member_function : {ts us vs : List Lexeme} {stars : Stars} {options : List RawOption} (n o : TokenText)
      → AreStars ts stars us → MaybeMarker us (Read options (lexeme.Name n ∷ lexeme.Open Round o ∷ vs)) → PlainDeclarator ts (Stops UNSUPPORTED o.start)
  -- the fault of the marker, of a bound, of the bit count
  in_marker : {ts us : List Lexeme} {stars : Stars} (why : Failure) → AreStars ts stars us → MaybeMarker us (failed why) → PlainDeclarator ts (failed why)
  in_bounds : {ts us vs : List Lexeme} {stars : Stars} {options : List RawOption} (n : TokenText) (why : Failure)
      → AreStars ts stars us → MaybeMarker us (Read options (lexeme.Name n ∷ vs)) → begins opens_round vs ≡ false → Bounds vs (failed why)
      → PlainDeclarator ts (failed why)
  in_bits : {ts us vs ws : List Lexeme} {stars : Stars} {options : List RawOption} {bounds : List (List ℕ)} (n : TokenText) (why : Failure)
      → AreStars ts stars us → MaybeMarker us (Read options (lexeme.Name n ∷ vs)) → begins opens_round vs ≡ false → Bounds vs (Read bounds ws) → Bits ws (failed why)
      → PlainDeclarator ts (failed why)
  -- 8: a name has to stand here
  no_name : {ts us rest : List Lexeme} {stars : Stars} {options : List RawOption} → AreStars ts stars us → MaybeMarker us (Read options rest)
      → begins is_name rest ≡ false → PlainDeclarator ts (unexpected rest)

-- declarator := {"*"} [marker] NAME bounds bits | "(" "*" [marker] NAME ")" "(" skipped ")"
pub data ADeclarator : List Lexeme → Outcome Declarator → Type 0 where
  plain : {ts : List Lexeme} {o : Outcome Declarator} → begins opens_round ts ≡ false → PlainDeclarator ts o → ADeclarator ts o
  function : {ts us inside rest : List Lexeme} {options : List RawOption} (a s n c d e : TokenText) (b : Bracket) → Qualifiers ts us
      → MaybeMarker us (Read options (lexeme.Name n ∷ lexeme.Close Round c ∷ lexeme.Open Round d ∷ inside ++ lexeme.Close b e ∷ rest)) → IsFree closes_any inside
      → ADeclarator (lexeme.Open Round a ∷ lexeme.Star s ∷ ts)
      (Read (record { is_function = true; stars = Zero; options = options; name = name_of n; bounds = []; bits = None }) rest)
  -- the fault of the marker
  in_marker : {ts us : List Lexeme} (a s : TokenText) (why : Failure) → Qualifiers ts us → MaybeMarker us (failed why)
      → ADeclarator (lexeme.Open Round a ∷ lexeme.Star s ∷ ts) (failed why)
  -- 8: a star has to stand here; a name; a closing bracket; an opening bracket
  no_star : {ts : List Lexeme} (a : TokenText) → begins is_star ts ≡ false → ADeclarator (lexeme.Open Round a ∷ ts) (unexpected ts)
  no_name : {ts us rest : List Lexeme} {options : List RawOption} (a s : TokenText) → Qualifiers ts us → MaybeMarker us (Read options rest)
      → begins is_name rest ≡ false → ADeclarator (lexeme.Open Round a ∷ lexeme.Star s ∷ ts) (unexpected rest)
  not_closed : {ts us rest : List Lexeme} {options : List RawOption} (a s n : TokenText) → Qualifiers ts us → MaybeMarker us (Read options (lexeme.Name n ∷ rest))
      → begins closes_round rest ≡ false → ADeclarator (lexeme.Open Round a ∷ lexeme.Star s ∷ ts) (unexpected rest)
  no_arguments : {ts us rest : List Lexeme} {options : List RawOption} (a s n c : TokenText) → Qualifiers ts us
      → MaybeMarker us (Read options (lexeme.Name n ∷ lexeme.Close Round c ∷ rest)) → begins opens_round rest ≡ false
      → ADeclarator (lexeme.Open Round a ∷ lexeme.Star s ∷ ts) (unexpected rest)
  -- the tokens end in the last brackets
  arguments_not_closed : {ts us rest : List Lexeme} {options : List RawOption} (a s n c d : TokenText) → Qualifiers ts us
      → MaybeMarker us (Read options (lexeme.Name n ∷ lexeme.Close Round c ∷ lexeme.Open Round d ∷ rest)) → ¬ Stands closes_any rest
      → ADeclarator (lexeme.Open Round a ∷ lexeme.Star s ∷ ts) Ends

-- declarator {"," declarator} ";"
pub data Declarators : List Lexeme → Outcome (List Declarator) → Type 0 where
  last : {ts rest : List Lexeme} {d : Declarator} (s : TokenText) → ADeclarator ts (Read d (lexeme.Semicolon s ∷ rest)) → Declarators ts (Read (d ∷ []) rest)
  more : {ts us rest : List Lexeme} {d : Declarator} {ds : List Declarator} (c : TokenText) → ADeclarator ts (Read d (lexeme.Comma c ∷ us))
      → Declarators us (Read ds rest) → Declarators ts (Read (d ∷ ds) rest)
  -- the fault of a declarator
  in_declarator : {ts : List Lexeme} (why : Failure) → ADeclarator ts (failed why) → Declarators ts (failed why)
  in_more : {ts us : List Lexeme} {d : Declarator} (c : TokenText) (why : Failure) → ADeclarator ts (Read d (lexeme.Comma c ∷ us))
      → Declarators us (failed why) → Declarators ts (failed why)
  -- 8: a comma or a semicolon has to stand here
  not_ended : {ts rest : List Lexeme} {d : Declarator} → ADeclarator ts (Read d rest) → begins is_comma rest ≡ false → begins is_semicolon rest ≡ false
      → Declarators ts (unexpected rest)

-- ---- fields

-- field := type declarator {"," declarator} ";"
pub data Field : List Lexeme → Outcome RawField → Type 0 where
  field : {ts us rest : List Lexeme} {type : RawType} {declarators : List Declarator} → begins_label ts ≡ false → AType InField ts (Read type us)
      → Declarators us (Read declarators rest) → Field ts (Read (record { ty = type; declarators = declarators }) rest)
  -- 9: an access label, at its word
  label : {ts : List Lexeme} (s c : TokenText) → is_access s.word ≡ true → Field (lexeme.Name s ∷ lexeme.Colon c ∷ ts) (Stops UNSUPPORTED s.start)
  -- the fault of the type, 9 where one is defined there; of a declarator
  in_type : {ts : List Lexeme} (why : Failure) → begins_label ts ≡ false → AType InField ts (failed why) → Field ts (failed why)
  in_declarators : {ts us : List Lexeme} {type : RawType} (why : Failure) → begins_label ts ≡ false → AType InField ts (Read type us)
      → Declarators us (failed why) → Field ts (failed why)

-- field+ "}"
pub data FieldsToBrace : List Lexeme → Outcome (List RawField) → Type 0 where
  last : {ts rest : List Lexeme} {f : RawField} (s : TokenText) → Field ts (Read f (lexeme.Close Brace s ∷ rest)) → FieldsToBrace ts (Read (f ∷ []) rest)
  more : {ts us rest : List Lexeme} {f : RawField} {fs : List RawField} → Field ts (Read f us) → begins closes_brace us ≡ false
      → FieldsToBrace us (Read fs rest) → FieldsToBrace ts (Read (f ∷ fs) rest)
  -- the fault of a field
  in_field : {ts : List Lexeme} (why : Failure) → Field ts (failed why) → FieldsToBrace ts (failed why)
  in_more : {ts us : List Lexeme} {f : RawField} (why : Failure) → Field ts (Read f us) → begins closes_brace us ≡ false
      → FieldsToBrace us (failed why) → FieldsToBrace ts (failed why)
