-- What markers and types are read as is well formed.
use Rattle.std.proofs.Common.{◌≡◌, ℕ, List, [], ◌∷◌, ◌++◌, Result, Ok, Err}
use Rattle.std.specs.Prelude.{All}
use Rattle.std.proofs.lemmas.List.Elements.{All-nil, All-cons}
use Rattle.gt_types.specs.Names.{IsName}
use Rattle.gt_search.specs.declared.lexeme.Lexeme.{Lexeme}
use Rattle.gt_search.specs.declared.lexeme.Lexeme.TheVariants as lexeme
use Rattle.gt_marked.specs.Outcome.{Outcome, Read, Stops, Ends, unexpected}
use Rattle.gt_expr.specs.declared.raw.RawExpr.{RawExpr}
use Rattle.gt_expr.specs.Expression.{IsExpression, expression_of}
use Rattle.gt_items.specs.declared.items.Combination.{Combination}
use Rattle.gt_items.specs.declared.items.Parameter.{Parameter}
use Rattle.gt_items.specs.declared.items.RawOption.{RawOption}
use Rattle.gt_items.specs.declared.items.RawType.{RawType}
use Rattle.gt_items.specs.declared.items.Stars.{Stars}
use Rattle.gt_marked.specs.declared.types.Context.{Context}
use Rattle.gt_marked.specs.MarkerGrammar.{Failure, Fault, Early, failed, IsParameter, Joins, AnOption, Options, MaybeOptions, Marker, MaybeMarker}
use Rattle.gt_marked.specs.TypeGrammar.{Qualifiers, AreStars, MoreWords, BareType, AType}
use Rattle.gt_sound.proofs.Expressions.{IsFormedParameter, absent_formed, text_formed, expression_formed}

-- ---- names among tokens

-- a token that is a name has one
abbrev pub Named : Lexeme → Type 0
Named (lexeme.Name s) = IsName s.word
Named t = Unit {0}

abbrev pub AreNamed : List Lexeme → Type 0
AreNamed [] = Unit {0}
AreNamed (t ∷ ts) = Named t × AreNamed ts

pub named_right : (xs ys : List Lexeme) → AreNamed (xs ++ ys) → AreNamed ys
named_right [] ys h = h
named_right (x ∷ xs) ys h = named_right xs ys h.1

pub named_left : (xs ys : List Lexeme) → AreNamed (xs ++ ys) → AreNamed xs
named_left [] ys h = tt
named_left (x ∷ xs) ys h = (h.0, named_left xs ys h.1)

-- what is read is so, and the tokens after it are named
abbrev pub Keeps : {A : Type 0} → (A → Type 0) → Outcome A → Type 0
Keeps P (Read x ts) = P x × AreNamed ts
Keeps P (Stops number at) = Unit {0}
Keeps P Ends = Unit {0}

pub failed_keeps : {A : Type 0} (P : A → Type 0) (why : Failure) → Keeps P (failed why)
failed_keeps P (Fault number at) = tt
failed_keeps P Early = tt

pub unexpected_keeps : {A : Type 0} (P : A → Type 0) (ts : List Lexeme) → Keeps P (unexpected ts)
unexpected_keeps P [] = tt
unexpected_keeps P (t ∷ ts) = tt

pub qualifiers_read : {ts us : List Lexeme} → Qualifiers ts us → AreNamed ts → AreNamed us
qualifiers_read (Qualifiers.no_qualifier h) named = named
qualifiers_read (Qualifiers.qualifier s q) named = qualifiers_read q named.1

pub stars_read : {ts us : List Lexeme} {stars : Stars} → AreStars ts stars us → AreNamed ts → AreNamed us
stars_read (AreStars.no_star h) named = named
stars_read (AreStars.star s q a) named = stars_read a (qualifiers_read q named.1)

joins_read : {ts us : List Lexeme} {text : List ℕ} → Joins ts text us → AreNamed ts → AreNamed us
joins_read (Joins.no_string h) named = named
joins_read (Joins.string s j) named = joins_read j named.1

-- ---- options

abbrev pub IsFormedOption : RawOption → Type 0
IsFormedOption o = IsFormedParameter o.parameter

abbrev pub AreFormed : List RawOption → Type 0
AreFormed options = All IsFormedOption options

abbrev pub IsAnyType : RawType → Type 0
IsAnyType type = Unit {0}

abbrev KeepsParameter : Result Parameter ℕ → Type 0
KeepsParameter (Ok p) = IsFormedParameter p
KeepsParameter (Err number) = Unit {0}

module _ (law : (text : List ℕ) (t : RawExpr) → expression_of text ≡ Ok t → IsExpression text t) where
  parameter_read : {name bytes : List ℕ} {r : Result Parameter ℕ} → IsParameter name bytes r → KeepsParameter r
  parameter_read (IsParameter.empty u) = absent_formed
  parameter_read (IsParameter.text {text = text} b u h) = text_formed (b ∷ text)
  parameter_read (IsParameter.expression {text = text} {tree = tree} b u h e) = expression_formed (b ∷ text) tree (law (b ∷ text) tree e)
  parameter_read (IsParameter.no_expression b u h e) = tt
  parameter_read (IsParameter.bad_backslash u) = tt

  pub option_read : {ts : List Lexeme} {o : Outcome RawOption} → AnOption ts o → AreNamed ts → Keeps IsFormedOption o
  option_read (AnOption.name_alone t h1 h2) named = (absent_formed, named.1)
  option_read (AnOption.with_strings t o q c h1 h2 h3) named = (parameter_read h3, (joins_read h2 named.1.1).1)
  option_read (AnOption.bad_strings t o q c h1 h2 h3) named = tt
  option_read (AnOption.no_identifier {ts = ts} h1) named = unexpected_keeps IsFormedOption ts
  option_read (AnOption.no_string {ts = ts} t o h1 h2) named = unexpected_keeps IsFormedOption ts
  option_read (AnOption.not_closed {rest = rest} t o q h1 h2 h3) named = unexpected_keeps IsFormedOption rest

  pub options_read : {ts : List Lexeme} {o : Outcome (List RawOption)} → Options ts o → AreNamed ts → Keeps AreFormed o
  options_read (Options.last {option = option} h1 h2) named = let r = option_read h1 named in (All-cons IsFormedOption option [] r.0 (All-nil IsFormedOption), r.1)
  options_read (Options.more {option = option} {options = options} c h1 h2) named = let r = option_read h1 named in let s = options_read h2 r.1.1 in (All-cons IsFormedOption option options r.0 s.0, s.1)
  options_read (Options.in_option why h1) named = failed_keeps AreFormed why
  options_read (Options.in_more c why h1 h2) named = failed_keeps AreFormed why

  pub maybe_options_read : {ts : List Lexeme} {o : Outcome (List RawOption)} → MaybeOptions ts o → AreNamed ts → Keeps AreFormed o
  maybe_options_read (MaybeOptions.none c) named = (All-nil IsFormedOption, named)
  maybe_options_read (MaybeOptions.some h1 h2) named = options_read h2 named

  pub marker_read : {ts : List Lexeme} {o : Outcome (List RawOption)} → Marker ts o → AreNamed ts → Keeps AreFormed o
  marker_read (Marker.marker a b c d e h1) named = let r = maybe_options_read h1 named.1.1.1 in (r.0, r.1.1.1)
  marker_read (Marker.in_options a b c why h1) named = failed_keeps AreFormed why
  marker_read (Marker.no_word {ts = ts} h1) named = unexpected_keeps AreFormed ts
  marker_read (Marker.not_opened {ts = ts} a h1) named = unexpected_keeps AreFormed ts
  marker_read (Marker.not_opened_twice {ts = ts} a b h1) named = unexpected_keeps AreFormed ts
  marker_read (Marker.not_closed {rest = rest} a b c h1 h2) named = unexpected_keeps AreFormed rest
  marker_read (Marker.not_closed_twice {rest = rest} a b c d h1 h2) named = unexpected_keeps AreFormed rest

  pub maybe_marker_read : {ts : List Lexeme} {o : Outcome (List RawOption)} → MaybeMarker ts o → AreNamed ts → Keeps AreFormed o
  maybe_marker_read (MaybeMarker.marked a h1) named = marker_read h1 named
  maybe_marker_read (MaybeMarker.unmarked h1) named = (All-nil IsFormedOption, named)

-- ---- types

pub words_read : {before : Combination} {ts : List Lexeme} {o : Outcome RawType} → MoreWords before ts o → AreNamed ts → Keeps IsAnyType o
words_read (MoreWords.word w s h1 h2) named = words_read h2 named.1
words_read (MoreWords.bad_word w s h1) named = tt
words_read (MoreWords.qualifier s h1) named = words_read h1 named.1
words_read (MoreWords.host_wide s h1 h2 h3) named = (tt, qualifiers_read h3 named.1)
words_read (MoreWords.name_after s h1) named = (tt, named)
words_read (MoreWords.no_word h1) named = (tt, named)

pub bare_type_read : {place : Context} {ts : List Lexeme} {o : Outcome RawType} → BareType place ts o → AreNamed ts → Keeps IsAnyType o
bare_type_read (BareType.words w s h1) named = words_read h1 named
bare_type_read (BareType.tagged k t s h1 h2 h3 h4) named = (tt, qualifiers_read h2 (qualifiers_read h1 named.1).1)
bare_type_read (BareType.before_marker k t s g h1 h2 h3 h4 h5) named = (tt, qualifiers_read h3 (qualifiers_read h2 named.1).1)
bare_type_read (BareType.with_body k t s b h1 h2) named = tt
bare_type_read (BareType.body_alone k t b h1) named = tt
bare_type_read (BareType.marked_body k t s g b h1 h2 h3 h4) named = tt
bare_type_read (BareType.in_marker k t s g why h1 h2 h3 h4) named = failed_keeps IsAnyType why
bare_type_read (BareType.no_tag {rest = rest} k t h1 h2 h3) named = unexpected_keeps IsAnyType rest
bare_type_read (BareType.named s h1 h2) named = (tt, qualifiers_read h2 named.1)
bare_type_read (BareType.bitfield s a n b h1 h2 h3 h4 h5) named = (tt, qualifiers_read h5 (qualifiers_read h4 (qualifiers_read h3 (qualifiers_read h2 named.1).1).1).1)
bare_type_read (BareType.no_bitfield s h1 h2 h3) named = (tt, qualifiers_read h2 named.1)
bare_type_read (BareType.function_pointer s a p h1 h2 h3) named = (tt, qualifiers_read h3 named.1)
bare_type_read (BareType.bitfield_no_name {rest = rest} s a h1 h2 h3 h4 h5) named = unexpected_keeps IsAnyType rest
bare_type_read (BareType.bitfield_not_closed {rest = rest} s a n h1 h2 h3 h4 h5) named = unexpected_keeps IsAnyType rest
bare_type_read (BareType.no_type {ts = ts} h1) named = unexpected_keeps IsAnyType ts

pub type_read : {place : Context} {ts : List Lexeme} {o : Outcome RawType} → AType place ts o → AreNamed ts → Keeps IsAnyType o
type_read (AType.type h1 h2) named = bare_type_read h2 (qualifiers_read h1 named)
