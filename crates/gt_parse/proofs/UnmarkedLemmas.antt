-- Unmarked enums and typedefs are read as their rules say.
use Rattle.std.proofs.Common.{◌≡◌, ℕ, zero, suc, ◌≤◌, Bool, true, false, List, [], ◌∷◌, ◌++◌, length, Option, Some, None, refl, sym, ap, ◌∙◌, append_assoc, arith}
use Rattle.std.proofs.lemmas.List.{append-nil}
use Rattle.gt_items.specs.declared.items.Name.{Name}
use Rattle.gt_items.specs.declared.items.Alias.{Alias}
use Rattle.gt_items.specs.declared.items.Keyword.{Keyword}
use Rattle.gt_items.specs.declared.items.Keyword.TheVariants as keyword
use Rattle.gt_items.specs.declared.items.Item.{Item}
use Rattle.gt_items.specs.declared.items.Item.TheVariants.{Typedef}
use Rattle.gt_items.specs.declared.items.Meaning.{Meaning}
use Rattle.gt_items.specs.declared.items.Meaning.TheVariants as meaning
use Rattle.gt_items.specs.declared.items.RawEnum.{RawEnum}
use Rattle.gt_items.specs.declared.items.RawType.{RawType}
use Rattle.gt_items.specs.declared.items.RawTypedef.{RawTypedef}
use Rattle.gt_items.specs.declared.items.Enumerator.{Enumerator}
use Rattle.gt_items.specs.declared.items.Enumerator.TheVariants.{Undefined, Passed}
use Rattle.gt_items.specs.declared.items.Stars.{Stars}
use Rattle.gt_search.specs.declared.lexeme.TokenText.{TokenText}
use Rattle.gt_search.specs.declared.lexeme.Bracket.TheVariants.{Brace}
use Rattle.gt_search.specs.declared.lexeme.Lexeme.{Lexeme}
use Rattle.gt_search.specs.declared.lexeme.Lexeme.TheVariants as lexeme
use Rattle.gt_marked.specs.declared.types.Context.TheVariants.{Elsewhere}
use Rattle.gt_marked.specs.FieldGrammar.{depth_after, depth_through, Stands, closes_any}
use Rattle.gt_parse.specs.ItemGrammar.{is_enum, begins_body, is_starred, IsEnumerator, Enumerators, EnumBody, UnmarkedEnum, HasBody, HasMeaning, Aliases, FirstForm, HasPointer, StarredName, LastName, UnmarkedTypedef}
use Rattle.gt_search.specs.Lexemes.{name_of}
use Rattle.gt_marked.specs.Marked.{alias_at}
use Rattle.gt_marked.specs.MarkedGrammar.{AnAlias}
use Rattle.gt_marked.specs.MarkerGrammar.{begins, is_comma}
use Rattle.gt_marked.specs.Outcome.{Outcome, Read, Stops, Ends, ◌>>=◌, unexpected}
use Rattle.gt_search.specs.Search.{is_equals}
use Rattle.gt_marked.specs.TypeGrammar.{is_name, is_qualifier, opens_brace, Qualifiers, AreStars, BareType, AType}
use Rattle.gt_marked.specs.Types.{type_at, bare_type_at}
use Rattle.gt_parse.specs.Unmarked.{enumerator_of, pieces_from, enumerators_of, enum_body_at, enum_at, body_at, plain_meaning_at, tagged_meaning_at, keyword_meaning_at, bare_meaning_at, meaning_at, after_alias, aliases_from, first_form_at, last_name, after_round, starred_name, opaque_name, opaque_typedef, typedef_of, typedef_at}
use Rattle.gt_marked.proofs.GroupsLemmas.{inside-closed, inside-unclosed, Closes, closed, unclosed, closes}
use Rattle.gt_marked.proofs.MarkedLemmas.{alias-one, alias_has}
use Rattle.gt_marked.proofs.PlacesLemmas.{stands, stands-not, not-stands, depth_one_more, stands_one_more}
use Rattle.gt_parse.proofs.UnmarkedPlaces.{pieces_pass, last_stays, last_found, HasLast, last_place, pointer-round, round-pointer, no-pointer}
use Rattle.gt_marked.proofs.TypesLemmas.{no_qualifiers, qualifiers-one, qualifiers-done, qualifiers_has, stars-leaves, bare_type-one, type-allowed}
use Rattle.gt_marked.proofs.GrammarWords.{Has}

-- ---- steps that read

record Steps {A B : Type 0} (o : Outcome A) (f : A × List Lexeme → Outcome B) (y : B) (us : List Lexeme) : Type 0 where
  found : A
  following : List Lexeme
  first : o ≡ Read found following
  second : f (found, following) ≡ Read y us

steps : {A B : Type 0} (o : Outcome A) (f : A × List Lexeme → Outcome B) (y : B) (us : List Lexeme) → (o >>= f) ≡ Read y us → Steps o f y us
steps (Read x ts) f y us e = record { found = x; following = ts; first = refl; second = e }
steps (Stops number at) f y us e = absurd cc
steps Ends f y us e = absurd cc

-- what was read
read_is : {A : Type 0} (x y : A) (ts us : List Lexeme) → ◌≡◌ {A = Outcome A} (Read x ts) (Read y us) → (x ≡ y) × (ts ≡ us)
read_is x y ts us e = (cc, cc)

unexpected_read : {A : Type 0} (ts : List Lexeme) (x : A) (us : List Lexeme) → ◌≡◌ {A = Outcome A} (unexpected ts) (Read x us) → ⊥
unexpected_read [] x us e = cc
unexpected_read (t ∷ ts) x us e = cc

-- ---- enums

undefined_of : (n : TokenText) (t : Lexeme) (ts : List Lexeme) → is_equals t ≡ false → enumerator_of (lexeme.Name n ∷ t ∷ ts) ≡ Undefined (name_of n)
undefined_of n (lexeme.Equals e) ts h = absurd cc
undefined_of n t ts h = refl

passed_of : (ts : List Lexeme) → begins is_name ts ≡ false → enumerator_of ts ≡ Passed
passed_of [] h = refl
passed_of (lexeme.Name n ∷ ts) h = absurd cc
passed_of (t ∷ ts) h = refl

enumerator-one : {ts : List Lexeme} {one : Enumerator} → IsEnumerator ts one → enumerator_of ts ≡ one
enumerator-one (IsEnumerator.counted n) = refl
enumerator-one (IsEnumerator.valued n e) = refl
enumerator-one (IsEnumerator.undefined {ts} n t h) = undefined_of n t ts h
enumerator-one (IsEnumerator.passed {ts} h) = passed_of ts h

enumerator_has : (ts : List Lexeme) → Has IsEnumerator ts
enumerator_has (lexeme.Name n ∷ []) = record { outcome = _; holds = IsEnumerator.counted n }
enumerator_has (lexeme.Name n ∷ lexeme.Equals e ∷ ts) = record { outcome = _; holds = IsEnumerator.valued n e }
enumerator_has (lexeme.Name n ∷ t ∷ ts) = record { outcome = _; holds = IsEnumerator.undefined n t refl }
enumerator_has [] = record { outcome = _; holds = IsEnumerator.passed refl }
enumerator_has (t ∷ ts) = record { outcome = _; holds = IsEnumerator.passed refl }

-- the last piece, and one before a comma
last_piece : (piece : List Lexeme) → stands is_comma 0 piece ≡ false → pieces_from 0 [] piece ≡ piece ∷ []
unfolding pieces_from
last_piece piece h = ap (λ (ts : List Lexeme). pieces_from 0 [] ts) (sym (append-nil piece)) ∙ pieces_pass piece 0 [] [] h

comma_piece : (piece ts : List Lexeme) (c : TokenText) → pieces_from 0 piece (lexeme.Comma c ∷ ts) ≡ piece ∷ pieces_from 0 [] ts
unfolding pieces_from
comma_piece piece ts c = refl

first_piece : (piece ts : List Lexeme) (c : TokenText) → stands is_comma 0 piece ≡ false → depth_through 0 piece ≡ 0
    → pieces_from 0 [] (piece ++ lexeme.Comma c ∷ ts) ≡ piece ∷ pieces_from 0 [] ts
first_piece piece ts c h o =
    pieces_pass piece 0 [] (lexeme.Comma c ∷ ts) h ∙ ap (λ (depth : ℕ). pieces_from depth piece (lexeme.Comma c ∷ ts)) o ∙ comma_piece piece ts c

enumerators-one : {ts : List Lexeme} {all : List Enumerator} → Enumerators ts all → enumerators_of (pieces_from 0 [] ts) ≡ all
unfolding enumerators_of
enumerators-one (Enumerators.last {piece} h i) = rw (last_piece piece (not-stands is_comma piece h), enumerator-one i) refl
enumerators-one (Enumerators.more {piece} {ts} c f i m) =
    rw (first_piece piece ts c (not-stands is_comma piece f.free) f.closed, enumerator-one i, enumerators-one m) refl

pieces_last : (piece : List Lexeme) → stands is_comma 0 piece ≡ false → Has Enumerators piece
pieces_last piece h = record { outcome = _; holds = Enumerators.last (stands-not is_comma piece h) (enumerator_has piece).holds }

pieces_more : (piece : List Lexeme) (c : TokenText) (ts : List Lexeme) → stands is_comma 0 piece ≡ false → depth_through 0 piece ≡ 0 → Has Enumerators ts → Has Enumerators (piece ++ lexeme.Comma c ∷ ts)
pieces_more piece c ts h o has = record { outcome = _; holds = Enumerators.more c (record { closed = o; free = stands-not is_comma piece h }) (enumerator_has piece).holds has.holds }

pieces_on : (us : List Lexeme) (t : Lexeme) (ts : List Lexeme) → Has Enumerators ((us ++ t ∷ []) ++ ts) → Has Enumerators (us ++ t ∷ ts)
pieces_on us t ts has = rw (← append_assoc us (t ∷ []) ts) has

pieces_has : (ts us : List Lexeme) (depth : ℕ) → stands is_comma 0 us ≡ false → depth_through 0 us ≡ depth → Has Enumerators (us ++ ts)
pieces_has [] us depth h o = rw (append-nil us) (pieces_last us h)
pieces_has (lexeme.Comma c ∷ ts) us zero h o = pieces_more us c ts h o (pieces_has ts [] zero refl refl)
pieces_has (t ∷ ts) us zero h o = pieces_on us t ts (pieces_has ts (us ++ t ∷ []) (depth_after zero t) (stands_one_more is_comma us t zero h o refl) (depth_one_more us t zero o))
pieces_has (t ∷ ts) us (suc depth) h o =
    pieces_on us t ts (pieces_has ts (us ++ t ∷ []) (depth_after (suc depth) t) (stands_one_more is_comma us t (suc depth) h o refl) (depth_one_more us t (suc depth) o))

enumerators_has : (ts : List Lexeme) → Has Enumerators ts
enumerators_has ts = pieces_has ts [] zero refl refl

enumerators-allowed : (ts : List Lexeme) → Enumerators ts (enumerators_of (pieces_from 0 [] ts))
enumerators-allowed ts = let has = enumerators_has ts in rw (enumerators-one has.holds) has.holds

enum_body-one : {tag : Option Name} {ts rest : List Lexeme} {found : RawEnum} → EnumBody tag ts found rest → enum_body_at tag ts ≡ Read found rest
unfolding enum_body_at
enum_body-one (EnumBody.body {rest} b c n m) = rw (inside-closed n b c rest, enumerators-one m) refl

enum_body-endless : (tag : Option Name) {ts : List Lexeme} → ¬ Stands closes_any ts → enum_body_at tag ts ≡ Ends
unfolding enum_body_at
enum_body-endless tag u = rw (inside-unclosed u) refl

-- a body is closed, or it is not
data HasEnumBody (tag : Option Name) (ts : List Lexeme) : Type 0 where
  has_body : (found : RawEnum) (rest : List Lexeme) → EnumBody tag ts found rest → HasEnumBody tag ts
  has_none : ¬ Stands closes_any ts → HasEnumBody tag ts

enum_body_closes : (tag : Option Name) {ts : List Lexeme} → Closes ts → HasEnumBody tag ts
enum_body_closes tag (closed {inside} rest b c n) = has_body _ rest (EnumBody.body b c n (enumerators-allowed inside))
enum_body_closes tag (unclosed u) = has_none u

enum_body_has : (tag : Option Name) (ts : List Lexeme) → HasEnumBody tag ts
enum_body_has tag ts = enum_body_closes tag (closes ts)

no_enum : (ts : List Lexeme) → begins_body ts ≡ false → enum_at ts ≡ None
unfolding enum_at
no_enum [] h = refl
no_enum (lexeme.Open Brace o ∷ ts) h = absurd cc
no_enum (lexeme.Name n ∷ lexeme.Open Brace o ∷ ts) h = absurd cc
no_enum (lexeme.Name n ∷ []) h = refl
no_enum (lexeme.Name n ∷ t ∷ ts) h = refl
no_enum (t ∷ ts) h = refl

pub enum-alone : (ts : List Lexeme) (found : Option Item) → UnmarkedEnum ts found → found ≡ enum_at ts
unfolding enum_at
enum-alone ts found (UnmarkedEnum.untagged o b) = rw (enum_body-one b) refl
enum-alone ts found (UnmarkedEnum.tagged n o b) = rw (enum_body-one b) refl
enum-alone ts found (UnmarkedEnum.no_body h) = sym (no_enum ts h)
enum-alone ts found (UnmarkedEnum.untagged_not_closed o u) = rw (enum_body-endless None u) refl
enum-alone ts found (UnmarkedEnum.tagged_not_closed n o u) = rw (enum_body-endless (Some (name_of n)) u) refl

untagged_has : (o : TokenText) (ts : List Lexeme) → HasEnumBody None ts → Has UnmarkedEnum (lexeme.Open Brace o ∷ ts)
untagged_has o ts (has_body found rest b) = record { outcome = _; holds = UnmarkedEnum.untagged o b }
untagged_has o ts (has_none u) = record { outcome = _; holds = UnmarkedEnum.untagged_not_closed o u }

tagged_has : (n o : TokenText) (ts : List Lexeme) → HasEnumBody (Some (name_of n)) ts → Has UnmarkedEnum (lexeme.Name n ∷ lexeme.Open Brace o ∷ ts)
tagged_has n o ts (has_body found rest b) = record { outcome = _; holds = UnmarkedEnum.tagged n o b }
tagged_has n o ts (has_none u) = record { outcome = _; holds = UnmarkedEnum.tagged_not_closed n o u }

pub enum_has : (ts : List Lexeme) → Has UnmarkedEnum ts
enum_has (lexeme.Open Brace o ∷ ts) = untagged_has o ts (enum_body_has None ts)
enum_has (lexeme.Name n ∷ lexeme.Open Brace o ∷ ts) = tagged_has n o ts (enum_body_has (Some (name_of n)) ts)
enum_has [] = record { outcome = _; holds = UnmarkedEnum.no_body refl }
enum_has (lexeme.Name n ∷ []) = record { outcome = _; holds = UnmarkedEnum.no_body refl }
enum_has (lexeme.Name n ∷ t ∷ ts) = record { outcome = _; holds = UnmarkedEnum.no_body refl }
enum_has (t ∷ ts) = record { outcome = _; holds = UnmarkedEnum.no_body refl }

-- ---- bodies of typedefs

body-one : {k : Keyword} {tag : Option Name} {ts rest : List Lexeme} {means : Meaning} → HasBody k tag ts means rest → body_at k tag ts ≡ Read means rest
unfolding body_at
body-one (HasBody.fields {k = keyword.Struct} {ts} b c h n q) = rw (inside-closed n b c ts, qualifiers-one q) refl
body-one (HasBody.fields {k = keyword.Union} {ts} b c h n q) = rw (inside-closed n b c ts, qualifiers-one q) refl
body-one (HasBody.fields {k = keyword.Enum} b c h n q) = absurd cc
body-one (HasBody.constants b q) = rw (enum_body-one b, qualifiers-one q) refl

-- a body is one of these, or its brackets are not closed
data ComesToBody (k : Keyword) (tag : Option Name) (ts : List Lexeme) : Type 0 where
  is_body : (means : Meaning) (rest : List Lexeme) → HasBody k tag ts means rest → ComesToBody k tag ts
  is_none : body_at k tag ts ≡ Ends → ComesToBody k tag ts

fields_come : (k : Keyword) (tag : Option Name) {ts : List Lexeme} → is_enum k ≡ false → Closes ts → (¬ Stands closes_any ts → body_at k tag ts ≡ Ends) → ComesToBody k tag ts
fields_come k tag h (closed {inside} rest b c n) none = is_body _ _ (HasBody.fields b c h n (qualifiers_has rest).qualifiers)
fields_come k tag h (unclosed u) none = is_none (none u)

constants_come : (tag : Option Name) {ts : List Lexeme} → HasEnumBody tag ts → (¬ Stands closes_any ts → body_at keyword.Enum tag ts ≡ Ends) → ComesToBody keyword.Enum tag ts
constants_come tag (has_body found rest b) none = is_body _ _ (HasBody.constants b (qualifiers_has rest).qualifiers)
constants_come tag (has_none u) none = is_none (none u)

body_comes : (k : Keyword) (tag : Option Name) (ts : List Lexeme) → ComesToBody k tag ts
unfolding body_at
body_comes keyword.Struct tag ts = fields_come keyword.Struct tag refl (closes ts) (λ u. rw (inside-unclosed u) refl)
body_comes keyword.Union tag ts = fields_come keyword.Union tag refl (closes ts) (λ u. rw (inside-unclosed u) refl)
body_comes keyword.Enum tag ts = constants_come tag (enum_body_has tag ts) (λ u. rw (enum_body-endless tag u) refl)

body-sound : (k : Keyword) (tag : Option Name) (ts : List Lexeme) (means : Meaning) (rest : List Lexeme) → body_at k tag ts ≡ Read means rest → HasBody k tag ts means rest
body-sound k tag ts means rest e = cases (body_comes k tag ts)
  where
    cases : ComesToBody k tag ts → HasBody k tag ts means rest
    cases (is_body found following b) =
        let same = read_is means found rest following (sym e ∙ body-one b) in rw (same.0, same.1) b
    cases (is_none none) = let apart : Ends ≡ Read means rest = sym none ∙ e in absurd cc

-- ---- meanings of typedefs

-- no body stands after a type, so that it means itself
no_body_after : (k : Keyword) (tag : Name) (whole ts : List Lexeme) → begins opens_brace ts ≡ false → tagged_meaning_at k tag whole ts ≡ plain_meaning_at whole
no_body_after k tag whole [] h = refl
no_body_after k tag whole (lexeme.Open Brace o ∷ ts) h = absurd cc
no_body_after k tag whole (t ∷ ts) h = refl

plain_means : (us : List Lexeme) {rest : List Lexeme} {type : RawType} → begins is_qualifier us ≡ false → bare_type_at Elsewhere us ≡ Read type rest → plain_meaning_at us ≡ Read (meaning.Type type) rest
unfolding plain_meaning_at type_at
plain_means us h e = rw (no_qualifiers us h, e) refl

bare_means : {us rest : List Lexeme} {type : RawType} {o : Outcome RawType} → begins is_qualifier us ≡ false → BareType Elsewhere us o → o ≡ Read type rest
    → bare_meaning_at us ≡ Read (meaning.Type type) rest
unfolding bare_meaning_at
bare_means h (BareType.words w s m) e = plain_means _ h (sym (bare_type-one (BareType.words w s m)) ∙ e)
bare_means {us} h (BareType.tagged {rest} k t s q r l g) e =
    rw (qualifiers-one q, qualifiers-one r) (no_body_after k (name_of s) us rest l ∙ plain_means _ h (sym (bare_type-one (BareType.tagged k t s q r l g)) ∙ e))
bare_means h (BareType.before_marker k t s g f q r m l) e = absurd cc
bare_means h (BareType.with_body k t s b q r) e = absurd cc
bare_means h (BareType.body_alone k t b q) e = absurd cc
bare_means h (BareType.marked_body k t s g b f q r m) e = absurd cc
bare_means h (BareType.in_marker k t s g why f q r m) e = absurd cc
bare_means h (BareType.no_tag {rest} k t q l g) e = absurd (unexpected_read rest _ _ e)
bare_means h (BareType.named s d q) e = plain_means _ h (sym (bare_type-one (BareType.named s d q)) ∙ e)
bare_means h (BareType.bitfield s a n b d q r p z) e = plain_means _ h (sym (bare_type-one (BareType.bitfield s a n b d q r p z)) ∙ e)
bare_means h (BareType.no_bitfield s d q l) e = plain_means _ h (sym (bare_type-one (BareType.no_bitfield s d q l)) ∙ e)
bare_means h (BareType.function_pointer s a p f d q) e = absurd cc
bare_means h (BareType.bitfield_no_name {rest} s a d q l r k) e = absurd (unexpected_read rest _ _ e)
bare_means h (BareType.bitfield_not_closed {rest} s a n d q r p k) e = absurd (unexpected_read rest _ _ e)
bare_means h (BareType.no_type {ts} l) e = absurd (unexpected_read ts _ _ e)

type_means : {ts rest : List Lexeme} {type : RawType} {o : Outcome RawType} → AType Elsewhere ts o → o ≡ Read type rest → meaning_at ts ≡ Read (meaning.Type type) rest
unfolding meaning_at
type_means (AType.type q b) e = rw (qualifiers-one q) (bare_means (qualifiers-done q) b e)

meaning-one : {ts rest : List Lexeme} {means : Meaning} → HasMeaning ts means rest → meaning_at ts ≡ Read means rest
unfolding meaning_at bare_meaning_at
meaning-one (HasMeaning.type t) = type_means t refl
meaning-one (HasMeaning.untagged k t o q r b) = rw (qualifiers-one q, qualifiers-one r) (body-one b)
meaning-one (HasMeaning.tagged k t n o q r p b) = rw (qualifiers-one q, qualifiers-one r, qualifiers-one p) (body-one b)

-- the other way round
same_type : {ts us : List Lexeme} → Qualifiers ts us → type_at Elsewhere ts ≡ type_at Elsewhere us
unfolding type_at
same_type {us} q = rw (qualifiers-one q, no_qualifiers us (qualifiers-done q)) refl

type_meaning : (ts : List Lexeme) (type : RawType) (us : List Lexeme) (means : Meaning) (rest : List Lexeme) → type_at Elsewhere ts ≡ Read type us
    → ◌≡◌ {A = Outcome Meaning} (Read (meaning.Type type) us) (Read means rest) → HasMeaning ts means rest
type_meaning ts type us means rest here e =
    let same = read_is (meaning.Type type) means us rest e in
    rw (← same.0, ← same.1) (HasMeaning.type (rw here at (type-allowed Elsewhere ts)))

plain_sound : (ts us : List Lexeme) (means : Meaning) (rest : List Lexeme) → Qualifiers ts us → plain_meaning_at us ≡ Read means rest → HasMeaning ts means rest
unfolding plain_meaning_at
plain_sound ts us means rest q e =
    let step = steps (type_at Elsewhere us) (λ type. Read (meaning.Type type.0) type.1) means rest e in
    type_meaning ts step.found step.following means rest (same_type q ∙ step.first) step.second

tagged_sound : (ts : List Lexeme) (k : Keyword) (t n : TokenText) (us vs ws : List Lexeme) (means : Meaning) (rest : List Lexeme) → Qualifiers ts (lexeme.Tag k t ∷ us)
    → Qualifiers us (lexeme.Name n ∷ vs) → Qualifiers vs ws → tagged_meaning_at k (name_of n) (lexeme.Tag k t ∷ us) ws ≡ Read means rest → HasMeaning ts means rest
tagged_sound ts k t n us vs (lexeme.Open Brace o ∷ ws) means rest q r p e = HasMeaning.tagged k t n o q r p (body-sound k (Some (name_of n)) ws means rest e)
tagged_sound ts k t n us vs [] means rest q r p e = plain_sound ts (lexeme.Tag k t ∷ us) means rest q e
tagged_sound ts k t n us vs (w ∷ ws) means rest q r p e = plain_sound ts (lexeme.Tag k t ∷ us) means rest q e

keyword_sound : (ts : List Lexeme) (k : Keyword) (t : TokenText) (us vs : List Lexeme) (means : Meaning) (rest : List Lexeme) → Qualifiers ts (lexeme.Tag k t ∷ us)
    → Qualifiers us vs → keyword_meaning_at k (lexeme.Tag k t ∷ us) vs ≡ Read means rest → HasMeaning ts means rest
keyword_sound ts k t us (lexeme.Open Brace o ∷ vs) means rest q r e = HasMeaning.untagged k t o q r (body-sound k None vs means rest e)
keyword_sound ts k t us (lexeme.Name n ∷ vs) means rest q r e =
    let p = qualifiers_has vs in
    tagged_sound ts k t n us vs p.following means rest q r p.qualifiers (rw (qualifiers-one p.qualifiers) at e)
keyword_sound ts k t us [] means rest q r e = absurd (unexpected_read [] means rest e)
keyword_sound ts k t us (v ∷ vs) means rest q r e = absurd (unexpected_read (v ∷ vs) means rest e)

bare_sound : (ts us : List Lexeme) (means : Meaning) (rest : List Lexeme) → Qualifiers ts us → bare_meaning_at us ≡ Read means rest → HasMeaning ts means rest
unfolding bare_meaning_at
bare_sound ts (lexeme.Tag k t ∷ us) means rest q e =
    let r = qualifiers_has us in
    keyword_sound ts k t us r.following means rest q r.qualifiers (rw (qualifiers-one r.qualifiers) at e)
bare_sound ts [] means rest q e = plain_sound ts [] means rest q e
bare_sound ts (u ∷ us) means rest q e = plain_sound ts (u ∷ us) means rest q e

meaning-sound : (ts : List Lexeme) (means : Meaning) (rest : List Lexeme) → meaning_at ts ≡ Read means rest → HasMeaning ts means rest
unfolding meaning_at
meaning-sound ts means rest e =
    let q = qualifiers_has ts in
    bare_sound ts q.following means rest q.qualifiers (rw (qualifiers-one q.qualifiers) at e)

-- ---- names of typedefs

record AliasesRead (count : ℕ) (before : List Alias) (ts : List Lexeme) (names : List Alias) : Type 0 where
  rest : List Lexeme
  here : aliases_from count before ts ≡ Read (before ++ names) rest

aliases-from : {ts : List Lexeme} {names : List Alias} → Aliases ts names → (count : ℕ) (before : List Alias) → length ts ≤ count → AliasesRead count before ts names
unfolding aliases_from
aliases-from (Aliases.last n s a) zero before h = absurd (omega (arith, stars-leaves a))
aliases-from (Aliases.last {rest} n s a) (suc count) before h = record { rest = rest; here = rw (← alias-one (AnAlias.alias n a)) refl }
aliases-from (Aliases.more n c a m) zero before h = absurd (omega (arith, stars-leaves a))
aliases-from (Aliases.more {us} {stars} {others} n c a m) (suc count) before h =
    let one : Alias = record { stars = stars; name = name_of n } in
    let more = aliases-from m count (before ++ one ∷ []) (omega (arith, stars-leaves a)) in
    record { rest = more.rest; here = rw (← alias-one (AnAlias.alias n a)) (more.here ∙ ap (λ (names : List Alias). Read names more.rest) (append_assoc before (one ∷ []) others)) }

-- the other way round
record IsAlias (ts : List Lexeme) (x : Alias) (us : List Lexeme) : Type 0 where
  stars : Stars
  name : TokenText
  are : AreStars ts stars (lexeme.Name name ∷ us)
  same : ◌≡◌ {A = Alias} (record { stars = stars; name = name_of name }) x

alias_is : {ts : List Lexeme} {o : Outcome Alias} (x : Alias) (us : List Lexeme) → AnAlias ts o → o ≡ Read x us → IsAlias ts x us
alias_is x us (AnAlias.alias {rest} {stars} n a) e =
    let same = read_is (record { stars = stars; name = name_of n }) x rest us e in
    record { stars = stars; name = n; are = rw (← same.1) a; same = same.0 }
alias_is x us (AnAlias.no_name {rest} a h) e = absurd (unexpected_read rest x us e)

alias-sound : (ts : List Lexeme) (x : Alias) (us : List Lexeme) → alias_at ts ≡ Read x us → IsAlias ts x us
alias-sound ts x us e = alias_is x us (alias_has ts).holds (alias-one (alias_has ts).holds ∙ e)

record Added (before : List Alias) (ts : List Lexeme) (names : List Alias) : Type 0 where
  added : List Alias
  same : names ≡ before ++ added
  are : Aliases ts added

aliases_after : (go : List Lexeme → Outcome (List Alias)) (before : List Alias) (ts : List Lexeme) (x : Alias) (us : List Lexeme) (names : List Alias) (rest : List Lexeme)
    → IsAlias ts x us → after_alias go (before ++ x ∷ []) us ≡ Read names rest
    → ((vs : List Lexeme) → go vs ≡ Read names rest → Added (before ++ x ∷ []) vs names) → Added before ts names
aliases_after go before ts x (lexeme.Comma c ∷ us) names rest i e again =
    let more = again us e in
    record { added = x ∷ more.added; same = more.same ∙ append_assoc before (x ∷ []) more.added; are = rw (← i.same) (Aliases.more i.name c i.are more.are) }
aliases_after go before ts x (lexeme.Semicolon s ∷ us) names rest i e again =
    let same = read_is (before ++ x ∷ []) names us rest e in
    record { added = x ∷ []; same = sym same.0; are = rw (← i.same) (Aliases.last i.name s i.are) }
aliases_after go before ts x [] names rest i e again = absurd (unexpected_read [] names rest e)
aliases_after go before ts x (u ∷ us) names rest i e again = absurd (unexpected_read (u ∷ us) names rest e)

aliases-sound : (count : ℕ) (before : List Alias) (ts : List Lexeme) (names : List Alias) (rest : List Lexeme) → aliases_from count before ts ≡ Read names rest → Added before ts names
unfolding aliases_from
aliases-sound zero before ts names rest e = absurd cc
aliases-sound (suc count) before ts names rest e =
    let step = steps (alias_at ts) (λ one. after_alias (aliases_from count (before ++ one.0 ∷ [])) (before ++ one.0 ∷ []) one.1) names rest e in
    aliases_after (aliases_from count (before ++ step.found ∷ [])) before ts step.found step.following names rest (alias-sound ts step.found step.following step.first) step.second
    (λ vs f. aliases-sound count (before ++ step.found ∷ []) vs names rest f)

-- ---- the first form

record FirstRead (ts : List Lexeme) (found : RawTypedef) : Type 0 where
  rest : List Lexeme
  here : first_form_at ts ≡ Read found rest

first_form-one : {ts : List Lexeme} {found : RawTypedef} → FirstForm ts found → FirstRead ts found
unfolding first_form_at
first_form-one (FirstForm.first_form {us} m a) =
    let names = aliases-from a (length us) [] (omega arith) in
    record { rest = names.rest; here = rw (meaning-one m, names.here) refl }

form_of : (ts us : List Lexeme) (means : Meaning) (names : List Alias) (following : List Lexeme) (found : RawTypedef) (rest : List Lexeme) → meaning_at ts ≡ Read means us
    → Added [] us names → ◌≡◌ {A = Outcome RawTypedef} (Read (record { means = means; names = names }) following) (Read found rest) → FirstForm ts found
form_of ts us means names following found rest m a e =
    let same = read_is (record { means = means; names = names }) found following rest e in
    rw (← same.0, a.same) (FirstForm.first_form (meaning-sound ts means us m) a.are)

first_form-sound : (ts : List Lexeme) (found : RawTypedef) (rest : List Lexeme) → first_form_at ts ≡ Read found rest → FirstForm ts found
unfolding first_form_at
first_form-sound ts found rest e =
    let m = steps (meaning_at ts) (λ means. aliases_from (length means.1) [] means.1 >>= λ names. Read (record { means = means.0; names = names.0 }) names.1) found rest e in
    let a = steps (aliases_from (length m.following) [] m.following) (λ names. Read (record { means = m.found; names = names.0 }) names.1) found rest m.second in
    form_of ts m.following m.found a.found a.following found rest m.first (aliases-sound (length m.following) [] m.following a.found a.following a.first) a.second

-- ---- other typedefs

no_starred : (ts : List Lexeme) → begins is_starred ts ≡ false → starred_name ts ≡ None
unfolding starred_name
no_starred [] h = refl
no_starred (lexeme.Star s ∷ ts) h = absurd cc
no_starred (lexeme.Qualifier s ∷ ts) h = absurd cc
no_starred (lexeme.Name s ∷ ts) h = absurd cc
no_starred (t ∷ ts) h = refl

starred-one : {ts : List Lexeme} {found : Option Name} → StarredName ts found → starred_name ts ≡ found
unfolding starred_name
starred-one (StarredName.name n) = refl
starred-one (StarredName.star s d) = starred-one d
starred-one (StarredName.qualifier s d) = starred-one d
starred-one (StarredName.no_name {ts} h) = no_starred ts h

starred_has : (ts : List Lexeme) → Has StarredName ts
starred_has (lexeme.Star s ∷ ts) = record { outcome = (starred_has ts).outcome; holds = StarredName.star s (starred_has ts).holds }
starred_has (lexeme.Qualifier s ∷ ts) = record { outcome = (starred_has ts).outcome; holds = StarredName.qualifier s (starred_has ts).holds }
starred_has (lexeme.Name n ∷ ts) = record { outcome = _; holds = StarredName.name n }
starred_has [] = record { outcome = _; holds = StarredName.no_name refl }
starred_has (t ∷ ts) = record { outcome = _; holds = StarredName.no_name refl }

last-one : {ts : List Lexeme} {found : Option Name} → LastName ts found → last_name 0 None ts ≡ found
last-one (LastName.name front {following} n o h) = last_found front 0 None n following o ∙ last_stays following 0 (Some (name_of n)) (not-stands is_name following h)
last-one (LastName.no_name {ts} h) = last_stays ts 0 None (not-stands is_name ts h)

last_has : (ts : List Lexeme) → Has LastName ts
last_has ts = cases (stands is_name 0 ts) refl
  where
    named : HasLast 0 ts → Has LastName ts
    named l = record { outcome = Some (name_of l.name); holds = rw (l.parts) (LastName.name l.front l.name l.outside (stands-not is_name l.following l.none)) }

    cases : (b : Bool) → stands is_name 0 ts ≡ b → Has LastName ts
    cases true e = named (last_place ts 0 e)
    cases false e = record { outcome = None; holds = LastName.no_name (stands-not is_name ts e) }

not_first : (ts : List Lexeme) → ((first : RawTypedef) → ¬ FirstForm ts first) → typedef_at ts ≡ opaque_typedef (opaque_name ts (after_round 0 ts))
unfolding typedef_at
not_first ts h = cases (first_form_at ts) refl
  where
    cases : (o : Outcome RawTypedef) → first_form_at ts ≡ o → typedef_of ts o ≡ opaque_typedef (opaque_name ts (after_round 0 ts))
    cases (Read found rest) e = absurd (h found (first_form-sound ts found rest e))
    cases (Stops number at) e = refl
    cases Ends e = refl

first_typedef : (ts : List Lexeme) (found : RawTypedef) → FirstRead ts found → Some (Typedef found) ≡ typedef_at ts
unfolding typedef_at
first_typedef ts found f = rw (f.here) refl

pub typedef-alone : (ts : List Lexeme) (found : Option Item) → UnmarkedTypedef ts found → found ≡ typedef_at ts
typedef-alone ts found (UnmarkedTypedef.first_form {found = first} f) = first_typedef ts first (first_form-one f)
typedef-alone ts found (UnmarkedTypedef.pointer h p s) = rw (not_first ts h, pointer-round p, starred-one s) refl
typedef-alone ts found (UnmarkedTypedef.other h p l) = rw (not_first ts h, no-pointer ts p, last-one l) refl

other_has : (ts : List Lexeme) → ((first : RawTypedef) → ¬ FirstForm ts first) → Has UnmarkedTypedef ts
other_has ts h = cases (after_round 0 ts) refl
  where
    pointed : HasPointer ts → Has UnmarkedTypedef ts
    pointed p = record { outcome = _; holds = UnmarkedTypedef.pointer h p (starred_has p.following).holds }

    cases : (us : List Lexeme) → after_round 0 ts ≡ us → Has UnmarkedTypedef ts
    cases (lexeme.Star s ∷ us) e = pointed (round-pointer ts s us e)
    cases [] e = record { outcome = _; holds = UnmarkedTypedef.other h (λ p. let apart : lexeme.Star p.star ∷ p.following ≡ [] = sym (pointer-round p) ∙ e in cc) (last_has ts).holds }
    cases (u ∷ us) e = record { outcome = _; holds = UnmarkedTypedef.other h (λ p. let apart : lexeme.Star p.star ∷ p.following ≡ u ∷ us = sym (pointer-round p) ∙ e in cc) (last_has ts).holds }

not_read : (ts : List Lexeme) (o : Outcome RawTypedef) → first_form_at ts ≡ o → ((x : RawTypedef) (us : List Lexeme) → o ≡ Read x us → ⊥) → (first : RawTypedef) → ¬ FirstForm ts first
not_read ts o e h first f = let r = first_form-one f in h first r.rest (sym e ∙ r.here)

pub typedef_has : (ts : List Lexeme) → Has UnmarkedTypedef ts
typedef_has ts = cases (first_form_at ts) refl
  where
    cases : (o : Outcome RawTypedef) → first_form_at ts ≡ o → Has UnmarkedTypedef ts
    cases (Read found rest) e = record { outcome = _; holds = UnmarkedTypedef.first_form (first_form-sound ts found rest e) }
    cases (Stops number at) e = other_has ts (not_read ts (Stops number at) e (λ x us f. cc))
    cases Ends e = other_has ts (not_read ts Ends e (λ x us f. cc))
