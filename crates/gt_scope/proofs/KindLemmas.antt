-- What is known of kinds, and of the numbers of tags.
use Rattle.std.proofs.Common.{◌≡◌, ◌∙◌, ℕ, suc, ◌+◌, ◌<◌, Bool, true, false, cond, not, List, [], ◌∷◌, ◌++◌, length, map, Option, Some, None, refl, sym, ap, ap₂, subst, arith, length-append, eq-eqb}
use Rattle.std.specs.Prelude.{◌||◌, ◌&&◌, ◌==◌, if◌then◌else◌, find, position, slice_get, is_some, nat_lt, option_map}
use Rattle.std.specs.List.{list_any, prefix_len}
use Rattle.std.specs.Str.{bytes_eq}
use Rattle.std.proofs.lemmas.Bool.{eqb-true, true≢false}
use Rattle.std.proofs.lemmas.Bool.Decides.{nat_tests}
use Rattle.std.proofs.lemmas.Option.{none-some, same_Some, slice_get-map}
use Rattle.gt_items.specs.declared.items.Keyword.{Keyword}
use Rattle.gt_items.specs.declared.items.Keyword.TheVariants as keyword
use Rattle.gt_items.specs.declared.items.Stars.{Stars}
use Rattle.gt_items.specs.declared.items.Stars.TheVariants.{Zero, One, Two, More}
use Rattle.gt_drafts.specs.declared.types.BaseType.{BaseType}
use Rattle.gt_drafts.specs.declared.types.BaseType.TheVariants as base
use Rattle.gt_drafts.specs.declared.types.Resolved.{Resolved}
use Rattle.gt_drafts.specs.Sameness.{same_base, same_keyword, same_stars, same_type}
use Rattle.gt_names.specs.declared.tables.Entry.{Entry}
use Rattle.gt_names.specs.Entries.{with_value}
use Rattle.gt_names.specs.Lists.{with_name}
use Rattle.gt_names.proofs.NameTests.{is_some_position}
use Rattle.gt_names.proofs.NameLists.{any-position, with_name-pushed, position-pushed}
use Rattle.gt_names.proofs.TableLemmas.{any_found, equal_words, found_at, names_with, position-map, same_word}
use Rattle.gt_scope.specs.declared.kinds.Kind.{Kind}
use Rattle.gt_scope.specs.declared.kinds.Kind.TheVariants.{Number, Float, Double, Sizeless, Structure, Undefined, Unknown}
use Rattle.gt_scope.specs.declared.kinds.Meant.{Meant}
use Rattle.gt_scope.specs.Meanings.{following, is_transparent, means_after, opaque, transparent}
use Rattle.gt_scope.specs.Kinds.{is_kept, kept, kept_after, meant_after, unkept, names_in, same_kind, tag_number, HasNumber, Keeps, IsOfKind, IsMeant}

-- ---- places

find_step : {A : Type 0} (p : A → Bool) (y x : A) (rest : Option A) (b : Bool) → p y ≡ b → (rest ≡ Some x → p x ≡ true) → (if b then Some y else rest) ≡ Some x
    → p x ≡ true
find_step p y x rest true e more h = subst (λ z. p z ≡ true) (same_Some y x h) e
find_step p y x rest false e more h = more h

-- what is found passes
pub find_passes : {A : Type 0} (p : A → Bool) (xs : List A) (x : A) → find p xs ≡ Some x → p x ≡ true
find_passes p [] x h = absurd (none-some x h)
find_passes p (y ∷ xs) x h = find_step p y x (find p xs) (p y) refl (find_passes p xs x) h

grown_step : (b any : Bool) (k l : ℕ) → (b || any) ≡ true → (any ≡ true → k ≡ l) → cond (not b) (1 + k) 0 ≡ cond (not b) (1 + l) 0
grown_step true any k l h f = refl
grown_step false any k l h f = ap (λ n. 1 + n) (f h)

prefix_grown : {X : Type 0} (p : X → Bool) (xs ys : List X) → list_any p xs ≡ true → prefix_len (λ x. not (p x)) (xs ++ ys) ≡ prefix_len (λ x. not (p x)) xs
prefix_grown p [] ys h = absurd (true≢false (sym h))
prefix_grown p (x ∷ xs) ys h =
    grown_step (p x) (list_any p xs) (prefix_len (λ x. not (p x)) (xs ++ ys)) (prefix_len (λ x. not (p x)) xs) h (prefix_grown p xs ys)

below_more : (k n m : ℕ) → nat_lt k n ≡ true → nat_lt k (n + m) ≡ true
below_more k n m h = grind (arith, nat_tests)

-- a place stays where items are added at the end
position_grown : {X : Type 0} (p : X → Bool) (xs ys : List X) (n : ℕ) → position p xs ≡ Some n → position p (xs ++ ys) ≡ Some n
position_grown p xs ys n h =
    let there : list_any p xs ≡ true = sym (is_some_position p xs) ∙ ap is_some h in
    let k = prefix_len (λ x. not (p x)) xs in
    let below : nat_lt k (length xs) ≡ true = sym (any-position p xs) ∙ there in
    ap₂ (λ (i m : ℕ). cond (nat_lt i m) (Some i) None) (prefix_grown p xs ys there) (length-append xs ys)
    ∙ ap (λ b. cond b (Some k) None) (below_more k (length xs) (length ys) below)
    ∙ sym (ap (λ b. cond b (Some k) None) below) ∙ h

-- ---- numbers of tags

some_found : {A : Type 0} (o : Option A) → is_some o ≡ true → (x : A) × (o ≡ Some x)
some_found None h = absurd (true≢false (sym h))
some_found (Some x) h = (x, refl)

-- the tag of a number stands at its place
pub tag_at : (tags : List (List ℕ)) (tag : List ℕ) (n : ℕ) → HasNumber tags tag n → slice_get tags n ≡ Some tag
tag_at tags tag n h =
    let there : is_some (find (λ other. bytes_eq other tag) tags) ≡ true =
    sym (any_found (λ other. bytes_eq other tag) tags) ∙ sym (is_some_position (λ other. bytes_eq other tag) tags) ∙ ap is_some h in
    let x = some_found (find (λ other. bytes_eq other tag) tags) there in
    sym (found_at (λ other. bytes_eq other tag) tags n h) ∙ x.1 ∙ ap Some (equal_words x.0 tag (find_passes (λ other. bytes_eq other tag) tags x.0 x.1))

one_tag : (tags : List (List ℕ)) (t u : List ℕ) (n : ℕ) → HasNumber tags t n → HasNumber tags u n → t ≡ u
one_tag tags t u n h k = same_Some t u (sym (tag_at tags t n h) ∙ tag_at tags u n k)

not_same : (tags : List (List ℕ)) (t u : List ℕ) (n m : ℕ) → HasNumber tags t n → HasNumber tags u m → bytes_eq t u ≡ false → (b : Bool) → (n == m) ≡ b → (n == m) ≡ false
not_same tags t u n m h k e false f = f
not_same tags t u n m h k e true f =
    let same : n ≡ m = eqb-true n m f in
    let word : t ≡ u = one_tag tags t u m (subst (λ (i : ℕ). HasNumber tags t i) same h) k in
    absurd (true≢false (sym (same_word u) ∙ ap (λ (w : List ℕ). bytes_eq w u) (sym word) ∙ e))

number_case : (tags : List (List ℕ)) (t u : List ℕ) (n m : ℕ) → HasNumber tags t n → HasNumber tags u m → (b : Bool) → bytes_eq t u ≡ b → (n == m) ≡ b
number_case tags t u n m h k true e =
    eq-eqb n m (same_Some n m (sym h ∙ ap (λ (w : List ℕ). position (λ other. bytes_eq other w) tags) (equal_words t u e) ∙ k))
number_case tags t u n m h k false e = not_same tags t u n m h k e (n == m) refl

-- tags are the same where their numbers are
same_number : (tags : List (List ℕ)) (t u : List ℕ) (n m : ℕ) → HasNumber tags t n → HasNumber tags u m → (n == m) ≡ bytes_eq t u
same_number tags t u n m h k = number_case tags t u n m h k (bytes_eq t u) refl

keeps_case : (tags : List (List ℕ)) (word : List ℕ) (b : Bool) → list_any (λ name. bytes_eq name word) tags ≡ b → Keeps tags (if b then tags else tags ++ word ∷ [])
keeps_case tags word true e = λ tag n h. h
keeps_case tags word false e = λ tag n h. position_grown (λ other. bytes_eq other tag) tags (word ∷ []) n h

-- numbers stay where a tag is added
pub keeps_with : {A : Type 0} (es made : List (Entry A)) (tag : List ℕ) (value : A) → made ≡ with_value es tag value → Keeps (names_in es) (names_in made)
keeps_with es made tag value e =
    subst (λ (more : List (List ℕ)). Keeps (names_in es) more) (sym (ap (λ (x : List (Entry _)). names_in x) e ∙ names_with es tag value))
    (keeps_case (names_in es) tag (list_any (λ name. bytes_eq name tag) (names_in es)) refl)

length_names : {A : Type 0} (es : List (Entry A)) → length (names_in es) ≡ length es
length_names [] = refl
length_names (e ∷ es) = ap (λ n. suc n) (length_names es)

-- the number of a tag is its place in the table
pub number_found : {A : Type 0} (es : List (Entry A)) (tag : List ℕ) (n : ℕ) → Some n ≡ position (λ e. bytes_eq e.name tag) es → HasNumber (names_in es) tag n
number_found es tag n h = position-map (λ e. e.name) (λ other. bytes_eq other tag) es ∙ sym h

pub number_added : {A : Type 0} (es made : List (Entry A)) (tag : List ℕ) (value : A) (n : ℕ) → position (λ e. bytes_eq e.name tag) es ≡ None → made ≡ with_value es tag value
    → n ≡ length es → HasNumber (names_in made) tag n
number_added es made tag value n none e count =
    let new : position (λ other. bytes_eq other tag) (names_in es) ≡ None = position-map (λ e. e.name) (λ other. bytes_eq other tag) es ∙ none in
    let all : names_in made ≡ names_in es ++ tag ∷ [] =
    ap (λ (x : List (Entry _)). names_in x) e ∙ names_with es tag value ∙ sym (with_name-pushed (names_in es) tag new) in
    ap (position (λ other. bytes_eq other tag)) all ∙ sym (position-pushed (names_in es) tag new) ∙ ap (λ k. Some k) (length_names es ∙ sym count)

-- ---- kinds

same_keywords : (k : Keyword) → same_keyword k k ≡ true
same_keywords keyword.Struct = refl
same_keywords keyword.Union = refl
same_keywords keyword.Enum = refl

keyword_is : (a b : Keyword) → same_keyword a b ≡ true → a ≡ b
keyword_is keyword.Struct keyword.Struct h = refl
keyword_is keyword.Union keyword.Union h = refl
keyword_is keyword.Enum keyword.Enum h = refl
keyword_is a b h = absurd (true≢false (sym h))

-- a type that is an undefined tag of a number
record IsTagged (tags : List (List ℕ)) (keyword : Keyword) (n : ℕ) (b : BaseType) : Type 0 where
  tag : List ℕ
  is : b ≡ base.Undefined keyword tag
  number : HasNumber tags tag n

tagged_case : (tags : List (List ℕ)) (keyword other : Keyword) (tag : List ℕ) (n : ℕ) (same : Bool) → same_keyword keyword other ≡ same
    → (if same then position (λ other. bytes_eq other tag) tags else None) ≡ Some n → IsTagged tags keyword n (base.Undefined other tag)
tagged_case tags keyword other tag n true e h =
    record { tag = tag; is = ap (λ (k : Keyword). base.Undefined k tag) (sym (keyword_is keyword other e)); number = h }
tagged_case tags keyword other tag n false e h = absurd (none-some n h)

parts : (tags : List (List ℕ)) (keyword : Keyword) (n : ℕ) (b : BaseType) → IsOfKind tags (Undefined keyword n) b → IsTagged tags keyword n b
parts tags keyword n (base.Undefined other tag) h = tagged_case tags keyword other tag n (same_keyword keyword other) refl h
parts tags keyword n (base.Number scalar is_char) h = absurd (none-some n h)
parts tags keyword n base.Float h = absurd (none-some n h)
parts tags keyword n base.Double h = absurd (none-some n h)
parts tags keyword n base.Sizeless h = absurd (none-some n h)
parts tags keyword n (base.Structure id) h = absurd (none-some n h)
parts tags keyword n base.Unknown h = absurd (none-some n h)

pub undefined_kind : (tags : List (List ℕ)) (keyword : Keyword) (tag : List ℕ) (n : ℕ) (b : BaseType) → b ≡ base.Undefined keyword tag → HasNumber tags tag n
    → IsOfKind tags (Undefined keyword n) b
undefined_kind tags keyword tag n b e h =
    ap (λ (x : BaseType). tag_number tags keyword x) e
    ∙ ap (λ (c : Bool). if c then position (λ other. bytes_eq other tag) tags else None) (same_keywords keyword) ∙ h

pub kind_kept : (tags more : List (List ℕ)) → Keeps tags more → (k : Kind) (b : BaseType) → IsOfKind tags k b → IsOfKind more k b
kind_kept tags more keeps (Undefined keyword n) b h =
    let p = parts tags keyword n b h in undefined_kind more keyword p.tag n b p.is (keeps p.tag n p.number)
kind_kept tags more keeps (Number scalar is_char) b h = h
kind_kept tags more keeps Float b h = h
kind_kept tags more keeps Double b h = h
kind_kept tags more keeps Sizeless b h = h
kind_kept tags more keeps (Structure id) b h = h
kind_kept tags more keeps Unknown b h = h

-- types of one kind are one
pub one_base : (tags : List (List ℕ)) (k : Kind) (b c : BaseType) → IsOfKind tags k b → IsOfKind tags k c → b ≡ c
one_base tags (Undefined keyword n) b c h k =
    let p = parts tags keyword n b h in
    let q = parts tags keyword n c k in
    p.is ∙ ap (λ (t : List ℕ). base.Undefined keyword t) (one_tag tags p.tag q.tag n p.number q.number) ∙ sym q.is
one_base tags (Number scalar is_char) b c h k = h ∙ sym k
one_base tags Float b c h k = h ∙ sym k
one_base tags Double b c h k = h ∙ sym k
one_base tags Sizeless b c h k = h ∙ sym k
one_base tags (Structure id) b c h k = h ∙ sym k
one_base tags Unknown b c h k = h ∙ sym k

-- the tag at a number
pub tag_entry : {A : Type 0} (es : List (Entry A)) (tag : List ℕ) (n : ℕ) (e : Entry A) → HasNumber (names_in es) tag n → Some e ≡ slice_get es n → e.name ≡ tag
tag_entry es tag n e h found =
    same_Some e.name tag (ap (option_map (λ e. e.name)) found ∙ sym (slice_get-map (λ e. e.name) es n) ∙ tag_at (names_in es) tag n h)

pub tag_missing : {A : Type 0} (es : List (Entry A)) (tag : List ℕ) (n : ℕ) → HasNumber (names_in es) tag n → None ≡ slice_get es n → ⊥
tag_missing es tag n h none =
    none-some tag (ap (option_map (λ e. e.name)) none ∙ sym (slice_get-map (λ e. e.name) es n) ∙ tag_at (names_in es) tag n h)

-- the type of an undefined tag
pub base_at : {A : Type 0} (es : List (Entry A)) (kind : Kind) (keyword : Keyword) (n : ℕ) (e : Entry A) (name : List ℕ) → kind ≡ Undefined keyword n
    → Some e ≡ slice_get es n → name ≡ e.name → (other : BaseType) → IsOfKind (names_in es) kind other → base.Undefined keyword name ≡ other
base_at es kind keyword n e name k found same other h =
    let p = parts (names_in es) keyword n other (subst (λ (x : Kind). IsOfKind (names_in es) x other) k h) in
    ap (λ (t : List ℕ). base.Undefined keyword t) (same ∙ tag_entry es p.tag n e p.number found) ∙ sym p.is

-- ---- meanings

kept_is : (tags : List (List ℕ)) (k : Kind) (b : BaseType) → IsOfKind tags k b → is_kept k ≡ is_transparent b
kept_is tags (Undefined keyword.Struct n) b h = sym (ap is_transparent (parts tags keyword.Struct n b h).is)
kept_is tags (Undefined keyword.Union n) b h = sym (ap is_transparent (parts tags keyword.Union n b h).is)
kept_is tags (Undefined keyword.Enum n) b h = sym (ap is_transparent (parts tags keyword.Enum n b h).is)
kept_is tags (Number scalar is_char) b h = sym (ap is_transparent h)
kept_is tags Float b h = sym (ap is_transparent h)
kept_is tags Double b h = sym (ap is_transparent h)
kept_is tags Sizeless b h = sym (ap is_transparent h)
kept_is tags (Structure id) b h = sym (ap is_transparent h)
kept_is tags Unknown b h = sym (ap is_transparent h)

kept_case : (tags : List (List ℕ)) (k : Kind) (b : BaseType) (s : Stars) (x y : Bool) → x ≡ y → IsOfKind tags k b
    → IsMeant tags (if x then record { kind = k; stars = s } else unkept) (if y then record { base = b; stars = s } else opaque)
kept_case tags k b s true true e h = (h, refl)
kept_case tags k b s false false e h = (refl, refl)
kept_case tags k b s true false e h = absurd (true≢false e)
kept_case tags k b s false true e h = absurd (true≢false (sym e))

kept_meant : (tags : List (List ℕ)) (k : Kind) (b : BaseType) (s : Stars) → IsOfKind tags k b → IsMeant tags (kept k s) (transparent b s)
kept_meant tags k b s h = kept_case tags k b s (is_kept k) (is_transparent b) (kept_is tags k b h) h

one_star : (tags : List (List ℕ)) (k : Kind) (b : BaseType) (s : Stars) → IsOfKind tags k b → IsMeant tags (kept_after One k s) (following One b s)
unfolding kept_after following
one_star tags k b Zero h = kept_meant tags k b One h
one_star tags k b One h = (refl, refl)
one_star tags k b Two h = (refl, refl)
one_star tags k b More h = (refl, refl)

-- what a typedef means, by numbers and by names
pub after_meant : (tags : List (List ℕ)) (s : Stars) (m : Meant) (r : Resolved) → IsMeant tags m r → IsMeant tags (meant_after s m) (means_after s r)
unfolding kept_after following
after_meant tags Zero m r h =
    subst (λ (s : Stars). IsMeant tags (kept m.kind s) (transparent r.base r.stars)) h.1 (kept_meant tags m.kind r.base r.stars h.0)
after_meant tags One m r h =
    subst (λ (s : Stars). IsMeant tags (kept_after One m.kind s) (following One r.base r.stars)) h.1 (one_star tags m.kind r.base r.stars h.0)
after_meant tags Two m r h = (refl, refl)
after_meant tags More m r h = (refl, refl)

-- ---- the same meaning

kinds_same : (tags : List (List ℕ)) (a b : Kind) (x y : BaseType) → IsOfKind tags a x → IsOfKind tags b y → same_kind a b ≡ same_base x y
kinds_same tags (Undefined keyword n) (Undefined other m) x y h k =
    let p = parts tags keyword n x h in
    let q = parts tags other m y k in
    ap (λ (b : Bool). same_keyword keyword other && b) (same_number tags p.tag q.tag n m p.number q.number) ∙ sym (ap₂ same_base p.is q.is)
kinds_same tags (Undefined keyword n) (Number scalar is_char) x y h k = sym (ap₂ same_base (parts tags keyword n x h).is k)
kinds_same tags (Undefined keyword n) Float x y h k = sym (ap₂ same_base (parts tags keyword n x h).is k)
kinds_same tags (Undefined keyword n) Double x y h k = sym (ap₂ same_base (parts tags keyword n x h).is k)
kinds_same tags (Undefined keyword n) Sizeless x y h k = sym (ap₂ same_base (parts tags keyword n x h).is k)
kinds_same tags (Undefined keyword n) (Structure id) x y h k = sym (ap₂ same_base (parts tags keyword n x h).is k)
kinds_same tags (Undefined keyword n) Unknown x y h k = sym (ap₂ same_base (parts tags keyword n x h).is k)
kinds_same tags (Number scalar is_char) (Undefined keyword m) x y h k = sym (ap₂ same_base h (parts tags keyword m y k).is)
kinds_same tags Float (Undefined keyword m) x y h k = sym (ap₂ same_base h (parts tags keyword m y k).is)
kinds_same tags Double (Undefined keyword m) x y h k = sym (ap₂ same_base h (parts tags keyword m y k).is)
kinds_same tags Sizeless (Undefined keyword m) x y h k = sym (ap₂ same_base h (parts tags keyword m y k).is)
kinds_same tags (Structure id) (Undefined keyword m) x y h k = sym (ap₂ same_base h (parts tags keyword m y k).is)
kinds_same tags Unknown (Undefined keyword m) x y h k = sym (ap₂ same_base h (parts tags keyword m y k).is)
kinds_same tags a b x y h k = sym (ap₂ same_base h k)

pub meant_same : (tags : List (List ℕ)) (a b : Meant) (x y : Resolved) → IsMeant tags a x → IsMeant tags b y
    → (same_kind a.kind b.kind && same_stars a.stars b.stars) ≡ same_type x y
meant_same tags a b x y h k = ap₂ (λ (p q : Bool). p && q) (kinds_same tags a.kind b.kind x.base y.base h.0 k.0) (sym (ap₂ same_stars h.1 k.1))
