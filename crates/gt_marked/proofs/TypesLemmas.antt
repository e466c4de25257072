-- Types are read as their rules say.
use Rattle.std.proofs.Common.{◌≡◌, ℕ, zero, suc, ◌≤◌, Bool, true, false, ◌&&◌, List, [], ◌∷◌, length, codes, Option, Some, None, refl, sym, ap, ◌∙◌, arith}
use Rattle.std.specs.Str.{bytes_eq}
use Rattle.gt_items.specs.declared.items.Stars.{Stars}
use Rattle.gt_items.specs.declared.items.Stars.TheVariants.{Zero, One, Two, More}
use Rattle.gt_items.specs.declared.items.Combination.{Combination}
use Rattle.gt_items.specs.declared.items.Keyword.{Keyword}
use Rattle.gt_items.specs.declared.items.RawOption.{RawOption}
use Rattle.gt_items.specs.declared.items.RawType.{RawType}
use Rattle.gt_items.specs.declared.items.RawType.TheVariants.{Words, Named}
use Rattle.gt_search.specs.declared.lexeme.TokenText.{TokenText}
use Rattle.gt_search.specs.declared.lexeme.Bracket.TheVariants.{Round, Brace}
use Rattle.gt_search.specs.declared.lexeme.TypeWord.{TypeWord}
use Rattle.gt_search.specs.declared.lexeme.Lexeme.{Lexeme}
use Rattle.gt_search.specs.declared.lexeme.Lexeme.TheVariants as lexeme
use Rattle.gt_marked.specs.declared.types.Context.{Context}
use Rattle.gt_marked.specs.declared.types.Context.TheVariants.{InField, Elsewhere}
use Rattle.gt_search.specs.Lexemes.{name_of}
use Rattle.gt_marked.specs.MarkerGrammar.{failed, begins, opens_round, Marker}
use Rattle.gt_marked.specs.Markers.{marker_at}
use Rattle.gt_marked.specs.Outcome.{Outcome, Read, Stops, Ends, ◌>>=◌, unexpected}
use Rattle.gt_search.specs.Search.{is_gty}
use Rattle.gt_marked.specs.TypeGrammar.{is_name, is_star, is_qualifier, opens_brace, begins_type, goes_on, in_field, Qualifiers, AreStars, MoreWords, BareType, AType}
use Rattle.gt_marked.specs.Types.{no_words, with_word, is_unsigned_alone, one_more, without_qualifiers, stars_from, stars_at, name_at, words_from, no_brace_at, no_body_at, tagged_at, bitfield_at, after_bitfield, bare_type_at, type_at}
use Rattle.gt_marked.proofs.GrammarWords.{Has, allowed, Comes, read, unread, comes, failed_step, unexpected_step, Leaves, failed_leaves, unexpected_leaves, no_close_round}
use Rattle.gt_marked.proofs.MarkersLemmas.{marker-one, marker_has}

pub no_name : (ts : List Lexeme) → begins is_name ts ≡ false → name_at ts ≡ unexpected ts
unfolding name_at
no_name [] h = refl
no_name (lexeme.Name s ∷ ts) h = absurd cc
no_name (t ∷ ts) h = refl

pub a_name : (s : TokenText) (ts : List Lexeme) → name_at (lexeme.Name s ∷ ts) ≡ Read (name_of s) ts
unfolding name_at
a_name s ts = refl

-- ---- qualifiers

pub no_qualifiers : (ts : List Lexeme) → begins is_qualifier ts ≡ false → without_qualifiers ts ≡ ts
unfolding without_qualifiers
no_qualifiers [] h = refl
no_qualifiers (lexeme.Qualifier s ∷ ts) h = absurd cc
no_qualifiers (t ∷ ts) h = refl

pub qualifiers-one : {ts us : List Lexeme} → Qualifiers ts us → without_qualifiers ts ≡ us
unfolding without_qualifiers
qualifiers-one (Qualifiers.no_qualifier {ts} h) = no_qualifiers ts h
qualifiers-one (Qualifiers.qualifier s q) = qualifiers-one q

pub qualifiers-leaves : {ts us : List Lexeme} → Qualifiers ts us → length us ≤ length ts
qualifiers-leaves (Qualifiers.no_qualifier h) = omega arith
qualifiers-leaves (Qualifiers.qualifier s q) = omega (arith, qualifiers-leaves q)

pub record HasQualified (ts : List Lexeme) : Type 0 where
  pub following : List Lexeme
  pub qualifiers : Qualifiers ts following

pub qualifiers_has : (ts : List Lexeme) → HasQualified ts
qualifiers_has (lexeme.Qualifier s ∷ ts) = record { following = (qualifiers_has ts).following; qualifiers = Qualifiers.qualifier s (qualifiers_has ts).qualifiers }
qualifiers_has [] = record { following = []; qualifiers = Qualifiers.no_qualifier refl }
qualifiers_has (t ∷ ts) = record { following = t ∷ ts; qualifiers = Qualifiers.no_qualifier refl }

pub qualifiers-done : {ts us : List Lexeme} → Qualifiers ts us → begins is_qualifier us ≡ false
qualifiers-done (Qualifiers.no_qualifier h) = h
qualifiers-done (Qualifiers.qualifier s q) = qualifiers-done q

qualifiers-no_star : {ts us : List Lexeme} → Qualifiers ts us → begins is_star us ≡ false → begins is_star ts ≡ false
qualifiers-no_star (Qualifiers.no_qualifier h) k = k
qualifiers-no_star (Qualifiers.qualifier s q) k = refl

-- ---- stars

abbrev plus : Stars → Stars → Stars
plus Zero n = n
plus One n = one_more n
plus Two n = one_more (one_more n)
plus More n = More

no_more_stars : (stars : Stars) (ts : List Lexeme) → begins is_star ts ≡ false → begins is_qualifier ts ≡ false → stars_from stars ts ≡ (stars, ts)
unfolding stars_from
no_more_stars stars [] h k = refl
no_more_stars stars (lexeme.Star s ∷ ts) h k = absurd cc
no_more_stars stars (lexeme.Qualifier s ∷ ts) h k = absurd cc
no_more_stars stars (t ∷ ts) h k = refl

stars_after : {ts us : List Lexeme} → Qualifiers ts us → (stars : Stars) → stars_from stars ts ≡ stars_from stars us
unfolding stars_from
stars_after (Qualifiers.no_qualifier h) stars = refl
stars_after (Qualifiers.qualifier s q) stars = stars_after q stars

plus_zero : (stars : Stars) → plus stars Zero ≡ stars
plus_zero Zero = refl
plus_zero One = refl
plus_zero Two = refl
plus_zero More = refl

plus_more : (stars n : Stars) → plus (one_more stars) n ≡ plus stars (one_more n)
plus_more Zero n = refl
plus_more One n = refl
plus_more Two Zero = refl
plus_more Two One = refl
plus_more Two Two = refl
plus_more Two More = refl
plus_more More n = refl

stars-from : {ts us : List Lexeme} {n : Stars} → AreStars ts n us → begins is_qualifier ts ≡ false → (stars : Stars) → stars_from stars ts ≡ (plus stars n, us)
unfolding stars_from
stars-from (AreStars.no_star {ts} h) k stars = rw (plus_zero stars) (no_more_stars stars ts h k)
stars-from (AreStars.star {rest} {stars = n} s q a) k stars =
    stars_after q (one_more stars) ∙ stars-from a (qualifiers-done q) (one_more stars) ∙ ap (λ (m : Stars). (m, rest)) (plus_more stars n)

no_stars : (ts : List Lexeme) → begins is_star ts ≡ false → stars_at ts ≡ (Zero, ts)
unfolding stars_at
no_stars [] h = refl
no_stars (lexeme.Star s ∷ ts) h = absurd cc
no_stars (t ∷ ts) h = refl

pub stars-one : {ts us : List Lexeme} {n : Stars} → AreStars ts n us → stars_at ts ≡ (n, us)
unfolding stars_at
stars-one (AreStars.no_star {ts} h) = no_stars ts h
stars-one (AreStars.star s q a) = stars_after q One ∙ stars-from a (qualifiers-done q) One

pub stars-leaves : {ts us : List Lexeme} {n : Stars} → AreStars ts n us → length us ≤ length ts
stars-leaves (AreStars.no_star h) = omega arith
stars-leaves (AreStars.star s q a) = omega (arith, qualifiers-leaves q, stars-leaves a)

pub record HasStars (ts : List Lexeme) : Type 0 where
  pub stars : Stars
  pub following : List Lexeme
  pub are : AreStars ts stars following

one_star_has : (s : TokenText) (ts us : List Lexeme) → Qualifiers ts us → HasStars us → HasStars (lexeme.Star s ∷ ts)
one_star_has s ts us q has = record { stars = one_more has.stars; following = has.following; are = AreStars.star s q has.are }

stars_up_to : (n : ℕ) (ts : List Lexeme) → length ts ≤ n → HasStars ts
stars_up_to zero (t ∷ ts) h = absurd (omega arith)
stars_up_to (suc n) (lexeme.Star s ∷ ts) h =
    let q = qualifiers_has ts in
    one_star_has s ts q.following q.qualifiers (stars_up_to n q.following (omega (arith, qualifiers-leaves q.qualifiers)))
stars_up_to n [] h = record { stars = Zero; following = []; are = AreStars.no_star refl }
stars_up_to n (t ∷ ts) h = record { stars = Zero; following = t ∷ ts; are = AreStars.no_star refl }

pub stars_has : (ts : List Lexeme) → HasStars ts
stars_has ts = stars_up_to (length ts) ts (omega arith)

-- ---- words

no_more_words : (before : Combination) (ts : List Lexeme) → begins goes_on ts ≡ false → words_from before ts ≡ Read (Words before) ts
unfolding words_from
no_more_words before [] h = refl
no_more_words before (lexeme.Type w s ∷ ts) h = absurd cc
no_more_words before (lexeme.Qualifier s ∷ ts) h = absurd cc
no_more_words before (lexeme.Name s ∷ ts) h = absurd cc
no_more_words before (t ∷ ts) h = refl

words-one : {before : Combination} {ts : List Lexeme} {o : Outcome RawType} → MoreWords before ts o → o ≡ words_from before ts
unfolding words_from
words-one (MoreWords.word w s e m) = rw e (words-one m)
words-one (MoreWords.bad_word w s e) = rw e refl
words-one (MoreWords.qualifier s m) = words-one m
words-one (MoreWords.host_wide s h k q) = rw (h, k, qualifiers-one q) refl
words-one (MoreWords.name_after s h) = rw h refl
words-one (MoreWords.no_word {before} {ts} h) = sym (no_more_words before ts h)

words-leaves : {before : Combination} {ts : List Lexeme} {o : Outcome RawType} → MoreWords before ts o → Leaves (length ts) o
words-leaves (MoreWords.word {o = Read x us} w s e m) = omega (arith, words-leaves m)
words-leaves (MoreWords.word {o = Stops number at} w s e m) = tt
words-leaves (MoreWords.word {o = Ends} w s e m) = tt
words-leaves (MoreWords.bad_word w s e) = tt
words-leaves (MoreWords.qualifier {o = Read x us} s m) = omega (arith, words-leaves m)
words-leaves (MoreWords.qualifier {o = Stops number at} s m) = tt
words-leaves (MoreWords.qualifier {o = Ends} s m) = tt
words-leaves (MoreWords.host_wide s h k q) = omega (arith, qualifiers-leaves q)
words-leaves (MoreWords.name_after s h) = omega arith
words-leaves (MoreWords.no_word h) = omega arith

word_has : (before : Combination) (w : TypeWord) (s : TokenText) (ts : List Lexeme) (with_it : Option Combination) → with_word w before ≡ with_it
    → ((c : Combination) → Has (MoreWords c) ts) → Has (MoreWords before) (lexeme.Type w s ∷ ts)
word_has before w s ts (Some with_it) e has = record { outcome = (has with_it).outcome; holds = MoreWords.word w s e (has with_it).holds }
word_has before w s ts None e has = record { outcome = _; holds = MoreWords.bad_word w s e }

name_has : (before : Combination) (s : TokenText) (ts : List Lexeme) (alone host : Bool) → is_unsigned_alone before ≡ alone → bytes_eq s.word (codes "HOST_WIDE_INT") ≡ host
    → Has (MoreWords before) (lexeme.Name s ∷ ts)
name_has before s ts true true h k = record { outcome = _; holds = MoreWords.host_wide s h k (qualifiers_has ts).qualifiers }
name_has before s ts false host h k = record { outcome = _; holds = MoreWords.name_after s (rw h refl) }
name_has before s ts true false h k = record { outcome = _; holds = MoreWords.name_after s (rw (h, k) refl) }

words_has : (ts : List Lexeme) (before : Combination) → Has (MoreWords before) ts
words_has (lexeme.Type w s ∷ ts) before = word_has before w s ts (with_word w before) refl (words_has ts)
words_has (lexeme.Qualifier s ∷ ts) before = record { outcome = (words_has ts before).outcome; holds = MoreWords.qualifier s (words_has ts before).holds }
words_has (lexeme.Name s ∷ ts) before = name_has before s ts (is_unsigned_alone before) (bytes_eq s.word (codes "HOST_WIDE_INT")) refl refl
words_has [] before = record { outcome = _; holds = MoreWords.no_word refl }
words_has (t ∷ ts) before = record { outcome = _; holds = MoreWords.no_word refl }

-- ---- types

no_brace : (place : Context) (ts : List Lexeme) → begins opens_brace ts ≡ false → no_brace_at place ts ≡ Read tt ts
no_brace place [] h = refl
no_brace place (lexeme.Open Brace s ∷ ts) h = absurd cc
no_brace place (t ∷ ts) h = refl

unmarked : (place : Context) (ts : List Lexeme) → (in_field place && begins is_gty ts) ≡ false → no_body_at place ts ≡ no_brace_at place ts
unfolding no_body_at
unmarked InField [] h = refl
unmarked InField (lexeme.Gty g ∷ ts) h = absurd cc
unmarked InField (t ∷ ts) h = refl
unmarked Elsewhere ts h = refl

brace_body : (place : Context) (b : TokenText) (ts : List Lexeme) → no_body_at place (lexeme.Open Brace b ∷ ts) ≡ no_brace_at place (lexeme.Open Brace b ∷ ts)
unfolding no_body_at
brace_body InField b ts = refl
brace_body Elsewhere b ts = refl

marked : (place : Context) (g : TokenText) (ts : List Lexeme) → in_field place ≡ true
    → no_body_at place (lexeme.Gty g ∷ ts)
    ≡ (marker_at (lexeme.Gty g ∷ ts) >>= λ options. no_brace_at InField options.1 >>= λ no_brace. Read tt (lexeme.Gty g ∷ ts))
unfolding no_body_at
marked InField g ts h = refl
marked Elsewhere g ts h = absurd cc

no_tags : (place : Context) (k : Keyword) (ts : List Lexeme) → begins is_name ts ≡ false → begins opens_brace ts ≡ false → tagged_at place k ts ≡ unexpected ts
unfolding tagged_at
no_tags place k [] h g = refl
no_tags place k (lexeme.Name s ∷ ts) h g = absurd cc
no_tags place k (lexeme.Open Brace s ∷ ts) h g = absurd cc
no_tags place k (t ∷ ts) h g = refl

no_bracket : (place : Context) (s : TokenText) (ts : List Lexeme) → begins opens_round ts ≡ false → after_bitfield place s ts ≡ Read (Named (name_of s)) ts
no_bracket InField s [] h = refl
no_bracket InField s (lexeme.Open Round p ∷ ts) h = absurd cc
no_bracket InField s (t ∷ ts) h = refl
no_bracket Elsewhere s [] h = refl
no_bracket Elsewhere s (lexeme.Open Round p ∷ ts) h = absurd cc
no_bracket Elsewhere s (t ∷ ts) h = refl

-- a name has to stand after a bracket, where no pointer to a function is declared
bitfield_bracket : (place : Context) (s a : TokenText) (ts : List Lexeme) → (in_field place && begins is_star ts) ≡ false
    → after_bitfield place s (lexeme.Open Round a ∷ ts) ≡ bitfield_at ts
bitfield_bracket InField s a [] h = refl
bitfield_bracket InField s a (lexeme.Star p ∷ ts) h = absurd cc
bitfield_bracket InField s a (t ∷ ts) h = refl
bitfield_bracket Elsewhere s a ts h = refl

pointer : (place : Context) (s a p : TokenText) (ts : List Lexeme) → in_field place ≡ true
    → after_bitfield place s (lexeme.Open Round a ∷ lexeme.Star p ∷ ts) ≡ Read (Named (name_of s)) (lexeme.Open Round a ∷ lexeme.Star p ∷ ts)
pointer InField s a p ts h = refl
pointer Elsewhere s a p ts h = absurd cc

no_pointer : (place : Context) (ts : List Lexeme) → begins is_star ts ≡ false → (in_field place && begins is_star ts) ≡ false
no_pointer InField ts h = h
no_pointer Elsewhere ts h = refl

no_types : (place : Context) (ts : List Lexeme) → begins begins_type ts ≡ false → bare_type_at place ts ≡ unexpected ts
unfolding bare_type_at
no_types place [] h = refl
no_types place (lexeme.Type w s ∷ ts) h = absurd cc
no_types place (lexeme.Tag k s ∷ ts) h = absurd cc
no_types place (lexeme.Name s ∷ ts) h = absurd cc
no_types place (t ∷ ts) h = refl

pub bare_type-one : {place : Context} {ts : List Lexeme} {o : Outcome RawType} → BareType place ts o → o ≡ bare_type_at place ts
unfolding bare_type_at tagged_at bitfield_at words_from
bare_type-one (BareType.words w s m) = words-one m
bare_type-one {place} (BareType.tagged {rest} k t s q r h g) = rw (qualifiers-one q, qualifiers-one r, unmarked place rest g, no_brace place rest h) refl
bare_type-one {place} (BareType.before_marker {rest} {following} k t s g f q r m h) =
    rw (qualifiers-one q, qualifiers-one r, marked place g rest f, ← marker-one m, no_brace InField following h) refl
bare_type-one {place} (BareType.with_body {rest} k t s b q r) = rw (qualifiers-one q, qualifiers-one r, brace_body place b rest) refl
bare_type-one {place} (BareType.marked_body {rest} k t s g b f q r m) = rw (qualifiers-one q, qualifiers-one r, marked place g rest f, ← marker-one m) refl
bare_type-one {place} (BareType.in_marker {rest} k t s g why f q r m) =
    rw (qualifiers-one q, qualifiers-one r, marked place g rest f, ← marker-one m, failed_step, failed_step) refl
bare_type-one (BareType.body_alone k t b q) = rw (qualifiers-one q) refl
bare_type-one {place} (BareType.no_tag {rest} k t q h g) = rw (qualifiers-one q) (sym (no_tags place k rest h g))
bare_type-one (BareType.named s e q) = rw (e, qualifiers-one q) refl
bare_type-one {place} (BareType.bitfield {us} {vs} {ws} s a n b e q r p z) =
    rw (e, qualifiers-one q, bitfield_bracket place s a us (no_pointer place us (qualifiers-no_star r refl)), qualifiers-one r, a_name n vs, qualifiers-one p, qualifiers-one z) refl
bare_type-one {place} (BareType.no_bitfield {rest} s e q h) = rw (e, qualifiers-one q) (sym (no_bracket place s rest h))
bare_type-one {place} (BareType.function_pointer {rest} s a p f e q) = rw (e, qualifiers-one q, pointer place s a p rest f) refl
bare_type-one {place} (BareType.bitfield_no_name {us} {rest} s a e q h r k) =
    rw (e, qualifiers-one q, bitfield_bracket place s a us h, qualifiers-one r, no_name rest k, unexpected_step) refl
bare_type-one {place} (BareType.bitfield_not_closed {us} {vs} {rest} s a n e q r p k) =
    rw (e, qualifiers-one q, bitfield_bracket place s a us (no_pointer place us (qualifiers-no_star r refl)), qualifiers-one r, a_name n vs, qualifiers-one p, no_close_round rest k, unexpected_step) refl
bare_type-one {place} (BareType.no_type {ts} h) = sym (no_types place ts h)

bare_type-leaves : {place : Context} {ts : List Lexeme} {o : Outcome RawType} → BareType place ts o → Leaves (length ts) o
bare_type-leaves (BareType.words w s m) = words-leaves m
bare_type-leaves (BareType.tagged k t s q r h g) = omega (arith, qualifiers-leaves q, qualifiers-leaves r)
bare_type-leaves (BareType.before_marker k t s g f q r m h) = omega (arith, qualifiers-leaves q, qualifiers-leaves r)
bare_type-leaves (BareType.with_body k t s b q r) = tt
bare_type-leaves (BareType.body_alone k t b q) = tt
bare_type-leaves (BareType.marked_body k t s g b f q r m) = tt
bare_type-leaves (BareType.in_marker k t s g why f q r m) = failed_leaves RawType why _
bare_type-leaves (BareType.no_tag {rest} k t q h g) = unexpected_leaves RawType rest _
bare_type-leaves (BareType.named s e q) = omega (arith, qualifiers-leaves q)
bare_type-leaves (BareType.bitfield s a n b e q r p z) = omega (arith, qualifiers-leaves q, qualifiers-leaves r, qualifiers-leaves p, qualifiers-leaves z)
bare_type-leaves (BareType.no_bitfield s e q h) = omega (arith, qualifiers-leaves q)
bare_type-leaves (BareType.function_pointer s a p f e q) = omega (arith, qualifiers-leaves q)
bare_type-leaves (BareType.bitfield_no_name {rest} s a e q h r k) = unexpected_leaves RawType rest _
bare_type-leaves (BareType.bitfield_not_closed {rest} s a n e q r p k) = unexpected_leaves RawType rest _
bare_type-leaves (BareType.no_type {ts} h) = unexpected_leaves RawType ts _

-- a marker after a tag in a field
marker_after_tag : (k : Keyword) (t s g : TokenText) (ts us rest : List Lexeme) → Qualifiers ts (lexeme.Name s ∷ us) → Qualifiers us (lexeme.Gty g ∷ rest)
    → {o : Outcome (List RawOption)} → Marker (lexeme.Gty g ∷ rest) o → Comes o → Has (BareType InField) (lexeme.Tag k t ∷ ts)
marker_after_tag k t s g ts us rest q r m (unread why) = record { outcome = failed why; holds = BareType.in_marker k t s g why refl q r m }
marker_after_tag k t s g ts us rest q r m (read options (lexeme.Open Brace b ∷ following)) = record { outcome = _; holds = BareType.marked_body k t s g b refl q r m }
marker_after_tag k t s g ts us rest q r m (read options []) = record { outcome = _; holds = BareType.before_marker k t s g refl q r m refl }
marker_after_tag k t s g ts us rest q r m (read options (u ∷ following)) = record { outcome = _; holds = BareType.before_marker k t s g refl q r m refl }

tag_after : (place : Context) (k : Keyword) (t s : TokenText) (ts us rest : List Lexeme) → Qualifiers ts (lexeme.Name s ∷ us) → Qualifiers us rest → Has (BareType place) (lexeme.Tag k t ∷ ts)
tag_after place k t s ts us (lexeme.Open Brace b ∷ rest) q r = record { outcome = _; holds = BareType.with_body k t s b q r }
tag_after InField k t s ts us (lexeme.Gty g ∷ rest) q r =
    let has = marker_has (lexeme.Gty g ∷ rest) in marker_after_tag k t s g ts us rest q r has.holds (comes has.outcome)
tag_after InField k t s ts us [] q r = record { outcome = _; holds = BareType.tagged k t s q r refl refl }
tag_after InField k t s ts us (u ∷ rest) q r = record { outcome = _; holds = BareType.tagged k t s q r refl refl }
tag_after Elsewhere k t s ts us [] q r = record { outcome = _; holds = BareType.tagged k t s q r refl refl }
tag_after Elsewhere k t s ts us (u ∷ rest) q r = record { outcome = _; holds = BareType.tagged k t s q r refl refl }

tagged_has : (place : Context) (k : Keyword) (t : TokenText) (ts us : List Lexeme) → Qualifiers ts us → Has (BareType place) (lexeme.Tag k t ∷ ts)
tagged_has place k t ts (lexeme.Name s ∷ us) q = tag_after place k t s ts us (qualifiers_has us).following q (qualifiers_has us).qualifiers
tagged_has place k t ts (lexeme.Open Brace b ∷ us) q = record { outcome = _; holds = BareType.body_alone k t b q }
tagged_has place k t ts [] q = record { outcome = unexpected []; holds = BareType.no_tag k t q refl refl }
tagged_has place k t ts (u ∷ us) q = record { outcome = unexpected (u ∷ us); holds = BareType.no_tag k t q refl refl }

bitfield_closes : (place : Context) (s a n : TokenText) (ts us vs rest : List Lexeme) → bytes_eq s.word (codes "ENUM_BITFIELD") ≡ true
    → Qualifiers ts (lexeme.Open Round a ∷ us) → Qualifiers us (lexeme.Name n ∷ vs) → Qualifiers vs rest → Has (BareType place) (lexeme.Name s ∷ ts)
bitfield_closes place s a n ts us vs (lexeme.Close Round b ∷ rest) e q r p = record { outcome = _; holds = BareType.bitfield s a n b e q r p (qualifiers_has rest).qualifiers }
bitfield_closes place s a n ts us vs [] e q r p = record { outcome = unexpected []; holds = BareType.bitfield_not_closed s a n e q r p refl }
bitfield_closes place s a n ts us vs (u ∷ rest) e q r p = record { outcome = unexpected (u ∷ rest); holds = BareType.bitfield_not_closed s a n e q r p refl }

bitfield_name : (place : Context) (s a : TokenText) (ts us rest : List Lexeme) → bytes_eq s.word (codes "ENUM_BITFIELD") ≡ true
    → Qualifiers ts (lexeme.Open Round a ∷ us) → (in_field place && begins is_star us) ≡ false → Qualifiers us rest → Has (BareType place) (lexeme.Name s ∷ ts)
bitfield_name place s a ts us (lexeme.Name n ∷ rest) e q h r = bitfield_closes place s a n ts us rest (qualifiers_has rest).following e q r (qualifiers_has rest).qualifiers
bitfield_name place s a ts us [] e q h r = record { outcome = unexpected []; holds = BareType.bitfield_no_name s a e q h r refl }
bitfield_name place s a ts us (u ∷ rest) e q h r = record { outcome = unexpected (u ∷ rest); holds = BareType.bitfield_no_name s a e q h r refl }

bitfield_opened : (place : Context) (s a : TokenText) (ts us : List Lexeme) → bytes_eq s.word (codes "ENUM_BITFIELD") ≡ true
    → Qualifiers ts (lexeme.Open Round a ∷ us) → Has (BareType place) (lexeme.Name s ∷ ts)
bitfield_opened InField s a ts (lexeme.Star p ∷ us) e q = record { outcome = _; holds = BareType.function_pointer s a p refl e q }
bitfield_opened InField s a ts [] e q = bitfield_name InField s a ts [] (qualifiers_has []).following e q refl (qualifiers_has []).qualifiers
bitfield_opened InField s a ts (u ∷ us) e q = bitfield_name InField s a ts (u ∷ us) (qualifiers_has (u ∷ us)).following e q refl (qualifiers_has (u ∷ us)).qualifiers
bitfield_opened Elsewhere s a ts us e q = bitfield_name Elsewhere s a ts us (qualifiers_has us).following e q refl (qualifiers_has us).qualifiers

bitfield_has : (place : Context) (s : TokenText) (ts us : List Lexeme) → bytes_eq s.word (codes "ENUM_BITFIELD") ≡ true → Qualifiers ts us → Has (BareType place) (lexeme.Name s ∷ ts)
bitfield_has place s ts (lexeme.Open Round a ∷ us) e q = bitfield_opened place s a ts us e q
bitfield_has place s ts [] e q = record { outcome = _; holds = BareType.no_bitfield s e q refl }
bitfield_has place s ts (u ∷ us) e q = record { outcome = _; holds = BareType.no_bitfield s e q refl }

named_has : (place : Context) (s : TokenText) (ts : List Lexeme) (is : Bool) → bytes_eq s.word (codes "ENUM_BITFIELD") ≡ is → Has (BareType place) (lexeme.Name s ∷ ts)
named_has place s ts true e = bitfield_has place s ts (qualifiers_has ts).following e (qualifiers_has ts).qualifiers
named_has place s ts false e = record { outcome = _; holds = BareType.named s e (qualifiers_has ts).qualifiers }

bare_type_has : (place : Context) (ts : List Lexeme) → Has (BareType place) ts
bare_type_has place (lexeme.Type w s ∷ ts) = record { outcome = _; holds = BareType.words w s (words_has (lexeme.Type w s ∷ ts) no_words).holds }
bare_type_has place (lexeme.Tag k t ∷ ts) = tagged_has place k t ts (qualifiers_has ts).following (qualifiers_has ts).qualifiers
bare_type_has place (lexeme.Name s ∷ ts) = named_has place s ts (bytes_eq s.word (codes "ENUM_BITFIELD")) refl
bare_type_has place [] = record { outcome = unexpected []; holds = BareType.no_type refl }
bare_type_has place (t ∷ ts) = record { outcome = unexpected (t ∷ ts); holds = BareType.no_type refl }

type-one : {place : Context} {ts : List Lexeme} {o : Outcome RawType} → AType place ts o → o ≡ type_at place ts
unfolding type_at
type-one (AType.type q b) = rw (qualifiers-one q) (bare_type-one b)

pub type-leaves : {place : Context} {ts : List Lexeme} {o : Outcome RawType} → AType place ts o → Leaves (length ts) o
type-leaves (AType.type {o = Read x us} q b) = omega (arith, qualifiers-leaves q, bare_type-leaves b)
type-leaves (AType.type {o = Stops number at} q b) = tt
type-leaves (AType.type {o = Ends} q b) = tt

pub type_has : (place : Context) (ts : List Lexeme) → Has (AType place) ts
type_has place ts =
    let bare = bare_type_has place (qualifiers_has ts).following in
    record { outcome = bare.outcome; holds = AType.type (qualifiers_has ts).qualifiers bare.holds }

pub type-alone : (place : Context) (ts : List Lexeme) (o : Outcome RawType) → AType place ts o → o ≡ type_at place ts
type-alone place ts o d = type-one d

pub type-allowed : (place : Context) (ts : List Lexeme) → AType place ts (type_at place ts)
type-allowed place = allowed (AType place) (type_at place) (type-alone place) (type_has place)
