-- Markers are read as their rules say.
use Rattle.std.proofs.Common.{◌≡◌, ℕ, zero, suc, ◌-◌, ◌≤◌, ◌==◌, Bool, true, false, List, [], ◌∷◌, ◌++◌, length, encode_utf8_all, Option, Some, None, Result, Ok, Err, refl, sym, ap, ◌∙◌, append_assoc, arith}
use Rattle.std.proofs.lemmas.Bool.{eqb-true}
use Rattle.std.proofs.lemmas.List.{append-nil}
use Rattle.gt_expr.specs.declared.raw.RawExpr.{RawExpr}
use Rattle.gt_expr.specs.declared.TheConstants.{BAD_EXPR}
use Rattle.gt_expr.specs.Expression.{expression_of}
use Rattle.gt_items.specs.declared.items.RawOption.{RawOption}
use Rattle.gt_items.specs.declared.items.Parameter.{Parameter}
use Rattle.gt_items.specs.declared.items.Parameter.TheVariants.{Absent, Expression, Text}
use Rattle.gt_search.specs.declared.lexeme.TokenText.{TokenText}
use Rattle.gt_search.specs.declared.lexeme.Bracket.TheVariants.{Round}
use Rattle.gt_search.specs.declared.lexeme.Lexeme.{Lexeme}
use Rattle.gt_search.specs.declared.lexeme.Lexeme.TheVariants as lexeme
use Rattle.gt_search.specs.Lexemes.{spot_of, is_identifier}
use Rattle.gt_marked.specs.MarkerGrammar.{Early, failed, begins, is_quoted, opens_round, closes_round, Unescapes, nothing, byte, quote, backslash, other, alone, IsParameter, empty, text, expression, no_expression, bad_backslash}
use Rattle.gt_marked.specs.MarkerGrammar.{Joins, AnOption, Options, MaybeOptions, Marker, MaybeMarker}
use Rattle.gt_marked.specs.Markers.{inside_quotes, unescaped, takes_expression, parameter_at, more_strings, strings_at, parameters_at, option_at, after_comma, options_from, options_at, marker_at, maybe_marker}
use Rattle.gt_marked.specs.Outcome.{Outcome, Read, Stops, ◌>>=◌, unexpected}
use Rattle.gt_search.specs.Search.{is_gty}
use Rattle.gt_marked.proofs.GrammarWords.{Has, allowed, Comes, read, unread, comes, failed_step, unexpected_step, Leaves, failed_leaves, unexpected_leaves, prefixed, prefixed_nothing, prefixed_twice, no_gty, no_open_round, no_close_round, no_comma}

-- ---- the bytes of literals

unescapes-one : {bytes : List ℕ} {text : Option (List ℕ)} → Unescapes bytes text → unescaped false bytes ≡ text
unfolding unescaped
unescapes-one nothing = refl
unescapes-one (byte b h u) = rw (h, unescapes-one u) refl
unescapes-one (quote u) = rw (unescapes-one u) refl
unescapes-one (backslash u) = rw (unescapes-one u) refl
unescapes-one (other b h k) = rw (h, k) refl
unescapes-one alone = refl

record HasText (bytes : List ℕ) : Type 0 where
  means : Option (List ℕ)
  unescapes : Unescapes bytes means

text_of : {bytes : List ℕ} {text : Option (List ℕ)} → Unescapes bytes text → HasText bytes
text_of {text} u = record { means = text; unescapes = u }

record HasTexts (bytes : List ℕ) : Type 0 where
  plain : HasText bytes
  escaped : HasText (92 ∷ bytes)

after_byte : (b : ℕ) (bytes : List ℕ) (is : Bool) → (b == 92) ≡ is → HasTexts bytes → HasText (b ∷ bytes)
after_byte b bytes true e has = rw (eqb-true b 92 e) has.escaped
after_byte b bytes false e has = text_of (byte b e has.plain.unescapes)

after_backslash : (b : ℕ) (bytes : List ℕ) (quotes is : Bool) → (b == 34) ≡ quotes → (b == 92) ≡ is → HasTexts bytes → HasText (92 ∷ b ∷ bytes)
after_backslash b bytes true is d e has = rw (eqb-true b 34 d) (text_of (quote has.plain.unescapes))
after_backslash b bytes false true d e has = rw (eqb-true b 92 e) (text_of (backslash has.plain.unescapes))
after_backslash b bytes false false d e has = text_of (other b d e)

has_texts : (bytes : List ℕ) → HasTexts bytes
has_texts [] = record { plain = text_of nothing; escaped = text_of alone }
has_texts (b ∷ bytes) =
    record { plain = after_byte b bytes (b == 92) refl (has_texts bytes); escaped = after_backslash b bytes (b == 34) (b == 92) refl refl (has_texts bytes) }

-- ---- parameters

abbrev answered : TokenText → Result Parameter ℕ → List Lexeme → Outcome Parameter
answered name (Ok parameter) ts = Read parameter ts
answered name (Err number) ts = Stops number name.start

parameter-one : (name : TokenText) (bytes : List ℕ) (answer : Result Parameter ℕ) (ts : List Lexeme) → IsParameter name.word bytes answer
    → parameter_at name (unescaped false bytes) ts ≡ answered name answer ts
parameter-one name bytes answer ts (empty u) = rw (unescapes-one u) refl
parameter-one name bytes answer ts (text b u h) = rw (unescapes-one u, h) refl
parameter-one name bytes answer ts (expression b u h e) = rw (unescapes-one u, h, e) refl
parameter-one name bytes answer ts (no_expression b u h e) = rw (unescapes-one u, h, e) refl
parameter-one name bytes answer ts (bad_backslash u) = rw (unescapes-one u) refl

record HasParameter (name bytes : List ℕ) : Type 0 where
  answer : Result Parameter ℕ
  is : IsParameter name bytes answer

expression_has : (name bytes rest : List ℕ) (b : ℕ) (answer : Result RawExpr ℕ) → Unescapes bytes (Some (b ∷ rest)) → takes_expression name ≡ true
    → expression_of (b ∷ rest) ≡ answer → HasParameter name bytes
expression_has name bytes rest b (Ok tree) u h e = record { answer = Ok (Expression tree); is = expression b u h e }
expression_has name bytes rest b (Err number) u h e = record { answer = Err number; is = no_expression b u h e }

text_has : (name bytes rest : List ℕ) (b : ℕ) (takes : Bool) → takes_expression name ≡ takes → Unescapes bytes (Some (b ∷ rest)) → HasParameter name bytes
text_has name bytes rest b true h u = expression_has name bytes rest b (expression_of (b ∷ rest)) u h refl
text_has name bytes rest b false h u = record { answer = Ok (Text (b ∷ rest)); is = text b u h }

means_has : (name bytes : List ℕ) (means : Option (List ℕ)) → Unescapes bytes means → HasParameter name bytes
means_has name bytes None u = record { answer = Err BAD_EXPR; is = bad_backslash u }
means_has name bytes (Some []) u = record { answer = Ok Absent; is = empty u }
means_has name bytes (Some (b ∷ rest)) u = text_has name bytes rest b (takes_expression name) refl u

parameter_has : (name bytes : List ℕ) → HasParameter name bytes
parameter_has name bytes = means_has name bytes (has_texts bytes).plain.means (has_texts bytes).plain.unescapes

-- ---- strings

no_more_strings : (before : List ℕ) (ts : List Lexeme) → begins is_quoted ts ≡ false → more_strings before ts ≡ Read before ts
unfolding more_strings
no_more_strings before [] h = refl
no_more_strings before (lexeme.Quoted s ∷ ts) h = absurd cc
no_more_strings before (t ∷ ts) h = refl

joins-one : {ts us : List Lexeme} {text : List ℕ} → Joins ts text us → (before : List ℕ) → more_strings before ts ≡ Read (before ++ text) us
unfolding more_strings
joins-one (Joins.no_string {ts} h) before = rw (append-nil before) (no_more_strings before ts h)
joins-one (Joins.string {ts} {us} {text} s j) before =
    joins-one j (before ++ inside_quotes (encode_utf8_all s.word)) ∙ ap (λ (bytes : List ℕ). Read bytes us) (append_assoc before (inside_quotes (encode_utf8_all s.word)) text)

joins-leaves : {ts us : List Lexeme} {text : List ℕ} → Joins ts text us → length us ≤ length ts
joins-leaves (Joins.no_string h) = omega arith
joins-leaves (Joins.string s j) = omega (arith, joins-leaves j)

record HasJoined (ts : List Lexeme) : Type 0 where
  joined : List ℕ
  following : List Lexeme
  joins : Joins ts joined following

joins_has : (ts : List Lexeme) → HasJoined ts
joins_has (lexeme.Quoted s ∷ ts) =
    record { joined = inside_quotes (encode_utf8_all s.word) ++ (joins_has ts).joined; following = (joins_has ts).following; joins = Joins.string s (joins_has ts).joins }
joins_has [] = record { joined = []; following = []; joins = Joins.no_string refl }
joins_has (t ∷ ts) = record { joined = []; following = t ∷ ts; joins = Joins.no_string refl }

-- at least one string
strings-one : {ts us : List Lexeme} {text : List ℕ} (q : TokenText) → Joins (lexeme.Quoted q ∷ ts) text us → strings_at (lexeme.Quoted q ∷ ts) ≡ Read text us
unfolding strings_at more_strings
strings-one {ts} {us} q j = joins-one j []

no_strings : (ts : List Lexeme) → begins is_quoted ts ≡ false → strings_at ts ≡ unexpected ts
unfolding strings_at
no_strings [] h = refl
no_strings (lexeme.Quoted s ∷ ts) h = absurd cc
no_strings (t ∷ ts) h = refl

-- ---- options

no_parameters : (name : TokenText) (ts : List Lexeme) → begins opens_round ts ≡ false → parameters_at name ts ≡ Read Absent ts
unfolding parameters_at
no_parameters name [] h = refl
no_parameters name (lexeme.Open Round s ∷ ts) h = absurd cc
no_parameters name (t ∷ ts) h = refl

no_option : (ts : List Lexeme) → begins is_identifier ts ≡ false → option_at ts ≡ unexpected ts
unfolding option_at
no_option [] h = refl
no_option (t ∷ ts) h = rw h refl

option-one : {ts : List Lexeme} {o : Outcome RawOption} → AnOption ts o → o ≡ option_at ts
unfolding option_at parameters_at
option-one (AnOption.name_alone {ts} t h k) = rw (h, no_parameters (spot_of t) ts k) refl
option-one (AnOption.with_strings {rest} {text = joined} {parameter} t o q c h j p) =
    rw (h, strings-one q j, parameter-one (spot_of t) joined (Ok parameter) rest p) refl
option-one (AnOption.bad_strings {rest} {text = joined} {number} t o q c h j p) =
    rw (h, strings-one q j, parameter-one (spot_of t) joined (Err number) rest p) refl
option-one (AnOption.no_identifier {ts} h) = sym (no_option ts h)
option-one (AnOption.no_string {ts} t o h k) = rw (h, no_strings ts k, unexpected_step, unexpected_step) refl
option-one (AnOption.not_closed {rest} t o q h j k) = rw (h, strings-one q j, no_close_round rest k, unexpected_step, unexpected_step) refl

option-leaves : {ts : List Lexeme} {o : Outcome RawOption} → AnOption ts o → Leaves (length ts) o
option-leaves (AnOption.name_alone t h k) = omega arith
option-leaves (AnOption.with_strings t o q c h j p) = omega (arith, joins-leaves j)
option-leaves (AnOption.bad_strings t o q c h j p) = tt
option-leaves (AnOption.no_identifier {ts} h) = unexpected_leaves RawOption ts _
option-leaves (AnOption.no_string {ts} t o h k) = unexpected_leaves RawOption ts _
option-leaves (AnOption.not_closed {rest} t o q h j k) = unexpected_leaves RawOption rest _

option_past : (t : Lexeme) (o q : TokenText) (ts : List Lexeme) {text : List ℕ} (rest : List Lexeme) → is_identifier t ≡ true → Joins (lexeme.Quoted q ∷ ts) text rest
    → (answer : Result Parameter ℕ) → IsParameter (spot_of t).word text answer → Has AnOption (t ∷ lexeme.Open Round o ∷ lexeme.Quoted q ∷ ts)
option_past t o q ts (lexeme.Close Round c ∷ rest) h j (Ok parameter) p = record { outcome = _; holds = AnOption.with_strings t o q c h j p }
option_past t o q ts (lexeme.Close Round c ∷ rest) h j (Err number) p = record { outcome = _; holds = AnOption.bad_strings t o q c h j p }
option_past t o q ts [] h j answer p = record { outcome = unexpected []; holds = AnOption.not_closed t o q h j refl }
option_past t o q ts (u ∷ rest) h j answer p = record { outcome = unexpected (u ∷ rest); holds = AnOption.not_closed t o q h j refl }

option_after : (t : Lexeme) (ts : List Lexeme) → is_identifier t ≡ true → Has AnOption (t ∷ ts)
option_after t (lexeme.Open Round o ∷ lexeme.Quoted q ∷ ts) h =
    let has = joins_has (lexeme.Quoted q ∷ ts) in
    let is = parameter_has (spot_of t).word has.joined in
    option_past t o q ts has.following h has.joins is.answer is.is
option_after t (lexeme.Open Round o ∷ []) h = record { outcome = unexpected []; holds = AnOption.no_string t o h refl }
option_after t (lexeme.Open Round o ∷ u ∷ ts) h = record { outcome = unexpected (u ∷ ts); holds = AnOption.no_string t o h refl }
option_after t [] h = record { outcome = _; holds = AnOption.name_alone t h refl }
option_after t (u ∷ ts) h = record { outcome = _; holds = AnOption.name_alone t h refl }

option_from : (t : Lexeme) (ts : List Lexeme) (is : Bool) → is_identifier t ≡ is → Has AnOption (t ∷ ts)
option_from t ts true h = option_after t ts h
option_from t ts false h = record { outcome = unexpected (t ∷ ts); holds = AnOption.no_identifier h }

option_has : (ts : List Lexeme) → Has AnOption ts
option_has [] = record { outcome = unexpected []; holds = AnOption.no_identifier refl }
option_has (t ∷ ts) = option_from t ts (is_identifier t) refl

-- ---- lists of options

one_turn : (count : ℕ) (before : List RawOption) (ts : List Lexeme) → length ts ≤ count
    → options_from count before ts ≡ (option_at ts >>= λ one. after_comma (options_from (count - 1) (before ++ one.0 ∷ [])) (Read (before ++ one.0 ∷ []) one.1) one.1)
unfolding options_from option_at
one_turn zero before [] h = refl
one_turn zero before (t ∷ ts) h = absurd (omega arith)
one_turn (suc count) before ts h = let fewer : suc count - 1 ≡ count = omega arith in rw fewer refl

options-from : {ts : List Lexeme} {o : Outcome (List RawOption)} → Options ts o → (count : ℕ) (before : List RawOption) → length ts ≤ count
    → options_from count before ts ≡ prefixed before o
options-from (Options.last {ts} {rest} {option} d k) count before h =
    rw (one_turn count before ts h, ← option-one d) (no_comma _ _ rest k)
options-from (Options.more {ts} {us} {rest} {option} {options} c d m) count before h =
    rw (one_turn count before ts h, ← option-one d) (options-from m (count - 1) (before ++ option ∷ []) (omega (arith, option-leaves d)) ∙ prefixed_twice before option (Read options rest))
options-from (Options.in_option {ts} why d) count before h =
    rw (one_turn count before ts h, ← option-one d) (failed_step why _ ∙ sym (failed_step why _))
options-from (Options.in_more {ts} {us} {option} c why d m) count before h =
    rw (one_turn count before ts h, ← option-one d) (options-from m (count - 1) (before ++ option ∷ []) (omega (arith, option-leaves d)) ∙ failed_step why _ ∙ sym (failed_step why _))

options-leaves : {ts : List Lexeme} {o : Outcome (List RawOption)} → Options ts o → Leaves (length ts) o
options-leaves (Options.last d k) = option-leaves d
options-leaves (Options.more c d m) = omega (arith, option-leaves d, options-leaves m)
options-leaves (Options.in_option why d) = failed_leaves (List RawOption) why _
options-leaves (Options.in_more c why d m) = failed_leaves (List RawOption) why _

options_more : {ts us : List Lexeme} {option : RawOption} (c : TokenText) {o : Outcome (List RawOption)} → AnOption ts (Read option (lexeme.Comma c ∷ us)) → Options us o → Comes o → Has Options ts
options_more c d m (read options rest) = record { outcome = _; holds = Options.more c d m }
options_more c d m (unread why) = record { outcome = failed why; holds = Options.in_more c why d m }

options_after : (ts : List Lexeme) {o : Outcome RawOption} → AnOption ts o → Comes o → ((us : List Lexeme) → suc (length us) ≤ length ts → Has Options us) → Has Options ts
options_after ts d (unread why) again = record { outcome = failed why; holds = Options.in_option why d }
options_after ts d (read option (lexeme.Comma c ∷ us)) again =
    let has = again us (option-leaves d) in options_more c d has.holds (comes has.outcome)
options_after ts d (read option []) again = record { outcome = _; holds = Options.last d refl }
options_after ts d (read option (u ∷ us)) again = record { outcome = _; holds = Options.last d refl }

options_has : (n : ℕ) (ts : List Lexeme) → length ts ≤ n → Has Options ts
options_has zero [] h = record { outcome = unexpected []; holds = Options.in_option Early (AnOption.no_identifier refl) }
options_has zero (t ∷ ts) h = absurd (omega arith)
options_has (suc n) ts h = options_after ts (option_has ts).holds (comes (option_has ts).outcome) (λ us k. options_has n us (omega arith))

maybe_options-one : {ts : List Lexeme} {o : Outcome (List RawOption)} → MaybeOptions ts o → o ≡ options_at ts
unfolding options_at
maybe_options-one (MaybeOptions.none c) = refl
maybe_options-one (MaybeOptions.some {ts} {o} h m) = sym (no_options ts h ∙ options-from m (length ts) [] (omega arith) ∙ prefixed_nothing o)
  where
    no_options : (ts : List Lexeme) → begins closes_round ts ≡ false → options_at ts ≡ options_from (length ts) [] ts
    no_options [] h = refl
    no_options (lexeme.Close Round s ∷ ts) h = absurd cc
    no_options (t ∷ ts) h = refl

maybe_options-leaves : {ts : List Lexeme} {o : Outcome (List RawOption)} → MaybeOptions ts o → Leaves (length ts) o
maybe_options-leaves (MaybeOptions.none c) = omega arith
maybe_options-leaves (MaybeOptions.some h m) = options-leaves m

maybe_options_some : (ts : List Lexeme) → begins closes_round ts ≡ false → Has MaybeOptions ts
maybe_options_some ts h = record { outcome = _; holds = MaybeOptions.some h (options_has (length ts) ts (omega arith)).holds }

maybe_options_has : (ts : List Lexeme) → Has MaybeOptions ts
maybe_options_has (lexeme.Close Round c ∷ ts) = record { outcome = _; holds = MaybeOptions.none c }
maybe_options_has [] = maybe_options_some [] refl
maybe_options_has (t ∷ ts) = maybe_options_some (t ∷ ts) refl

-- ---- markers

pub marker-one : {ts : List Lexeme} {o : Outcome (List RawOption)} → Marker ts o → o ≡ marker_at ts
unfolding marker_at
marker-one (Marker.marker a b c d e m) = rw (← maybe_options-one m) refl
marker-one (Marker.in_options a b c why m) = rw (← maybe_options-one m) (sym (failed_step why _))
marker-one (Marker.no_word {ts} h) = rw (no_gty ts h) (sym (unexpected_step ts _))
marker-one (Marker.not_opened {ts} a h) = rw (no_open_round ts h) (sym (unexpected_step ts _))
marker-one (Marker.not_opened_twice {ts} a b h) = rw (no_open_round ts h) (sym (unexpected_step ts _))
marker-one (Marker.not_closed {rest} a b c m h) = rw (← maybe_options-one m, no_close_round rest h) (sym (unexpected_step rest _))
marker-one (Marker.not_closed_twice {rest} a b c d m h) = rw (← maybe_options-one m, no_close_round rest h) (sym (unexpected_step rest _))

pub marker-leaves : {ts : List Lexeme} {o : Outcome (List RawOption)} → Marker ts o → Leaves (length ts) o
marker-leaves (Marker.marker a b c d e m) = omega (arith, maybe_options-leaves m)
marker-leaves (Marker.in_options a b c why m) = failed_leaves (List RawOption) why _
marker-leaves (Marker.no_word {ts} h) = unexpected_leaves (List RawOption) ts _
marker-leaves (Marker.not_opened {ts} a h) = unexpected_leaves (List RawOption) ts _
marker-leaves (Marker.not_opened_twice {ts} a b h) = unexpected_leaves (List RawOption) ts _
marker-leaves (Marker.not_closed {rest} a b c m h) = unexpected_leaves (List RawOption) rest _
marker-leaves (Marker.not_closed_twice {rest} a b c d m h) = unexpected_leaves (List RawOption) rest _

marker_after : (a b c : TokenText) (ts : List Lexeme) {o : Outcome (List RawOption)} → MaybeOptions ts o → Comes o → Has Marker (lexeme.Gty a ∷ lexeme.Open Round b ∷ lexeme.Open Round c ∷ ts)
marker_after a b c ts m (unread why) = record { outcome = failed why; holds = Marker.in_options a b c why m }
marker_after a b c ts m (read options (lexeme.Close Round d ∷ lexeme.Close Round e ∷ rest)) = record { outcome = _; holds = Marker.marker a b c d e m }
marker_after a b c ts m (read options (lexeme.Close Round d ∷ [])) = record { outcome = unexpected []; holds = Marker.not_closed_twice a b c d m refl }
marker_after a b c ts m (read options (lexeme.Close Round d ∷ u ∷ us)) = record { outcome = unexpected (u ∷ us); holds = Marker.not_closed_twice a b c d m refl }
marker_after a b c ts m (read options []) = record { outcome = unexpected []; holds = Marker.not_closed a b c m refl }
marker_after a b c ts m (read options (u ∷ us)) = record { outcome = unexpected (u ∷ us); holds = Marker.not_closed a b c m refl }

pub marker_has : (ts : List Lexeme) → Has Marker ts
marker_has (lexeme.Gty a ∷ lexeme.Open Round b ∷ lexeme.Open Round c ∷ ts) = marker_after a b c ts (maybe_options_has ts).holds (comes (maybe_options_has ts).outcome)
marker_has (lexeme.Gty a ∷ lexeme.Open Round b ∷ []) = record { outcome = unexpected []; holds = Marker.not_opened_twice a b refl }
marker_has (lexeme.Gty a ∷ lexeme.Open Round b ∷ t ∷ ts) = record { outcome = unexpected (t ∷ ts); holds = Marker.not_opened_twice a b refl }
marker_has (lexeme.Gty a ∷ []) = record { outcome = unexpected []; holds = Marker.not_opened a refl }
marker_has (lexeme.Gty a ∷ t ∷ ts) = record { outcome = unexpected (t ∷ ts); holds = Marker.not_opened a refl }
marker_has [] = record { outcome = unexpected []; holds = Marker.no_word refl }
marker_has (t ∷ ts) = record { outcome = unexpected (t ∷ ts); holds = Marker.no_word refl }

pub marker-alone : (ts : List Lexeme) (o : Outcome (List RawOption)) → Marker ts o → o ≡ marker_at ts
marker-alone ts o d = marker-one d

pub marker-allowed : (ts : List Lexeme) → Marker ts (marker_at ts)
marker-allowed = allowed Marker marker_at marker-alone marker_has

-- ---- markers that may be absent

pub no_marker : (ts : List Lexeme) → begins is_gty ts ≡ false → maybe_marker ts ≡ Read [] ts
unfolding maybe_marker
no_marker [] h = refl
no_marker (lexeme.Gty s ∷ ts) h = absurd cc
no_marker (t ∷ ts) h = refl

pub maybe_marker-one : {ts : List Lexeme} {o : Outcome (List RawOption)} → MaybeMarker ts o → o ≡ maybe_marker ts
unfolding maybe_marker
maybe_marker-one (MaybeMarker.marked a m) = marker-one m
maybe_marker-one (MaybeMarker.unmarked {ts} h) = sym (no_marker ts h)

pub maybe_marker-leaves : {ts : List Lexeme} {o : Outcome (List RawOption)} → MaybeMarker ts o → Leaves (length ts) o
maybe_marker-leaves (MaybeMarker.marked a m) = marker-leaves m
maybe_marker-leaves (MaybeMarker.unmarked h) = omega arith

pub maybe_marker_has : (ts : List Lexeme) → Has MaybeMarker ts
maybe_marker_has (lexeme.Gty s ∷ ts) = record { outcome = (marker_has (lexeme.Gty s ∷ ts)).outcome; holds = MaybeMarker.marked s (marker_has (lexeme.Gty s ∷ ts)).holds }
maybe_marker_has [] = record { outcome = _; holds = MaybeMarker.unmarked refl }
maybe_marker_has (t ∷ ts) = record { outcome = _; holds = MaybeMarker.unmarked refl }
