-- Fields are read as their rules say.
use Rattle.std.proofs.Common.{◌≡◌, ℕ, zero, suc, ◌-◌, ◌≤◌, Bool, true, false, List, [], ◌∷◌, ◌++◌, length, Option, None, refl, sym, ◌∙◌, length-append, arith}
use Rattle.std.proofs.lemmas.List.{append-nil}
use Rattle.gt_items.specs.declared.items.Declarator.{Declarator}
use Rattle.gt_items.specs.declared.items.RawField.{RawField}
use Rattle.gt_items.specs.declared.items.RawOption.{RawOption}
use Rattle.gt_items.specs.declared.items.RawType.{RawType}
use Rattle.gt_items.specs.declared.items.Stars.{Stars}
use Rattle.gt_search.specs.declared.lexeme.TokenText.{TokenText}
use Rattle.gt_search.specs.declared.lexeme.Bracket.{Bracket}
use Rattle.gt_search.specs.declared.lexeme.Bracket.TheVariants.{Round, Square, Brace}
use Rattle.gt_search.specs.declared.lexeme.Lexeme.{Lexeme}
use Rattle.gt_search.specs.declared.lexeme.Lexeme.TheVariants as lexeme
use Rattle.gt_marked.specs.declared.types.Context.TheVariants.{InField}
use Rattle.gt_marked.specs.FieldGrammar.{is_semicolon, is_colon, opens_square, closes_brace, begins_label, closes_any, IsFree, Bounds, Bits, PlainDeclarator, ADeclarator, Declarators, Field, FieldsToBrace}
use Rattle.gt_marked.specs.Fields.{bits_at, no_function_at, plain_declarator_at, star_at, function_declarator_at, declarator_at, after_declarator, declarators_from, is_access, no_label_at, field_at, until_brace, fields_from}
use Rattle.gt_marked.specs.Groups.{bounds_from}
use Rattle.gt_search.specs.Lexemes.{kept_text}
use Rattle.gt_marked.specs.MarkerGrammar.{Early, failed, begins, is_comma, opens_round, MaybeMarker}
use Rattle.gt_marked.specs.Markers.{maybe_marker}
use Rattle.gt_marked.specs.Outcome.{Outcome, Read, Ends, ◌>>=◌, unexpected}
use Rattle.gt_marked.specs.TypeGrammar.{is_star, Qualifiers, AreStars, AType}
use Rattle.gt_marked.specs.Types.{stars_at, name_at, without_qualifiers, bare_type_at, type_at}
use Rattle.gt_marked.proofs.GroupsLemmas.{inside-closed, inside-unclosed, Closes, closed, unclosed, closes, before-ended, before-endless, EndsText, ended, endless, ends}
use Rattle.gt_marked.proofs.MarkersLemmas.{maybe_marker-one, maybe_marker-leaves, maybe_marker_has}
use Rattle.gt_marked.proofs.TypesLemmas.{no_name, qualifiers-one, qualifiers-leaves, qualifiers_has, stars-one, stars-leaves, stars_has, type-alone, type-leaves, type_has}
use Rattle.gt_marked.proofs.GrammarWords.{Has, allowed, Comes, read, unread, comes, failed_step, unexpected_step, Leaves, failed_leaves, unexpected_leaves, prefixed, prefixed_twice, no_open_round, no_close_round}

-- ---- bounds

no_bounds : (count : ℕ) (before : List (List ℕ)) (ts : List Lexeme) → begins opens_square ts ≡ false → bounds_from count before ts ≡ Read before ts
unfolding bounds_from
no_bounds zero before ts h = refl
no_bounds (suc count) before [] h = refl
no_bounds (suc count) before (lexeme.Open Square s ∷ ts) h = absurd cc
no_bounds (suc count) before (t ∷ ts) h = refl

pub bounds-from : {ts : List Lexeme} {o : Outcome (List (List ℕ))} → Bounds ts o → (count : ℕ) (before : List (List ℕ)) → length ts ≤ count
    → bounds_from count before ts ≡ prefixed before o
unfolding bounds_from
bounds-from (Bounds.no_bound {ts} k) count before h = rw (append-nil before) (no_bounds count before ts k)
bounds-from (Bounds.bound b o p n m) zero before h = absurd (omega arith)
bounds-from (Bounds.bound {inside} {ts} {rest} {bounds} b o p n m) (suc count) before h =
    rw (inside-closed n b p ts)
    (bounds-from m count (before ++ kept_text inside ∷ []) (omega (arith, length-append inside (lexeme.Close b p ∷ ts))) ∙ prefixed_twice before (kept_text inside) (Read bounds rest))
bounds-from (Bounds.not_closed o u) zero before h = absurd (omega arith)
bounds-from (Bounds.not_closed o u) (suc count) before h = rw (inside-unclosed u) refl
bounds-from (Bounds.in_more b o p why n m) zero before h = absurd (omega arith)
bounds-from (Bounds.in_more {inside} {ts} b o p why n m) (suc count) before h =
    rw (inside-closed n b p ts)
    (bounds-from m count (before ++ kept_text inside ∷ []) (omega (arith, length-append inside (lexeme.Close b p ∷ ts))) ∙ failed_step why _ ∙ sym (failed_step why _))

pub bounds-leaves : {ts : List Lexeme} {o : Outcome (List (List ℕ))} → Bounds ts o → Leaves (length ts) o
bounds-leaves (Bounds.no_bound k) = omega arith
bounds-leaves (Bounds.bound {inside} {ts} b o p n m) = omega (arith, bounds-leaves m, length-append inside (lexeme.Close b p ∷ ts))
bounds-leaves (Bounds.not_closed o u) = tt
bounds-leaves (Bounds.in_more b o p why n m) = failed_leaves (List (List ℕ)) why _

bounds_more : (o : TokenText) {inside ts : List Lexeme} (b : Bracket) (p : TokenText) {out : Outcome (List (List ℕ))} → IsFree closes_any inside → Bounds ts out → Comes out
    → Has Bounds (lexeme.Open Square o ∷ inside ++ lexeme.Close b p ∷ ts)
bounds_more o b p n m (read bounds rest) = record { outcome = _; holds = Bounds.bound b o p n m }
bounds_more o b p n m (unread why) = record { outcome = failed why; holds = Bounds.in_more b o p why n m }

bounds_after : (o : TokenText) {ts : List Lexeme} → Closes ts → ((us : List Lexeme) → suc (length us) ≤ length ts → Has Bounds us) → Has Bounds (lexeme.Open Square o ∷ ts)
bounds_after o (closed {inside} rest b p n) again =
    let more = again rest (omega (arith, length-append inside (lexeme.Close b p ∷ rest))) in bounds_more o b p n more.holds (comes more.outcome)
bounds_after o (unclosed u) again = record { outcome = Ends; holds = Bounds.not_closed o u }

bounds_up_to : (n : ℕ) (ts : List Lexeme) → length ts ≤ n → Has Bounds ts
bounds_up_to zero (t ∷ ts) h = absurd (omega arith)
bounds_up_to (suc n) (lexeme.Open Square o ∷ ts) h = bounds_after o (closes ts) (λ us k. bounds_up_to n us (omega arith))
bounds_up_to n [] h = record { outcome = _; holds = Bounds.no_bound refl }
bounds_up_to n (t ∷ ts) h = record { outcome = _; holds = Bounds.no_bound refl }

pub bounds_has : (ts : List Lexeme) → Has Bounds ts
bounds_has ts = bounds_up_to (length ts) ts (omega arith)

-- ---- bit counts

no_colon : (ts : List Lexeme) → begins is_colon ts ≡ false → bits_at ts ≡ Read None ts
unfolding bits_at
no_colon [] h = refl
no_colon (lexeme.Colon s ∷ ts) h = absurd cc
no_colon (t ∷ ts) h = refl

bits-one : {ts : List Lexeme} {o : Outcome (Option (List ℕ))} → Bits ts o → o ≡ bits_at ts
unfolding bits_at
bits-one (Bits.no_bits {ts} h) = sym (no_colon ts h)
bits-one (Bits.bits {text} {rest} c t x e) = rw (before-ended x t rest e) refl
bits-one (Bits.endless c u) = rw (before-endless u) refl

bits-leaves : {ts : List Lexeme} {o : Outcome (Option (List ℕ))} → Bits ts o → Leaves (length ts) o
bits-leaves (Bits.no_bits h) = omega arith
bits-leaves (Bits.bits {text} {rest} c t x e) = omega (arith, length-append text (t ∷ rest))
bits-leaves (Bits.endless c u) = tt

bits_after : (c : TokenText) {ts : List Lexeme} → EndsText ts → Has Bits (lexeme.Colon c ∷ ts)
bits_after c (ended rest t x e) = record { outcome = _; holds = Bits.bits c t x e }
bits_after c (endless u) = record { outcome = Ends; holds = Bits.endless c u }

bits_has : (ts : List Lexeme) → Has Bits ts
bits_has (lexeme.Colon c ∷ ts) = bits_after c (ends ts)
bits_has [] = record { outcome = _; holds = Bits.no_bits refl }
bits_has (t ∷ ts) = record { outcome = _; holds = Bits.no_bits refl }

-- ---- declarators without brackets

no_function : (ts : List Lexeme) → begins opens_round ts ≡ false → no_function_at ts ≡ Read tt ts
unfolding no_function_at
no_function [] h = refl
no_function (lexeme.Open Round s ∷ ts) h = absurd cc
no_function (t ∷ ts) h = refl

plain-one : {ts : List Lexeme} {o : Outcome Declarator} → PlainDeclarator ts o → o ≡ plain_declarator_at ts
unfolding plain_declarator_at name_at no_function_at
plain-one (PlainDeclarator.plain {vs} n a m h b c) =
    rw (stars-one a, ← maybe_marker-one m, no_function vs h, bounds-from b (length vs) [] (omega arith), ← bits-one c) refl
plain-one (PlainDeclarator.member_function n o a m) = rw (stars-one a, ← maybe_marker-one m) refl
plain-one (PlainDeclarator.in_marker why a m) = rw (stars-one a, ← maybe_marker-one m) (sym (failed_step why _))
plain-one (PlainDeclarator.in_bounds {vs} n why a m h b) =
    rw (stars-one a, ← maybe_marker-one m, no_function vs h, bounds-from b (length vs) [] (omega arith), failed_step, failed_step) refl
plain-one (PlainDeclarator.in_bits {vs} n why a m h b c) =
    rw (stars-one a, ← maybe_marker-one m, no_function vs h, bounds-from b (length vs) [] (omega arith), ← bits-one c) (sym (failed_step why _))
plain-one (PlainDeclarator.no_name {rest} a m h) = rw (stars-one a, ← maybe_marker-one m, no_name rest h) (sym (unexpected_step rest _))

plain-leaves : {ts : List Lexeme} {o : Outcome Declarator} → PlainDeclarator ts o → Leaves (length ts) o
plain-leaves (PlainDeclarator.plain n a m h b c) = omega (arith, stars-leaves a, maybe_marker-leaves m, bounds-leaves b, bits-leaves c)
plain-leaves (PlainDeclarator.member_function n o a m) = tt
plain-leaves (PlainDeclarator.in_marker why a m) = failed_leaves Declarator why _
plain-leaves (PlainDeclarator.in_bounds n why a m h b) = failed_leaves Declarator why _
plain-leaves (PlainDeclarator.in_bits n why a m h b c) = failed_leaves Declarator why _
plain-leaves (PlainDeclarator.no_name {rest} a m h) = unexpected_leaves Declarator rest _

plain_bits : {ts us vs ws : List Lexeme} {stars : Stars} {options : List RawOption} {bounds : List (List ℕ)} (n : TokenText)
    → AreStars ts stars us → MaybeMarker us (Read options (lexeme.Name n ∷ vs)) → begins opens_round vs ≡ false → Bounds vs (Read bounds ws)
    → {o : Outcome (Option (List ℕ))} → Bits ws o → Comes o → Has PlainDeclarator ts
plain_bits n a m h b c (read bits rest) = record { outcome = _; holds = PlainDeclarator.plain n a m h b c }
plain_bits n a m h b c (unread why) = record { outcome = failed why; holds = PlainDeclarator.in_bits n why a m h b c }

plain_bounds : {ts us vs : List Lexeme} {stars : Stars} {options : List RawOption} (n : TokenText)
    → AreStars ts stars us → MaybeMarker us (Read options (lexeme.Name n ∷ vs)) → begins opens_round vs ≡ false
    → {o : Outcome (List (List ℕ))} → Bounds vs o → Comes o → Has PlainDeclarator ts
plain_bounds n a m h b (read bounds ws) = plain_bits n a m h b (bits_has ws).holds (comes (bits_has ws).outcome)
plain_bounds n a m h b (unread why) = record { outcome = failed why; holds = PlainDeclarator.in_bounds n why a m h b }

plain_name : {ts us : List Lexeme} {stars : Stars} {options : List RawOption} (n : TokenText) (vs : List Lexeme)
    → AreStars ts stars us → MaybeMarker us (Read options (lexeme.Name n ∷ vs)) → Has PlainDeclarator ts
plain_name n (lexeme.Open Round o ∷ vs) a m = record { outcome = _; holds = PlainDeclarator.member_function n o a m }
plain_name n [] a m = plain_bounds n a m refl (bounds_has []).holds (comes (bounds_has []).outcome)
plain_name n (v ∷ vs) a m = plain_bounds n a m refl (bounds_has (v ∷ vs)).holds (comes (bounds_has (v ∷ vs)).outcome)

plain_marker : {ts us : List Lexeme} {stars : Stars} → AreStars ts stars us → {o : Outcome (List RawOption)} → MaybeMarker us o → Comes o → Has PlainDeclarator ts
plain_marker a m (unread why) = record { outcome = failed why; holds = PlainDeclarator.in_marker why a m }
plain_marker a m (read options (lexeme.Name n ∷ vs)) = plain_name n vs a m
plain_marker a m (read options []) = record { outcome = unexpected []; holds = PlainDeclarator.no_name a m refl }
plain_marker a m (read options (v ∷ vs)) = record { outcome = unexpected (v ∷ vs); holds = PlainDeclarator.no_name a m refl }

plain_has : (ts : List Lexeme) → Has PlainDeclarator ts
plain_has ts =
    let stars = stars_has ts in
    plain_marker stars.are (maybe_marker_has stars.following).holds (comes (maybe_marker_has stars.following).outcome)

-- ---- declarators

pub no_stars : (ts : List Lexeme) → begins is_star ts ≡ false → star_at ts ≡ unexpected ts
no_stars [] h = refl
no_stars (lexeme.Star s ∷ ts) h = absurd cc
no_stars (t ∷ ts) h = refl

no_brackets : (ts : List Lexeme) → begins opens_round ts ≡ false → declarator_at ts ≡ plain_declarator_at ts
unfolding declarator_at
no_brackets [] h = refl
no_brackets (lexeme.Open Round s ∷ ts) h = absurd cc
no_brackets (t ∷ ts) h = refl

declarator-one : {ts : List Lexeme} {o : Outcome Declarator} → ADeclarator ts o → o ≡ declarator_at ts
unfolding declarator_at function_declarator_at name_at
declarator-one (ADeclarator.plain {ts} h d) = rw (no_brackets ts h) (plain-one d)
declarator-one (ADeclarator.function {rest} a s n c d e b q m k) = rw (qualifiers-one q, ← maybe_marker-one m, inside-closed k b e rest) refl
declarator-one (ADeclarator.in_marker a s why q m) = rw (qualifiers-one q, ← maybe_marker-one m) (sym (failed_step why _))
declarator-one (ADeclarator.no_star {ts} a h) = rw (no_stars ts h) (sym (unexpected_step ts _))
declarator-one (ADeclarator.no_name {rest} a s q m h) = rw (qualifiers-one q, ← maybe_marker-one m, no_name rest h) (sym (unexpected_step rest _))
declarator-one (ADeclarator.not_closed {rest} a s n q m h) = rw (qualifiers-one q, ← maybe_marker-one m, no_close_round rest h) (sym (unexpected_step rest _))
declarator-one (ADeclarator.no_arguments {rest} a s n c q m h) = rw (qualifiers-one q, ← maybe_marker-one m, no_open_round rest h) (sym (unexpected_step rest _))
declarator-one (ADeclarator.arguments_not_closed a s n c d q m u) = rw (qualifiers-one q, ← maybe_marker-one m, inside-unclosed u) refl

declarator-leaves : {ts : List Lexeme} {o : Outcome Declarator} → ADeclarator ts o → Leaves (length ts) o
declarator-leaves (ADeclarator.plain h d) = plain-leaves d
declarator-leaves (ADeclarator.function {inside} {rest} a s n c d e b q m k) =
    omega (arith, qualifiers-leaves q, maybe_marker-leaves m, length-append inside (lexeme.Close b e ∷ rest))
declarator-leaves (ADeclarator.in_marker a s why q m) = failed_leaves Declarator why _
declarator-leaves (ADeclarator.no_star {ts} a h) = unexpected_leaves Declarator ts _
declarator-leaves (ADeclarator.no_name {rest} a s q m h) = unexpected_leaves Declarator rest _
declarator-leaves (ADeclarator.not_closed {rest} a s n q m h) = unexpected_leaves Declarator rest _
declarator-leaves (ADeclarator.no_arguments {rest} a s n c q m h) = unexpected_leaves Declarator rest _
declarator-leaves (ADeclarator.arguments_not_closed a s n c d q m u) = tt

function_arguments : (a s n c d : TokenText) {ts us rest : List Lexeme} {options : List RawOption} → Qualifiers ts us → Closes rest
    → MaybeMarker us (Read options (lexeme.Name n ∷ lexeme.Close Round c ∷ lexeme.Open Round d ∷ rest)) → Has ADeclarator (lexeme.Open Round a ∷ lexeme.Star s ∷ ts)
function_arguments a s n c d q (closed rest b e k) m = record { outcome = _; holds = ADeclarator.function a s n c d e b q m k }
function_arguments a s n c d q (unclosed u) m = record { outcome = Ends; holds = ADeclarator.arguments_not_closed a s n c d q m u }

function_closed : (a s n c : TokenText) {ts us : List Lexeme} {options : List RawOption} (rest : List Lexeme) → Qualifiers ts us
    → MaybeMarker us (Read options (lexeme.Name n ∷ lexeme.Close Round c ∷ rest)) → Has ADeclarator (lexeme.Open Round a ∷ lexeme.Star s ∷ ts)
function_closed a s n c (lexeme.Open Round d ∷ rest) q m = function_arguments a s n c d q (closes rest) m
function_closed a s n c [] q m = record { outcome = unexpected []; holds = ADeclarator.no_arguments a s n c q m refl }
function_closed a s n c (v ∷ vs) q m = record { outcome = unexpected (v ∷ vs); holds = ADeclarator.no_arguments a s n c q m refl }

function_name : (a s n : TokenText) {ts us : List Lexeme} {options : List RawOption} (rest : List Lexeme) → Qualifiers ts us
    → MaybeMarker us (Read options (lexeme.Name n ∷ rest)) → Has ADeclarator (lexeme.Open Round a ∷ lexeme.Star s ∷ ts)
function_name a s n (lexeme.Close Round c ∷ rest) q m = function_closed a s n c rest q m
function_name a s n [] q m = record { outcome = unexpected []; holds = ADeclarator.not_closed a s n q m refl }
function_name a s n (v ∷ vs) q m = record { outcome = unexpected (v ∷ vs); holds = ADeclarator.not_closed a s n q m refl }

function_marker : (a s : TokenText) {ts us : List Lexeme} → Qualifiers ts us → {o : Outcome (List RawOption)} → MaybeMarker us o → Comes o
    → Has ADeclarator (lexeme.Open Round a ∷ lexeme.Star s ∷ ts)
function_marker a s q m (unread why) = record { outcome = failed why; holds = ADeclarator.in_marker a s why q m }
function_marker a s q m (read options (lexeme.Name n ∷ rest)) = function_name a s n rest q m
function_marker a s q m (read options []) = record { outcome = unexpected []; holds = ADeclarator.no_name a s q m refl }
function_marker a s q m (read options (v ∷ vs)) = record { outcome = unexpected (v ∷ vs); holds = ADeclarator.no_name a s q m refl }

plain_declarator_has : (ts : List Lexeme) → begins opens_round ts ≡ false → Has ADeclarator ts
plain_declarator_has ts h = record { outcome = (plain_has ts).outcome; holds = ADeclarator.plain h (plain_has ts).holds }

declarator_has : (ts : List Lexeme) → Has ADeclarator ts
declarator_has (lexeme.Open Round a ∷ lexeme.Star s ∷ ts) =
    let has = maybe_marker_has (qualifiers_has ts).following in
    function_marker a s (qualifiers_has ts).qualifiers has.holds (comes has.outcome)
declarator_has (lexeme.Open Round a ∷ []) = record { outcome = unexpected []; holds = ADeclarator.no_star a refl }
declarator_has (lexeme.Open Round a ∷ t ∷ ts) = record { outcome = unexpected (t ∷ ts); holds = ADeclarator.no_star a refl }
declarator_has [] = plain_declarator_has [] refl
declarator_has (t ∷ ts) = plain_declarator_has (t ∷ ts) refl

-- ---- lists of declarators

one_turn : (count : ℕ) (before : List Declarator) (ts : List Lexeme) → length ts ≤ count
    → declarators_from count before ts ≡ (declarator_at ts >>= λ one. after_declarator (declarators_from (count - 1) (before ++ one.0 ∷ [])) (before ++ one.0 ∷ []) one.1)
unfolding declarators_from declarator_at plain_declarator_at stars_at maybe_marker name_at
one_turn zero before [] h = refl
one_turn zero before (t ∷ ts) h = absurd (omega arith)
one_turn (suc count) before ts h = let fewer : suc count - 1 ≡ count = omega arith in rw fewer refl

no_separator : {A : Type 0} (go : List Lexeme → Outcome A) (x : A) (ts : List Lexeme) → begins is_comma ts ≡ false → begins is_semicolon ts ≡ false
    → after_declarator go x ts ≡ unexpected ts
no_separator go x [] h k = refl
no_separator go x (lexeme.Comma s ∷ ts) h k = absurd cc
no_separator go x (lexeme.Semicolon s ∷ ts) h k = absurd cc
no_separator go x (t ∷ ts) h k = refl

declarators-from : {ts : List Lexeme} {o : Outcome (List Declarator)} → Declarators ts o → (count : ℕ) (before : List Declarator) → length ts ≤ count
    → declarators_from count before ts ≡ prefixed before o
declarators-from (Declarators.last {ts} s d) count before h = rw (one_turn count before ts h, ← declarator-one d) refl
declarators-from (Declarators.more {ts} {us} {rest} {d = x} {ds} c d m) count before h =
    rw (one_turn count before ts h, ← declarator-one d) (declarators-from m (count - 1) (before ++ x ∷ []) (omega (arith, declarator-leaves d)) ∙ prefixed_twice before x (Read ds rest))
declarators-from (Declarators.in_declarator {ts} why d) count before h =
    rw (one_turn count before ts h, ← declarator-one d) (failed_step why _ ∙ sym (failed_step why _))
declarators-from (Declarators.in_more {ts} {us} {d = x} c why d m) count before h =
    rw (one_turn count before ts h, ← declarator-one d) (declarators-from m (count - 1) (before ++ x ∷ []) (omega (arith, declarator-leaves d)) ∙ failed_step why _ ∙ sym (failed_step why _))
declarators-from (Declarators.not_ended {ts} {rest} d h k) count before l =
    rw (one_turn count before ts l, ← declarator-one d) (no_separator _ _ rest h k ∙ sym (unexpected_step rest _))

-- a semicolon stands after them
declarators-leaves : {ts : List Lexeme} {o : Outcome (List Declarator)} → Declarators ts o → (n : ℕ) → length ts ≤ suc n → Leaves n o
declarators-leaves (Declarators.last s d) n h = omega (arith, declarator-leaves d)
declarators-leaves (Declarators.more c d m) n h = declarators-leaves m n (omega (arith, declarator-leaves d))
declarators-leaves (Declarators.in_declarator why d) n h = failed_leaves (List Declarator) why n
declarators-leaves (Declarators.in_more c why d m) n h = failed_leaves (List Declarator) why n
declarators-leaves (Declarators.not_ended {rest} d k l) n h = unexpected_leaves (List Declarator) rest n

declarators_more : {ts us : List Lexeme} {x : Declarator} (c : TokenText) {o : Outcome (List Declarator)} → ADeclarator ts (Read x (lexeme.Comma c ∷ us)) → Declarators us o → Comes o → Has Declarators ts
declarators_more c d m (read xs rest) = record { outcome = _; holds = Declarators.more c d m }
declarators_more c d m (unread why) = record { outcome = failed why; holds = Declarators.in_more c why d m }

declarators_after : (ts : List Lexeme) {o : Outcome Declarator} → ADeclarator ts o → Comes o → ((us : List Lexeme) → suc (length us) ≤ length ts → Has Declarators us) → Has Declarators ts
declarators_after ts d (unread why) again = record { outcome = failed why; holds = Declarators.in_declarator why d }
declarators_after ts d (read x (lexeme.Comma c ∷ us)) again =
    let has = again us (declarator-leaves d) in declarators_more c d has.holds (comes has.outcome)
declarators_after ts d (read x (lexeme.Semicolon s ∷ us)) again = record { outcome = _; holds = Declarators.last s d }
declarators_after ts d (read x []) again = record { outcome = unexpected []; holds = Declarators.not_ended d refl refl }
declarators_after ts d (read x (u ∷ us)) again = record { outcome = unexpected (u ∷ us); holds = Declarators.not_ended d refl refl }

-- where no token stands, the tokens end
nothing_declares : Has Declarators []
nothing_declares = record { outcome = Ends; holds = Declarators.in_declarator Early (ADeclarator.plain refl (PlainDeclarator.no_name (AreStars.no_star refl) (MaybeMarker.unmarked refl) refl)) }

declarators_up_to : (n : ℕ) (ts : List Lexeme) → length ts ≤ n → Has Declarators ts
declarators_up_to zero [] h = nothing_declares
declarators_up_to zero (t ∷ ts) h = absurd (omega arith)
declarators_up_to (suc n) ts h = declarators_after ts (declarator_has ts).holds (comes (declarator_has ts).outcome) (λ us k. declarators_up_to n us (omega arith))

declarators_has : (ts : List Lexeme) → Has Declarators ts
declarators_has ts = declarators_up_to (length ts) ts (omega arith)

-- ---- fields

no_label : (ts : List Lexeme) → begins_label ts ≡ false → no_label_at ts ≡ Read tt ts
unfolding no_label_at
no_label (lexeme.Name s ∷ lexeme.Colon c ∷ ts) h = rw h refl
no_label [] h = refl
no_label (lexeme.Name s ∷ []) h = refl
no_label (lexeme.Name s ∷ t ∷ ts) h = refl
no_label (t ∷ ts) h = refl

field-one : {ts : List Lexeme} {o : Outcome RawField} → Field ts o → o ≡ field_at ts
unfolding field_at no_label_at
field-one (Field.field {ts} {us} h t d) =
    rw (no_label ts h, ← type-alone InField ts _ t, declarators-from d (length us) [] (omega arith)) refl
field-one (Field.label s c h) = rw h refl
field-one (Field.in_type {ts} why h t) = rw (no_label ts h, ← type-alone InField ts _ t) (sym (failed_step why _))
field-one (Field.in_declarators {ts} {us} why h t d) =
    rw (no_label ts h, ← type-alone InField ts _ t, declarators-from d (length us) [] (omega arith), failed_step, failed_step) refl

field-leaves : {ts : List Lexeme} {o : Outcome RawField} → Field ts o → (n : ℕ) → length ts ≤ suc n → Leaves n o
field-leaves (Field.field h t d) n k = declarators-leaves d n (omega (arith, type-leaves t))
field-leaves (Field.label s c h) n k = tt
field-leaves (Field.in_type why h t) n k = failed_leaves RawField why n
field-leaves (Field.in_declarators why h t d) n k = failed_leaves RawField why n

field_declares : {ts us : List Lexeme} {x : RawType} → begins_label ts ≡ false → AType InField ts (Read x us) → {o : Outcome (List Declarator)} → Declarators us o → Comes o → Has Field ts
field_declares h t d (read xs rest) = record { outcome = _; holds = Field.field h t d }
field_declares h t d (unread why) = record { outcome = failed why; holds = Field.in_declarators why h t d }

field_type : {ts : List Lexeme} → begins_label ts ≡ false → {o : Outcome RawType} → AType InField ts o → Comes o → Has Field ts
field_type h t (read x us) = field_declares h t (declarators_has us).holds (comes (declarators_has us).outcome)
field_type h t (unread why) = record { outcome = failed why; holds = Field.in_type why h t }

field_after : (ts : List Lexeme) → begins_label ts ≡ false → Has Field ts
field_after ts h = field_type h (type_has InField ts).holds (comes (type_has InField ts).outcome)

field_label : (s c : TokenText) (ts : List Lexeme) (is : Bool) → is_access s.word ≡ is → Has Field (lexeme.Name s ∷ lexeme.Colon c ∷ ts)
field_label s c ts true h = record { outcome = _; holds = Field.label s c h }
field_label s c ts false h = field_after (lexeme.Name s ∷ lexeme.Colon c ∷ ts) h

field_has : (ts : List Lexeme) → Has Field ts
field_has (lexeme.Name s ∷ lexeme.Colon c ∷ ts) = field_label s c ts (is_access s.word) refl
field_has [] = field_after [] refl
field_has (lexeme.Name s ∷ []) = field_after (lexeme.Name s ∷ []) refl
field_has (lexeme.Name s ∷ t ∷ ts) = field_after (lexeme.Name s ∷ t ∷ ts) refl
field_has (t ∷ ts) = field_after (t ∷ ts) refl

pub field-alone : (ts : List Lexeme) (o : Outcome RawField) → Field ts o → o ≡ field_at ts
field-alone ts o d = field-one d

pub field-allowed : (ts : List Lexeme) → Field ts (field_at ts)
field-allowed = allowed Field field_at field-alone field_has

-- ---- lists of fields

nothing_is_field : field_at [] ≡ Ends
unfolding field_at no_label_at type_at without_qualifiers bare_type_at
nothing_is_field = refl

fields_turn : (count : ℕ) (before : List RawField) (ts : List Lexeme) → length ts ≤ count
    → fields_from count before ts ≡ (field_at ts >>= λ one. until_brace (fields_from (count - 1) (before ++ one.0 ∷ [])) (before ++ one.0 ∷ []) one.1)
unfolding fields_from
fields_turn zero before [] h = rw nothing_is_field refl
fields_turn zero before (t ∷ ts) h = absurd (omega arith)
fields_turn (suc count) before ts h = let fewer : suc count - 1 ≡ count = omega arith in rw fewer refl

no_brace : {A : Type 0} (go : List Lexeme → Outcome A) (x : A) (ts : List Lexeme) → begins closes_brace ts ≡ false → until_brace go x ts ≡ go ts
no_brace go x [] h = refl
no_brace go x (lexeme.Close Brace s ∷ ts) h = absurd cc
no_brace go x (t ∷ ts) h = refl

-- fewer tokens stand after a field
field_count : {ts us : List Lexeme} {x : RawField} → Field ts (Read x us) → (count : ℕ) → length ts ≤ count → length us ≤ count - 1
field_count {ts} {us} d count h = field-leaves d (count - 1) (omega arith)

pub fields-from : {ts : List Lexeme} {o : Outcome (List RawField)} → FieldsToBrace ts o → (count : ℕ) (before : List RawField) → length ts ≤ count
    → fields_from count before ts ≡ prefixed before o
fields-from (FieldsToBrace.last {ts} s d) count before h = rw (fields_turn count before ts h, ← field-one d) refl
fields-from (FieldsToBrace.more {ts} {us} {rest} {f} {fs} d k m) count before h =
    rw (fields_turn count before ts h, ← field-one d, no_brace (fields_from (count - 1) (before ++ f ∷ [])) (before ++ f ∷ []) us k)
    (fields-from m (count - 1) (before ++ f ∷ []) (field_count d count h) ∙ prefixed_twice before f (Read fs rest))
fields-from (FieldsToBrace.in_field {ts} why d) count before h = rw (fields_turn count before ts h, ← field-one d) (failed_step why _ ∙ sym (failed_step why _))
fields-from (FieldsToBrace.in_more {ts} {us} {f} why d k m) count before h =
    rw (fields_turn count before ts h, ← field-one d, no_brace (fields_from (count - 1) (before ++ f ∷ [])) (before ++ f ∷ []) us k)
    (fields-from m (count - 1) (before ++ f ∷ []) (field_count d count h) ∙ failed_step why _ ∙ sym (failed_step why _))

fields_more : {ts us : List Lexeme} {f : RawField} {o : Outcome (List RawField)} → Field ts (Read f us) → begins closes_brace us ≡ false → FieldsToBrace us o → Comes o → Has FieldsToBrace ts
fields_more d k m (read fs rest) = record { outcome = _; holds = FieldsToBrace.more d k m }
fields_more d k m (unread why) = record { outcome = failed why; holds = FieldsToBrace.in_more why d k m }

fields_after : (n : ℕ) (ts : List Lexeme) → length ts ≤ suc n → {o : Outcome RawField} → Field ts o → Comes o → ((us : List Lexeme) → length us ≤ n → Has FieldsToBrace us) → Has FieldsToBrace ts
fields_after n ts h d (unread why) again = record { outcome = failed why; holds = FieldsToBrace.in_field why d }
fields_after n ts h d (read f (lexeme.Close Brace s ∷ us)) again = record { outcome = _; holds = FieldsToBrace.last s d }
fields_after n ts h d (read f []) again =
    let has = again [] (field-leaves d n h) in fields_more d refl has.holds (comes has.outcome)
fields_after n ts h d (read f (u ∷ us)) again =
    let has = again (u ∷ us) (field-leaves d n h) in fields_more d refl has.holds (comes has.outcome)

fields_up_to : (n : ℕ) (ts : List Lexeme) → length ts ≤ n → Has FieldsToBrace ts
fields_up_to zero [] h = record { outcome = Ends; holds = FieldsToBrace.in_field Early (rw nothing_is_field at (field-allowed [])) }
fields_up_to zero (t ∷ ts) h = absurd (omega arith)
fields_up_to (suc n) ts h = fields_after n ts h (field_has ts).holds (comes (field_has ts).outcome) (fields_up_to n)

pub fields_has : (ts : List Lexeme) → Has FieldsToBrace ts
fields_has ts = fields_up_to (length ts) ts (omega arith)
