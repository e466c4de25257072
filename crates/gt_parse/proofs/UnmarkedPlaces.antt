-- Pieces between commas, last names and first brackets are found as their rules say.
use Rattle.std.proofs.Common.{◌≡◌, ℕ, zero, suc, Bool, true, false, List, [], ◌∷◌, ◌++◌, Option, Some, None, refl, sym, ap, ◌∙◌, inl, inr, append_assoc, arith}
use Rattle.std.proofs.lemmas.Bool.{or_cases}
use Rattle.std.proofs.lemmas.List.{append-nil}
use Rattle.gt_items.specs.declared.items.Name.{Name}
use Rattle.gt_search.specs.declared.lexeme.TokenText.{TokenText}
use Rattle.gt_search.specs.declared.lexeme.Bracket.TheVariants.{Round}
use Rattle.gt_search.specs.declared.lexeme.Lexeme.{Lexeme}
use Rattle.gt_search.specs.declared.lexeme.Lexeme.TheVariants as lexeme
use Rattle.gt_marked.specs.FieldGrammar.{depth_after, depth_through}
use Rattle.gt_parse.specs.ItemGrammar.{HasPointer}
use Rattle.gt_search.specs.Lexemes.{name_of}
use Rattle.gt_marked.specs.MarkerGrammar.{is_comma, opens_round}
use Rattle.gt_marked.specs.TypeGrammar.{is_name}
use Rattle.gt_parse.specs.Unmarked.{pieces_from, last_name, after_round, opaque_name}
use Rattle.gt_marked.proofs.PlacesLemmas.{or_false, stands, stands-not, not-stands}

-- ---- pieces between commas

pieces_zero : (piece : List Lexeme) (t : Lexeme) (ts : List Lexeme) → is_comma t ≡ false → pieces_from zero piece (t ∷ ts) ≡ pieces_from (depth_after zero t) (piece ++ t ∷ []) ts
unfolding pieces_from
pieces_zero piece (lexeme.Comma s) ts h = absurd cc
pieces_zero piece (lexeme.Open b s) ts h = refl
pieces_zero piece (lexeme.Close b s) ts h = refl
pieces_zero piece t ts h = refl

pieces_suc : (depth : ℕ) (piece : List Lexeme) (t : Lexeme) (ts : List Lexeme) → pieces_from (suc depth) piece (t ∷ ts) ≡ pieces_from (depth_after (suc depth) t) (piece ++ t ∷ []) ts
unfolding pieces_from
pieces_suc depth piece (lexeme.Comma s) ts = refl
pieces_suc depth piece (lexeme.Open b s) ts = refl
pieces_suc depth piece (lexeme.Close b s) ts = refl
pieces_suc depth piece t ts = refl

pub pieces_pass : (us : List Lexeme) (depth : ℕ) (piece ts : List Lexeme) → stands is_comma depth us ≡ false
    → pieces_from depth piece (us ++ ts) ≡ pieces_from (depth_through depth us) (piece ++ us) ts
pieces_pass [] depth piece ts h = rw (append-nil piece) refl
pieces_pass (u ∷ us) zero piece ts h =
    let parts = or_false (is_comma u) (stands is_comma (depth_after zero u) us) h in
    pieces_zero piece u (us ++ ts) parts.0 ∙ pieces_pass us (depth_after zero u) (piece ++ u ∷ []) ts parts.1
    ∙ ap (λ (vs : List Lexeme). pieces_from (depth_through (depth_after zero u) us) vs ts) (append_assoc piece (u ∷ []) us)
pieces_pass (u ∷ us) (suc depth) piece ts h =
    pieces_suc depth piece u (us ++ ts) ∙ pieces_pass us (depth_after (suc depth) u) (piece ++ u ∷ []) ts h
    ∙ ap (λ (vs : List Lexeme). pieces_from (depth_through (depth_after (suc depth) u) us) vs ts) (append_assoc piece (u ∷ []) us)

-- ---- the last name

abbrev new_last : ℕ → Option Name → Lexeme → Option Name
new_last zero last (lexeme.Name s) = Some (name_of s)
new_last depth last t = last

last_step : (depth : ℕ) (last : Option Name) (t : Lexeme) (ts : List Lexeme) → last_name depth last (t ∷ ts) ≡ last_name (depth_after depth t) (new_last depth last t) ts
unfolding last_name
last_step zero last (lexeme.Name s) ts = refl
last_step zero last (lexeme.Open b s) ts = refl
last_step zero last (lexeme.Close b s) ts = refl
last_step zero last t ts = refl
last_step (suc depth) last (lexeme.Name s) ts = refl
last_step (suc depth) last (lexeme.Open b s) ts = refl
last_step (suc depth) last (lexeme.Close b s) ts = refl
last_step (suc depth) last t ts = refl

same_last : (last : Option Name) (t : Lexeme) → is_name t ≡ false → new_last zero last t ≡ last
same_last last (lexeme.Name s) h = absurd cc
same_last last t h = refl

pub last_stays : (ts : List Lexeme) (depth : ℕ) (last : Option Name) → stands is_name depth ts ≡ false → last_name depth last ts ≡ last
unfolding last_name
last_stays [] depth last h = refl
last_stays (t ∷ ts) zero last h =
    let parts = or_false (is_name t) (stands is_name (depth_after zero t) ts) h in
    last_step zero last t ts ∙ last_stays ts (depth_after zero t) (new_last zero last t) parts.1 ∙ same_last last t parts.0
last_stays (t ∷ ts) (suc depth) last h = last_step (suc depth) last t ts ∙ last_stays ts (depth_after (suc depth) t) last h

pub last_found : (front : List Lexeme) (depth : ℕ) (last : Option Name) (n : TokenText) (following : List Lexeme) → depth_through depth front ≡ 0
    → last_name depth last (front ++ lexeme.Name n ∷ following) ≡ last_name 0 (Some (name_of n)) following
last_found [] zero last n following o = last_step zero last (lexeme.Name n) following
last_found [] (suc depth) last n following o = absurd (omega arith)
last_found (t ∷ front) depth last n following o =
    last_step depth last t (front ++ lexeme.Name n ∷ following) ∙ last_found front (depth_after depth t) (new_last depth last t) n following o

pub record HasLast (depth : ℕ) (ts : List Lexeme) : Type 0 where
  pub front : List Lexeme
  pub name : TokenText
  pub following : List Lexeme
  pub parts : ts ≡ front ++ lexeme.Name name ∷ following
  pub outside : depth_through depth front ≡ 0
  pub none : stands is_name 0 following ≡ false

last_further : (depth : ℕ) (t : Lexeme) (ts : List Lexeme) → HasLast (depth_after depth t) ts → HasLast depth (t ∷ ts)
last_further depth t ts s =
    record { front = t ∷ s.front; name = s.name; following = s.following; parts = ap (λ (us : List Lexeme). t ∷ us) s.parts; outside = s.outside; none = s.none }

last_here : (t : Lexeme) (ts : List Lexeme) → is_name t ≡ true → stands is_name (depth_after zero t) ts ≡ false → HasLast zero (t ∷ ts)
last_here (lexeme.Name n) ts h k = record { front = []; name = n; following = ts; parts = refl; outside = refl; none = k }
last_here t ts h k = absurd cc

pub last_place : (ts : List Lexeme) (depth : ℕ) → stands is_name depth ts ≡ true → HasLast depth ts
last_place [] depth e = absurd cc
last_place (t ∷ ts) zero e = cases (stands is_name (depth_after zero t) ts) refl (last_place ts (depth_after zero t))
  where
    cases : (b : Bool) → stands is_name (depth_after zero t) ts ≡ b → (stands is_name (depth_after zero t) ts ≡ true → HasLast (depth_after zero t) ts) → HasLast zero (t ∷ ts)
    cases true k again = last_further zero t ts (again k)
    cases false k again =
        elim (or_cases (is_name t) (stands is_name (depth_after zero t) ts) e) [
          | inl p ↦ last_here t ts p k
          | inr q ↦ last_further zero t ts (again q)
        ]
last_place (t ∷ ts) (suc depth) e = last_further (suc depth) t ts (last_place ts (depth_after (suc depth) t) e)

-- ---- the first round bracket

round_zero : (t : Lexeme) (ts : List Lexeme) → opens_round t ≡ false → after_round zero (t ∷ ts) ≡ after_round (depth_after zero t) ts
unfolding after_round
round_zero (lexeme.Open Round s) ts h = absurd cc
round_zero (lexeme.Close b s) ts h = refl
round_zero t ts h = refl

round_suc : (depth : ℕ) (t : Lexeme) (ts : List Lexeme) → after_round (suc depth) (t ∷ ts) ≡ after_round (depth_after (suc depth) t) ts
unfolding after_round
round_suc depth (lexeme.Open Round s) ts = refl
round_suc depth (lexeme.Close b s) ts = refl
round_suc depth t ts = refl

round_found : (front : List Lexeme) (depth : ℕ) (a : TokenText) (ts : List Lexeme) → depth_through depth front ≡ 0 → stands opens_round depth front ≡ false
    → after_round depth (front ++ lexeme.Open Round a ∷ ts) ≡ ts
unfolding after_round
round_found [] zero a ts o h = refl
round_found [] (suc depth) a ts o h = absurd (omega arith)
round_found (t ∷ front) zero a ts o h =
    let parts = or_false (opens_round t) (stands opens_round (depth_after zero t) front) h in
    round_zero t (front ++ lexeme.Open Round a ∷ ts) parts.0 ∙ round_found front (depth_after zero t) a ts o parts.1
round_found (t ∷ front) (suc depth) a ts o h =
    round_suc depth t (front ++ lexeme.Open Round a ∷ ts) ∙ round_found front (depth_after (suc depth) t) a ts o h

pub pointer-round : {ts : List Lexeme} (p : HasPointer ts) → after_round 0 ts ≡ lexeme.Star p.star ∷ p.following
pointer-round {ts} p = rw (p.parts) (round_found p.front 0 p.bracket (lexeme.Star p.star ∷ p.following) p.first.closed (not-stands opens_round p.front p.first.free))

record HasRound (depth : ℕ) (ts rest : List Lexeme) : Type 0 where
  front : List Lexeme
  bracket : TokenText
  parts : ts ≡ front ++ lexeme.Open Round bracket ∷ rest
  outside : depth_through depth front ≡ 0
  first : stands opens_round depth front ≡ false

round_further_zero : (t : Lexeme) (ts rest : List Lexeme) → opens_round t ≡ false → HasRound (depth_after zero t) ts rest → HasRound zero (t ∷ ts) rest
round_further_zero t ts rest h s =
    record { front = t ∷ s.front; bracket = s.bracket; parts = ap (λ (us : List Lexeme). t ∷ us) s.parts; outside = s.outside; first = rw h s.first }

round_further : (depth : ℕ) (t : Lexeme) (ts rest : List Lexeme) → HasRound (depth_after (suc depth) t) ts rest → HasRound (suc depth) (t ∷ ts) rest
round_further depth t ts rest s =
    record { front = t ∷ s.front; bracket = s.bracket; parts = ap (λ (us : List Lexeme). t ∷ us) s.parts; outside = s.outside; first = s.first }

round_place : (ts : List Lexeme) (depth : ℕ) (u : Lexeme) (us : List Lexeme) → after_round depth ts ≡ u ∷ us → HasRound depth ts (u ∷ us)
unfolding after_round
round_place [] depth u us e = absurd cc
round_place (lexeme.Open Round a ∷ ts) zero u us e = record { front = []; bracket = a; parts = ap (λ (vs : List Lexeme). lexeme.Open Round a ∷ vs) e; outside = refl; first = refl }
round_place (lexeme.Close b s ∷ ts) zero u us e = round_further_zero (lexeme.Close b s) ts (u ∷ us) refl (round_place ts zero u us e)
round_place (t ∷ ts) zero u us e = round_further_zero t ts (u ∷ us) refl (round_place ts (depth_after zero t) u us (sym (round_zero t ts refl) ∙ e))
round_place (t ∷ ts) (suc depth) u us e = round_further depth t ts (u ∷ us) (round_place ts (depth_after (suc depth) t) u us (sym (round_suc depth t ts) ∙ e))

pub round-pointer : (ts : List Lexeme) (s : TokenText) (us : List Lexeme) → after_round 0 ts ≡ lexeme.Star s ∷ us → HasPointer ts
round-pointer ts s us e =
    let r = round_place ts 0 (lexeme.Star s) us e in
    record { front = r.front; bracket = r.bracket; star = s; following = us; parts = r.parts; first = record { closed = r.outside; free = stands-not opens_round r.front r.first } }

pub no-pointer : (ts : List Lexeme) → ¬ HasPointer ts → opaque_name ts (after_round 0 ts) ≡ last_name 0 None ts
no-pointer ts h = cases (after_round 0 ts) refl
  where
    cases : (us : List Lexeme) → after_round 0 ts ≡ us → opaque_name ts us ≡ last_name 0 None ts
    cases (lexeme.Star s ∷ us) e = absurd (h (round-pointer ts s us e))
    cases [] e = refl
    cases (u ∷ us) e = refl
