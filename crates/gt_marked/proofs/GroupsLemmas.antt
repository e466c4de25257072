-- What stands in brackets, and texts that are kept, are read as their rules say.
use Rattle.std.proofs.Common.{◌≡◌, ℕ, zero, suc, Bool, true, false, List, [], ◌∷◌, ◌++◌, refl, ap, ◌∙◌, arith}
use Rattle.gt_search.specs.declared.lexeme.TokenText.{TokenText}
use Rattle.gt_search.specs.declared.lexeme.Bracket.{Bracket}
use Rattle.gt_search.specs.declared.lexeme.Lexeme.{Lexeme}
use Rattle.gt_search.specs.declared.lexeme.Lexeme.TheVariants as lexeme
use Rattle.gt_marked.specs.FieldGrammar.{closes_any, ends_text, depth_after, depth_through, Stands, IsFree}
use Rattle.gt_marked.specs.Groups.{with_token, inside_from, before_end}
use Rattle.gt_marked.specs.Outcome.{Outcome, Read, Ends}
use Rattle.gt_marked.proofs.PlacesLemmas.{or_false, stands, stands-not, not-stands, FirstPlace, first_place}

-- ---- brackets

inside_zero : (t : Lexeme) (ts : List Lexeme) → closes_any t ≡ false → inside_from zero (t ∷ ts) ≡ with_token t (inside_from (depth_after zero t) ts)
unfolding inside_from
inside_zero (lexeme.Close b s) ts h = absurd cc
inside_zero (lexeme.Open b s) ts h = refl
inside_zero t ts h = refl

inside_suc : (depth : ℕ) (t : Lexeme) (ts : List Lexeme) → inside_from (suc depth) (t ∷ ts) ≡ with_token t (inside_from (depth_after (suc depth) t) ts)
unfolding inside_from
inside_suc depth (lexeme.Close b s) ts = refl
inside_suc depth (lexeme.Open b s) ts = refl
inside_suc depth t ts = refl

inside_found : (us : List Lexeme) (depth : ℕ) (b : Bracket) (p : TokenText) (ts : List Lexeme) → depth_through depth us ≡ 0 → stands closes_any depth us ≡ false
    → inside_from depth (us ++ lexeme.Close b p ∷ ts) ≡ Read us ts
unfolding inside_from
inside_found [] zero b p ts o h = refl
inside_found [] (suc depth) b p ts o h = absurd (omega arith)
inside_found (u ∷ us) zero b p ts o h =
    let parts = or_false (closes_any u) (stands closes_any (depth_after zero u) us) h in
    inside_zero u (us ++ lexeme.Close b p ∷ ts) parts.0 ∙ ap (λ (out : Outcome (List Lexeme)). with_token u out) (inside_found us (depth_after zero u) b p ts o parts.1)
inside_found (u ∷ us) (suc depth) b p ts o h =
    inside_suc depth u (us ++ lexeme.Close b p ∷ ts) ∙ ap (λ (out : Outcome (List Lexeme)). with_token u out) (inside_found us (depth_after (suc depth) u) b p ts o h)

inside_none : (ts : List Lexeme) (depth : ℕ) → stands closes_any depth ts ≡ false → inside_from depth ts ≡ Ends
unfolding inside_from
inside_none [] depth h = refl
inside_none (t ∷ ts) zero h =
    let parts = or_false (closes_any t) (stands closes_any (depth_after zero t) ts) h in
    inside_zero t ts parts.0 ∙ ap (λ (out : Outcome (List Lexeme)). with_token t out) (inside_none ts (depth_after zero t) parts.1)
inside_none (t ∷ ts) (suc depth) h =
    inside_suc depth t ts ∙ ap (λ (out : Outcome (List Lexeme)). with_token t out) (inside_none ts (depth_after (suc depth) t) h)

-- what stands in brackets, after the one that opens
pub inside-closed : {inside : List Lexeme} → IsFree closes_any inside → (b : Bracket) (p : TokenText) (ts : List Lexeme) → inside_from 0 (inside ++ lexeme.Close b p ∷ ts) ≡ Read inside ts
inside-closed {inside} f b p ts = inside_found inside 0 b p ts f.closed (not-stands closes_any inside f.free)

pub inside-unclosed : {ts : List Lexeme} → ¬ Stands closes_any ts → inside_from 0 ts ≡ Ends
inside-unclosed {ts} h = inside_none ts 0 (not-stands closes_any ts h)

-- the bracket before the tokens is closed in them, or it is not
pub data Closes : List Lexeme → Type 0 where
  closed : {inside : List Lexeme} (rest : List Lexeme) (b : Bracket) (p : TokenText) → IsFree closes_any inside → Closes (inside ++ lexeme.Close b p ∷ rest)
  unclosed : {ts : List Lexeme} → ¬ Stands closes_any ts → Closes ts

closes_here : (front : List Lexeme) (t : Lexeme) (following : List Lexeme) → closes_any t ≡ true → IsFree closes_any front → Closes (front ++ t ∷ following)
closes_here front (lexeme.Close b p) following h f = closed {inside = front} following b p f
closes_here front t following h f = absurd cc

closes_first : (ts : List Lexeme) → FirstPlace closes_any 0 ts → Closes ts
closes_first ts s = rw (s.parts) (closes_here s.front s.token s.following s.passes (record { closed = s.outside; free = stands-not closes_any s.front s.none }))

pub closes : (ts : List Lexeme) → Closes ts
closes ts = cases (stands closes_any 0 ts) refl
  where
    cases : (b : Bool) → stands closes_any 0 ts ≡ b → Closes ts
    cases true e = closes_first ts (first_place closes_any ts 0 e)
    cases false e = unclosed (stands-not closes_any ts e)

-- ---- texts

before_zero : (t : Lexeme) (ts : List Lexeme) → ends_text t ≡ false → before_end zero (t ∷ ts) ≡ with_token t (before_end (depth_after zero t) ts)
unfolding before_end
before_zero (lexeme.Open b s) ts h = refl
before_zero (lexeme.Close b s) ts h = absurd cc
before_zero (lexeme.Comma s) ts h = absurd cc
before_zero (lexeme.Semicolon s) ts h = absurd cc
before_zero t ts h = refl

before_suc : (depth : ℕ) (t : Lexeme) (ts : List Lexeme) → before_end (suc depth) (t ∷ ts) ≡ with_token t (before_end (depth_after (suc depth) t) ts)
unfolding before_end
before_suc depth (lexeme.Open b s) ts = refl
before_suc depth (lexeme.Close b s) ts = refl
before_suc depth (lexeme.Comma s) ts = refl
before_suc depth (lexeme.Semicolon s) ts = refl
before_suc depth t ts = refl

before_here : (t : Lexeme) (ts : List Lexeme) → ends_text t ≡ true → before_end 0 (t ∷ ts) ≡ Read [] (t ∷ ts)
unfolding before_end
before_here (lexeme.Comma s) ts h = refl
before_here (lexeme.Semicolon s) ts h = refl
before_here (lexeme.Close b s) ts h = refl
before_here t ts h = absurd cc

before_found : (us : List Lexeme) (depth : ℕ) (t : Lexeme) (ts : List Lexeme) → ends_text t ≡ true → depth_through depth us ≡ 0 → stands ends_text depth us ≡ false
    → before_end depth (us ++ t ∷ ts) ≡ Read us (t ∷ ts)
before_found [] zero t ts e o h = before_here t ts e
before_found [] (suc depth) t ts e o h = absurd (omega arith)
before_found (u ∷ us) zero t ts e o h =
    let parts = or_false (ends_text u) (stands ends_text (depth_after zero u) us) h in
    before_zero u (us ++ t ∷ ts) parts.0 ∙ ap (λ (out : Outcome (List Lexeme)). with_token u out) (before_found us (depth_after zero u) t ts e o parts.1)
before_found (u ∷ us) (suc depth) t ts e o h =
    before_suc depth u (us ++ t ∷ ts) ∙ ap (λ (out : Outcome (List Lexeme)). with_token u out) (before_found us (depth_after (suc depth) u) t ts e o h)

before_none : (ts : List Lexeme) (depth : ℕ) → stands ends_text depth ts ≡ false → before_end depth ts ≡ Ends
unfolding before_end
before_none [] depth h = refl
before_none (t ∷ ts) zero h =
    let parts = or_false (ends_text t) (stands ends_text (depth_after zero t) ts) h in
    before_zero t ts parts.0 ∙ ap (λ (out : Outcome (List Lexeme)). with_token t out) (before_none ts (depth_after zero t) parts.1)
before_none (t ∷ ts) (suc depth) h =
    before_suc depth t ts ∙ ap (λ (out : Outcome (List Lexeme)). with_token t out) (before_none ts (depth_after (suc depth) t) h)

pub before-ended : {text : List Lexeme} → IsFree ends_text text → (t : Lexeme) (ts : List Lexeme) → ends_text t ≡ true → before_end 0 (text ++ t ∷ ts) ≡ Read text (t ∷ ts)
before-ended {text} f t ts e = before_found text 0 t ts e f.closed (not-stands ends_text text f.free)

pub before-endless : {ts : List Lexeme} → ¬ Stands ends_text ts → before_end 0 ts ≡ Ends
before-endless {ts} h = before_none ts 0 (not-stands ends_text ts h)

-- a text ends in the tokens, or it does not
pub data EndsText : List Lexeme → Type 0 where
  ended : {text : List Lexeme} (rest : List Lexeme) (t : Lexeme) → IsFree ends_text text → ends_text t ≡ true → EndsText (text ++ t ∷ rest)
  endless : {ts : List Lexeme} → ¬ Stands ends_text ts → EndsText ts

ends_first : (ts : List Lexeme) → FirstPlace ends_text 0 ts → EndsText ts
ends_first ts s = rw (s.parts) (ended {text = s.front} s.following s.token (record { closed = s.outside; free = stands-not ends_text s.front s.none }) s.passes)

pub ends : (ts : List Lexeme) → EndsText ts
ends ts = cases (stands ends_text 0 ts) refl
  where
    cases : (b : Bool) → stands ends_text 0 ts ≡ b → EndsText ts
    cases true e = ends_first ts (first_place ends_text ts 0 e)
    cases false e = endless (stands-not ends_text ts e)
