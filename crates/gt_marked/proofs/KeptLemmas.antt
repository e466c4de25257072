-- The kept text of tokens, one token at a time.
use Rattle.std.proofs.Common.{◌≡◌, ◌≢◌, ℕ, ◌+◌, ◌<◌, ◌≤◌, true, false, List, [], ◌∷◌, ◌++◌, length, get_or, drop, sym, ap, ◌∙◌, append_assoc, arith}
use Rattle.std.specs.Prelude.{◌==◌, encode_utf8_all}
use Rattle.std.proofs.lemmas.List.{append-nil, drop_all}
use Rattle.gt_search.specs.declared.lexeme.Lexeme.{Lexeme}
use Rattle.gt_search.specs.declared.lexeme.TokenText.{TokenText}
use Rattle.gt_search.specs.Lexemes.{spot_of, text_after}
use Rattle.gt_marked.proofs.Insides.{drop_at}

module _ (tokens : List Lexeme) (made total : List ℕ) (end at : ℕ) (t : Lexeme) (lt : at < length tokens) (is : t ≡ get_or tokens at t) (so_far : made ++ text_after end (drop at tokens) ≡ total) where
  here : made ++ text_after end (t ∷ drop (at + 1) tokens) ≡ total
  here = ap (λ ts. made ++ text_after end ts) (sym (drop_at tokens at t lt is)) ∙ so_far

  module _ (s : TokenText) (new : List ℕ) (spot : s ≡ spot_of t) where
    pub text_joined : s.start ≡ end → new ≡ made ++ encode_utf8_all s.word → new ++ text_after s.end (drop (at + 1) tokens) ≡ total
    unfolding text_after
    text_joined e added =
        let k : (end == (spot_of t).start) ≡ true = rw (← spot) (grind arith) in
        let h = rw k at here in
        rw (added, spot, append_assoc) h

    pub text_apart : s.start ≢ end → new ≡ (made ++ 32 ∷ []) ++ encode_utf8_all s.word → new ++ text_after s.end (drop (at + 1) tokens) ≡ total
    unfolding text_after
    text_apart n added =
        let k : (end == (spot_of t).start) ≡ false = rw (← spot) (grind arith) in
        let h = rw k at here in
        rw (added, spot) (simp append_assoc h)

pub text_end : (tokens : List Lexeme) (made total : List ℕ) (end at : ℕ) → length tokens ≤ at → made ++ text_after end (drop at tokens) ≡ total → made ≡ total
unfolding text_after
text_end tokens made total end at h so_far = sym (append-nil made) ∙ sym (ap (λ ts. made ++ text_after end ts) (drop_all at tokens h)) ∙ so_far
