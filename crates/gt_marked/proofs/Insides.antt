-- What stands in brackets, one token at a time.
use Rattle.std.proofs.Common.{◌≡◌, ℕ, zero, suc, ◌+◌, ◌-◌, ◌<◌, ◌≤◌, List, [], ◌∷◌, ◌++◌, length, get_or, take, drop, Some, None, refl, sym, ap, ◌∙◌, append_assoc, add-one, drop-cons, arith}
use Rattle.std.proofs.lemmas.List.{append-nil, drop_all, take_more, take_rest}
use Rattle.gt_search.specs.declared.lexeme.Lexeme.{Lexeme}
use Rattle.gt_search.specs.declared.lexeme.Lexeme.TheVariants as lexeme
use Rattle.gt_marked.specs.Outcome.{Outcome, Read, Stops, Ends, ◌>>=◌}
use Rattle.gt_marked.specs.Groups.{depth_past, depth_in_part, with_token, inside_from, before_end}

-- tokens before those that were read
abbrev pub after_tokens : List Lexeme → Outcome (List Lexeme) → Outcome (List Lexeme)
after_tokens before o = o >>= λ read. Read (before ++ read.0) read.1

after_one : (before : List Lexeme) (t : Lexeme) (o : Outcome (List Lexeme)) → after_tokens before (with_token t o) ≡ after_tokens (before ++ t ∷ []) o
after_one before t (Read x ts) = rw append_assoc refl
after_one before t (Stops number at) = refl
after_one before t Ends = refl

-- the tokens from a place on, by the token there
pub drop_at : (tokens : List Lexeme) (at : ℕ) (t : Lexeme) → at < length tokens → t ≡ get_or tokens at t → drop at tokens ≡ t ∷ drop (at + 1) tokens
drop_at tokens at t lt is = let e : drop at tokens ≡ get_or tokens at t ∷ drop (at + 1) tokens = rw (add-one, drop-cons tokens at t) refl in e ∙ ap (λ x. x ∷ drop (at + 1) tokens) (sym is)

pub take_at : (tokens : List Lexeme) (at : ℕ) (t : Lexeme) → at < length tokens → t ≡ get_or tokens at t → take (at + 1) tokens ≡ take at tokens ++ t ∷ []
take_at tokens at t lt is = take_more tokens at t lt ∙ ap (λ x. take at tokens ++ x ∷ []) (sym is)

-- a token opens one bracket at the most
pub depth_past-le : (depth : ℕ) (t : Lexeme) (next : ℕ) → depth_past depth t ≡ Some next → next ≤ depth + 1
depth_past-le depth (lexeme.Open b s) next e = let k : suc depth ≡ next = cc in omega arith
depth_past-le zero (lexeme.Close b s) next e = absurd cc
depth_past-le (suc depth) (lexeme.Close b s) next e = let k : depth ≡ next = cc in omega arith
depth_past-le depth t next e = let k : depth ≡ next = cc in omega arith

pub depth_in_part-le : (depth : ℕ) (t : Lexeme) (next : ℕ) → depth_in_part depth t ≡ Some next → next ≤ depth + 1
depth_in_part-le zero (lexeme.Comma s) next e = absurd cc
depth_in_part-le zero (lexeme.Semicolon s) next e = absurd cc
depth_in_part-le depth t next e = depth_past-le depth t next e

inside_goes_on : (depth : ℕ) (t : Lexeme) (ts : List Lexeme) (next : ℕ) → depth_past depth t ≡ Some next → inside_from depth (t ∷ ts) ≡ with_token t (inside_from next ts)
unfolding inside_from
inside_goes_on depth (lexeme.Open b s) ts next e = let k : suc depth ≡ next = cc in rw (← k) refl
inside_goes_on zero (lexeme.Close b s) ts next e = absurd cc
inside_goes_on (suc depth) (lexeme.Close b s) ts next e = let k : depth ≡ next = cc in rw (← k) refl
inside_goes_on depth t ts next e = let k : depth ≡ next = cc in rw (← k) refl

inside_closes : (depth : ℕ) (t : Lexeme) (ts : List Lexeme) → depth_past depth t ≡ None → inside_from depth (t ∷ ts) ≡ Read [] ts
unfolding inside_from
inside_closes depth (lexeme.Open b s) ts e = absurd cc
inside_closes zero (lexeme.Close b s) ts e = refl
inside_closes (suc depth) (lexeme.Close b s) ts e = absurd cc
inside_closes depth t ts e = absurd cc

part_goes_on : (depth : ℕ) (t : Lexeme) (ts : List Lexeme) (next : ℕ) → depth_in_part depth t ≡ Some next → before_end depth (t ∷ ts) ≡ with_token t (before_end next ts)
unfolding before_end
part_goes_on zero (lexeme.Comma s) ts next e = absurd cc
part_goes_on zero (lexeme.Semicolon s) ts next e = absurd cc
part_goes_on depth (lexeme.Open b s) ts next e = let k : suc depth ≡ next = cc in rw (← k) refl
part_goes_on zero (lexeme.Close b s) ts next e = absurd cc
part_goes_on (suc depth) (lexeme.Close b s) ts next e = let k : depth ≡ next = cc in rw (← k) refl
part_goes_on depth t ts next e = let k : depth ≡ next = cc in rw (← k) refl

part_ends : (depth : ℕ) (t : Lexeme) (ts : List Lexeme) → depth_in_part depth t ≡ None → before_end depth (t ∷ ts) ≡ Read [] (t ∷ ts)
unfolding before_end
part_ends zero (lexeme.Comma s) ts e = refl
part_ends zero (lexeme.Semicolon s) ts e = refl
part_ends depth (lexeme.Open b s) ts e = absurd cc
part_ends zero (lexeme.Close b s) ts e = refl
part_ends (suc depth) (lexeme.Close b s) ts e = absurd cc
part_ends depth t ts e = absurd cc

-- at a token
module _ (tokens : List Lexeme) (depth at : ℕ) (t : Lexeme) (total : Outcome (List Lexeme)) (lt : at < length tokens) (is : t ≡ get_or tokens at t) where
  module _ (so_far : after_tokens (take at tokens) (inside_from depth (drop at tokens)) ≡ total) where
    pub inside_more : (next : ℕ) → depth_past depth t ≡ Some next → after_tokens (take (at + 1) tokens) (inside_from next (drop (at + 1) tokens)) ≡ total
    inside_more next e =
        ap (λ before. after_tokens before (inside_from next (drop (at + 1) tokens))) (take_at tokens at t lt is)
        ∙ sym (after_one (take at tokens) t (inside_from next (drop (at + 1) tokens)))
        ∙ ap (after_tokens (take at tokens)) (sym (ap (inside_from depth) (drop_at tokens at t lt is) ∙ inside_goes_on depth t _ next e))
        ∙ so_far

    pub inside_read : depth_past depth t ≡ None → total ≡ Read (take at tokens) (take (length tokens - (at + 1)) (drop (at + 1) tokens))
    inside_read e =
        sym so_far
        ∙ ap (after_tokens (take at tokens)) (ap (inside_from depth) (drop_at tokens at t lt is) ∙ inside_closes depth t _ e)
        ∙ rw (append-nil (take at tokens), take_rest tokens (at + 1)) refl

  module _ (so_far : after_tokens (take at tokens) (before_end depth (drop at tokens)) ≡ total) where
    pub part_more : (next : ℕ) → depth_in_part depth t ≡ Some next → after_tokens (take (at + 1) tokens) (before_end next (drop (at + 1) tokens)) ≡ total
    part_more next e =
        ap (λ before. after_tokens before (before_end next (drop (at + 1) tokens))) (take_at tokens at t lt is)
        ∙ sym (after_one (take at tokens) t (before_end next (drop (at + 1) tokens)))
        ∙ ap (after_tokens (take at tokens)) (sym (ap (before_end depth) (drop_at tokens at t lt is) ∙ part_goes_on depth t _ next e))
        ∙ so_far

    pub part_read : depth_in_part depth t ≡ None → total ≡ Read (take at tokens) (take (length tokens - at) (drop at tokens))
    part_read e =
        sym so_far
        ∙ ap (after_tokens (take at tokens)) (ap (before_end depth) (drop_at tokens at t lt is) ∙ part_ends depth t _ e ∙ ap (Read []) (sym (drop_at tokens at t lt is)))
        ∙ rw (append-nil (take at tokens), take_rest tokens at) refl

-- at the end of the tokens
module _ (tokens before : List Lexeme) (depth at : ℕ) (total : Outcome (List Lexeme)) (end : length tokens ≤ at) where
  pub inside_end : after_tokens before (inside_from depth (drop at tokens)) ≡ total → total ≡ Ends
  unfolding inside_from
  inside_end so_far = sym so_far ∙ ap (λ ts. after_tokens before (inside_from depth ts)) (drop_all at tokens end)

  pub part_end : after_tokens before (before_end depth (drop at tokens)) ≡ total → total ≡ Ends
  unfolding before_end
  part_end so_far = sym so_far ∙ ap (λ ts. after_tokens before (before_end depth ts)) (drop_all at tokens end)
