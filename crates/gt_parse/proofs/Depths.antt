-- What stands in no brackets, one token at a time.
use Rattle.std.proofs.Common.{◌≡◌, ℕ, zero, suc, ◌+◌, ◌-◌, ◌<◌, ◌≤◌, Bool, true, false, List, [], ◌∷◌, ◌++◌, length, get_or, take, drop, Option, Some, refl, sym, ap, ◌∙◌, append_assoc, arith}
use Rattle.std.proofs.lemmas.List.{drop_all, take_rest}
use Rattle.std.proofs.lemmas.List.Edits.{between_more}
use Rattle.gt_items.specs.declared.items.Name.{Name}
use Rattle.gt_items.specs.declared.items.Item.{Item}
use Rattle.gt_items.specs.declared.items.Enumerator.{Enumerator}
use Rattle.gt_search.specs.declared.lexeme.TokenText.{TokenText}
use Rattle.gt_search.specs.declared.lexeme.Bracket.TheVariants.{Round}
use Rattle.gt_search.specs.declared.lexeme.Lexeme.{Lexeme}
use Rattle.gt_search.specs.declared.lexeme.Lexeme.TheVariants as lexeme
use Rattle.gt_search.specs.Lexemes.{name_of}
use Rattle.gt_marked.specs.Outcome.{Outcome, Read, Stops}
use Rattle.gt_marked.specs.Groups.{depth_after}
use Rattle.gt_parse.specs.Unmarked.{enumerator_of, is_comma, pieces_from, enumerators_of, last_name, opens_round, after_round, unmarked_of, unmarked_at}
use Rattle.gt_parse.specs.Reading.{is_marker, is_marked}
use Rattle.gt_marked.proofs.Insides.{drop_at}

-- a token opens one bracket at the most
pub depth_after-le : (depth : ℕ) (t : Lexeme) → depth_after depth t ≤ depth + 1
depth_after-le depth (lexeme.Open b s) = omega arith
depth_after-le zero (lexeme.Close b s) = omega arith
depth_after-le (suc depth) (lexeme.Close b s) = omega arith
depth_after-le depth t = omega arith

marker_here : (t : Lexeme) (ts : List Lexeme) → is_marker t ≡ true → is_marked 0 (t ∷ ts) ≡ true
unfolding is_marked
marker_here (lexeme.Gty s) ts e = refl
marker_here t ts e = absurd cc

marker_after : (depth : ℕ) (t : Lexeme) (ts : List Lexeme) → (depth ≡ 0 → is_marker t ≡ false) → is_marked depth (t ∷ ts) ≡ is_marked (depth_after depth t) ts
unfolding is_marked
marker_after zero (lexeme.Gty s) ts n = let h : true ≡ false = n refl in absurd cc
marker_after depth (lexeme.Open b s) ts n = refl
marker_after zero (lexeme.Close b s) ts n = refl
marker_after (suc depth) (lexeme.Close b s) ts n = refl
marker_after depth t ts n = refl

round_here : (t : Lexeme) (ts : List Lexeme) → opens_round t ≡ true → after_round 0 (t ∷ ts) ≡ ts
unfolding after_round
round_here (lexeme.Open Round s) ts e = refl
round_here t ts e = absurd cc

round_after : (depth : ℕ) (t : Lexeme) (ts : List Lexeme) → (depth ≡ 0 → opens_round t ≡ false) → after_round depth (t ∷ ts) ≡ after_round (depth_after depth t) ts
unfolding after_round
round_after zero (lexeme.Open Round s) ts n = let h : true ≡ false = n refl in absurd cc
round_after depth (lexeme.Open b s) ts n = refl
round_after zero (lexeme.Close b s) ts n = refl
round_after (suc depth) (lexeme.Close b s) ts n = refl
round_after depth t ts n = refl

name_here : (last : Option Name) (t : Lexeme) (s : TokenText) (ts : List Lexeme) → t ≡ lexeme.Name s → last_name 0 last (t ∷ ts) ≡ last_name 0 (Some (name_of s)) ts
unfolding last_name
name_here last t s ts e = rw e refl

name_after : (depth : ℕ) (last : Option Name) (t : Lexeme) (ts : List Lexeme) → (depth ≡ 0 → (s : TokenText) → t ≡ lexeme.Name s → ⊥) → last_name depth last (t ∷ ts) ≡ last_name (depth_after depth t) last ts
unfolding last_name
name_after depth last (lexeme.Open b s) ts n = refl
name_after zero last (lexeme.Close b s) ts n = refl
name_after (suc depth) last (lexeme.Close b s) ts n = refl
name_after zero last (lexeme.Name s) ts n = absurd (n refl s refl)
name_after depth last t ts n = refl

comma_here : (piece : List Lexeme) (t : Lexeme) (ts : List Lexeme) → is_comma t ≡ true → pieces_from 0 piece (t ∷ ts) ≡ piece ∷ pieces_from 0 [] ts
unfolding pieces_from
comma_here piece (lexeme.Comma s) ts e = refl
comma_here piece t ts e = absurd cc

comma_after : (depth : ℕ) (piece : List Lexeme) (t : Lexeme) (ts : List Lexeme) → (depth ≡ 0 → is_comma t ≡ false) → pieces_from depth piece (t ∷ ts) ≡ pieces_from (depth_after depth t) (piece ++ t ∷ []) ts
unfolding pieces_from
comma_after zero piece (lexeme.Comma s) ts n = let h : true ≡ false = n refl in absurd cc
comma_after depth piece (lexeme.Open b s) ts n = refl
comma_after zero piece (lexeme.Close b s) ts n = refl
comma_after (suc depth) piece (lexeme.Close b s) ts n = refl
comma_after depth piece t ts n = refl

other : (whole : List Lexeme) (t : Lexeme) (ts : List Lexeme) → ((s : TokenText) → t ≡ lexeme.Gty s → ⊥) → unmarked_at whole (t ∷ ts) ≡ unmarked_at whole ts
unfolding unmarked_at
other whole (lexeme.Gty s) ts n = absurd (n s refl)
other whole t ts n = refl

-- at a token
module _ (tokens : List Lexeme) (depth at : ℕ) (t : Lexeme) (lt : at < length tokens) (is : t ≡ get_or tokens at t) where
  module _ (total : Bool) (so_far : is_marked depth (drop at tokens) ≡ total) where
    pub is_marked_here : depth ≡ 0 → is_marker t ≡ true → true ≡ total
    is_marked_here z e = sym (ap (λ d. is_marked d (drop at tokens)) z ∙ ap (is_marked 0) (drop_at tokens at t lt is) ∙ marker_here t _ e) ∙ so_far

    pub is_marked_after : (depth ≡ 0 → is_marker t ≡ false) → is_marked (depth_after depth t) (drop (at + 1) tokens) ≡ total
    is_marked_after n = sym (ap (is_marked depth) (drop_at tokens at t lt is) ∙ marker_after depth t _ n) ∙ so_far

  module _ (total : List Lexeme) (so_far : after_round depth (drop at tokens) ≡ total) where
    pub after_round_here : depth ≡ 0 → opens_round t ≡ true → take (length tokens - (at + 1)) (drop (at + 1) tokens) ≡ total
    after_round_here z e =
        take_rest tokens (at + 1) ∙ sym (ap (λ d. after_round d (drop at tokens)) z ∙ ap (after_round 0) (drop_at tokens at t lt is) ∙ round_here t _ e) ∙ so_far

    pub after_round_after : (depth ≡ 0 → opens_round t ≡ false) → after_round (depth_after depth t) (drop (at + 1) tokens) ≡ total
    after_round_after n = sym (ap (after_round depth) (drop_at tokens at t lt is) ∙ round_after depth t _ n) ∙ so_far

  module _ (last total : Option Name) (so_far : last_name depth last (drop at tokens) ≡ total) where
    pub last_name_here : (s : TokenText) → depth ≡ 0 → t ≡ lexeme.Name s → last_name depth (Some (name_of s)) (drop (at + 1) tokens) ≡ total
    last_name_here s z e =
        ap (λ d. last_name d (Some (name_of s)) (drop (at + 1) tokens)) z
        ∙ sym (ap (λ d. last_name d last (drop at tokens)) z ∙ ap (last_name 0 last) (drop_at tokens at t lt is) ∙ name_here last t s _ e)
        ∙ so_far

    pub last_name_after : (depth ≡ 0 → (s : TokenText) → t ≡ lexeme.Name s → ⊥) → last_name (depth_after depth t) last (drop (at + 1) tokens) ≡ total
    last_name_after n = sym (ap (last_name depth last) (drop_at tokens at t lt is) ∙ name_after depth last t _ n) ∙ so_far

  module _ (start : ℕ) (found total : List Enumerator) (begun : start ≤ at) (so_far : found ++ enumerators_of (pieces_from depth (take (at - start) (drop start tokens)) (drop at tokens)) ≡ total) where
    pub enumerators_here : (one : Enumerator) → depth ≡ 0 → is_comma t ≡ true → one ≡ enumerator_of (take (at - start) (drop start tokens))
        → (found ++ one ∷ []) ++ enumerators_of (pieces_from depth (take (at + 1 - (at + 1)) (drop (at + 1) tokens)) (drop (at + 1) tokens)) ≡ total
    unfolding enumerators_of
    enumerators_here one z e is_one =
        let none : at + 1 - (at + 1) ≡ 0 = omega arith in
        let here = ap (λ d. pieces_from d (take (at - start) (drop start tokens)) (drop at tokens)) z ∙ ap (pieces_from 0 (take (at - start) (drop start tokens))) (drop_at tokens at t lt is) ∙ comma_here _ t _ e in
        let h = rw here at so_far in
        rw (none, z, is_one, append_assoc) h

    pub enumerators_after : (depth ≡ 0 → is_comma t ≡ false) → found ++ enumerators_of (pieces_from (depth_after depth t) (take (at + 1 - start) (drop start tokens)) (drop (at + 1) tokens)) ≡ total
    enumerators_after n =
        let longer : take (at + 1 - start) (drop start tokens) ≡ take (at - start) (drop start tokens) ++ t ∷ [] = between_more tokens start at t begun lt ∙ ap (λ x. take (at - start) (drop start tokens) ++ x ∷ []) (sym is) in
        let here = ap (pieces_from depth (take (at - start) (drop start tokens))) (drop_at tokens at t lt is) ∙ comma_after depth _ t _ n in
        let h = rw here at so_far in
        rw longer h

-- at the end of the tokens
module _ (tokens : List Lexeme) (depth at : ℕ) (end : length tokens ≤ at) where
  pub is_marked_end : (total : Bool) → is_marked depth (drop at tokens) ≡ total → false ≡ total
  unfolding is_marked
  is_marked_end total so_far = sym (ap (is_marked depth) (drop_all at tokens end)) ∙ so_far

  pub after_round_end : (total : List Lexeme) → after_round depth (drop at tokens) ≡ total → [] ≡ total
  unfolding after_round
  after_round_end total so_far = sym (ap (after_round depth) (drop_all at tokens end)) ∙ so_far

  pub last_name_end : (last total : Option Name) → last_name depth last (drop at tokens) ≡ total → last ≡ total
  unfolding last_name
  last_name_end last total so_far = sym (ap (last_name depth last) (drop_all at tokens end)) ∙ so_far

  pub enumerators_end : (piece : List Lexeme) (one : Enumerator) (found total : List Enumerator) → found ++ enumerators_of (pieces_from depth piece (drop at tokens)) ≡ total → one ≡ enumerator_of piece → found ++ one ∷ [] ≡ total
  unfolding pieces_from enumerators_of
  enumerators_end piece one found total so_far e = ap (λ x. found ++ x ∷ []) e ∙ sym (ap (λ ts. found ++ enumerators_of (pieces_from depth piece ts)) (drop_all at tokens end)) ∙ so_far

-- no marker stands among the tokens
module _ (tokens : List Lexeme) (at : ℕ) (t : Lexeme) (total : Outcome (Option Item)) (lt : at < length tokens) (is : t ≡ get_or tokens at t) (so_far : unmarked_at tokens (drop at tokens) ≡ total) where
  pub unmarked_stops : (s : TokenText) → t ≡ lexeme.Gty s → total ≡ Stops 10 s.start
  unfolding unmarked_at
  unmarked_stops s e = sym so_far ∙ ap (unmarked_at tokens) (drop_at tokens at t lt is) ∙ rw e refl

  pub unmarked_after : ((s : TokenText) → t ≡ lexeme.Gty s → ⊥) → unmarked_at tokens (drop (at + 1) tokens) ≡ total
  unmarked_after n = sym (ap (unmarked_at tokens) (drop_at tokens at t lt is) ∙ other tokens t _ n) ∙ so_far

pub unmarked_end : (tokens : List Lexeme) (at : ℕ) (total : Outcome (Option Item)) → length tokens ≤ at → unmarked_at tokens (drop at tokens) ≡ total → total ≡ Read (unmarked_of tokens) []
unfolding unmarked_at
unmarked_end tokens at total end so_far = sym so_far ∙ ap (unmarked_at tokens) (drop_all at tokens end)
