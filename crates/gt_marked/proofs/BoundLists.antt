-- The texts of bounds, one bound at a time.
use Rattle.std.proofs.Common.{◌≡◌, ℕ, zero, suc, ◌+◌, ◌-◌, ◌<◌, ◌≤◌, List, [], ◌∷◌, ◌++◌, Some, None, refl, sym, ◌∙◌, arith}
use Rattle.gt_search.specs.declared.lexeme.Bracket.TheVariants.{Square}
use Rattle.gt_search.specs.declared.lexeme.Lexeme.{Lexeme}
use Rattle.gt_search.specs.declared.lexeme.Lexeme.TheVariants as lexeme
use Rattle.gt_marked.specs.declared.unread.Unread.{Unread}
use Rattle.gt_marked.specs.declared.unread.Unread.TheVariants.{Memory, Ended, Fault}
use Rattle.gt_search.specs.Lexemes.{kept_text}
use Rattle.gt_marked.specs.Outcome.{Outcome, Read, Fails, ◌>>=◌}
use Rattle.gt_marked.specs.Groups.{inside_from, square_after, bounds_from}

begins : (count : ℕ) (bounds : List (List ℕ)) (ts next : List Lexeme) → square_after ts ≡ Some next → bounds_from (suc count) bounds ts ≡ (inside_from 0 next >>= λ inside. bounds_from count (bounds ++ kept_text inside.0 ∷ []) inside.1)
unfolding bounds_from
begins count bounds (lexeme.Open Square s ∷ ts) next e = let k : ts ≡ next = cc in rw (← k) refl
begins count bounds ts next e = absurd cc

none : (count : ℕ) (bounds : List (List ℕ)) (ts : List Lexeme) → square_after ts ≡ None → bounds_from count bounds ts ≡ Read bounds ts
unfolding bounds_from
none zero bounds ts e = refl
none (suc count) bounds (lexeme.Open Square s ∷ ts) e = absurd cc
none (suc count) bounds ts e = refl

module _ (count i : ℕ) (bounds : List (List ℕ)) (ts : List Lexeme) (total : Outcome (List (List ℕ))) (so_far : bounds_from (count - i) bounds ts ≡ total) where
  module _ (next : List Lexeme) (lt : i < count) (square : square_after ts ≡ Some next) where
    here : total ≡ (inside_from 0 next >>= λ inside. bounds_from (count - (i + 1)) (bounds ++ kept_text inside.0 ∷ []) inside.1)
    here = let k : count - i ≡ suc (count - (i + 1)) = omega arith in sym so_far ∙ rw k (begins _ bounds ts next square)

    pub bounds_fail : (e : Unread) → Fails e (inside_from 0 next) → Fails e total
    bounds_fail Memory f = tt
    bounds_fail Ended f = here ∙ rw f refl
    bounds_fail (Fault number at) f = here ∙ rw f refl

    pub bounds_go_on : (text rest : List Lexeme) (kept : List ℕ) → inside_from 0 next ≡ Read text rest → kept ≡ kept_text text → bounds_from (count - (i + 1)) (bounds ++ kept ∷ []) rest ≡ total
    bounds_go_on text rest kept read is = sym (here ∙ rw (read, is) refl)

  pub bounds_stop : square_after ts ≡ None → total ≡ Read bounds ts
  bounds_stop e = sym so_far ∙ none (count - i) bounds ts e

  pub bounds_end : count ≤ i → total ≡ Read bounds ts
  unfolding bounds_from
  bounds_end h = let k : count - i ≡ 0 = omega arith in sym so_far ∙ rw k refl
