-- Declarators with commas between them and a semicolon after them, one at a time.
use Rattle.std.proofs.Common.{◌≡◌, ℕ, suc, ◌+◌, ◌-◌, ◌<◌, ◌≤◌, true, false, List, [], ◌∷◌, ◌++◌, refl, sym, ◌∙◌, arith}
use Rattle.gt_items.specs.declared.items.Declarator.{Declarator}
use Rattle.gt_search.specs.declared.lexeme.Lexeme.{Lexeme}
use Rattle.gt_search.specs.declared.lexeme.Lexeme.TheVariants as lexeme
use Rattle.gt_marked.specs.declared.unread.Unread.{Unread}
use Rattle.gt_marked.specs.declared.unread.Unread.TheVariants.{Memory, Ended, Fault}
use Rattle.gt_marked.specs.Outcome.{Outcome, Read, Ends, Fails, ◌>>=◌}
use Rattle.gt_marked.specs.Fields.{goes_on_at}
use Rattle.gt_marked.specs.Fields.{after_declarator, declarator_at, declarators_from}

goes_on : {A : Type 0} (go : List Lexeme → Outcome A) (made : A) (ts next : List Lexeme) → goes_on_at ts ≡ Read true next → after_declarator go made ts ≡ go next
goes_on go made (lexeme.Comma s ∷ ts) next e = let k : ts ≡ next = cc in rw k refl
goes_on go made (lexeme.Semicolon s ∷ ts) next e = absurd cc
goes_on go made [] next e = absurd cc
goes_on go made ts next e = absurd cc

stops : {A : Type 0} (go : List Lexeme → Outcome A) (made : A) (ts next : List Lexeme) → goes_on_at ts ≡ Read false next → after_declarator go made ts ≡ Read made next
stops go made (lexeme.Comma s ∷ ts) next e = absurd cc
stops go made (lexeme.Semicolon s ∷ ts) next e = let k : ts ≡ next = cc in rw k refl
stops go made [] next e = absurd cc
stops go made ts next e = absurd cc

breaks : {A : Type 0} (go : List Lexeme → Outcome A) (made : A) (ts : List Lexeme) (e : Unread) → Fails e (goes_on_at ts) → Fails e (after_declarator go made ts)
breaks go made ts Memory f = tt
breaks go made (lexeme.Comma s ∷ ts) Ended f = absurd cc
breaks go made (lexeme.Semicolon s ∷ ts) Ended f = absurd cc
breaks go made [] Ended f = refl
breaks go made ts Ended f = absurd cc
breaks go made (lexeme.Comma s ∷ ts) (Fault number at) f = absurd cc
breaks go made (lexeme.Semicolon s ∷ ts) (Fault number at) f = absurd cc
breaks go made [] (Fault number at) f = absurd cc
breaks go made ts (Fault number at) f = cc

module _ (count i : ℕ) (made : List Declarator) (ts : List Lexeme) (total : Outcome (List Declarator)) (lt : i < count) (so_far : declarators_from (count - i) made ts ≡ total) where
  here : total ≡ (declarator_at ts >>= λ one. after_declarator (declarators_from (count - (i + 1)) (made ++ one.0 ∷ [])) (made ++ one.0 ∷ []) one.1)
  unfolding declarators_from
  here = let k : count - i ≡ suc (count - (i + 1)) = omega arith in sym so_far ∙ rw k refl

  pub declarators_fail : (e : Unread) → Fails e (declarator_at ts) → Fails e total
  declarators_fail Memory f = tt
  declarators_fail Ended f = here ∙ rw f refl
  declarators_fail (Fault number at) f = here ∙ rw f refl

  module _ (one : Declarator) (rest : List Lexeme) (read : declarator_at ts ≡ Read one rest) where
    then : total ≡ after_declarator (declarators_from (count - (i + 1)) (made ++ one ∷ [])) (made ++ one ∷ []) rest
    then = here ∙ rw read refl

    pub declarators_break : (e : Unread) → Fails e (goes_on_at rest) → Fails e total
    declarators_break e f = rw then (breaks _ _ rest e f)

    pub declarators_go_on : (next : List Lexeme) → goes_on_at rest ≡ Read true next → declarators_from (count - (i + 1)) (made ++ one ∷ []) next ≡ total
    declarators_go_on next e = sym (then ∙ goes_on _ _ rest next e)

    pub declarators_stop : (next : List Lexeme) → goes_on_at rest ≡ Read false next → total ≡ Read (made ++ one ∷ []) next
    declarators_stop next e = then ∙ stops _ _ rest next e

pub declarators_end : (count i : ℕ) (made : List Declarator) (ts : List Lexeme) (total : Outcome (List Declarator)) → count ≤ i → declarators_from (count - i) made ts ≡ total → total ≡ Ends
unfolding declarators_from
declarators_end count i made ts total h so_far = let k : count - i ≡ 0 = omega arith in sym so_far ∙ rw k refl
