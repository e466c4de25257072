-- Aliases with commas between them and a semicolon after them, one at a time.
use Rattle.std.proofs.Common.{◌≡◌, ℕ, suc, ◌+◌, ◌-◌, ◌<◌, ◌≤◌, true, false, List, [], ◌∷◌, ◌++◌, refl, sym, ◌∙◌, arith}
use Rattle.gt_items.specs.declared.items.Alias.{Alias}
use Rattle.gt_search.specs.declared.lexeme.Lexeme.{Lexeme}
use Rattle.gt_search.specs.declared.lexeme.Lexeme.TheVariants as lexeme
use Rattle.gt_marked.specs.declared.unread.Unread.{Unread}
use Rattle.gt_marked.specs.declared.unread.Unread.TheVariants.{Memory, Ended, Fault}
use Rattle.gt_marked.specs.Outcome.{Outcome, Read, Ends, Fails, ◌>>=◌}
use Rattle.gt_marked.specs.Fields.{goes_on_at}
use Rattle.gt_marked.specs.Marked.{alias_at}
use Rattle.gt_parse.specs.Unmarked.{after_alias, aliases_from}

goes_on : {A : Type 0} (go : List Lexeme → Outcome A) (made : A) (ts next : List Lexeme) → goes_on_at ts ≡ Read true next → after_alias go made ts ≡ go next
goes_on go made (lexeme.Comma s ∷ ts) next e = let k : ts ≡ next = cc in rw k refl
goes_on go made (lexeme.Semicolon s ∷ ts) next e = absurd cc
goes_on go made [] next e = absurd cc
goes_on go made ts next e = absurd cc

stops : {A : Type 0} (go : List Lexeme → Outcome A) (made : A) (ts next : List Lexeme) → goes_on_at ts ≡ Read false next → after_alias go made ts ≡ Read made next
stops go made (lexeme.Comma s ∷ ts) next e = absurd cc
stops go made (lexeme.Semicolon s ∷ ts) next e = let k : ts ≡ next = cc in rw k refl
stops go made [] next e = absurd cc
stops go made ts next e = absurd cc

breaks : {A : Type 0} (go : List Lexeme → Outcome A) (made : A) (ts : List Lexeme) (e : Unread) → Fails e (goes_on_at ts) → Fails e (after_alias go made ts)
breaks go made ts Memory f = tt
breaks go made (lexeme.Comma s ∷ ts) Ended f = absurd cc
breaks go made (lexeme.Semicolon s ∷ ts) Ended f = absurd cc
breaks go made [] Ended f = refl
breaks go made ts Ended f = absurd cc
breaks go made (lexeme.Comma s ∷ ts) (Fault number at) f = absurd cc
breaks go made (lexeme.Semicolon s ∷ ts) (Fault number at) f = absurd cc
breaks go made [] (Fault number at) f = absurd cc
breaks go made ts (Fault number at) f = cc

module _ (count i : ℕ) (made : List Alias) (ts : List Lexeme) (total : Outcome (List Alias)) (lt : i < count) (so_far : aliases_from (count - i) made ts ≡ total) where
  here : total ≡ (alias_at ts >>= λ one. after_alias (aliases_from (count - (i + 1)) (made ++ one.0 ∷ [])) (made ++ one.0 ∷ []) one.1)
  unfolding aliases_from
  here = let k : count - i ≡ suc (count - (i + 1)) = omega arith in sym so_far ∙ rw k refl

  pub aliases_fail : (e : Unread) → Fails e (alias_at ts) → Fails e total
  aliases_fail Memory f = tt
  aliases_fail Ended f = here ∙ rw f refl
  aliases_fail (Fault number at) f = here ∙ rw f refl

  module _ (one : Alias) (rest : List Lexeme) (read : alias_at ts ≡ Read one rest) where
    then : total ≡ after_alias (aliases_from (count - (i + 1)) (made ++ one ∷ [])) (made ++ one ∷ []) rest
    then = here ∙ rw read refl

    pub aliases_break : (e : Unread) → Fails e (goes_on_at rest) → Fails e total
    aliases_break e f = rw then (breaks _ _ rest e f)

    pub aliases_go_on : (next : List Lexeme) → goes_on_at rest ≡ Read true next → aliases_from (count - (i + 1)) (made ++ one ∷ []) next ≡ total
    aliases_go_on next e = sym (then ∙ goes_on _ _ rest next e)

    pub aliases_stop : (next : List Lexeme) → goes_on_at rest ≡ Read false next → total ≡ Read (made ++ one ∷ []) next
    aliases_stop next e = then ∙ stops _ _ rest next e

pub aliases_end : (count i : ℕ) (made : List Alias) (ts : List Lexeme) (total : Outcome (List Alias)) → count ≤ i → aliases_from (count - i) made ts ≡ total → total ≡ Ends
unfolding aliases_from
aliases_end count i made ts total h so_far = let k : count - i ≡ 0 = omega arith in sym so_far ∙ rw k refl
