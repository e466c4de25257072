-- Options with commas between them, one option at a time.
use Rattle.std.proofs.Common.{◌≡◌, ℕ, suc, ◌+◌, ◌-◌, ◌<◌, ◌≤◌, List, [], ◌∷◌, ◌++◌, Some, None, refl, sym, ◌∙◌, arith}
use Rattle.gt_items.specs.declared.items.RawOption.{RawOption}
use Rattle.gt_search.specs.declared.lexeme.Lexeme.{Lexeme}
use Rattle.gt_search.specs.declared.lexeme.Lexeme.TheVariants as lexeme
use Rattle.gt_marked.specs.declared.unread.Unread.{Unread}
use Rattle.gt_marked.specs.declared.unread.Unread.TheVariants.{Memory, Ended, Fault}
use Rattle.gt_marked.specs.Outcome.{Outcome, Read, Ends, Fails, ◌>>=◌}
use Rattle.gt_marked.specs.Markers.{comma_after, after_comma, option_at, options_from}

goes_on : {A : Type 0} (go : List Lexeme → Outcome A) (stop : Outcome A) (ts next : List Lexeme) → comma_after ts ≡ Some next → after_comma go stop ts ≡ go next
goes_on go stop (lexeme.Comma s ∷ ts) next e = let k : ts ≡ next = cc in rw k refl
goes_on go stop ts next e = absurd cc

stops : {A : Type 0} (go : List Lexeme → Outcome A) (stop : Outcome A) (ts : List Lexeme) → comma_after ts ≡ None → after_comma go stop ts ≡ stop
stops go stop (lexeme.Comma s ∷ ts) e = absurd cc
stops go stop ts e = refl

module _ (count i : ℕ) (options : List RawOption) (ts : List Lexeme) (total : Outcome (List RawOption)) (lt : i < count) (so_far : options_from (count - i) options ts ≡ total) where
  here : total ≡ (option_at ts >>= λ one. after_comma (options_from (count - (i + 1)) (options ++ one.0 ∷ [])) (Read (options ++ one.0 ∷ []) one.1) one.1)
  unfolding options_from
  here = let k : count - i ≡ suc (count - (i + 1)) = omega arith in sym so_far ∙ rw k refl

  pub options_fail : (e : Unread) → Fails e (option_at ts) → Fails e total
  options_fail Memory f = tt
  options_fail Ended f = here ∙ rw f refl
  options_fail (Fault number at) f = here ∙ rw f refl

  module _ (one : RawOption) (rest : List Lexeme) (read : option_at ts ≡ Read one rest) where
    pub options_go_on : (next : List Lexeme) → comma_after rest ≡ Some next → options_from (count - (i + 1)) (options ++ one ∷ []) next ≡ total
    options_go_on next e = sym (here ∙ rw read (goes_on _ _ rest next e))

    pub options_stop : comma_after rest ≡ None → total ≡ Read (options ++ one ∷ []) rest
    options_stop e = here ∙ rw read (stops _ _ rest e)

pub options_end : (count i : ℕ) (options : List RawOption) (ts : List Lexeme) (total : Outcome (List RawOption)) → count ≤ i → options_from (count - i) options ts ≡ total → total ≡ Ends
unfolding options_from
options_end count i options ts total h so_far = let k : count - i ≡ 0 = omega arith in sym so_far ∙ rw k refl
