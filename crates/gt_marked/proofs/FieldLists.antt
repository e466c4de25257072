-- Fields up to a closing brace, one at a time.
use Rattle.std.proofs.Common.{◌≡◌, ℕ, suc, ◌+◌, ◌-◌, ◌<◌, ◌≤◌, List, [], ◌∷◌, ◌++◌, Some, None, refl, sym, ◌∙◌, arith}
use Rattle.gt_items.specs.declared.items.RawField.{RawField}
use Rattle.gt_search.specs.declared.lexeme.Bracket.TheVariants.{Brace}
use Rattle.gt_search.specs.declared.lexeme.Lexeme.{Lexeme}
use Rattle.gt_search.specs.declared.lexeme.Lexeme.TheVariants as lexeme
use Rattle.gt_marked.specs.declared.unread.Unread.{Unread}
use Rattle.gt_marked.specs.declared.unread.Unread.TheVariants.{Memory, Ended, Fault}
use Rattle.gt_marked.specs.Outcome.{Outcome, Read, Ends, Fails, ◌>>=◌}
use Rattle.gt_marked.specs.Fields.{brace_after, until_brace, field_at, fields_from}

goes_on : {A : Type 0} (go : List Lexeme → Outcome A) (made : A) (ts : List Lexeme) → brace_after ts ≡ None → until_brace go made ts ≡ go ts
goes_on go made (lexeme.Close Brace s ∷ ts) e = absurd cc
goes_on go made ts e = refl

stops : {A : Type 0} (go : List Lexeme → Outcome A) (made : A) (ts next : List Lexeme) → brace_after ts ≡ Some next → until_brace go made ts ≡ Read made next
stops go made (lexeme.Close Brace s ∷ ts) next e = let k : ts ≡ next = cc in rw k refl
stops go made ts next e = absurd cc

module _ (count i : ℕ) (made : List RawField) (ts : List Lexeme) (total : Outcome (List RawField)) (lt : i < count) (so_far : fields_from (count - i) made ts ≡ total) where
  here : total ≡ (field_at ts >>= λ one. until_brace (fields_from (count - (i + 1)) (made ++ one.0 ∷ [])) (made ++ one.0 ∷ []) one.1)
  unfolding fields_from
  here = let k : count - i ≡ suc (count - (i + 1)) = omega arith in sym so_far ∙ rw k refl

  pub fields_fail : (e : Unread) → Fails e (field_at ts) → Fails e total
  fields_fail Memory f = tt
  fields_fail Ended f = here ∙ rw f refl
  fields_fail (Fault number at) f = here ∙ rw f refl

  module _ (one : RawField) (rest : List Lexeme) (read : field_at ts ≡ Read one rest) where
    then : total ≡ until_brace (fields_from (count - (i + 1)) (made ++ one ∷ [])) (made ++ one ∷ []) rest
    then = here ∙ rw read refl

    pub fields_go_on : brace_after rest ≡ None → fields_from (count - (i + 1)) (made ++ one ∷ []) rest ≡ total
    fields_go_on e = sym (then ∙ goes_on (fields_from (count - (i + 1)) (made ++ one ∷ [])) (made ++ one ∷ []) rest e)

    pub fields_stop : (next : List Lexeme) → brace_after rest ≡ Some next → total ≡ Read (made ++ one ∷ []) next
    fields_stop next e = then ∙ stops (fields_from (count - (i + 1)) (made ++ one ∷ [])) (made ++ one ∷ []) rest next e

pub fields_end : (count i : ℕ) (made : List RawField) (ts : List Lexeme) (total : Outcome (List RawField)) → count ≤ i → fields_from (count - i) made ts ≡ total → total ≡ Ends
unfolding fields_from
fields_end count i made ts total h so_far = let k : count - i ≡ 0 = omega arith in sym so_far ∙ rw k refl
