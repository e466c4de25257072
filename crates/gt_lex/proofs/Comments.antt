-- A block comment ends at its first star and slash.
use Rattle.std.proofs.Common.{◌≡◌, ℕ, Bool, true, false, cond, List, [], ◌∷◌, ◌++◌, drop, Option, Some, None, refl, sym, ap, ◌∙◌, ⊎_elim}
use Rattle.std.specs.Prelude.{◌&&◌, ◌||◌, ◌==◌}
use Rattle.std.proofs.lemmas.Bool.{false≢true, eqb-true}
use Rattle.std.proofs.lemmas.Option.{some_pair_parts}
use Rattle.gt_lex.proofs.Bools.{and_cases, or_false, or_assoc, chosen}
use Rattle.gt_lex.specs.Characters.{has_newline, newline, star, slash, first_is}
use Rattle.gt_lex.specs.Extents.{HasNoClose}
use Rattle.gt_lex.specs.Reading.{comment_rest}

abbrev Found : Type 0
Found = Option (Bool × List ℕ)

abbrev found : Bool → List ℕ → Found
found passed rest = Some (passed, rest)

-- a star in the same place is followed by the same
same_first : (x : ℕ) (inside a b : List ℕ) → first_is x (inside ++ star ∷ a) ≡ first_is x (inside ++ star ∷ b)
same_first x [] a b = refl
same_first x (c ∷ cs) a b = refl

-- what stands before the close
pub record Closed (passed : Bool) (cs : List ℕ) (within : Bool) (rest : List ℕ) : Type 0 where
  pub inside : List ℕ
  pub parts : cs ≡ inside ++ star ∷ slash ∷ rest
  pub no_close : HasNoClose (inside ++ star ∷ [])
  pub lines : within ≡ (passed || has_newline inside)

first_slash : (cs : List ℕ) → first_is slash cs ≡ true → cs ≡ slash ∷ drop 1 cs
first_slash [] e = absurd (false≢true e)
first_slash (c ∷ cs) e = ap (λ x. x ∷ cs) (eqb-true c slash e)

at_close : (passed : Bool) (c : ℕ) (cs : List ℕ) (within : Bool) (rest : List ℕ) → ((c == star) && first_is slash cs) ≡ true → found passed (drop 1 cs) ≡ found within rest → Closed passed (c ∷ cs) within rest
at_close passed c cs within rest test e =
    let both = and_cases (c == star) (first_is slash cs) test in
    let is_star : c ≡ star = eqb-true c star both.0 in
    let split : cs ≡ slash ∷ drop 1 cs = first_slash cs both.1 in
    let same = some_pair_parts passed within (drop 1 cs) rest e in
    let following : drop 1 cs ≡ rest = same.1 in
    record {
      inside = [];
      parts = cc;
      no_close = (refl, tt);
      lines = sym same.0 ∙ sym (or_false passed);
    }

past_one : (passed : Bool) (c : ℕ) (cs : List ℕ) (within : Bool) (rest : List ℕ) → ((c == star) && first_is slash cs) ≡ false → Closed (passed || (c == newline)) cs within rest → Closed passed (c ∷ cs) within rest
past_one passed c cs within rest test closed =
    let same : first_is slash cs ≡ first_is slash (closed.inside ++ star ∷ []) = ap (first_is slash) closed.parts ∙ same_first slash closed.inside (slash ∷ rest) [] in
    record {
      inside = c ∷ closed.inside;
      parts = ap (λ (x : List ℕ). c ∷ x) closed.parts;
      no_close = (ap (λ b. (c == star) && b) (sym same) ∙ test, closed.no_close);
      lines = closed.lines ∙ or_assoc passed (c == newline) (has_newline closed.inside);
    }

pub comment_takes : (passed : Bool) (cs : List ℕ) (within : Bool) (rest : List ℕ) → comment_rest passed cs ≡ found within rest → Closed passed cs within rest
comment_takes passed [] within rest e = absurd cc
comment_takes passed (c ∷ cs) within rest e =
    ⊎_elim (λ at. at_close passed c cs within rest at.0 at.1)
    (λ on. past_one passed c cs within rest on.0 (comment_takes (passed || (c == newline)) cs within rest on.1))
    (chosen ((c == star) && first_is slash cs) (found passed (drop 1 cs)) (comment_rest (passed || (c == newline)) cs) (found within rest) e)

pub comment_open : (passed : Bool) (cs : List ℕ) → comment_rest passed cs ≡ None → HasNoClose cs
comment_open passed [] e = tt
comment_open passed (c ∷ cs) e =
    ⊎_elim (λ at. absurd cc)
    (λ on. (on.0, comment_open (passed || (c == newline)) cs on.1))
    (chosen ((c == star) && first_is slash cs) (found passed (drop 1 cs)) (comment_rest (passed || (c == newline)) cs) None e)

pub comment_again : (passed : Bool) (inside rest : List ℕ) → HasNoClose (inside ++ star ∷ []) → comment_rest passed (inside ++ star ∷ slash ∷ rest) ≡ found (passed || has_newline inside) rest
comment_again passed [] rest h = ap (λ b. found b rest) (sym (or_false passed))
comment_again passed (c ∷ cs) rest h =
    let same : first_is slash (cs ++ star ∷ slash ∷ rest) ≡ first_is slash (cs ++ star ∷ []) = same_first slash cs (slash ∷ rest) [] in
    let no : ((c == star) && first_is slash (cs ++ star ∷ slash ∷ rest)) ≡ false = ap (λ b. (c == star) && b) same ∙ h.0 in
    ap (λ b. cond b (found passed (drop 1 (cs ++ star ∷ slash ∷ rest))) (comment_rest (passed || (c == newline)) (cs ++ star ∷ slash ∷ rest))) no
    ∙ comment_again (passed || (c == newline)) cs rest h.1
    ∙ ap (λ b. found b rest) (or_assoc passed (c == newline) (has_newline cs))

pub comment_open_again : (passed : Bool) (cs : List ℕ) → HasNoClose cs → comment_rest passed cs ≡ None
comment_open_again passed [] h = refl
comment_open_again passed (c ∷ cs) h =
    ap (λ b. cond b (found passed (drop 1 cs)) (comment_rest (passed || (c == newline)) cs)) h.0
    ∙ comment_open_again (passed || (c == newline)) cs h.1
