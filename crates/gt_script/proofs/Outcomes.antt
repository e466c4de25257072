-- Reading a script from its first line to its last.
use Rattle.std.proofs.Common.{◌≡◌, ◌≢◌, ℕ, suc, ◌+◌, ◌≤◌, ◌<◌, true, false, eqb, List, [], ◌∷◌, ◌++◌, length, Option, Some, None, Ok, Err, refl, sym, ap, ◌∙◌, append_assoc, arith}
use Rattle.std.proofs.lemmas.Bool.Decides.{nat_tests}
use Rattle.std.proofs.lemmas.List.{append-nil, length-append}
use Rattle.gt_script.specs.declared.command.Line.{Line}
use Rattle.gt_script.specs.declared.stop.ScriptStop.TheVariants.{ScriptSyntax, ScriptTooLong}
use Rattle.gt_split.specs.Texts.{lines_of}
use Rattle.gt_script.specs.Scanning.{line_at, Outcome, with_line, outcome_step, outcome_from, outcome_of}

-- lines read before, and the outcome of what follows
abbrev pub with_lines : List Line → Outcome → Outcome
with_lines front (Ok lines) = Ok (front ++ lines)
with_lines front (Err stop) = Err stop

none_before : (outcome : Outcome) → with_lines [] outcome ≡ outcome
none_before (Ok lines) = refl
none_before (Err stop) = refl

regroup : (front : List Line) (line : Line) (outcome : Outcome) → with_lines front (with_line line outcome) ≡ with_lines (front ++ line ∷ []) outcome
regroup front line (Ok lines) = ap (λ (ls : List Line). Ok ls) (sym (append_assoc front (line ∷ []) lines))
regroup front line (Err stop) = refl

-- how far the reading of a text has come
pub record SoFar (text : List ℕ) (front : List Line) (number : ℕ) (rest : List ℕ) : Type 0 where
  pub read : with_lines front (outcome_from number (length front) (lines_of rest)) ≡ outcome_of text
  pub within : number + length rest ≤ length text
  pub few : length front ≤ 1000000

pub starts : (text : List ℕ) → SoFar text [] 0 text
starts text = record { read = none_before (outcome_of text); within = omega arith; few = omega arith }

-- the outcome at a line
at_line : (front : List Line) (number : ℕ) (rest first after : List ℕ) (said : Option (Option Line)) → lines_of rest ≡ first ∷ lines_of after → line_at first ≡ said
    → outcome_from number (length front) (lines_of rest) ≡ outcome_step said number (length front) (outcome_from (suc number) (length front) (lines_of after)) (outcome_from (suc number) (suc (length front)) (lines_of after))
unfolding outcome_from
at_line front number rest first after said cut is = rw (cut, is) refl

module _ (text : List ℕ) (front : List Line) (number : ℕ) (rest first after : List ℕ) (so_far : SoFar text front number rest) (cut : lines_of rest ≡ first ∷ lines_of after) (shorter : length after < length rest) where
  -- a line that is passed over
  pub skips : line_at first ≡ Some None → SoFar text front (number + 1) after
  skips is =
      let next : number + 1 ≡ suc number = omega arith in
      record {
        read = rw next (ap (with_lines front) (sym (at_line front number rest first after (Some None) cut is)) ∙ so_far.read);
        within = omega (arith, so_far.within);
        few = so_far.few;
      }

  -- a command more
  pub goes_on : (line : Line) → line_at first ≡ Some (Some line) → length front ≢ 1000000 → SoFar text (front ++ line ∷ []) (number + 1) after
  goes_on line is room =
      let next : number + 1 ≡ suc number = omega arith in
      let count : length (front ++ line ∷ []) ≡ suc (length front) = omega (arith, length-append front (line ∷ [])) in
      let few : eqb (length front) 1000000 ≡ false = grind (arith, nat_tests) in
      let step : outcome_from number (length front) (lines_of rest) ≡ with_line line (outcome_from (suc number) (suc (length front)) (lines_of after)) =
      at_line front number rest first after (Some (Some line)) cut is ∙ rw few refl in
      record {
        read = rw (next, count) (sym (regroup front line (outcome_from (suc number) (suc (length front)) (lines_of after))) ∙ ap (with_lines front) (sym step) ∙ so_far.read);
        within = omega (arith, so_far.within);
        few = omega (arith, so_far.few, count);
      }

  -- a line that is refused
  pub refused : line_at first ≡ None → Err (ScriptSyntax (number + 1)) ≡ outcome_of text
  refused is =
      let next : number + 1 ≡ suc number = omega arith in
      rw next (ap (with_lines front) (sym (at_line front number rest first after None cut is)) ∙ so_far.read)

  -- a command too many
  pub too_long : (line : Line) → line_at first ≡ Some (Some line) → length front ≡ 1000000 → Err ScriptTooLong ≡ outcome_of text
  too_long line is full =
      let many : eqb (length front) 1000000 ≡ true = grind (arith, nat_tests) in
      let step : outcome_from number (length front) (lines_of rest) ≡ Err ScriptTooLong = at_line front number rest first after (Some (Some line)) cut is ∙ rw many refl in
      ap (with_lines front) (sym step) ∙ so_far.read

-- no line more
pub is_done : (text : List ℕ) (front : List Line) (number : ℕ) (rest : List ℕ) → SoFar text front number rest → rest ≡ [] → Ok front ≡ outcome_of text
unfolding outcome_from
is_done text front number rest so_far e =
    let all : with_lines front (outcome_from number (length front) (lines_of rest)) ≡ Ok front = rw e (ap (λ (ls : List Line). Ok ls) (append-nil front)) in
    sym all ∙ so_far.read
