-- The outcome of a script is what its lines say, and nothing else is.
use Rattle.std.proofs.Common.{◌≡◌, ℕ, suc, ◌+◌, ◌≤◌, ◌<◌, Bool, true, false, cond, eqb, List, [], ◌∷◌, ◌++◌, length, Option, Some, None, Ok, Err, refl, sym, ap, subst, ◌∙◌, arith}
use Rattle.std.proofs.lemmas.Bool.Decides.{nat_tests}
use Rattle.std.proofs.lemmas.List.{append-nil}
use Rattle.gt_script.specs.declared.command.Line.{Line}
use Rattle.gt_script.specs.declared.stop.ScriptStop.{ScriptStop}
use Rattle.gt_script.specs.declared.stop.ScriptStop.TheVariants.{Memory, ScriptSyntax, ScriptTooLong}
use Rattle.gt_split.specs.Texts.{lines_of}
use Rattle.gt_script.specs.Language.{IsRefused}
use Rattle.gt_script.specs.Outcome.{Say, nothing, passed_over, said, Parsed, IsScriptStop, IsOutcome}
use Rattle.gt_script.specs.Scanning.{line_at, Outcome, with_line, outcome_step, outcome_from, outcome_of, IsOutcomeUnlessMemory}
use Rattle.gt_script.proofs.Outcomes.{with_lines}
use Rattle.gt_script.proofs.FormsSpelled.{line_is, line_reads, passed_is, passed_reads, refused_is, refused_reads}

-- ---- what is read is so

-- the same of the lines after as many lines and as many commands
record RefusedFrom (number count : ℕ) (texts : List (List ℕ)) (at : ℕ) : Type 0 where
  front : List (List ℕ)
  bad : List ℕ
  back : List (List ℕ)
  cut : texts ≡ front ++ bad ∷ back
  lines : List Line
  say : Say front lines
  few : count + length lines ≤ 1000000
  is_refused : IsRefused bad
  at_is : at ≡ suc (number + length front)

record TooLongFrom (count : ℕ) (texts : List (List ℕ)) : Type 0 where
  front : List (List ℕ)
  back : List (List ℕ)
  cut : texts ≡ front ++ back
  lines : List Line
  say : Say front lines
  many : 1000000 < count + length lines

abbrev IsFrom : ℕ → ℕ → List (List ℕ) → Outcome → Type 0
IsFrom number count texts (Ok lines) = Say texts lines × (count + length lines ≤ 1000000)
IsFrom number count texts (Err (ScriptSyntax at)) = RefusedFrom number count texts at
IsFrom number count texts (Err ScriptTooLong) = TooLongFrom count texts
IsFrom number count texts (Err Memory) = ⊥

refused_here : (number count : ℕ) (text : List ℕ) (texts : List (List ℕ)) → count ≤ 1000000 → line_at text ≡ None → RefusedFrom number count (text ∷ texts) (suc number)
refused_here number count text texts few e = record {
  front = [];
  bad = text;
  back = texts;
  cut = refl;
  lines = [];
  say = nothing;
  few = omega arith;
  is_refused = refused_is text e;
  at_is = omega arith;
}

-- a line that is passed over, in front
skipped : (number count : ℕ) (text : List ℕ) (texts : List (List ℕ)) (outcome : Outcome) → line_at text ≡ Some None → IsFrom (suc number) count texts outcome → IsFrom number count (text ∷ texts) outcome
skipped number count text texts (Ok lines) e h = (passed_over text (passed_is text e) h.0, h.1)
skipped number count text texts (Err (ScriptSyntax at)) e h = record {
  front = text ∷ h.front;
  bad = h.bad;
  back = h.back;
  cut = ap (λ (ts : List (List ℕ)). text ∷ ts) h.cut;
  lines = h.lines;
  say = passed_over text (passed_is text e) h.say;
  few = h.few;
  is_refused = h.is_refused;
  at_is = omega (arith, h.at_is);
}
skipped number count text texts (Err ScriptTooLong) e h = record {
  front = text ∷ h.front;
  back = h.back;
  cut = ap (λ (ts : List (List ℕ)). text ∷ ts) h.cut;
  lines = h.lines;
  say = passed_over text (passed_is text e) h.say;
  many = h.many;
}
skipped number count text texts (Err Memory) e h = absurd h

-- a command in front
added : (number count : ℕ) (text : List ℕ) (texts : List (List ℕ)) (line : Line) (outcome : Outcome) → line_at text ≡ Some (Some line) → IsFrom (suc number) (suc count) texts outcome
    → IsFrom number count (text ∷ texts) (with_line line outcome)
added number count text texts line (Ok lines) e h = (said text line (line_is text line e) h.0, omega (arith, h.1))
added number count text texts line (Err (ScriptSyntax at)) e h = record {
  front = text ∷ h.front;
  bad = h.bad;
  back = h.back;
  cut = ap (λ (ts : List (List ℕ)). text ∷ ts) h.cut;
  lines = line ∷ h.lines;
  say = said text line (line_is text line e) h.say;
  few = omega (arith, h.few);
  is_refused = h.is_refused;
  at_is = omega (arith, h.at_is);
}
added number count text texts line (Err ScriptTooLong) e h = record {
  front = text ∷ h.front;
  back = h.back;
  cut = ap (λ (ts : List (List ℕ)). text ∷ ts) h.cut;
  lines = line ∷ h.lines;
  say = said text line (line_is text line e) h.say;
  many = omega (arith, h.many);
}
added number count text texts line (Err Memory) e h = absurd h

-- a command too many
one_more : (count : ℕ) (text : List ℕ) (texts : List (List ℕ)) (line : Line) → line_at text ≡ Some (Some line) → eqb count 1000000 ≡ true → TooLongFrom count (text ∷ texts)
one_more count text texts line e full = record {
  front = text ∷ [];
  back = texts;
  cut = refl;
  lines = line ∷ [];
  say = said text line (line_is text line e) nothing;
  many = grind (arith, nat_tests);
}

chosen_outcome : (number count : ℕ) (text : List ℕ) (texts : List (List ℕ)) (line : Line) (b : Bool) (outcome : Outcome) → line_at text ≡ Some (Some line) → eqb count 1000000 ≡ b → count ≤ 1000000
    → (suc count ≤ 1000000 → IsFrom (suc number) (suc count) texts outcome) → IsFrom number count (text ∷ texts) (cond b (Err ScriptTooLong) (with_line line outcome))
chosen_outcome number count text texts line true outcome e full few h = one_more count text texts line e full
chosen_outcome number count text texts line false outcome e room few h = added number count text texts line outcome e (h (grind (arith, nat_tests)))

is_from : (number count : ℕ) (texts : List (List ℕ)) → count ≤ 1000000 → IsFrom number count texts (outcome_from number count texts)
unfolding outcome_from
is_from number count [] few = (nothing, omega arith)
is_from number count (text ∷ texts) few = go (is_from (suc number) count texts few) (λ room. is_from (suc number) (suc count) texts room) (line_at text) refl
  where
    go : IsFrom (suc number) count texts (outcome_from (suc number) count texts) → (suc count ≤ 1000000 → IsFrom (suc number) (suc count) texts (outcome_from (suc number) (suc count) texts))
        → (what : Option (Option Line)) → line_at text ≡ what
        → IsFrom number count (text ∷ texts) (outcome_step what number count (outcome_from (suc number) count texts) (outcome_from (suc number) (suc count) texts))
    go skip add None e = refused_here number count text texts few e
    go skip add (Some None) e = skipped number count text texts (outcome_from (suc number) count texts) e skip
    go skip add (Some (Some line)) e = chosen_outcome number count text texts line (eqb count 1000000) (outcome_from (suc number) (suc count) texts) e refl few add

from_start : (text : List ℕ) (outcome : Outcome) → IsFrom 0 0 (lines_of text) outcome → IsOutcome text outcome
from_start text (Ok lines) h = record { few = omega (arith, h.1); say = h.0 }
from_start text (Err (ScriptSyntax at)) h = record {
  front = h.front;
  refused = h.bad;
  back = h.back;
  cut = h.cut;
  lines = h.lines;
  say = h.say;
  few = omega (arith, h.few);
  is_refused = h.is_refused;
  number_is = omega (arith, h.at_is);
}
from_start text (Err ScriptTooLong) h = record { front = h.front; back = h.back; cut = h.cut; lines = h.lines; say = h.say; many = omega (arith, h.many) }
from_start text (Err Memory) h = absurd h

pub outcome_is : (text : List ℕ) → IsOutcome text (outcome_of text)
outcome_is text = from_start text (outcome_of text) (is_from 0 0 (lines_of text) (omega arith))

-- ---- what is so is read

with_none : (outcome : Outcome) → with_lines [] outcome ≡ outcome
with_none (Ok lines) = refl
with_none (Err stop) = refl

with_more : (line : Line) (lines : List Line) (outcome : Outcome) → with_line line (with_lines lines outcome) ≡ with_lines (line ∷ lines) outcome
with_more line lines (Ok others) = refl
with_more line lines (Err stop) = refl

-- lines in front of others
again_front : (number count : ℕ) (front back : List (List ℕ)) (lines : List Line) → Say front lines → count + length lines ≤ 1000000
    → outcome_from number count (front ++ back) ≡ with_lines lines (outcome_from (number + length front) (count + length lines) back)
unfolding outcome_from
again_front number count [] back [] nothing few =
    let n : number + 0 ≡ number = omega arith in
    let c : count + 0 ≡ count = omega arith in
    rw (n, c) (sym (with_none (outcome_from number count back)))
again_front number count [] back (line ∷ lines) say few = elim say [ ]
again_front number count (text ∷ front) back lines (passed_over _ is say) few =
    let n : number + suc (length front) ≡ suc number + length front = omega arith in
    rw (passed_reads text is, n) (again_front (suc number) count front back lines say few)
again_front number count (text ∷ front) back (line ∷ lines) (said _ _ is say) few =
    let n : number + suc (length front) ≡ suc number + length front = omega arith in
    let c : count + suc (length lines) ≡ suc count + length lines = omega arith in
    let room : eqb count 1000000 ≡ false = grind (arith, nat_tests) in
    rw (line_reads text line is, room, n, c) (ap (with_line line) (again_front (suc number) (suc count) front back lines say (omega (arith, few))) ∙ with_more line lines (outcome_from (suc number + length front) (suc count + length lines) back))

again_too_long : (number count : ℕ) (front back : List (List ℕ)) (lines : List Line) → Say front lines → count ≤ 1000000 → 1000000 < count + length lines → outcome_from number count (front ++ back) ≡ Err ScriptTooLong
unfolding outcome_from
again_too_long number count [] back [] nothing few many = absurd (omega arith)
again_too_long number count [] back (line ∷ lines) say few many = elim say [ ]
again_too_long number count (text ∷ front) back lines (passed_over _ is say) few many = rw (passed_reads text is) (again_too_long (suc number) count front back lines say few many)
again_too_long number count (text ∷ front) back (line ∷ lines) (said _ _ is say) few many =
    rw (line_reads text line is) (go (λ less. again_too_long (suc number) (suc count) front back lines say less (omega (arith, many))) (eqb count 1000000) refl)
  where
    go : (suc count ≤ 1000000 → outcome_from (suc number) (suc count) (front ++ back) ≡ Err ScriptTooLong) → (b : Bool) → eqb count 1000000 ≡ b → cond b (Err ScriptTooLong) (with_line line (outcome_from (suc number) (suc count) (front ++ back))) ≡ Err ScriptTooLong
    go more true full = refl
    go more false room =
        let less : suc count ≤ 1000000 = grind (arith, nat_tests) in
        ap (with_line line) (more less)

pub outcome_again : (text : List ℕ) (outcome : Outcome) → IsOutcome text outcome → outcome_of text ≡ outcome
unfolding outcome_from
outcome_again text (Ok lines) h =
    ap (outcome_from 0 0) (sym (append-nil (lines_of text))) ∙ again_front 0 0 (lines_of text) [] lines h.say (omega (arith, h.few)) ∙ ap (λ (ls : List Line). Ok ls) (append-nil lines)
outcome_again text (Err (ScriptSyntax at)) h =
    let number : 0 + length h.front ≡ length h.front = omega arith in
    let here : outcome_from (0 + length h.front) (0 + length h.lines) (h.refused ∷ h.back) ≡ Err (ScriptSyntax (suc (length h.front))) = rw (refused_reads h.refused h.is_refused, number) refl in
    ap (outcome_from 0 0) h.cut ∙ again_front 0 0 h.front (h.refused ∷ h.back) h.lines h.say (omega (arith, h.few)) ∙ ap (with_lines h.lines) here ∙ ap (λ n. Err (ScriptSyntax n)) (sym h.number_is)
outcome_again text (Err ScriptTooLong) h = ap (outcome_from 0 0) h.cut ∙ again_too_long 0 0 h.front h.back h.lines h.say (omega arith) (omega (arith, h.many))
outcome_again text (Err Memory) h = absurd h

pub one_outcome : (text : List ℕ) (outcome other : Outcome) → IsOutcome text outcome → IsOutcome text other → outcome ≡ other
one_outcome text outcome other h k = sym (outcome_again text outcome h) ∙ outcome_again text other k

-- ---- what is returned

pub lines_are : (text : List ℕ) (lines : List Line) → IsOutcomeUnlessMemory (Ok lines) (outcome_of text) → Parsed text lines
lines_are text lines e = subst (IsOutcome text) (sym e) (outcome_is text)

pub stop_is : (text : List ℕ) (stop : ScriptStop) → IsOutcomeUnlessMemory (Err stop) (outcome_of text) → IsScriptStop text stop
stop_is text Memory e = tt
stop_is text (ScriptSyntax line) e = subst (IsOutcome text) (sym e) (outcome_is text)
stop_is text ScriptTooLong e = subst (IsOutcome text) (sym e) (outcome_is text)
