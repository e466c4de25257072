use Rattle.std.proofs.Common.{◌≡◌, List, ℕ, true, Some, sym, ap, subst, ◌∙◌}
use Rattle.std.specs.Prelude.{encode_utf8_all, is_some}
use Rattle.std.proofs.lemmas.Str.{encodes-chars}
use Rattle.gt_script.specs.Steps.{cut_steps, hops_at, steps_in, AreStepsIn}
use Rattle.gt_script.proofs.StepTexts.{none_read, steps_known}
use Rattle.gt_script.proofs.steps.Steps.of.Goals as goal
use Rattle.gt_script.proofs.steps.Steps.of.Goals.{In_ok-word}

pub are_steps-requires : goal.are_steps-requires
are_steps-requires c = ap (λ (t : List ℕ). (cut_steps t).0) c.text-text.ensures.text ∙ c.requires.begins

pub returns-then-not-are_steps : goal.returns-then-not-are_steps
returns-then-not-are_steps c = record { steps = none_read c.text-text.result.now c.if-not-are_steps.ensures ∙ ap (λ (t : List ℕ). hops_at (cut_steps t).1) c.text-text.ensures.text }

are : (c : In_ok-word) → AreStepsIn c.args.slice.now
are c = (c.requires.begins, subst (λ (t : List ℕ). is_some (hops_at (cut_steps t).1) ≡ true) c.text-text.ensures.text (sym c.if-not-are_steps.ensures))

same : (c : In_ok-word) → encode_utf8_all c.in_ok-word.field-0 ≡ c.args.slice.now
same c = ap encode_utf8_all c.in_ok-word.ensures.word ∙ encodes-chars c.text-text.result.now c.text-text.ensures.utf8 ∙ c.text-text.ensures.text

pub invariant_of-result : goal.invariant_of-result
invariant_of-result c = subst AreStepsIn (sym (same c)) (are c)

pub returns : goal.returns
returns c = record { steps = ap (λ (t : List ℕ). Some (steps_in t)) (same c) ∙ steps_known c.args.slice.now (are c) }
