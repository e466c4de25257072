-- Where something is refused first, the program ends with that, or since the sink failed, or since memory ran out.
use Rattle.std.proofs.Common.{◌≡◌, ℕ, ◌⊎◌, List, refl, ap, ◌∙◌, Some, Option, inl, inr}
use Rattle.gt_space.specs.Range.{Range}
use Rattle.gt_io.specs.Held.{Held}
use Rattle.gt_front.specs.Order.{Extent}
use Rattle.gt_front.specs.Texts.{Texts}
use Rattle.gt_front.specs.declared.refusal.FileWhy.TheVariants.{Missing, TooLong, Fault}
use Rattle.gt_front.specs.declared.refusal.Refusal.{Refusal}
use Rattle.gt_front.specs.declared.refusal.Refusal.TheVariants.{Words, Header, Script, NotBuilt, File as InFile}
use Rattle.gt_next.specs.declared.answer.Answer.{Answer}
use Rattle.gt_run.specs.Comes.{IsRefusedFirst, IsTold}
use Rattle.gt_run.specs.Runs.{Runs}
use Rattle.gt_run.specs.Outputs.{Output}
use Rattle.gt_run.specs.Ended.{Ended, Ends, refusal_of, refusal_status, status_of}
use Rattle.gt_run.specs.declared.ending.Ending.{Ending}
use Rattle.gt_run.specs.declared.ending.Ending.TheVariants.{Finished, Refused, SinkFailed, NoMemory}
use Rattle.gt_run.specs.declared.outcome.Outcome.{Outcome}

-- a refusal is told by the files, or is the failure of a read
told_or_fault : (refusal : Refusal) → IsTold refusal ⊎ ((word : ℕ) × (refusal ≡ InFile word Fault))
told_or_fault Words = inl tt
told_or_fault (InFile word Missing) = inl tt
told_or_fault (InFile word TooLong) = inl tt
told_or_fault (InFile word Fault) = inr (word, refl)
told_or_fault (Header fault) = inl tt
told_or_fault NotBuilt = inl tt
told_or_fault (Script number line) = inl tt

-- at most one refusal that is told comes first
abbrev pub OneRefusal : Type 0
OneRefusal = (words : List (List ℕ)) (held : Held) (texts others : Texts) (refusal other : Refusal)
    → IsRefusedFirst words (Some held) texts refusal → IsRefusedFirst words (Some held) others other → IsTold refusal → IsTold other → refusal ≡ other

-- and where one does, no command is run
abbrev pub NoRun : Type 0
NoRun = (words : List (List ℕ)) (held : Held) (texts : Texts) (refusal : Refusal) (answers : List Answer) (range : Range)
    → IsRefusedFirst words (Some held) texts refusal → IsTold refusal → Runs words (Some held) answers range → ⊥

module _ (one : OneRefusal) (no_run : NoRun) (words : List (List ℕ)) (held : Held) (texts : Texts) (refusal : Refusal) (read : Option Extent) (out : Output) (outcome : Outcome) (range : Range) where
  pub Ends-refused : IsRefusedFirst words (Some held) texts refusal → IsTold refusal → Ends words (Some held) read out outcome range
      → ((word : ℕ) → outcome.refusal ≡ Some (InFile word Fault) → ⊥)
      → ((outcome.refusal ≡ Some refusal) × (outcome.status ≡ refusal_status refusal)) ⊎ (outcome.status ≡ 4) ⊎ (outcome.status ≡ 9)
  Ends-refused first told ends no_fault =
      by_ending ends.ending ends.status ends.refusal ends.ended where
        by_ending : (ending : Ending) → outcome.status ≡ status_of ending outcome.answers.items → outcome.refusal ≡ refusal_of ending
            → Ended words (Some held) read out ending outcome.answers.items range
            → ((outcome.refusal ≡ Some refusal) × (outcome.status ≡ refusal_status refusal)) ⊎ (outcome.status ≡ 4) ⊎ (outcome.status ≡ 9)
        by_ending Finished s r h = absurd (no_run words held texts refusal outcome.answers.items range first told h.0)
        by_ending (Refused other) s r h =
            elim (told_or_fault other) [
              | inl is ↦
                  let same : other ≡ refusal = one words held h.2 texts other refusal h.3 first is told in
                  inl (r ∙ ap (λ x. Some x) same, s ∙ ap refusal_status same)
              | inr fault ↦ absurd (no_fault fault.0 (r ∙ ap (λ x. Some x) fault.1))
            ]
        by_ending SinkFailed s r h = inr (inl s)
        by_ending NoMemory s r h = inr (inr s)
