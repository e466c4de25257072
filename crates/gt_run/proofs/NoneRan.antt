-- Where no command ran, the status and the answers show it.
use Rattle.std.proofs.Common.{◌≡◌, ◌≤◌, ◌⊎◌, ℕ, List, [], inl, inr, arith}
use Rattle.gt_front.specs.declared.refusal.Refusal.{Refusal}
use Rattle.gt_front.specs.declared.refusal.Refusal.TheVariants.{Words, Header, Script, NotBuilt, File as InFile}
use Rattle.gt_next.specs.declared.answer.Answer.{Answer}
use Rattle.gt_run.specs.Ended.{refusal_status, status_of}
use Rattle.gt_run.specs.Outputs.{Output}
use Rattle.gt_run.specs.Refusing.{Refuses}
use Rattle.gt_run.specs.declared.ending.Ending.{Ending}
use Rattle.gt_run.specs.declared.ending.Ending.TheVariants.{Finished, Refused, SinkFailed, NoMemory}

-- a refusal has a status from 2 on
refusal_status-high : (refusal : Refusal) → 2 ≤ refusal_status refusal
refusal_status-high Words = omega arith
refusal_status-high (InFile word why) = omega arith
refusal_status-high (Header fault) = omega arith
refusal_status-high NotBuilt = omega arith
refusal_status-high (Script number line) = omega arith

-- and so has each ending in which its line was to be written
pub refused-high : (refusal : Refusal) (line : List ℕ) (out : Output) (ending : Ending) (answers : List Answer) → Refuses refusal line out ending → 2 ≤ status_of ending answers
refused-high refusal line out Finished answers h = absurd h
refused-high refusal line out (Refused told) answers h = refusal_status-high told
refused-high refusal line out SinkFailed answers h = omega arith
refused-high refusal line out NoMemory answers h = omega arith

-- with such a status and no answer, no command ran
pub none_ran : (status : ℕ) (answers : List Answer) → 2 ≤ status → answers ≡ [] → (status ≡ 0) ⊎ (status ≡ 1) ⊎ (answers ≡ [] → ⊥) → ⊥
none_ran status answers high none (inl e) = omega arith
none_ran status answers high none (inr (inl e)) = omega arith
none_ran status answers high none (inr (inr some)) = some none
