-- No promise: what the write of a refusal's line comes to.
use Rattle.std.specs.Prelude.{◌≡◌, ℕ, List, Ok, Err}
use Rattle.gt_io.specs.declared.fail.WriteFail.TheVariants.{Failed, Memory}
use Rattle.gt_io.specs.Appends.{Adds, AddsFront}
use Rattle.gt_front.specs.declared.refusal.Refusal.{Refusal}
use Rattle.gt_run.specs.Outputs.{Output}
use Rattle.gt_run.specs.declared.ending.Ending.{Ending}
use Rattle.gt_run.specs.declared.ending.Ending.TheVariants.{Finished, Refused, SinkFailed, NoMemory}

-- the refusal's line is written, by one call; or a prefix of it, where the sink failed; or nothing, for out of memory
abbrev pub Refuses : Refusal → List ℕ → Output → Ending → Type 0
Refuses refusal line out (Refused told) = (told ≡ refusal) × Adds out.had line out.has × out.write out.old line (Ok tt) out.new
Refuses refusal line out SinkFailed = AddsFront out.had line out.has × out.write out.old line (Err Failed) out.new
Refuses refusal line out NoMemory = (out.has ≡ out.had) × out.write out.old line (Err Memory) out.new
Refuses refusal line out Finished = ⊥
