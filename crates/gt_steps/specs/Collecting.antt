-- No promise: what a collection of a mode comes to. Only the functions inside the crate cite this.
use Rattle.std.specs.Prelude.{◌≡◌, ◌<◌, ◌≤◌}
use Rattle.gt_types.specs.declared.program.Program.{Program}
use Rattle.gt_next.specs.declared.answer.Answer.{Answer}
use Rattle.gt_next.specs.declared.answer.Answer.TheVariants.{Skipped}
use Rattle.gt_next.specs.States.{State}
use Rattle.gt_next.specs.Collecting.{NextForce, allocated}
use Rattle.gt_collect.specs.declared.modes.Mode.{Mode}
use Rattle.gt_collect.specs.Modes.{threshold_in}

-- below the threshold of the mode nothing changes, and from there on the heap is collected
pub record NextIn (program : Program) (mode : Mode) (s : State) (answer : Answer) (t : State) : Type 0 where
  pub skips : allocated s < threshold_in mode → (answer ≡ Skipped) × (t ≡ s)
  pub collects : threshold_in mode ≤ allocated s → NextForce program s answer t
