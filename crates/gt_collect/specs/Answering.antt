-- What `collect` answers and leaves.
use Rattle.std.specs.Prelude.{◌≡◌, ◌<◌, ◌≤◌, ℕ, List}
use Rattle.gt_types.specs.declared.program.Program.{Program}
use Rattle.gt_space.specs.Range.{Range}
use Rattle.gt_graph.specs.Places.{ledger_of}
use Rattle.gt_graph.specs.Good.{Heap}
use Rattle.gt_next.specs.Texts.{allocated_of}
use Rattle.gt_collect.specs.declared.collecting.CollectAnswer.{CollectAnswer}
use Rattle.gt_collect.specs.declared.collecting.CollectAnswer.TheVariants.{Skipped, Collected as Done}
use Rattle.gt_collect.specs.declared.collecting.Collected.{Collected}
use Rattle.gt_collect.specs.declared.modes.Mode.{Mode}
use Rattle.gt_collect.specs.Clearing.{IsZeroedAt}
use Rattle.gt_collect.specs.Collecting.{IsCollected}
use Rattle.gt_collect.specs.Modes.{threshold_in}

-- below the threshold of the mode it is skipped and the heap is as before; from there on the heap is collected, and the numbers are answered
pub data Answers (program : Program) (old : Heap) (mode : Mode) : Heap → CollectAnswer → Type 0 where
  skips : allocated_of (ledger_of old.places) < threshold_in mode → Answers program old mode old Skipped
  collects : {new : Heap} {done : Collected} → threshold_in mode ≤ allocated_of (ledger_of old.places) → IsCollected program old new done.kept done.freed done.dropped done.rounds
      → Answers program old mode new (Done done)

-- the bytes of the space: where it is skipped all are as before; else those of the words of deletable roots are zero, and all others as before
abbrev pub LeavesBytes : (deletable : List ℕ) → CollectAnswer → (old new : Range) → Type 0
LeavesBytes deletable Skipped old new = new ≡ old
LeavesBytes deletable (Done done) old new = IsZeroedAt deletable old new
