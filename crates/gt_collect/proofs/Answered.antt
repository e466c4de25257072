-- What an answer of `collect` says of the heap.
use Rattle.std.proofs.Common.{◌<◌, ◌≤◌}
use Rattle.gt_types.specs.declared.program.Program.{Program}
use Rattle.gt_graph.specs.Places.{ledger_of}
use Rattle.gt_graph.specs.Good.{Heap}
use Rattle.gt_next.specs.Texts.{allocated_of}
use Rattle.gt_collect.specs.declared.collecting.CollectAnswer.TheVariants.{Skipped, Collected as Done}
use Rattle.gt_collect.specs.declared.collecting.Collected.{Collected}
use Rattle.gt_collect.specs.declared.modes.Mode.{Mode}
use Rattle.gt_collect.specs.Answering.{Answers}
use Rattle.gt_collect.specs.Collecting.{IsCollected}
use Rattle.gt_collect.specs.Modes.{threshold_in}

module _ (program : Program) (old : Heap) (mode : Mode) where
  -- too little is allocated where it is skipped
  pub skipped_low : (new : Heap) → Answers program old mode new Skipped → allocated_of (ledger_of old.places) < threshold_in mode
  skipped_low new (Answers.skips low) = low

  -- enough is allocated where it is collected
  pub collected_enough : (new : Heap) (done : Collected) → Answers program old mode new (Done done)
      → (threshold_in mode ≤ allocated_of (ledger_of old.places)) × IsCollected program old new done.kept done.freed done.dropped done.rounds
  collected_enough new done (Answers.collects enough is) = (enough, is)
