use Rattle.std.proofs.Common.{◌≡◌, ◌++◌, Option, take}
use Rattle.gt_io.specs.Held.{Held}
use Rattle.gt_graph.specs.Places.{ledger_of}
use Rattle.gt_next.specs.States.{State}
use Rattle.gt_next.specs.Texts.{size_lines}
use Rattle.gt_session.specs.Sessions.{StandsFor}
use Rattle.gt_steps.proofs.reporting.push_sizes.Given as goal

-- the lines of so many sizes were added
abbrev pub invariant-loop-size : goal.invariant-loop-size
invariant-loop-size l = (told : Option Held) (state : State) → StandsFor l.s told state → l.text ≡ l.initial.text ++ size_lines (ledger_of state.heap.places).blocks (take l.size-index l.lines)
