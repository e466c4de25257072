-- That a command has an answer. Here it is proved for drop, heap, stats, put and find; gt_total proves of the others that it cannot be
-- that they have none.
use Rattle.gt_types.specs.declared.program.Program.{Program}
use Rattle.gt_layout.specs.declared.planes.Layouts.{Layouts}
use Rattle.gt_script.specs.declared.command.Command.{Command}
use Rattle.gt_next.specs.declared.answer.Answer.{Answer}
use Rattle.gt_next.specs.States.{State, IsGoodState}
use Rattle.gt_next.specs.Next.{Next}

-- from a good state the command has an answer, and some state follows
abbrev pub HasAnswer : Program → Layouts → Command → Type 0
HasAnswer program layouts c = (s : State) → IsGoodState program layouts s → (a : Answer) × (t : State) × Next program layouts s c a t
