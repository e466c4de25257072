-- That each command has an answer.
use Rattle.gt_types.specs.declared.program.Program.{Program}
use Rattle.gt_layout.specs.declared.planes.Layouts.{Layouts}
use Rattle.gt_script.specs.declared.command.Command.{Command}
use Rattle.gt_next.specs.declared.answer.Answer.{Answer}
use Rattle.gt_next.specs.States.{State, IsGoodState}
use Rattle.gt_next.specs.Next.{Next}
use Rattle.gt_next.specs.Laws.{IsOfBytes, IsBuilt}

-- from a good state it cannot be that a command that is built has no answer
abbrev pub SomeAnswer : Program → Layouts → Type 0
SomeAnswer program layouts = (s : State) (c : Command) → IsGoodState program layouts s → IsOfBytes c → IsBuilt c → ¬ ((a : Answer) (t : State) → ¬ Next program layouts s c a t)
