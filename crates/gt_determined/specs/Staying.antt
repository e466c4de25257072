-- That a good state stays good. Here it is proved for each command but the two that may collect; gt_total has these too.
use Rattle.gt_types.specs.declared.program.Program.{Program}
use Rattle.gt_layout.specs.declared.planes.Layouts.{Layouts}
use Rattle.gt_script.specs.declared.command.Command.{Command}
use Rattle.gt_next.specs.declared.answer.Answer.{Answer}
use Rattle.gt_next.specs.States.{State, IsGoodState}
use Rattle.gt_next.specs.Next.{Next}
use Rattle.gt_next.specs.Laws.{IsOfBytes, IsCollection}

-- after a command that does not collect a good state is good, whatever is answered
abbrev pub StaysGoodUncollected : Program → Layouts → Type 0
StaysGoodUncollected program layouts =
    (s t : State) (c : Command) (a : Answer) → IsGoodState program layouts s → IsOfBytes c → ¬ IsCollection c → Next program layouts s c a t → IsGoodState program layouts t
