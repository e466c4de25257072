-- Each command that is built has an answer.
use Rattle.std.proofs.Common.{ℕ, List}
use Rattle.gt_types.specs.declared.program.Program.{Program}
use Rattle.gt_types.specs.Settled.{Settled}
use Rattle.gt_layout.specs.declared.planes.Layouts.{Layouts}
use Rattle.gt_layout.specs.Planes.{IsLaidOut}
use Rattle.gt_script.specs.declared.command.Command.{Command}
use Rattle.gt_script.specs.declared.command.Command.TheVariants as command
use Rattle.gt_next.specs.States.{State, IsGoodState}
use Rattle.gt_next.specs.Next.{Next}
use Rattle.gt_next.specs.Laws.{IsBuilt, PathsEndOnce}
use Rattle.gt_determined.specs.Answering.{HasAnswer}
use Rattle.gt_total.proofs.Collections.{some_collect, some_force}
use Rattle.gt_total.proofs.Getting.{some_get}
use Rattle.gt_total.proofs.Making.{ZerosAreThere, some_new, some_array, some_text, some_block}
use Rattle.gt_total.proofs.Printing.{some_print}
use Rattle.gt_total.proofs.Setting.{some_set}
use Rattle.gt_total.proofs.Splits.{Never}
use Rattle.gt_total.proofs.Tails.{some_tables}

-- what was proved of the commands that are always answered
pub record HavePlainAnswers (program : Program) (layouts : Layouts) : Type 0 where
  pub drop : (var : List ℕ) → HasAnswer program layouts (command.Drop var)
  pub put : (cache key value : List ℕ) → HasAnswer program layouts (command.Put cache key value)
  pub find : (cache key : List ℕ) → HasAnswer program layouts (command.Find cache key)
  pub heap : HasAnswer program layouts command.Heap
  pub stats : HasAnswer program layouts command.Stats

module _ (program : Program) (layouts : Layouts) (settled : Settled program) (laid : IsLaidOut program layouts) (paths : PathsEndOnce program layouts) (zeros : ZerosAreThere program)
    (plain : HavePlainAnswers program layouts) (s : State) (good : IsGoodState program layouts s) where
  there : (c : Command) → HasAnswer program layouts c → ¬ Never (Next program layouts s c)
  there c has never = let step = has s good in never step.0 step.1 step.2

  pub some_answer : (c : Command) → IsBuilt c → ¬ Never (Next program layouts s c)
  some_answer (command.New var type n) built never = some_new program layouts settled laid s good var type n never
  some_answer (command.Array var type n) built never = some_array program layouts settled laid s good var zeros type n never
  some_answer (command.Text var bytes) built never = some_text program layouts settled laid s good var bytes never
  some_answer (command.Block var n) built never = some_block program layouts settled laid s good var zeros n never
  some_answer (command.Set path value) built never = some_set program s path value (paths.ends s path good) never
  some_answer (command.Get var path) built never = some_get program s var path (paths.ends s path good) never
  some_answer (command.Drop var) built never = there (command.Drop var) (plain.drop var) never
  some_answer (command.Print path) built never = some_print program layouts settled s good path (paths.ends s path good) never
  some_answer (command.Put cache key value) built never = there (command.Put cache key value) (plain.put cache key value) never
  some_answer (command.Find cache key) built never = there (command.Find cache key) (plain.find cache key) never
  some_answer command.Collect built never = some_collect program layouts s good never
  some_answer command.CollectForce built never = some_force program layouts s good never
  some_answer command.Heap built never = there command.Heap plain.heap never
  some_answer command.Stats built never = there command.Stats plain.stats never
  some_answer command.Tables built never = some_tables program layouts s never
  some_answer (command.Save file page) built never = elim built [ ]
  some_answer (command.Load file) built never = elim built [ ]
