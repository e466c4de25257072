-- What a whole script leaves.
use Rattle.std.specs.Prelude.{◌≡◌, ℕ, List, [], ◌∷◌, Option}
use Rattle.gt_types.specs.declared.program.Program.{Program}
use Rattle.gt_layout.specs.declared.planes.Layouts.{Layouts}
use Rattle.gt_space.specs.Range.{Range}
use Rattle.gt_script.specs.declared.command.Line.{Line}
use Rattle.gt_graph.specs.Stands.{Stands}
use Rattle.gt_next.specs.declared.answer.Answer.{Answer}
use Rattle.gt_next.specs.States.{State, IsGoodState}
use Rattle.gt_lines.specs.Runs.{RunsLines}
use Rattle.gt_lines.specs.declared.lines.LinesEnd.{LinesEnd}
use Rattle.gt_lines.specs.declared.lines.LinesEnd.TheVariants.{Finished, SinkFailed, NoMemory}

-- The bytes of the space after a script: they stand for the heap of the last state; but where memory ran out before the first answer,
-- they are as they came.
abbrev pub LeavesSpace : Program → Layouts → State → LinesEnd → List Answer → (before now : Range) → Type 0
LeavesSpace program layouts last NoMemory [] before now = now ≡ before
LeavesSpace program layouts last NoMemory (answer ∷ answers) before now = Stands program layouts last.heap now
LeavesSpace program layouts last Finished answers before now = Stands program layouts last.heap now
LeavesSpace program layouts last SinkFailed answers before now = Stands program layouts last.heap now

-- a script leaves what its lines leave, from one state to a last one, which is good, and the bytes of the space
pub record RunsScript (program : Program) (layouts : Layouts) (lines : List Line) (old : State) (answers : List Answer) (taken takes : Option (List ℕ)) (before now : Range) (end : LinesEnd) : Type 0 where
  pub last : State
  pub runs : RunsLines program layouts lines old last answers taken takes end
  pub good : IsGoodState program layouts last
  pub space : LeavesSpace program layouts last end answers before now
