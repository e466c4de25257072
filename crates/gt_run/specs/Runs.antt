-- A run of what a call asks for.
use Rattle.std.specs.Prelude.{◌≡◌, ℕ, List, ◌++◌, Option, All}
use Rattle.gt_types.specs.declared.program.Program.{Program}
use Rattle.gt_layout.specs.declared.planes.Layouts.{Layouts}
use Rattle.gt_layout.specs.Planes.{IsLaidOut}
use Rattle.gt_space.specs.Range.{Range}
use Rattle.gt_io.specs.Held.{Held}
use Rattle.gt_script.specs.declared.command.Line.{Line}
use Rattle.gt_words.specs.declared.call.Call.{Call}
use Rattle.gt_words.specs.declared.call.Settings.{Settings}
use Rattle.gt_front.specs.Asks.{Asks}
use Rattle.gt_graph.specs.Stands.{Stands}
use Rattle.gt_next.specs.declared.answer.Answer.{Answer}
use Rattle.gt_next.specs.States.{State, IsOpening, IsGoodState}
use Rattle.gt_next.specs.Next.{Run}
use Rattle.gt_next.specs.Laws.{IsBuilt}

-- the state from which a run begins under these settings
abbrev pub Opens : Program → Settings → Option Held → State → Type 0
Opens program settings told s = IsOpening program settings.pages settings.min_expand settings.min_heapsize told s

-- the machine ran the first of the lines, from the opening state, with these answers; the state to which it came is good, and the
-- bytes of the space at the end stand for its heap
pub record Runs (words : List (List ℕ)) (told : Option Held) (answers : List Answer) (range : Range) : Type 0 where
  pub call : Call
  pub program : Program
  pub layouts : Layouts
  pub laid : IsLaidOut program layouts
  pub lines : List Line
  pub asks : Asks words told call program lines
  pub built : All (λ line. IsBuilt line.command) lines
  pub done : List Line
  pub left : List Line
  pub split : done ++ left ≡ lines
  pub opening : State
  pub opens : Opens program call.settings told opening
  pub state : State
  pub run : Run program layouts opening done answers state
  pub good : IsGoodState program layouts state
  pub stands : Stands program layouts state.heap range
