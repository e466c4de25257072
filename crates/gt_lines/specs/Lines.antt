-- What one line leaves.
use Rattle.std.specs.Prelude.{◌≡◌, ℕ, List, [], ◌∷◌, ◌++◌, Option, Result, Ok, Err}
use Rattle.gt_types.specs.declared.program.Program.{Program}
use Rattle.gt_layout.specs.declared.planes.Layouts.{Layouts}
use Rattle.gt_io.specs.Appends.{Adds, AddsFront}
use Rattle.gt_script.specs.declared.command.Line.{Line}
use Rattle.gt_next.specs.declared.answer.Answer.{Answer}
use Rattle.gt_next.specs.States.{State}
use Rattle.gt_next.specs.Next.{Next}
use Rattle.gt_next.specs.Texts.{text_of}
use Rattle.gt_lines.specs.declared.lines.LineStop.{LineStop}
use Rattle.gt_lines.specs.declared.lines.LineStop.TheVariants.{NoAnswer, NoText, NotWritten}

-- a line was answered: one more answer, by the machine
abbrev pub Answers : Program → Layouts → Line → (old new : State) → (before now : List Answer) → Answer → Type 0
Answers program layouts line old new before now answer = (now ≡ before ++ answer ∷ []) × Next program layouts old line.command answer new

-- what a line leaves: its answer and its text; or no answer and nothing changed; or its answer and nothing of its text, or a front
abbrev pub RunsLine : Program → Layouts → Line → (old new : State) → (before now : List Answer) → (taken takes : Option (List ℕ)) → Result (Unit {0}) LineStop → Type 0
RunsLine program layouts line old new before now taken takes (Ok done) =
    (answer : Answer) × Answers program layouts line old new before now answer × Adds taken (text_of line answer) takes
RunsLine program layouts line old new before now taken takes (Err NoAnswer) = (now ≡ before) × (new ≡ old) × (takes ≡ taken)
RunsLine program layouts line old new before now taken takes (Err NoText) = (answer : Answer) × Answers program layouts line old new before now answer × (takes ≡ taken)
RunsLine program layouts line old new before now taken takes (Err NotWritten) =
    (answer : Answer) × Answers program layouts line old new before now answer × AddsFront taken (text_of line answer) takes
