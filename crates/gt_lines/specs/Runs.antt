-- What several lines leave.
use Rattle.std.specs.Prelude.{◌≡◌, ◌⊎◌, ℕ, List, [], ◌∷◌, ◌++◌, Option}
use Rattle.gt_types.specs.declared.program.Program.{Program}
use Rattle.gt_layout.specs.declared.planes.Layouts.{Layouts}
use Rattle.gt_io.specs.Appends.{Adds, IsFrontOf}
use Rattle.gt_script.specs.declared.command.Line.{Line}
use Rattle.gt_next.specs.declared.answer.Answer.{Answer}
use Rattle.gt_next.specs.States.{State}
use Rattle.gt_next.specs.Next.{Run}
use Rattle.gt_next.specs.Texts.{text_of, texts_of}
use Rattle.gt_lines.specs.declared.lines.LinesEnd.{LinesEnd}
use Rattle.gt_lines.specs.declared.lines.LinesEnd.TheVariants.{Finished, SinkFailed, NoMemory}

-- the machine ran the first of the lines
abbrev pub RanFirst : Program → Layouts → (old new : State) → List Line → List Answer → (left : List Line) → Type 0
RanFirst program layouts old new lines answers left = (done : List Line) × (done ++ left ≡ lines) × Run program layouts old done answers new

-- the sink has the whole texts of the answers to all lines but the last, and of the last a front that is told
abbrev pub AddsAllBut : Option (List ℕ) → List Line → List Answer → (List ℕ → List ℕ → Type 0) → Option (List ℕ) → Type 0
AddsAllBut old lines answers Last new = (first : List Line) × (line : Line) × (lines ≡ first ++ line ∷ [])
    × (before : List Answer) × (answer : Answer) × (answers ≡ before ++ answer ∷ [])
    × (front : List ℕ) × Last front (text_of line answer) × Adds old (texts_of first before ++ front) new

-- nothing of a text
abbrev pub IsNothing : List ℕ → List ℕ → Type 0
IsNothing front text = front ≡ []

-- What lines leave: a run of all and their text; or a run of the first, and the text of all its answers but maybe the last. Where memory
-- ran out before the first answer, nothing was written.
abbrev pub RunsLines : Program → Layouts → List Line → (old new : State) → List Answer → (taken takes : Option (List ℕ)) → LinesEnd → Type 0
RunsLines program layouts lines old new answers taken takes Finished = (r : RanFirst program layouts old new lines answers []) × Adds taken (texts_of r.0 answers) takes
RunsLines program layouts lines old new answers taken takes SinkFailed =
    (left : List Line) × (r : RanFirst program layouts old new lines answers left) × AddsAllBut taken r.0 answers IsFrontOf takes
RunsLines program layouts lines old new answers taken takes NoMemory =
    (left : List Line) × (r : RanFirst program layouts old new lines answers left) × (Adds taken (texts_of r.0 answers) takes ⊎ AddsAllBut taken r.0 answers IsNothing takes)
    × (answers ≡ [] → takes ≡ taken)
