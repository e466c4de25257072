-- What a script leaves, from what its lines leave.
use Rattle.std.proofs.Common.{◌≡◌, ℕ, ◌==◌, Bool, true, false, List, [], ◌∷◌, length, Option, refl, sym, ap, subst, ◌∙◌}
use Rattle.std.proofs.lemmas.Bool.{eqb-true, false≢true}
use Rattle.std.proofs.lemmas.List.{nil_from_length}
use Rattle.gt_types.specs.declared.program.Program.{Program}
use Rattle.gt_layout.specs.declared.planes.Layouts.{Layouts}
use Rattle.gt_space.specs.Range.{Range}
use Rattle.gt_script.specs.declared.command.Line.{Line}
use Rattle.gt_graph.specs.Stands.{Stands}
use Rattle.gt_next.specs.declared.answer.Answer.{Answer}
use Rattle.gt_next.specs.States.{State, IsGoodState}
use Rattle.gt_schema.specs.declared.schema.Schema.{Schema}
use Rattle.gt_lines.specs.Runs.{RunsLines}
use Rattle.gt_lines.specs.Scripts.{LeavesSpace, RunsScript}
use Rattle.gt_lines.specs.declared.lines.LinesEnd.{LinesEnd}
use Rattle.gt_lines.specs.declared.lines.LinesEnd.TheVariants.{Finished, SinkFailed, NoMemory}

-- there are no answers where their list is told to be empty
pub empty-items : (items : List Answer) (empty : Bool) → empty ≡ (length items == 0) → empty ≡ true → items ≡ []
empty-items items empty counts told = nil_from_length items (eqb-true (length items) 0 (sym counts ∙ told))

pub some-items : (items : List Answer) (empty : Bool) → empty ≡ (length items == 0) → empty ≡ false → items ≡ [] → ⊥
some-items items empty counts told none = false≢true (sym told ∙ counts ∙ ap (λ x. length x == 0) none)

-- the space is as it came, where memory ran out without an answer
pub LeavesSpace-unanswered : (program : Program) (layouts : Layouts) (last : State) (end : LinesEnd) (answers : List Answer) (space : Range) → end ≡ NoMemory → answers ≡ []
    → LeavesSpace program layouts last end answers space space
LeavesSpace-unanswered program layouts last NoMemory [] space e none = refl
LeavesSpace-unanswered program layouts last NoMemory (answer ∷ answers) space e none = absurd (cc)
LeavesSpace-unanswered program layouts last Finished answers space e none = absurd (cc)
LeavesSpace-unanswered program layouts last SinkFailed answers space e none = absurd (cc)

-- else its bytes stand for the last heap
pub LeavesSpace-stands : (program : Program) (layouts : Layouts) (last : State) (end : LinesEnd) (answers : List Answer) (before now : Range)
    → (end ≡ NoMemory → answers ≡ [] → ⊥) → Stands program layouts last.heap now → LeavesSpace program layouts last end answers before now
LeavesSpace-stands program layouts last NoMemory [] before now some stands = absurd (some refl refl)
LeavesSpace-stands program layouts last NoMemory (answer ∷ answers) before now some stands = stands
LeavesSpace-stands program layouts last Finished answers before now some stands = stands
LeavesSpace-stands program layouts last SinkFailed answers before now some stands = stands

-- what a script leaves, where the last session has the schema of the first
pub RunsScript-last : (p q : Schema) (lines : List Line) (old last : State) (answers : List Answer) (taken takes : Option (List ℕ)) (before now : Range) (end : LinesEnd) → q ≡ p
    → RunsLines p.program p.layouts lines old last answers taken takes end → IsGoodState q.program q.layouts last → LeavesSpace q.program q.layouts last end answers before now
    → RunsScript p.program p.layouts lines old answers taken takes before now end
RunsScript-last p q lines old last answers taken takes before now end same runs good space =
    let G : Schema → Type 0 = λ x. IsGoodState x.program x.layouts last in
    let L : Schema → Type 0 = λ x. LeavesSpace x.program x.layouts last end answers before now in
    record { last = last; runs = runs; good = subst G same good; space = subst L same space }
