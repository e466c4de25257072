-- Tables has an answer.
use Rattle.std.proofs.Common.{◌≡◌, ℕ, zero, suc, Bool, true, false, List, [], ◌∷◌, length, refl, ap, subst, Some}
use Rattle.std.specs.Prelude.{slice_get}
use Rattle.std.specs.Bool.{Decides}
use Rattle.gt_types.specs.declared.program.Program.{Program}
use Rattle.gt_types.specs.Tails.{IsTailType}
use Rattle.gt_layout.specs.declared.planes.Layouts.{Layouts}
use Rattle.gt_next.specs.States.{State}
use Rattle.gt_next.specs.Next.{NextTables}
use Rattle.gt_total.proofs.Splits.{Never, split}

-- each mark says whether something holds of its place
abbrev AreMarks : (ℕ → Type 0) → List Bool → Type 0
AreMarks Holds marks = (place : ℕ) (mark : Bool) → slice_get marks place ≡ Some mark → Decides mark (Holds place)

more-marks : (Holds : ℕ → Type 0) (mark : Bool) (marks : List Bool) → Decides mark (Holds 0) → AreMarks (λ place. Holds (suc place)) marks → AreMarks Holds (mark ∷ marks)
more-marks Holds mark marks here are zero m e = let same : mark ≡ m = cc in subst (λ b. Decides b (Holds 0)) same here
more-marks Holds mark marks here are (suc place) m e = are place m e

-- there is a list of marks for so many places
some_marks : {C : Type 0} (Holds : ℕ → Type 0) (n : ℕ) → ((marks : List Bool) → length marks ≡ n → AreMarks Holds marks → ¬ C) → ¬ C
some_marks Holds zero on = on [] refl (λ place mark e. absurd (cc))
some_marks Holds (suc n) on = some_marks (λ place. Holds (suc place)) n (λ marks long are. split {P = Holds 0}
    (λ holds. on (true ∷ marks) (ap suc long) (more-marks Holds true marks (λ _. holds, λ _. refl) are))
    (λ not. on (false ∷ marks) (ap suc long) (more-marks Holds false marks (λ never. absurd (cc), λ holds. absurd (not holds)) are)))

pub some_tables : (program : Program) (layouts : Layouts) (s : State) → ¬ Never (NextTables program layouts s)
some_tables program layouts s =
    some_marks (λ place. IsTailType program (record { 0 = place })) (length program.structures) (λ tails long are never.
    never _ _ (NextTables.lists (tails, record { all = long; each = are }, refl)))
