-- `get` has an answer.
use Rattle.std.proofs.Common.{◌≡◌, ℕ, List, ◌⊎◌, inl, inr, Some}
use Rattle.gt_types.specs.declared.program.Program.{Program}
use Rattle.gt_script.specs.declared.command.Route.{Route}
use Rattle.gt_next.specs.declared.answer.Why.{Why}
use Rattle.gt_next.specs.States.{State, IsFullOfVariables}
use Rattle.gt_next.specs.Spots.{Spot, Standing, standing_at}
use Rattle.gt_next.specs.Paths.{Leads, RefusesPath}
use Rattle.gt_next.specs.Leaves.{Got, IsNumber, IsNull, IsObject, Reads}
use Rattle.gt_next.specs.Next.{Answers, NextGet}
use Rattle.gt_total.proofs.Splits.{Never, split}

-- a path leads to a spot where something stands, or it is refused
abbrev pub PathEnds : Program → State → Route → Type 0
PathEnds program s path = ((at : Spot) × (what : Standing) × Leads program s path at × (standing_at program s.heap.graph at ≡ Some what)) ⊎ ((why : Why) × RefusesPath program s path why)

module _ (program : Program) (s : State) (var : List ℕ) (path : Route) where
  some_answer : (got : Got) → ¬ Never (Answers s var got)
  some_answer (IsNumber n) never = never _ _ Answers.a_number
  some_answer IsNull never = never _ _ Answers.a_null
  some_answer (IsObject id) never = split {P = IsFullOfVariables s.variables var} (λ full never. never _ _ (Answers.too_many full)) (λ free never. never _ _ (Answers.an_object free)) never

  pub some_get : PathEnds program s path → ¬ Never (NextGet program s var path)
  some_get (inr (why, refused)) never = never _ _ (NextGet.refused refused)
  some_get (inl (at, what, way, stands)) never = split {P = (got : Got) × Reads what got}
      (λ reads never. some_answer reads.0 (λ a t gives. never a t (NextGet.reads way stands reads.1 gives)))
      (λ none never. never _ _ (NextGet.no_leaf way stands (λ got reads. none (got, reads)))) never
