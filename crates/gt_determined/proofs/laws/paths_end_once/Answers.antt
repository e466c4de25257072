use Rattle.std.proofs.Common.{◌≡◌, Some, ◌⊎◌, inl, inr}
use Rattle.gt_types.specs.declared.program.Program.{Program}
use Rattle.gt_types.specs.Settled.{Settled}
use Rattle.gt_layout.specs.declared.planes.Layouts.{Layouts}
use Rattle.gt_script.specs.declared.command.Route.{Route}
use Rattle.gt_next.specs.declared.answer.Why.{Why}
use Rattle.gt_next.specs.States.{State, IsGoodState}
use Rattle.gt_next.specs.Spots.{Spot, Standing, standing_at}
use Rattle.gt_next.specs.Paths.{Leads, RefusesPath}
use Rattle.gt_determined.proofs.Outcomes.{either, one-end, one-stop, never-both}
use Rattle.gt_determined.proofs.Grounds.{StandsAt}
use Rattle.gt_determined.proofs.PathEnds.{path-ends}
use Rattle.gt_determined.proofs.laws.paths_end_once.Goals as goal

some-end : (program : Program) (layouts : Layouts) → Settled program → (s : State) (path : Route) → IsGoodState program layouts s
    → ((at : Spot) × (what : Standing) × Leads program s path at × (standing_at program s.heap.graph at ≡ Some what)) ⊎ ((why : Why) × RefusesPath program s path why)
some-end program layouts settled s path good = go (either (path-ends program layouts settled s path good))
  where
    go : ((at : Spot) × Leads program s path at × StandsAt program s.heap.graph at) ⊎ ((why : Why) × RefusesPath program s path why)
        → ((at : Spot) × (what : Standing) × Leads program s path at × (standing_at program s.heap.graph at ≡ Some what)) ⊎ ((why : Why) × RefusesPath program s path why)
    go (inl (at, leads, sound)) = inl (at, sound.what, leads, sound.stands)
    go (inr refused) = inr refused

pub returns : goal.returns
returns c program layouts is_read = record {
  ends = λ s path good. some-end program layouts is_read.settled s path good;
  spots = λ s path at other good. one-end (path-ends program layouts is_read.settled s path good) at other;
  refusals = λ s path why other good. one-stop (path-ends program layouts is_read.settled s path good) why other;
  never_both = λ s path at why good. never-both (path-ends program layouts is_read.settled s path good) at why;
}
