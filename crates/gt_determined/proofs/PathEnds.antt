-- A path of a good state leads to one spot, or has one refusal.
use Rattle.std.proofs.Common.{◌≡◌, refl, subst, ◌⊎◌, inl, inr}
use Rattle.gt_types.specs.declared.program.Program.{Program}
use Rattle.gt_types.specs.Settled.{Settled}
use Rattle.gt_layout.specs.declared.planes.Layouts.{Layouts}
use Rattle.gt_script.specs.declared.command.Route.{Route}
use Rattle.gt_next.specs.declared.answer.Why.{Why}
use Rattle.gt_next.specs.States.{State, IsGoodState}
use Rattle.gt_next.specs.Spots.{Spot}
use Rattle.gt_next.specs.Paths.{Walks, RefusesWalk, Begins, RefusesStart, Leads, RefusesPath}
use Rattle.gt_determined.proofs.Outcomes.{Ends}
use Rattle.gt_determined.proofs.Grounds.{StandsAt}
use Rattle.gt_determined.proofs.WalkEnds.{WalkEnds, walk-ends}
use Rattle.gt_determined.proofs.StartEnds.{StartEnds, start-ends}

abbrev pub PathEnds : Program → State → Route → Type 0
PathEnds program s path = Ends (Leads program s path) (RefusesPath program s path) (StandsAt program s.heap.graph)

path-inv : {program : Program} {s : State} {path : Route} {why : Why} → RefusesPath program s path why
    → RefusesStart program s path why ⊎ ((start : Spot) × Begins program s path start × RefusesWalk program s.heap.graph start path.steps why)
path-inv (RefusesPath.at_start r) = inl r
path-inv (RefusesPath.at_step {start} b r) = inr (start, b, r)

module _ (program : Program) (s : State) (path : Route) where
  started-ends : (start : Spot) → Begins program s path start → ((other : Spot) → Begins program s path other → other ≡ start) → ((why : Why) → ¬ RefusesStart program s path why)
      → WalkEnds program s.heap.graph start path.steps → PathEnds program s path
  started-ends start begins one never (Ends.ends to walks sound only none) =
      Ends.ends to (record { start = start; begins = begins; walks = walks }) sound
      (λ other l. only other (subst (λ x. Walks program s.heap.graph x path.steps other) (one l.start l.begins) l.walks)) refused
    where
      refused : (why : Why) → ¬ RefusesPath program s path why
      refused why r = go (path-inv r)
        where
          go : RefusesStart program s path why ⊎ ((x : Spot) × Begins program s path x × RefusesWalk program s.heap.graph x path.steps why) → ⊥
          go (inl h) = never why h
          go (inr (x, b, h)) = none why (subst (λ y. RefusesWalk program s.heap.graph y path.steps why) (one x b) h)
  started-ends start begins one never (Ends.stops why r only none) =
      Ends.stops why (RefusesPath.at_step begins r) same (λ other l. none other (subst (λ x. Walks program s.heap.graph x path.steps other) (one l.start l.begins) l.walks))
    where
      same : (other : Why) → RefusesPath program s path other → other ≡ why
      same other h = go (path-inv h)
        where
          go : RefusesStart program s path other ⊎ ((x : Spot) × Begins program s path x × RefusesWalk program s.heap.graph x path.steps other) → other ≡ why
          go (inl k) = absurd (never other k)
          go (inr (x, b, k)) = only other (subst (λ y. RefusesWalk program s.heap.graph y path.steps other) (one x b) k)

pub path-ends : (program : Program) (layouts : Layouts) → Settled program → (s : State) (path : Route) → IsGoodState program layouts s → PathEnds program s path
path-ends program layouts settled s path good = go (start-ends program layouts s good path path.variable refl)
  where
    go : StartEnds program s path → PathEnds program s path
    go (Ends.ends start begins sound one never) = started-ends program s path start begins one never (walk-ends program settled s.heap.graph good.heap.graph path.steps start sound)
    go (Ends.stops why r one never) = Ends.stops why (RefusesPath.at_start r) same (λ to l. never l.start l.begins)
      where
        same : (other : Why) → RefusesPath program s path other → other ≡ why
        same other h = at (path-inv h)
          where
            at : RefusesStart program s path other ⊎ ((x : Spot) × Begins program s path x × RefusesWalk program s.heap.graph x path.steps other) → other ≡ why
            at (inl k) = one other k
            at (inr (x, b, k)) = absurd (never x b)
