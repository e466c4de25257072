-- Some steps from a sound spot lead to one sound spot, or one of them has one refusal.
use Rattle.std.proofs.Common.{◌≡◌, List, [], ◌∷◌, refl, subst, ◌⊎◌, inl, inr}
use Rattle.gt_types.specs.declared.program.Program.{Program}
use Rattle.gt_types.specs.Settled.{Settled}
use Rattle.gt_script.specs.declared.command.Hop.{Hop}
use Rattle.gt_graph.specs.Objects.{Graph}
use Rattle.gt_graph.specs.Good.{IsGraph}
use Rattle.gt_next.specs.declared.answer.Why.{Why}
use Rattle.gt_next.specs.Spots.{Spot}
use Rattle.gt_next.specs.Paths.{Steps, RefusesStep, Walks, RefusesWalk}
use Rattle.gt_determined.proofs.Outcomes.{Ends}
use Rattle.gt_determined.proofs.Grounds.{StandsAt}
use Rattle.gt_determined.proofs.StepEnds.{EndsAt, step-ends}

abbrev pub WalkEnds : Program → Graph → Spot → List Hop → Type 0
WalkEnds program g from hops = Ends (Walks program g from hops) (RefusesWalk program g from hops) (StandsAt program g)

there-only : {program : Program} {g : Graph} {from to : Spot} → Walks program g from [] to → to ≡ from
there-only Walks.there = refl

no-refusal : {program : Program} {g : Graph} {from : Spot} {why : Why} → ¬ RefusesWalk program g from [] why
no-refusal r = elim r [ ]

module _ {program : Program} {g : Graph} {from : Spot} {hop : Hop} {hops : List Hop} where
  walk-inv : {to : Spot} → Walks program g from (hop ∷ hops) to → (next : Spot) × Steps program g from hop next × Walks program g next hops to
  walk-inv (Walks.onward {next} steps walks) = (next, steps, walks)

  refusal-inv : {why : Why} → RefusesWalk program g from (hop ∷ hops) why
      → RefusesStep program g from hop why ⊎ ((next : Spot) × Steps program g from hop next × RefusesWalk program g next hops why)
  refusal-inv (RefusesWalk.here r) = inl r
  refusal-inv (RefusesWalk.later {next} steps r) = inr (next, steps, r)

module _ (program : Program) (g : Graph) (from : Spot) (hop : Hop) (hops : List Hop) where
  -- the first step is refused
  here-ends : (why : Why) → RefusesStep program g from hop why → ((other : Why) → RefusesStep program g from hop other → other ≡ why) → ((to : Spot) → ¬ Steps program g from hop to) → WalkEnds program g from (hop ∷ hops)
  here-ends why r one never = Ends.stops why (RefusesWalk.here r) (λ other walk. only other (refusal-inv walk)) (λ to walk. let w = walk-inv walk in never w.0 w.1)
    where
      only : (other : Why) → RefusesStep program g from hop other ⊎ ((next : Spot) × Steps program g from hop next × RefusesWalk program g next hops other) → other ≡ why
      only other (inl h) = one other h
      only other (inr (next, steps, h)) = absurd (never next steps)

  -- the first step leads on
  module _ (next : Spot) (steps : Steps program g from hop next) (one : (other : Spot) → Steps program g from hop other → other ≡ next) (never : (why : Why) → ¬ RefusesStep program g from hop why) where
    refused-later : (why : Why) → RefusesWalk program g from (hop ∷ hops) why → RefusesWalk program g next hops why
    refused-later why walk = go (refusal-inv walk)
      where
        go : RefusesStep program g from hop why ⊎ ((n : Spot) × Steps program g from hop n × RefusesWalk program g n hops why) → RefusesWalk program g next hops why
        go (inl h) = absurd (never why h)
        go (inr (n, first, h)) = subst (λ x. RefusesWalk program g x hops why) (one n first) h

    walks-later : (to : Spot) → Walks program g from (hop ∷ hops) to → Walks program g next hops to
    walks-later to walk = let w = walk-inv walk in subst (λ x. Walks program g x hops to) (one w.0 w.1) w.2

    onward-ends : WalkEnds program g next hops → WalkEnds program g from (hop ∷ hops)
    onward-ends (Ends.ends to walks sound only none) = Ends.ends to (Walks.onward steps walks) sound (λ other w. only other (walks-later other w)) (λ why r. none why (refused-later why r))
    onward-ends (Ends.stops why r only none) = Ends.stops why (RefusesWalk.later steps r) (λ other w. only other (refused-later other w)) (λ to w. none to (walks-later to w))

pub walk-ends : (program : Program) → Settled program → (g : Graph) → IsGraph program g → (hops : List Hop) (from : Spot) → StandsAt program g from → WalkEnds program g from hops
walk-ends program settled g good [] from s = Ends.ends from Walks.there s (λ to walks. there-only walks) (λ why r. no-refusal r)
walk-ends program settled g good (hop ∷ hops) from s = go (λ next sound. walk-ends program settled g good hops next sound) (step-ends program settled g good from hop s)
  where
    go : ((next : Spot) → StandsAt program g next → WalkEnds program g next hops) → EndsAt program g from hop → WalkEnds program g from (hop ∷ hops)
    go rest (Ends.ends next steps sound one never) = onward-ends program g from hop hops next steps one never (rest next sound)
    go rest (Ends.stops why r one never) = here-ends program g from hop hops why r one never
