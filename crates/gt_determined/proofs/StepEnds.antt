-- One step from a sound spot leads to one sound spot, or has one refusal.
use Rattle.std.proofs.Common.{◌≡◌, ℕ, List, [], ◌∷◌, refl, ap, sym, subst, ◌∙◌, Some, ◌⊎◌, inl, inr}
use Rattle.gt_types.specs.declared.program.Program.{Program}
use Rattle.gt_types.specs.Settled.{Settled}
use Rattle.gt_script.specs.declared.command.Hop.{Hop}
use Rattle.gt_script.specs.declared.command.Hop.TheVariants.{Name, Index}
use Rattle.gt_tree.proofs.PathBits.{some-same}
use Rattle.gt_graph.specs.Objects.{Graph}
use Rattle.gt_graph.specs.Good.{IsGraph}
use Rattle.gt_next.specs.declared.answer.Why.{Why}
use Rattle.gt_next.specs.declared.answer.Why.TheVariants.{NullStep}
use Rattle.gt_next.specs.Spots.{Spot, further, Standing, Whole, Value, standing_at}
use Rattle.gt_next.specs.Paths.{Follows, Steps, RefusesStep}
use Rattle.gt_determined.proofs.Outcomes.{Ends}
use Rattle.gt_determined.proofs.LocalEnds.{Goes, Stops, LocalEnds, local-ends}
use Rattle.gt_determined.proofs.Grounds.{Ground, AtNull, StandsAt, ground}

-- one step from a spot
abbrev pub EndsAt : Program → Graph → Spot → Hop → Type 0
EndsAt program g from hop = Ends (Steps program g from hop) (RefusesStep program g from hop) (StandsAt program g)

module _ (program : Program) (g : Graph) (from at : Spot) (follows : Follows program g from at) where
  to-step : (what : Standing) (hop : Hop) (path : List ℕ) → standing_at program g at ≡ Some what → Goes program what hop path → Steps program g from hop (further at path)
  to-step (Value t) hop path e goes = Steps.in_value follows e goes
  to-step (Whole o) (Name name) path e (t, rest, one, steps, is) = subst (λ p. Steps program g from (Name name) (further at p)) (sym is) (Steps.in_one follows e one steps)
  to-step (Whole o) (Index place) path e (lt, is) = subst (λ p. Steps program g from (Index place) (further at p)) (sym is) (Steps.to_element follows e lt)

  to-refusal : (what : Standing) (hop : Hop) (why : Why) → standing_at program g at ≡ Some what → Stops program what hop why → RefusesStep program g from hop why
  to-refusal (Value t) hop why e r = RefusesStep.in_value follows e r
  to-refusal (Whole o) (Name name) why e (inl (t, one, r)) = RefusesStep.in_one follows e one r
  to-refusal (Whole o) (Name name) why e (inr (none, is)) = subst (λ w. RefusesStep program g from (Name name) w) (sym is) (RefusesStep.not_one follows e none)
  to-refusal (Whole o) (Index place) why e (past, is) = subst (λ w. RefusesStep program g from (Index place) w) (sym is) (RefusesStep.no_element follows e past)

module _ (program : Program) (g : Graph) (from : Spot) (b : Ground program g from) where
  same-what : (at : Spot) (what : Standing) → Follows program g from at → standing_at program g at ≡ Some what → b.what ≡ what
  same-what at what f e = some-same (standing_at program g b.at) b.what what b.stands (subst (λ a. standing_at program g a ≡ Some what) (b.only at f) e)

  from-step : (hop : Hop) (to : Spot) → Steps program g from hop to → (path : List ℕ) × (to ≡ further b.at path) × Goes program b.what hop path
  from-step hop to (Steps.in_value {at} {t} {path} f e steps) =
      (path, ap (λ a. further a path) (b.only at f), subst (λ w. Goes program w hop path) (sym (same-what at (Value t) f e)) steps)
  from-step hop to (Steps.in_one {at} {name} {o} {t} {path} f e one steps) =
      (0 ∷ path, ap (λ a. further a (0 ∷ path)) (b.only at f), subst (λ w. Goes program w (Name name) (0 ∷ path)) (sym (same-what at (Whole o) f e)) (t, path, one, steps, refl))
  from-step hop to (Steps.to_element {at} {place} {o} f e lt) =
      (place ∷ [], ap (λ a. further a (place ∷ [])) (b.only at f), subst (λ w. Goes program w (Index place) (place ∷ [])) (sym (same-what at (Whole o) f e)) (lt, refl))

  from-refusal : (hop : Hop) (why : Why) → RefusesStep program g from hop why → Stops program b.what hop why
  from-refusal hop why (RefusesStep.at_null {type} e) = absurd (b.not_null type e)
  from-refusal hop why (RefusesStep.in_value {at} {t} f e r) = subst (λ w. Stops program w hop why) (sym (same-what at (Value t) f e)) r
  from-refusal hop why (RefusesStep.in_one {at} {name} {o} {t} f e one r) = subst (λ w. Stops program w (Name name) why) (sym (same-what at (Whole o) f e)) (inl (t, one, r))
  from-refusal hop why (RefusesStep.not_one {at} {name} {o} f e none) = subst (λ w. Stops program w (Name name) why) (sym (same-what at (Whole o) f e)) (inr (none, refl))
  from-refusal hop why (RefusesStep.no_element {at} {place} {o} f e past) = subst (λ w. Stops program w (Index place) why) (sym (same-what at (Whole o) f e)) (past, refl)

  ground-ends : (hop : Hop) → LocalEnds program g b.what hop → EndsAt program g from hop
  ground-ends hop (Ends.ends path goes (next, fits, stands) one never) =
      Ends.ends (further b.at path) (to-step program g from b.at b.follows b.what hop path b.stands goes) (record { what = Value next; stands = stands b.at b.stands; sound = fits })
      (λ to steps. let found = from-step hop to steps in found.1 ∙ ap (further b.at) (one found.0 found.2)) (λ why r. never why (from-refusal hop why r))
  ground-ends hop (Ends.stops why r one never) =
      Ends.stops why (to-refusal program g from b.at b.follows b.what hop why b.stands r)
      (λ other refuses. one other (from-refusal hop other refuses)) (λ to steps. let found = from-step hop to steps in never found.0 found.2)

-- ---- at a null pointer

step-follows : {program : Program} {g : Graph} {from to : Spot} {hop : Hop} → Steps program g from hop to → (at : Spot) × Follows program g from at
step-follows (Steps.in_value {at} f e steps) = (at, f)
step-follows (Steps.in_one {at} f e one steps) = (at, f)
step-follows (Steps.to_element {at} f e lt) = (at, f)

null-refusal : {program : Program} {g : Graph} {from : Spot} {hop : Hop} {why : Why} → ((at : Spot) → ¬ Follows program g from at) → RefusesStep program g from hop why → why ≡ NullStep
null-refusal none (RefusesStep.at_null e) = refl
null-refusal none (RefusesStep.in_value {at} f e r) = absurd (none at f)
null-refusal none (RefusesStep.in_one {at} f e one r) = absurd (none at f)
null-refusal none (RefusesStep.not_one {at} f e no_one) = absurd (none at f)
null-refusal none (RefusesStep.no_element {at} f e past) = absurd (none at f)

pub step-ends : (program : Program) → Settled program → (g : Graph) → IsGraph program g → (from : Spot) (hop : Hop) → StandsAt program g from → EndsAt program g from hop
step-ends program settled g good from hop s = go (ground program g from good s)
  where
    go : Ground program g from ⊎ AtNull program g from → EndsAt program g from hop
    go (inl b) = ground-ends program g from b hop (local-ends program settled g b.what hop b.sound)
    go (inr n) = Ends.stops NullStep (RefusesStep.at_null n.stands) (λ why r. null-refusal n.none r) (λ to steps. let found = step-follows steps in n.none found.0 found.1)
