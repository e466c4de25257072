use Rattle.std.proofs.Common.{◌≡◌, ◌≤◌, ◌<◌, ◌+◌, ℕ, List, length, get_or, sym, ap, subst, ◌∙◌, ◌⊎◌, inl, inr, arith}
use Rattle.std.proofs.lemmas.Bool.{cases_lt}
use Rattle.std.proofs.lemmas.Bool.Decides.{not_from_Decides}
use Rattle.std.proofs.lemmas.Option.{slice_get_within, get_or_from_slice_get}
use Rattle.gt_types.specs.declared.program.Structure.{Structure}
use Rattle.gt_types.specs.declared.program.Program.{Program}
use Rattle.gt_layout.specs.declared.planes.Plane.{Plane}
use Rattle.gt_layout.specs.Progress.{IsLarge, IsLargeAt}
use Rattle.gt_layout.proofs.layouts.first_too_large.Goals as goal

-- the structure at this place is not too large
not_here : (program : Program) (known : List Plane) (structures : List Structure) (place : ℕ) (s : Structure) (k : Plane) → structures ≡ program.structures → s ≡ get_or structures place s → k ≡ get_or known place k
    → ¬ IsLarge known s k → ¬ IsLargeAt program known place
not_here program known structures place s k same is k_is never (t, p, there, at, large) =
    let first : s ≡ t = is ∙ ap (λ (xs : List Structure). get_or xs place s) same ∙ get_or_from_slice_get program.structures place t s there in
    let second : k ≡ p = k_is ∙ get_or_from_slice_get known place p k at in
    never (subst (λ (q : Plane). IsLarge known s q) (sym second) (subst (λ (u : Structure). IsLarge known u p) (sym first) large))

one_more : (program : Program) (known : List Plane) (place other : ℕ) → (other < place → ¬ IsLargeAt program known other) → ¬ IsLargeAt program known place → other < place + 1 → (other < place) ⊎ (place ≤ other) → ¬ IsLargeAt program known other
one_more program known place other before here within (inl less) = before less
one_more program known place other before here within (inr least) = let same : place ≡ other = omega arith in subst (λ (n : ℕ). ¬ IsLargeAt program known n) same here

pub loop-place-preserved : goal.loop-place-preserved
loop-place-preserved c other within =
    one_more c.args.program.now c.args.known.now c.loop-place.place other (λ less. c.loop-place.invariant other less)
    (not_here c.args.program.now c.args.known.now c.as_slice-structure-items.result.now c.loop-place.place c.structure-item.result c.index-known-place.result c.as_slice-structure-items.ensures.items
    c.structure-item.is c.index-known-place.is (not_from_Decides c.is_too_large.result c.is_too_large.ensures c.if-is_too_large.false))
    within (cases_lt other c.loop-place.place)

pub returns : goal.returns
returns c place large =
    c.loop-place.invariant place (omega (arith, c.loop-place-test.false, ap length c.as_slice-structure-items.ensures.items, slice_get_within c.args.program.now.structures place large.0 large.2)) large
