use Rattle.std.proofs.Common.{ℕ, ◌*◌, ◌<◌, refl, sym, subst, inl, inr, arith}
use Rattle.std.specs.Prelude.{MatchOption}
use Rattle.std.proofs.lemmas.Bool.{cases_lt}
use Rattle.gt_objects.specs.Making.{HasSize, IsTooLarge}
use Rattle.gt_objects.proofs.Listed.{none_rounded}
use Rattle.gt_objects.proofs.sizes.block_size.Goals as goal

far : (size count : ℕ) → (size * count < 18446744073709551616 → ⊥) → 1048576 < count * size
far size count over = elim (cases_lt 1048576 (count * size)) as (λ _. 1048576 < count * size) [
  | inl large ↦ large
  | inr small ↦ absurd (over (omega (arith, small)))
]

pub returns-in_err-bytes : goal.returns-in_err-bytes
returns-in_err-bytes c =
    let large : IsTooLarge c.args.program.now c.args.layouts.now c.args.known = (
      c.args.known.count * c.element_size-size.result,
      (c.element_size-size.result, c.element_size-size.ensures, refl),
      none_rounded (c.args.known.count * c.element_size-size.result) (far c.element_size-size.result c.args.known.count c.in_err-bytes.ensures),
    ) in
    record { size = subst (λ r. MatchOption r (IsTooLarge c.args.program.now c.args.layouts.now c.args.known) (HasSize c.args.program.now c.args.layouts.now c.args.known)) (sym c.from_residual.ensures) large }
