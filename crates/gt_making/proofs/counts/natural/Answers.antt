use Rattle.std.proofs.Common.{◌∙◌, ◌≤ℤ◌, sym, subst, ℤ, ℕ, pos, rules}
use Rattle.std.specs.Int.{w128}
use Rattle.std.proofs.lemmas.Int.{to_z-of_z}
use Rattle.gt_making.proofs.Asked.{is-negative}
use Rattle.gt_making.proofs.counts.natural.Goals as goal

at-least : (k : ℕ) → pos 0 ≤ℤ pos k
at-least k = search rules

pub returns-in-Err : goal.returns-in-Err
returns-in-Err c = record {
  natural = is-negative c.args.n (λ k e.
      c.in-Err.ensures (subst (λ (z : ℤ). pos 0 ≤ℤ z) (sym (to_z-of_z w128 c.get.result (search rules) ∙ c.get.ensures.value ∙ e)) (at-least k)));
}
