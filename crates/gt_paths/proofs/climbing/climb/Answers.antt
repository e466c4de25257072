use Rattle.std.proofs.Common.{◌≡◌, ℕ, ◌+◌, List, length, ap, sym, subst, ◌∙◌, arith}
use Rattle.gt_paths.proofs.Ascents.{Climbing, all_found, begins, climbs, ends_at, few_found, insert_same}
use Rattle.gt_paths.proofs.climbing.climb.Goals as goal

pub steps-init : goal.steps-init
steps-init c = (begins c.args.program.now c.args.from.keys, c.len.ensures.unique)

pub returns-in_default : goal.returns-in_default
returns-in_default c = record {
  above = all_found c.args.program.now c.args.from.keys c.steps.step c.steps.found.keys (ends_at c.steps.found.keys c.steps.step (sym c.get_index.ensures.key ∙ sym c.in_default.ensures)) c.steps.invariant.0;
}

pub steps-preserved : goal.steps-preserved
steps-preserved c = (
  subst (λ (ks : List ℕ). Climbing c.args.program.now c.args.from.keys (c.steps.step + 1) ks)
      (sym (c.in_ok-add_all.ensures.added ∙ insert_same c.steps.found.keys c.of.result.now _ c.of.ensures.containers))
      (climbs c.args.program.now c.args.containers.now c.args.from.keys c.steps.step c.steps.found.keys c.in-Some.id c.requires.containers (sym c.get_index.ensures.key ∙ sym c.in-Some.ensures) c.steps.invariant.0),
  c.in_ok-add_all.ensures.unique,
)

pub returns : goal.returns
returns c =
    let same : length c.as_slice.result.now ≡ length c.args.program.now.structures = ap length c.as_slice.ensures.items in
    let few = few_found c.args.program.now c.args.from.keys c.steps.step c.steps.found.keys c.steps.invariant.1 c.steps.invariant.0 in
    record {
      above = all_found c.args.program.now c.args.from.keys c.steps.step c.steps.found.keys (omega (arith, few, same, c.len.ensures.len, c.steps-test.false)) c.steps.invariant.0;
    }
