use Rattle.std.proofs.Common.{◌≡◌, ℕ, List, subst, sym, rules}
use Rattle.gt_front.specs.Refused.{IsRefusalLine}
use Rattle.gt_front.specs.declared.refusal.Refusal.TheVariants.{NotBuilt}
use Rattle.gt_run.proofs.running.refuse_unbuilt.Goals as goal

pub returns-in-Ok-clause-ended : goal.returns-in-Ok-clause-ended
returns-in-Ok-clause-ended g c = λ words told texts called first.
    let same : c.as_slice.result.now ≡ c.in-Ok.line = search rules in
    let L : List ℕ → Type 0 = λ line. IsRefusalLine words texts NotBuilt line in
    c.refused_outcome.ensures.ended words told texts first (subst L (sym same) (c.in-Ok.ensures.line words texts called))
