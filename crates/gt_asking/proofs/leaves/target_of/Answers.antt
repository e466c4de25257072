use Rattle.std.proofs.Common.{sym, subst, None, Some}
use Rattle.gt_asking.specs.Judging.{IsNamed}
use Rattle.gt_asking.proofs.Judged.{named-known}
use Rattle.gt_asking.proofs.leaves.target_of.Goals as goal

pub returns-in-Some : goal.returns-in-Some
returns-in-Some c = record {
  named = λ program layouts heap is.
      subst (λ l. IsNamed heap.graph.objects l (Some (record { addr = c.in-To.addr; known = c.in-Some.known }))) (sym c.in-To.is)
      (named-known heap c.in-To.addr c.in-Some.known (c.in-Some.ensures.known program layouts heap is));
}

pub returns-in-None : goal.returns-in-None
returns-in-None c = record {
  named = λ program layouts heap is. subst (λ l. IsNamed heap.graph.objects l None) (sym c.in-To.is) (c.in-None.ensures.known program layouts heap is);
}
