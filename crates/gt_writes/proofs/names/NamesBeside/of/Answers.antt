use Rattle.std.proofs.Common.{◌≡◌, Some, sym, subst}
use Rattle.gt_objects.specs.InBytes.{known_in}
use Rattle.gt_writes.proofs.Targets.{target-known}
use Rattle.gt_writes.proofs.names.NamesBeside.of.Goals as goal

pub invariant_of-result : goal.invariant_of-result
invariant_of-result c =
    let ready = c.requires.ready in
    record { known = λ t e. subst (λ objects. known_in objects t.addr ≡ Some t.known) (sym c.of-names.ensures.objects) (target-known ready.0 ready.1 c.args.objects.now ready.2 ready.5 t (ready.6 t e)) }
