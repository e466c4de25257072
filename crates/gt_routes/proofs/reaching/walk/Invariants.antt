use Rattle.std.proofs.Common.{length}
use Rattle.gt_routes.specs.Reaching.{start_of}
use Rattle.gt_routes.proofs.Walking.{HasWalked}
use Rattle.gt_routes.proofs.reaching.walk.Given as goal

abbrev pub invariant-steps : goal.invariant-steps
invariant-steps l = HasWalked l.schema.program l.schema.layouts l.objects (start_of l.fn.start) l.steps l.hops l.reached

abbrev pub decreases-steps : goal.decreases-steps
decreases-steps l = length l.hops
