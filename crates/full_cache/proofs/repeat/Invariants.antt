use Rattle.gt_session.specs.Sessions.{IsSession}
use Rattle.full_cache.proofs.repeat.Given as goal

abbrev pub invariant-loop-pair : goal.invariant-loop-pair
invariant-loop-pair l = IsSession l.session
