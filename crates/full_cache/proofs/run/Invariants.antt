use Rattle.gt_session.specs.Sessions.{IsSession}
use Rattle.full_cache.proofs.run.Given as goal

abbrev pub invariant-loop-line : goal.invariant-loop-line
invariant-loop-line l = IsSession l.session
