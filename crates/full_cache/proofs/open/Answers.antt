use Rattle.std.proofs.Common.{None}
use Rattle.full_cache.proofs.open.Goals as goal

pub returns : goal.returns
returns c = let opened = c.in_ok-session.ensures.opens None in record { session = (None, opened.0, opened.2) }
