-- The sink of a program before and after it.
use Rattle.std.specs.Prelude.{ℕ, List, Option}
use Rattle.gt_lines.specs.Calls.{WriteOf}

-- what is known of one write of a sink; the sink before and after; and the bytes that it had before and has after, where it tells them
pub record Output : Type 1 where
  pub Sink : Type 0
  pub write : WriteOf Sink
  pub old : Sink
  pub new : Sink
  pub had : Option (List ℕ)
  pub has : Option (List ℕ)

-- that of a sink that tells its bytes so
abbrev pub output : {K : Type 0} → WriteOf K → (K → Option (List ℕ)) → K → K → Output
output {K} write written old new = record { Sink = K; write = write; old = old; new = new; had = written old; has = written new }
