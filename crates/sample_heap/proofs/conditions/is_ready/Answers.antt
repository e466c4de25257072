use Rattle.std.proofs.Common.{◌≡◌, true, rules}
use Rattle.sample_heap.proofs.conditions.is_ready.Goals as goal

pub returns : goal.returns
returns c = λ closed.
    let known : c.all_known.result ≡ true = search rules in
    let named : c.all_named.result ≡ true = search rules in
    record { are_known = c.all_known.ensures known; are_named = c.all_named.ensures named; are_closed = c.all_named-2.ensures closed }
