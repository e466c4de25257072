use Rattle.std.proofs.Common.{◌≡◌, false, length}
use Rattle.gt_split.specs.Cutting.{quoted_at}
use Rattle.gt_split.proofs.Quoting.{with_bytes}
use Rattle.gt_split.proofs.quotes.read_quoted.Given as goal

abbrev pub invariant-bytes : goal.invariant-bytes
invariant-bytes l = with_bytes l.bytes.items (quoted_at l.escaped l.rest) ≡ quoted_at false l.text

abbrev pub decreases-bytes : goal.decreases-bytes
decreases-bytes l = length l.rest
