use Rattle.std.proofs.Common.{◌≡◌}
use Rattle.gt_value.specs.Reading.{bits_from, byte_numbers}
use Rattle.gt_value.proofs.bits.bytes_at.Given as goal

abbrev pub invariant-loop-i : goal.invariant-loop-i
invariant-loop-i l = l.bytes ≡ byte_numbers (bits_from l.space l.from) l.at l.i
