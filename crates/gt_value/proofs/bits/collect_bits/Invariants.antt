use Rattle.std.proofs.Common.{◌≡◌, ◌+◌, ◌-◌, ◌^◌, ◌<◌}
use Rattle.gt_value.specs.Reading.{bits_from, bits_number}
use Rattle.gt_value.proofs.bits.collect_bits.Given as goal

abbrev pub invariant-loop-i : goal.invariant-loop-i
invariant-loop-i l = record {
  number : l.number ≡ bits_number (bits_from l.space l.from) (l.at + l.i) (l.width - l.i);
  small : l.number < 2 ^ (l.width - l.i);
}
