use Rattle.std.proofs.Common.{◌+◌, ◌*◌, arith}
use Rattle.gt_value.specs.Reading.{bits_from}
use Rattle.gt_value.proofs.BitNumbers.{bits_number-below, byte_numbers-next}
use Rattle.gt_value.proofs.bits.bytes_at.Goals as goal

pub overflow_cast-bits_at : goal.overflow_cast-bits_at
overflow_cast-bits_at c = let below = bits_number-below (bits_from c.args.space.now c.args.from) (c.args.at + 8 * c.loop-i.i) 8 in omega (arith, below, c.bits_at.ensures)

pub loop-i-preserved : goal.loop-i-preserved
loop-i-preserved c =
    byte_numbers-next (bits_from c.args.space.now c.args.from) c.args.at c.loop-i.i c.bits_at.result c.loop-i.bytes c.push.new.self c.loop-i.invariant c.bits_at.ensures c.in_ok-push.ensures.added
