use Rattle.std.proofs.Common.{◌^◌, ◌<◌, subst, sym}
use Rattle.gt_value.specs.Reading.{bits_from}
use Rattle.gt_value.proofs.BitNumbers.{bits_number-below}
use Rattle.gt_value.proofs.bits.number_at.Goals as goal

pub number_of_bits-requires-clause-fits : goal.number_of_bits-requires-clause-fits
number_of_bits-requires-clause-fits c =
    subst (λ n. n < 2 ^ c.args.width) (sym c.bits_at.ensures) (bits_number-below (bits_from c.args.space.now c.args.from) c.args.at c.args.width)
