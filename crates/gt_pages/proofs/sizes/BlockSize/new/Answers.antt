use Rattle.std.proofs.Common.{arith}
use Rattle.gt_pages.proofs.InverseLemmas.{inverse_is, inverse_low}
use Rattle.gt_pages.proofs.SizeLemmas.{size_bounds}
use Rattle.gt_pages.proofs.sizes.BlockSize.new.Goals as goal

pub nonzero_div-inverse : goal.nonzero_div-inverse
nonzero_div-inverse c = (size_bounds c.args.bytes c.requires).0

pub overflow_cast-result : goal.overflow_cast-result
overflow_cast-result c = let low = inverse_low c.args.bytes c.requires in omega (arith, low)

pub invariant_of-result : goal.invariant_of-result
invariant_of-result c = inverse_is c.args.bytes c.requires
