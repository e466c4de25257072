use Rattle.heap_table.proofs.Fitting.{none_fits, more_fit}
use Rattle.heap_table.proofs.good.+each_fits.Goals as goal

pub returns-in-empty : goal.returns-in-empty
returns-in-empty t c = none_fits c.args.ty.now c.args.values.now c.in-empty.len_below

pub returns-then-fits : goal.returns-then-fits
returns-then-fits t c =
    more_fit c.args.ty.now c.args.values.now c.first-item.result c.each_fits.result c.in-len1-up.len_at_least c.first-item.is (c.fits.ensures.0 c.if-fits.true) c.each_fits.ensures
