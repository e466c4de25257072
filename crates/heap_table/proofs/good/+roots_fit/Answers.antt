use Rattle.heap_table.proofs.Fitting.{no_roots, more_roots}
use Rattle.heap_table.proofs.good.+roots_fit.Goals as goal

pub returns-in_default : goal.returns-in_default
returns-in_default t c = no_roots c.args.roots.now c.args.values.now c.is_empty.result c.in_default.len_below c.is_empty.ensures

pub returns-then-fits : goal.returns-then-fits
returns-then-fits t c =
    more_roots c.args.roots.now c.root-item.result c.args.values.now c.first-item.result c.roots_fit.result c.in-len1-up.len_at_least c.root-item.is c.in-len1-up-values.len_at_least c.first-item.is
    (c.fits.ensures.0 c.if-fits.true) c.roots_fit.ensures
