use Rattle.gt_fit.proofs.Layers.{refused}
use Rattle.gt_assign.proofs.statics.assign_statics.Goals as goal

pub returns-in-Err-clause-shape : goal.returns-in-Err-clause-shape
returns-in-Err-clause-shape g c e = c.in-Err.ensures.shape e (g.N.BlockNames.blocks c.args.names.now)

pub returns-else-record_fits-clause-shape : goal.returns-else-record_fits-clause-shape
returns-else-record_fits-clause-shape g c e = c.in-Ok.ensures.misfit (g.N.BlockNames.blocks c.args.names.now) (refused c.record_fits.result _ c.record_fits.ensures c.if-record_fits.false)
