use Rattle.gt_value.specs.Values.{tree_of}
use Rattle.gt_assign.proofs.Assigned.{checked-assigned, checked-misfit}
use Rattle.gt_fit.proofs.Layers.{granted, refused}
use Rattle.gt_assign.proofs.assigning.assign.Goals as goal

pub returns-in-Err-clause-shape : goal.returns-in-Err-clause-shape
returns-in-Err-clause-shape g c e = c.in-Err.ensures.shape e (g.N.BlockNames.blocks c.args.names.now)

pub returns-then-fits_outside-clause-assigned : goal.returns-then-fits_outside-clause-assigned
returns-then-fits_outside-clause-assigned g c =
    checked-assigned c.args.program.now c.requires.settled (g.N.BlockNames.blocks c.args.names.now) c.args.capacity c.args.ty.now c.requires.element (tree_of c.args.value) c.args.path.now (tree_of c.args.leaf) (tree_of c.in-Ok.made) c.in-Ok.ensures.fits
    (granted c.fits_outside.result _ c.fits_outside.ensures c.if-fits_outside.true)

pub returns-else-fits_outside-clause-shape : goal.returns-else-fits_outside-clause-shape
returns-else-fits_outside-clause-shape g c e =
    checked-misfit c.args.program.now c.requires.settled (g.N.BlockNames.blocks c.args.names.now) c.args.capacity c.args.ty.now c.requires.element (tree_of c.args.value) c.args.path.now (tree_of c.args.leaf) (tree_of c.in-Ok.made) c.in-Ok.ensures.misfit
    (refused c.fits_outside.result _ c.fits_outside.ensures c.if-fits_outside.false)
