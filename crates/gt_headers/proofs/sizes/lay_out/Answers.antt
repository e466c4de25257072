use Rattle.std.proofs.Common.{subst}
use Rattle.gt_layout.specs.Excess.{IsStop}
use Rattle.gt_layout.proofs.Ideal as ideal
use Rattle.gt_headers.proofs.SizeLemmas.{root_there, within_no_fault}
use Rattle.gt_headers.proofs.sizes.lay_out.Goals as goal

pub place-requires-clause-root : goal.place-requires-clause-root
place-requires-clause-root c =
    root_there c.args.files.now c.args.program.now c.in-Err-TooLarge.structure c.in-Err-TooLarge.root
    (subst (IsStop c.args.program.now) c.in-Err-TooLarge.field-0-is c.in-Err-TooLarge.ensures.stop) c.requires.roots

pub returns-in-Ok-clause-sized : goal.returns-in-Ok-clause-sized
returns-in-Ok-clause-sized c =
    within_no_fault ideal.one_layout c.args.files.now c.args.program.now c.in-Ok.layouts c.requires.settled c.in-Ok.ensures.laid_out c.in-Ok.ensures.within
