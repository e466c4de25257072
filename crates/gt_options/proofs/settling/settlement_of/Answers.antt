use Rattle.std.proofs.Common.{Some, None, refl}
use Rattle.gt_options.proofs.Settled.{declares, first_fault}
use Rattle.gt_options.proofs.settling.settlement_of.Goals as goal

pub returns-in-None : goal.returns-in-None
returns-in-None c = record {
  settled =
      declares c.args.draft.now c.in_ok-program.program c.in_ok-by_draft.by_draft c.in_ok-by_program.by_program None c.in_ok-program.ensures.made c.in_ok-by_draft.ensures.first
      c.in_ok-by_program.ensures.first c.in-None.ensures.first refl;
}

pub returns : goal.returns
returns c = record {
  settled =
      first_fault c.args.draft.now c.in_ok-program.program c.in_ok-by_draft.by_draft c.in_ok-by_program.by_program (Some c.in-Some.fault) c.in-Some.fault c.in_ok-program.ensures.made
      c.in_ok-by_draft.ensures.first c.in_ok-by_program.ensures.first c.in-Some.ensures.first refl;
}
