use Rattle.std.proofs.Common.{sym, subst}
use Rattle.gt_types.specs.Settled.{Settled}
use Rattle.sample_program.proofs.Whole.{settled}
use Rattle.tables_table.proofs.main.Goals as goal

pub layout-requires : goal.layout-requires
layout-requires c = subst Settled (sym c.in_ok-program.ensures) settled

pub build-requires-clause-settled : goal.build-requires-clause-settled
build-requires-clause-settled c = subst Settled (sym c.in_ok-program.ensures) settled
