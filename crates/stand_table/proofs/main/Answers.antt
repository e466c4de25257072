use Rattle.std.proofs.Common.{sym, subst}
use Rattle.gt_types.specs.Settled.{Settled}
use Rattle.sample_program.proofs.Whole.{settled}
use Rattle.stand_table.proofs.main.Goals as goal

pub layout-requires : goal.layout-requires
layout-requires c = subst Settled (sym c.in_ok-program.ensures) settled

pub try_rows-requires : goal.try_rows-requires
try_rows-requires c = record {
  ready = record {
    is_sample = c.in_ok-program.ensures;
    settled = subst Settled (sym c.in_ok-program.ensures) settled;
    laid = c.in-Ok.ensures.laid_out;
    within = c.in-Ok.ensures.within;
  };
}
