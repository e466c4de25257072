-- The laws, for proofs to cite.
use Rattle.gt_script.proofs.Settled.{one_outcome}
use Rattle.gt_headers.proofs.LawLemmas.{no_fault, one_fault}
use Rattle.gt_run.proofs.RefusalOnce.{one_first, none_run}
use Rattle.gt_run.proofs.RefusedEnds.{OneRefusal, NoRun}

pub one_refusal : OneRefusal
one_refusal words held texts others refusal other first again told known =
    one_first one_outcome no_fault one_fault words held texts others refusal other first again told known

pub no_run : NoRun
no_run words held texts refusal answers range first told runs =
    none_run one_outcome no_fault one_fault words held texts refusal first told runs.call runs.program runs.lines runs.asks runs.built
