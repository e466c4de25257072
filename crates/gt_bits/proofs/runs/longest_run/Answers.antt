use Rattle.std.proofs.Common.{subst, sym}
use Rattle.gt_bits.specs.Runs.{IsNextRun}
use Rattle.gt_bits.proofs.RunLemmas.{LongestBefore, longest_done, longest_step}
use Rattle.gt_bits.proofs.runs.longest_run.Goals as goal

pub returns-in-None : goal.returns-in-None
returns-in-None c =
    let next = subst (IsNextRun c.args.words.now c.runs.from c.args.end) c.in-None.is c.next_run.ensures in
    longest_done c.args.words.now c.args.end c.runs.from c.runs.longest c.runs.invariant next.none

pub runs-preserved : goal.runs-preserved
runs-preserved c =
    let next = subst (IsNextRun c.args.words.now c.runs.from c.args.end) c.in-Some.is c.next_run.ensures in
    subst (LongestBefore c.args.words.now c.args.end c.in-Some.run'.stop) (sym c.max-longest.ensures)
    (longest_step c.args.words.now c.args.end c.runs.from c.runs.longest c.in-Some.run' c.runs.invariant next.run)
