use Rattle.gt_pages.specs.Parts.{parts_of}
use Rattle.gt_pages.proofs.RunLemmas.{runs_begin, runs_next}
use Rattle.gt_pages.proofs.store.Store.add_runs.Goals as goal

pub loop-run-init : goal.loop-run-init
loop-run-init c = runs_begin (parts_of c.args.self.now) c.requires.fresh c.requires.at_least c.requires.at_most c.args.first c.args.runs.now c.requires.runs c.requires.fits

pub loop-run-preserved : goal.loop-run-preserved
loop-run-preserved c =
    runs_next (parts_of c.args.self.now) c.args.first c.args.runs.now c.loop-run.run-index _ (parts_of c.loop-run.self) (parts_of c.add_run.new.self) c.loop-run-test.true
    c.loop-run.invariant c.in_ok-add_run.ensures.added
