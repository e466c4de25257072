use Rattle.gt_pages.specs.Parts.{parts_of}
use Rattle.gt_pages.proofs.ImageLemmas.{run_few}
use Rattle.gt_pages.proofs.store.Store.add_run.Goals as goal

pub renew-requires : goal.renew-requires
renew-requires c = run_few (parts_of c.args.self.now) c.args.run c.requires.kept c.requires.listed c.requires.fits
