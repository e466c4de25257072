use Rattle.std.proofs.Common.{subst}
use Rattle.std.specs.Prelude.{IfErr, IfOk}
use Rattle.gt_pages.specs.Ledger.{Base, IsTooLong}
use Rattle.gt_pages.specs.Contents.{ledger_of}
use Rattle.gt_pages.proofs.pages.Pages.fit.Goals as goal

pub returns : goal.returns
returns c = record {
  fits = subst (λ v. IfOk c.fit.result (Base (ledger_of v) c.args.preferred c.args.need)) c.self.view_is c.fit.ensures.fits;
  longest = subst (λ v. IfErr c.fit.result (IsTooLong (ledger_of v) c.args.need)) c.self.view_is c.fit.ensures.longest;
}
