use Rattle.std.proofs.Common.{sym, subst, ◌∙◌}
use Rattle.std.specs.Prelude.{Contains}
use Rattle.std.proofs.lemmas.Bool.{eqb-true}
use Rattle.gt_pages.specs.Ledger.{sizes}
use Rattle.pages_table.proofs.Found.{rounded_listed}
use Rattle.pages_table.proofs.sizes.is_listed.Goals as goal

pub returns-in-Some : goal.returns-in-Some
returns-in-Some c = λ same.
    subst (λ n. Contains sizes n) (eqb-true c.in-Some.rounded c.args.size same)
    (rounded_listed c.args.size c.in-Some.rounded (sym c.rounded_size.ensures.least ∙ c.in-Some.is))
