use Rattle.std.proofs.Common.{◌∙◌, false, ap, sym}
use Rattle.std.specs.Option.{unwrap_or, option_copied}
use Rattle.std.proofs.lemmas.Option.{unwrap_or-slice_get}
use Rattle.gt_tables.proofs.sources.is_set.Goals as goal

-- a flag that is not there is not set
pub returns-in-None : goal.returns-in-None
returns-in-None c = ap (λ o. unwrap_or o false) (sym (ap option_copied c.in-None.is) ∙ c.get.ensures.item) ∙ unwrap_or-slice_get c.args.flags.now c.args.number false
