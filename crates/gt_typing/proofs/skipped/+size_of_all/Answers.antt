use Rattle.std.proofs.Common.{◌∙◌}
use Rattle.gt_types.specs.declared.limits.TheConstants.{TOO_LARGE}
use Rattle.gt_drafts.specs.declared.types.Amount.TheVariants.{Unread}
use Rattle.gt_typing.proofs.SizeLemmas.{size_cut}
use Rattle.gt_typing.proofs.skipped.+size_of_all.Goals as goal

pub returns-in-len1-up : goal.returns-in-len1-up
returns-in-len1-up t c =
    c.min-in-len1-up.ensures
    ∙ size_cut c.args.bounds.now Unread c.args.size TOO_LARGE c.number_of.result c.size_of_all-inner.result c.in-len1-up.len_at_least c.number_of.ensures c.size_of_all-inner.ensures
