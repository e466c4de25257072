use Rattle.std.proofs.Common.{sym, ◌∙◌}
use Rattle.pages_table.proofs.Found.{owner_starts}
use Rattle.pages_table.proofs.random.mark_one.Goals as goal

pub mark-requires : goal.mark-requires
mark-requires c = record { start = owner_starts c.args.pages.now.slots c.saturating_add-byte.result c.in-Some-owner.start c.in-Some-owner.size (sym c.owner.ensures.owner ∙ c.in-Some-owner.is) }
