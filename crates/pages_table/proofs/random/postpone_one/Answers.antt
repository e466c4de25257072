use Rattle.std.proofs.Common.{sym, ◌∙◌}
use Rattle.pages_table.proofs.Found.{owner_starts}
use Rattle.pages_table.proofs.random.postpone_one.Goals as goal

pub postpone-requires : goal.postpone-requires
postpone-requires c = record { start = owner_starts c.args.pages.now.slots c.in-Some.block.addr c.in-Some-owner.start c.in-Some-owner._size (sym c.owner.ensures.owner ∙ c.in-Some-owner.is) }
