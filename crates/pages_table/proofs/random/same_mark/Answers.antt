use Rattle.std.proofs.Common.{sym, ◌∙◌}
use Rattle.pages_table.proofs.Found.{owner_starts}
use Rattle.pages_table.proofs.random.same_mark.Goals as goal

pub marked_as-mark-requires : goal.marked_as-mark-requires
marked_as-mark-requires c = record { start = owner_starts c.args.pages.now.slots c.args.block.addr c.in-Some.start c.in-Some._size (sym c.owner.ensures.owner ∙ c.in-Some.is) }

pub is_marked-marked-requires : goal.is_marked-marked-requires
is_marked-marked-requires c = record { start = owner_starts c.args.pages.now.slots c.args.block.addr c.in-Some.start c.in-Some._size (sym c.owner.ensures.owner ∙ c.in-Some.is) }
