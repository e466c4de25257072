use Rattle.std.proofs.Common.{refl, sym}
use Rattle.gt_parse.specs.Reading.{item_at}
use Rattle.gt_parse.proofs.reading.item.Goals as goal

pub returns : goal.returns
unfolding item_at
returns c = (c.in_ok-item.field-0-1.now, rw (sym c.if-not-is_marked.ensures, c.in_ok-item.ensures) refl)
