use Rattle.gt_script.proofs.statements.text_of.Goals as goal

pub from_utf8_unchecked-requires : goal.from_utf8_unchecked-requires
from_utf8_unchecked-requires c = c.requires c.in-All.is
