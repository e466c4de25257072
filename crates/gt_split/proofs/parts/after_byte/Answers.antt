use Rattle.gt_split.proofs.Boundaries.{after_first}
use Rattle.gt_split.proofs.parts.after_byte.Goals as goal

pub range_from-requires : goal.range_from-requires
range_from-requires c = λ _. after_first c.args.text.now c.as_bytes.result.now c.args.byte c.utf8.text c.as_bytes.ensures.value c.in-len1-up.len_at_least c.if-first-byte.true c.requires.ascii
