use Rattle.std.proofs.Common.{ap, ◌∙◌}
use Rattle.std.specs.List.{prefix_len}
use Rattle.gt_split.specs.Texts.{is_blank}
use Rattle.gt_split.proofs.Cuts.{after_blanks}
use Rattle.gt_split.proofs.Boundaries.{blanks_boundary}
use Rattle.gt_split.proofs.pieces.without_blanks.Goals as goal

pub range_from-requires : goal.range_from-requires
range_from-requires c = λ _. blanks_boundary c.args.text.now c.blank_len.result c.utf8.text (c.blank_len.ensures ∙ ap (prefix_len is_blank) c.as_bytes.ensures.value)

pub returns : goal.returns
returns c = c.range_from.ensures.value ∙ after_blanks c.args.text.now c.blank_len.result (c.blank_len.ensures ∙ ap (prefix_len is_blank) c.as_bytes.ensures.value)
