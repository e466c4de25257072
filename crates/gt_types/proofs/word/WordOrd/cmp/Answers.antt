use Rattle.std.proofs.Common.{ap₂, ◌∙◌}
use Rattle.std.specs.Ordering.{nat_cmp}
use Rattle.std.specs.Cmp.Lexicographic.{slice_cmp}
use Rattle.gt_types.proofs.Orders.{cmp-chars}
use Rattle.gt_types.proofs.word.WordOrd.cmp.Goals as goal

pub returns : goal.returns
returns c =
    c.cmp.ensures ∙ cmp-chars _ _ c.as_str.utf8 c.as_str-2.utf8 ∙ ap₂ (slice_cmp nat_cmp) c.as_str.ensures.characters c.as_str-2.ensures.characters
