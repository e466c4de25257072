use Rattle.std.proofs.Common.{ap₂, ◌∙◌}
use Rattle.std.specs.Str.{bytes_eq}
use Rattle.gt_types.proofs.Texts.{bytes_eq-chars}
use Rattle.gt_types.proofs.word.WordPartialEq.eq.Goals as goal

pub returns : goal.returns
returns c = c.eq.ensures ∙ bytes_eq-chars _ _ c.as_str.utf8 c.as_str-2.utf8 ∙ ap₂ bytes_eq c.as_str.ensures.characters c.as_str-2.ensures.characters
