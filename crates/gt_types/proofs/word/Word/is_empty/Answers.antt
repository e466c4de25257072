use Rattle.std.proofs.Common.{ap, ◌∙◌, length}
use Rattle.std.specs.Prelude.{◌==◌}
use Rattle.gt_types.proofs.Texts.{empty-chars}
use Rattle.gt_types.proofs.word.Word.is_empty.Goals as goal

pub returns : goal.returns
returns c = record { empty = c.is_empty.ensures ∙ empty-chars _ c.as_str.utf8 ∙ ap (λ w. length w == 0) c.as_str.ensures.characters }
