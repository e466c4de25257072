use Rattle.std.proofs.Common.{ap, ◌∙◌, length}
use Rattle.std.proofs.lemmas.Iterator.{YieldsList-from_chars}
use Rattle.std.proofs.lemmas.Iterator.Consumers.{count_from_yields_List}
use Rattle.gt_types.proofs.word.Word.len.Goals as goal

pub returns : goal.returns
returns c = record {
  characters = count_from_yields_List _ _ c.count.ensures.ran (YieldsList-from_chars _ c.as_str.utf8 c.chars.ensures.rest) ∙ ap length c.as_str.ensures.characters;
}
