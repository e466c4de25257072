use Rattle.gt_exists.proofs.Readings.{has_reading}
use Rattle.gt_exists.proofs.laws.each_text.Goals as goal

pub returns : goal.returns
returns c = record { reading = λ text. has_reading c.some_search.ensures text (c.one_answer.ensures.some text) }
