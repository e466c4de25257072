use Rattle.gt_script.proofs.WordsSpelled.{words_taken, words_again}
use Rattle.gt_script.proofs.laws.words_as_spelled.Goals as goal

pub returns : goal.returns
returns c = record { again = λ text words h. words_again h; taken = words_taken }
