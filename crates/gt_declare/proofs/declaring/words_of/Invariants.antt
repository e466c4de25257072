use Rattle.std.proofs.Common.{◌≡◌, map, take}
use Rattle.gt_declare.specs.Programs.{word_of}
use Rattle.gt_declare.proofs.declaring.words_of.Given as goal

abbrev pub invariant-loop-word : goal.invariant-loop-word
invariant-loop-word l = l.made.items ≡ map word_of (take l.word-index l.word-items)
