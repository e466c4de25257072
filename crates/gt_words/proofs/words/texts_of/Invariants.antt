use Rattle.std.proofs.Common.{◌≡◌, map, drop, ◌++◌}
use Rattle.std.specs.Prelude.{encode_utf8_all}
use Rattle.clap.specs.Walk.{texts}
use Rattle.gt_words.proofs.words.texts_of.Given as goal

abbrev pub invariant-loop-word : goal.invariant-loop-word
invariant-loop-word l = texts l.texts.items ++ map encode_utf8_all (drop l.word-index l.words) ≡ map encode_utf8_all l.words
