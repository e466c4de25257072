use Rattle.std.proofs.Common.{◌≡◌, ◌∙◌, ap}
use Rattle.std.proofs.lemmas.Int.{to_z-of_z}
use Rattle.std.proofs.lemmas.Result.{IfOk-weaker}
use mir.Syntax.{w128}
use Rattle.gt_tree.specs.Numbers.{two's_complement}
use Rattle.gt_writes.specs.Rewriting.{IsWordOf}
use Rattle.gt_writes.proofs.Words.{word_is}
use Rattle.gt_writes.proofs.leaves.word_of.Goals as goal

pub returns : goal.returns
returns c = record {
  word = IfOk-weaker c.of.result (λ bytes. bytes ≡ c.to_le_bytes.result) (IsWordOf c.args.n)
      (λ bytes same. word_is c.args.n c.requires.room c.bits_of_word.result (c.bits_of_word.ensures.bits ∙ ap (two's_complement 64) (to_z-of_z w128 c.args.n c.ranges.n)) bytes (same ∙ c.to_le_bytes.ensures)) c.of.ensures.bytes;
}
