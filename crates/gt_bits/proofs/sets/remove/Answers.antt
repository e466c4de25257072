use Rattle.std.proofs.Common.{sym}
use Rattle.gt_bits.proofs.SetLemmas.{removed_same, removed_other}
use Rattle.gt_bits.proofs.sets.remove.Goals as goal

pub returns-clause-gone : goal.returns-clause-gone
returns-clause-gone c =
    removed_same c.args.words.now c.args.i c.word_of.result c.bit_of.result (sym c.word_of.ensures) (sym c.bit_of.ensures.value) c.requires

pub returns-clause-others : goal.returns-clause-others
returns-clause-others c =
    removed_other c.args.words.now c.args.i c.word_of.result c.bit_of.result (sym c.word_of.ensures) (sym c.bit_of.ensures.value) c.requires
