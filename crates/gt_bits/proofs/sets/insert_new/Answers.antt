use Rattle.std.proofs.Common.{sym}
use Rattle.gt_bits.proofs.SetLemmas.{inserted_same, inserted_other}
use Rattle.gt_bits.proofs.sets.insert_new.Goals as goal

pub returns-clause-held : goal.returns-clause-held
returns-clause-held c =
    inserted_same c.args.words.now c.args.i c.word_of-place.result c.bit_of-bit.result (sym c.word_of-place.ensures) (sym c.bit_of-bit.ensures.value) c.requires

pub returns-clause-others : goal.returns-clause-others
returns-clause-others c =
    inserted_other c.args.words.now c.args.i c.word_of-place.result c.bit_of-bit.result (sym c.word_of-place.ensures) (sym c.bit_of-bit.ensures.value) c.requires
