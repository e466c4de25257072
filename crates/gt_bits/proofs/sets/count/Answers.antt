use Rattle.std.proofs.Common.{◌<◌, ◌^◌, get_or, arith, rules}
use Rattle.std.proofs.lemmas.Nat.{ones-le}
use Rattle.gt_bits.proofs.CountLemmas.{count_word}
use Rattle.gt_bits.proofs.sets.count.Goals as goal

pub words-preserved : goal.words-preserved
words-preserved c =
    let fits : get_or c.args.words.now c.words.word-index 0 < 2 ^ 64 = search rules in
    let whole = count_word c.args.words.now c.words.word-index fits in
    let most = ones-le 64 (get_or c.args.words.now c.words.word-index 0) fits in
    (omega (arith, c.words.invariant.0), omega (arith, c.words.invariant.1))
