use Rattle.std.proofs.Common.{◌+◌, ◌*◌, sym, subst, ◌∙◌, rules, arith}
use Rattle.std.proofs.lemmas.List.{get_or_default}
use Rattle.gt_bits.specs.Sets.{HoldsNone}
use Rattle.gt_bits.proofs.SummaryLemmas.{next_from, none_in_word}
use Rattle.gt_bits.proofs.sparse.SparseSet.next.Goals as goal

pub returns-in-None : goal.returns-in-None
returns-in-None c =
    let words = c.self.inside.words.items in
    let k = c.word_of-word.result in
    let read = c.index.ensures ∙ get_or_default words k c.index.result.now 0 (search rules) in
    let here = none_in_word words c.args.from k c.bit_of-bit.result c.index.result.now (sym c.word_of-word.ensures) (sym c.bit_of-bit.ensures.value) (sym read) c.in-None.ensures.none in
    next_from c.args.self.now c.args.from (64 * (k + 1)) c.next_after.result (omega (arith, c.word_of-word.ensures))
    (subst (λ w. HoldsNone w c.args.from (64 * (k + 1))) c.self.view_is here) c.next_after.ensures
