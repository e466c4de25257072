use Rattle.std.proofs.Common.{◌≡◌, ◌<◌, ◌^◌, get_or, sym, ap, ◌∙◌, rules, arith}
use Rattle.std.proofs.lemmas.Bool.{false≢true}
use Rattle.std.proofs.lemmas.List.{get_or_default, with_items_is}
use Rattle.gt_bits.proofs.SummaryLemmas.{Changed, IsSummary-changed, none_in_zero, some_in_word, still_summed}
use Rattle.gt_bits.proofs.sparse.SparseSet.remove.Goals as goal

pub invariant_of-self : goal.invariant_of-self
invariant_of-self c =
    let words = with_items_is c.self.inside.words c.remove.new.words (search rules) in
    let summary = with_items_is c.self.inside.summary c.remove-then-index-eq0.new.words (search rules) in
    let set : Changed c.self.inside.words.items c.remove.new.words c.args.i = search rules in
    let above : Changed c.self.inside.summary.items c.remove-then-index-eq0.new.words c.word_of-word.result = search rules in
    let zero : get_or c.remove.new.words c.word_of-word.result 0 ≡ 0 = search rules in
    rw (words, summary)
    (IsSummary-changed c.self.inside.words.items c.self.inside.summary.items c.remove.new.words c.remove-then-index-eq0.new.words c.args.i c.word_of-word.result (sym c.word_of-word.ensures) c.self.invariant set above
    (λ held. absurd (false≢true (sym c.remove-then-index-eq0.ensures.gone ∙ held)), λ some. absurd (none_in_zero c.remove.new.words c.word_of-word.result zero some)))

pub invariant_of-self-else-index-eq0 : goal.invariant_of-self-else-index-eq0
invariant_of-self-else-index-eq0 c =
    let words = with_items_is c.self.inside.words c.remove.new.words (search rules) in
    let set : Changed c.self.inside.words.items c.remove.new.words c.args.i = search rules in
    let read : c.index.result.now ≡ get_or c.remove.new.words c.word_of-word.result 0 =
    c.index.ensures ∙ ap (λ ws. get_or ws c.word_of-word.result c.index.result.now) words
    ∙ get_or_default c.remove.new.words c.word_of-word.result c.index.result.now 0 (search rules) in
    let low : c.index.result.now < 2 ^ 64 = search rules in
    rw words
    (still_summed c.self.inside.words.items c.self.inside.summary.items c.remove.new.words c.args.i c.word_of-word.result (sym c.word_of-word.ensures) c.self.invariant set c.remove.ensures.gone
    (some_in_word c.remove.new.words c.word_of-word.result (omega (arith, read, low)) (omega (arith, read, c.if-index-eq0.false))))
