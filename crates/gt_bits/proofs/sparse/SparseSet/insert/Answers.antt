use Rattle.std.proofs.Common.{sym, rules}
use Rattle.std.proofs.lemmas.List.{with_items_is}
use Rattle.gt_bits.proofs.SummaryLemmas.{Changed, IsSummary-changed}
use Rattle.gt_bits.proofs.sparse.SparseSet.insert.Goals as goal

pub invariant_of-self : goal.invariant_of-self
invariant_of-self c =
    let words = with_items_is c.self.inside.words c.insert.new.words (search rules) in
    let summary = with_items_is c.self.inside.summary c.insert-2.new.words (search rules) in
    let set : Changed c.self.inside.words.items c.insert.new.words c.args.i = search rules in
    let above : Changed c.self.inside.summary.items c.insert-2.new.words c.word_of.result = search rules in
    rw (words, summary)
    (IsSummary-changed c.self.inside.words.items c.self.inside.summary.items c.insert.new.words c.insert-2.new.words c.args.i c.word_of.result (sym c.word_of.ensures) c.self.invariant set above
    (λ _. (c.args.i, sym c.word_of.ensures, c.insert.ensures.held), λ _. c.insert-2.ensures.held))
