use Rattle.std.proofs.Common.{◌≡◌, ◌+◌, ◌*◌, Some, None, sym, subst, rules}
use Rattle.gt_bits.specs.Sets.{IsNext}
use Rattle.gt_bits.proofs.SummaryLemmas.{next_nowhere, next_later}
use Rattle.gt_bits.proofs.sparse.SparseSet.next_after.Goals as goal

pub returns-in_err-later : goal.returns-in_err-later
returns-in_err-later c =
    let next : IsNext c.self.inside.summary.items (c.args.word + 1) None = search rules in
    let nowhere = next_nowhere c.self.inside.words.items c.self.inside.summary.items c.self.invariant c.args.word next in
    let none : c.from_residual.result ≡ None = search rules in
    subst (λ r. IsNext c.args.self.now (64 * (c.args.word + 1)) r) (sym none) (subst (λ w. IsNext w (64 * (c.args.word + 1)) None) c.self.view_is nowhere)

pub returns : goal.returns
returns c =
    let next : IsNext c.self.inside.summary.items (c.args.word + 1) (Some c.in_ok-later.later) = search rules in
    let found = subst (λ w. IsNext w (64 * c.in_ok-later.later) c.next-2.result) c.deref-2.ensures.value c.next-2.ensures in
    let is = next_later c.self.inside.words.items c.self.inside.summary.items c.self.invariant c.args.word c.in_ok-later.later c.next-2.result next found in
    subst (λ w. IsNext w (64 * (c.args.word + 1)) c.next-2.result) c.self.view_is is
