use Rattle.std.proofs.Common.{◌≡◌, length, subst, arith}
use Rattle.gt_sets.proofs.SetLemmas.{AreJoined, joined-in}
use Rattle.gt_sets.proofs.sets.join.Goals as goal

pub returns-clause-joined : goal.returns-clause-joined
returns-clause-joined c =
    let whole : c.loop-k.k ≡ length c.args.words.now = omega (arith, c.loop-k-test.false, c.loop-k.auto.k-end) in
    joined-in c.args.words.now c.args.others.now c.loop-k.words (subst (AreJoined c.args.words.now c.args.others.now c.loop-k.words) whole c.loop-k.invariant) c.requires.same
