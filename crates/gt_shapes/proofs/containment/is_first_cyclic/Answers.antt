use Rattle.std.proofs.Common.{◌<◌, length, subst, inr}
use Rattle.gt_shapes.proofs.CycleLemmas.{deep_is_first, is_preceded, some_within}
use Rattle.gt_shapes.proofs.containment.is_first_cyclic.Goals as goal

pub returns-in_default-clause-known : goal.returns-in_default-clause-known
returns-in_default-clause-known c =
    λ reached.
    let l : c.args.place < length c.args.structures.now = subst (λ n. c.args.place < n) c.requires.same c.requires.within in
    absurd (deep_is_first c.args.structures.now c.args.deep.now c.args.place l c.args.first c.in_default.is c.requires.first (c.requires.deep reached))

pub comes_before-requires-clause-first : goal.comes_before-requires-clause-first
comes_before-requires-clause-first c = some_within c.args.structures.now c.args.deep.now (length c.args.structures.now) c.args.first c.in-Some.first c.in-Some.is c.requires.first

pub returns-then-comes_before-clause-known : goal.returns-then-comes_before-clause-known
returns-then-comes_before-clause-known c =
    λ reached.
    let l : c.args.place < length c.args.structures.now = subst (λ n. c.args.place < n) c.requires.same c.requires.within in
    inr (is_preceded c.args.structures.now c.args.deep.now c.args.place l c.args.first c.in-Some.first c.comes_before.result c.in-Some.is c.requires.first c.comes_before.ensures.same c.if-comes_before.true)
