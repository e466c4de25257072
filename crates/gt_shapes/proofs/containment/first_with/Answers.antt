use Rattle.std.proofs.Common.{◌≡◌, true}
use Rattle.gt_drafts.specs.Shapes.{has_flag}
use Rattle.gt_shapes.proofs.CycleLemmas.{first_with_none, first_with_later, first_with_earlier, some_within}
use Rattle.gt_shapes.proofs.containment.first_with.Goals as goal

pub returns-in_default : goal.returns-in_default
returns-in_default c =
    let deep : has_flag c.args.deep.now c.args.place ≡ true = cc in
    record { so_far = first_with_none c.args.structures.now c.args.deep.now c.args.place c.requires.within deep c.args.first c.in_default.is c.requires.so_far }

pub comes_before-requires-clause-second : goal.comes_before-requires-clause-second
comes_before-requires-clause-second c = some_within c.args.structures.now c.args.deep.now c.args.place c.args.first c.in-Some.other c.in-Some.is c.requires.so_far

pub returns-then-comes_before : goal.returns-then-comes_before
returns-then-comes_before c =
    let deep : has_flag c.args.deep.now c.args.place ≡ true = cc in
    record {
      so_far =
          first_with_later c.args.structures.now c.args.deep.now c.args.place c.requires.within deep c.args.first c.in-Some.other c.comes_before.result c.in-Some.is
          c.comes_before.ensures.same c.if-comes_before.true c.requires.so_far;
    }

pub returns-else-comes_before : goal.returns-else-comes_before
returns-else-comes_before c =
    let deep : has_flag c.args.deep.now c.args.place ≡ true = cc in
    record {
      so_far =
          first_with_earlier c.args.structures.now c.args.deep.now c.args.place c.requires.within deep c.args.first c.in-Some.other c.comes_before.result c.in-Some.is
          c.comes_before.ensures.same c.if-comes_before.false c.requires.so_far;
    }
