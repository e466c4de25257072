use Rattle.std.proofs.Common.{length, ap, sym}
use Rattle.gt_scope.proofs.KindLemmas.{number_found, number_added}
use Rattle.gt_scope.proofs.kinds.number_tag.Goals as goal

pub returns-in-Some-clause-number : goal.returns-in-Some-clause-number
returns-in-Some-clause-number c = number_found c.args.tags c.args.tag.now c.in-Some.number c.in-Some.ensures.place

pub returns-clause-number : goal.returns-clause-number
returns-clause-number c =
    number_added c.args.tags c.in_ok-with.field-0 c.args.tag.now _ _ (sym c.in_default.ensures.place) c.in_ok-with.ensures.added
    (ap length c.entries-number.ensures.entries)
