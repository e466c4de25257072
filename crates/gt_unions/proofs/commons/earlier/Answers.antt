use Rattle.std.proofs.Common.{sym, subst}
use Rattle.std.proofs.lemmas.Bool.Decides.{not_from_Decides}
use Rattle.gt_unions.specs.Beginnings.{IsFoundAmong}
use Rattle.gt_unions.proofs.Candidates.{none_more, same_one, other_one}
use Rattle.gt_unions.proofs.commons.earlier.Goals as goal

pub returns-in_default-clause-found : goal.returns-in_default-clause-found
returns-in_default-clause-found c common fields begins found = none_more c.args.program.now common fields c.args.f.now c.args.found (sym c.in_default.ensures) found

pub returns-then-begins_with-clause-found : goal.returns-then-begins_with-clause-found
returns-then-begins_with-clause-found c common fields begins found =
    same_one c.args.program.now common c.in-Some-found.first c.in-Some.node fields c.args.f.now c.requires (sym c.in-Some.ensures) (c.begins_with.ensures.0 c.if-begins_with.true)
    (subst (λ o. IsFoundAmong c.args.program.now common fields o) c.in-Some-found.is found)

pub returns-else-begins_with-clause-found : goal.returns-else-begins_with-clause-found
returns-else-begins_with-clause-found c common fields begins found =
    other_one c.args.program.now common c.in-Some-found.first c.in-Some.node fields c.args.f.now (sym c.in-Some.ensures) (not_from_Decides c.begins_with.result c.begins_with.ensures c.if-begins_with.false) begins
    (subst (λ o. IsFoundAmong c.args.program.now common fields o) c.in-Some-found.is found)
