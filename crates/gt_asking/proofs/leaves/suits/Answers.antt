use Rattle.std.proofs.Common.{sym, subst, false, None, Some}
use Rattle.std.specs.Bool.{Decides}
use Rattle.gt_asking.specs.Judging.{IsNamed, SuitsAs}
use Rattle.gt_asking.proofs.Judged.{suits-named, suits-none}
use Rattle.gt_asking.proofs.leaves.suits.Goals as goal

pub returns-in-Some : goal.returns-in-Some
returns-in-Some c = record {
  suits = λ there named.
      let is = subst (λ l. IsNamed there l (Some c.in-Some.target)) c.in-To.is (subst (IsNamed there c.args.leaf) c.in-Some.is named) in
      subst (λ l. Decides c.names_kind.result (SuitsAs there c.args.ty.now l)) (sym c.in-To.is) (suits-named there c.in-To.field-0 c.args.ty.now c.in-Some.target c.names_kind.result is c.names_kind.ensures);
}

pub returns-in-None : goal.returns-in-None
returns-in-None c = record {
  suits = λ there named.
      let is = subst (λ l. IsNamed there l None) c.in-To.is (subst (IsNamed there c.args.leaf) c.in-None.is named) in
      subst (λ l. Decides false (SuitsAs there c.args.ty.now l)) (sym c.in-To.is) (suits-none there c.in-To.field-0 c.args.ty.now is);
}
