use Rattle.std.proofs.Common.{◌≡◌, subst, inr}
use Rattle.gt_routes.specs.declared.steps.WalkFail.TheVariants.{Refused}
use Rattle.gt_routes.specs.Reaching.{spot_of}
use Rattle.gt_asking.specs.Judging.{RefusesLeaf}
use Rattle.gt_asking.proofs.setting.take_aim.Goals as goal

pub returns-in-Err-judge-clause-refused : goal.returns-in-Err-judge-clause-refused
returns-in-Err-judge-clause-refused c why e told s st =
    let inner : Refused c.in-Err-judge.why ≡ Refused why = cc in
    let same : c.in-Err-judge.why ≡ why = cc in
    inr (
      spot_of c.reach.new.to,
      c.in-Ok.ensures.leads told s st,
      subst (RefusesLeaf c.args.s.now.schema.program s.heap (spot_of c.reach.new.to) c.args.leaf) same (c.judge.ensures.refused c.in-Err-judge.why c.in-Err-judge.is s.heap st.holds.heap),
    )
