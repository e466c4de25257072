use Rattle.std.proofs.Common.{◌≡◌, ap, refl, ◌∙◌}
use Rattle.std.specs.Prelude.{Err}
use Rattle.gt_next.specs.Paths.{RefusesPath}
use Rattle.gt_routes.specs.declared.steps.WalkFail.TheVariants.{Refused}
use Rattle.gt_asking.proofs.Starts.{leads-all}
use Rattle.gt_asking.proofs.paths.reach.Goals as goal

pub returns-in-Ok-clause-leads : goal.returns-in-Ok-clause-leads
returns-in-Ok-clause-leads c = leads-all c.args.s.now c.args.path.now c.in-Ok.start c.args.path.now.steps refl c.walk.result c.walk.new.reached c.in-Ok.ensures.begins c.walk.ensures.leads

pub returns-in-Ok-clause-refused : goal.returns-in-Ok-clause-refused
returns-in-Ok-clause-refused c why e told state st =
    RefusesPath.at_step (c.in-Ok.ensures.begins told state st) (c.walk.ensures.refused why e state.heap st.holds.heap)

pub returns-in-Err-clause-refused : goal.returns-in-Err-clause-refused
returns-in-Err-clause-refused c why e told state st =
    let inner : Refused c.in-Err.why ≡ Refused why = cc in
    let same : c.in-Err.why ≡ why = cc in
    RefusesPath.at_start (c.start_of.ensures.refused why (c.in-Err.is ∙ ap Err same) told state st)
