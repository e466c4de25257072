use Rattle.gt_total.proofs.Runs.{runs_one}
use Rattle.gt_total.proofs.laws.runs_are_one.Goals as goal

pub returns : goal.returns
returns c program layouts is_read s t u lines answers =
    runs_one program layouts (c.good_states_stay_good.ensures program layouts is_read) (c.steps_are_one.ensures.states program layouts is_read) s t u lines answers
