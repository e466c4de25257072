use Rattle.std.proofs.Common.{◌≡◌, ◌∙◌, [], None, sym, rules}
use Rattle.std.specs.Prelude.{slice_get}
use Rattle.gt_walk.proofs.Visits.{get-index, none-index}
use Rattle.gt_walk.proofs.visiting.rows_of.Goals as goal

pub returns-in_default : goal.returns-in_default
returns-in_default c =
    let missing : slice_get c.args.tables.now.walks c.args.walk ≡ None = search rules in
    sym (none-index c.args.tables.now.walks c.args.walk [] missing)

pub returns : goal.returns
returns c = c.as_slice.ensures.items ∙ sym (get-index c.args.tables.now.walks c.args.walk c.in-Some.rows.now [] c.in-Some.ensures.item)
