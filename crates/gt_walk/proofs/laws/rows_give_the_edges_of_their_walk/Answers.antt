use Rattle.std.proofs.Common.{◌∙◌, refl, sym}
use Rattle.gt_walk.specs.Rows.{rows_of, size_in_note}
use Rattle.gt_walk.proofs.PlainRows.{after-note, run-after-note}
use Rattle.gt_walk.proofs.Visits.{edges-run, run-single}
use Rattle.gt_walk.proofs.laws.rows_give_the_edges_of_their_walk.Goals as goal

pub returns-clause-rows : goal.returns-clause-rows
returns-clause-rows c = λ tables walk count range address. sym (edges-run tables range walk count address)

pub returns-clause-elements : goal.returns-clause-elements
returns-clause-elements c =
    λ tables walk count range address.
    sym (edges-run tables range walk count address ∙ run-after-note tables range (rows_of tables walk) address (size_in_note (rows_of tables walk)) count)

pub returns-clause-one : goal.returns-clause-one
returns-clause-one c =
    λ tables walk range address.
    sym (
    edges-run tables range walk 1 address ∙ run-single tables range (rows_of tables walk) address (size_in_note (rows_of tables walk)) 1 refl
    ∙ after-note tables range (rows_of tables walk) address
    )
