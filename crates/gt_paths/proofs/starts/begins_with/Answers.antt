use Rattle.std.proofs.Common.{◌≡◌, sym}
use Rattle.std.proofs.lemmas.Bool.Decides.{not_from_Decides}
use Rattle.gt_paths.proofs.Meetings.{alike_more, barren_ends, it_begins}
use Rattle.gt_paths.proofs.Trails.{walk_begins, walk_ends, walk_on, walk_stops}
use Rattle.gt_paths.proofs.starts.begins_with.Goals as goal

pub structs-init : goal.structs-init
structs-init c = (walk_begins c.args.program.now (λ x. x ≡ c.args.node) c.args.outer, (λ begins. begins, λ begins. begins))

pub returns-then-are_same : goal.returns-then-are_same
returns-then-are_same c = it_begins c.args.program.now c.args.outer c.structs.at c.args.node (c.are_same.ensures.0 c.if-are_same.true) c.structs.invariant.1

pub returns-in_default : goal.returns-in_default
returns-in_default c =
    barren_ends c.args.program.now c.args.outer c.structs.at c.args.node
    (walk_stops c.args.program.now (λ x. x ≡ c.args.node) c.structs.at (not_from_Decides c.are_same.result c.are_same.ensures c.if-are_same.false) (sym c.in_default.ensures)) c.structs.invariant.1

pub structs-preserved : goal.structs-preserved
structs-preserved c =
    let no = not_from_Decides c.are_same.result c.are_same.ensures c.if-are_same.false in (
      walk_on c.args.program.now (λ x. x ≡ c.args.node) c.structs.counter c.structs.at c.in-Some.next no (sym c.in-Some.ensures) c.structs.invariant.0,
      alike_more c.args.program.now c.args.outer c.structs.at c.in-Some.next c.args.node no (sym c.in-Some.ensures) c.structs.invariant.1,
    )

pub returns : goal.returns
returns c =
    barren_ends c.args.program.now c.args.outer c.structs.at c.args.node
    (walk_ends c.args.program.now (λ x. x ≡ c.args.node) c.as_slice.result.now c.structs.counter c.structs.at c.as_slice.ensures.items c.structs-test.false c.structs.invariant.0) c.structs.invariant.1
