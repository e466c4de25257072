use Rattle.std.proofs.Common.{sym}
use Rattle.std.proofs.lemmas.Bool.Decides.{not_from_Decides}
use Rattle.gt_unions.proofs.Starts.{it_begins, ends_here, reached_more, alike_more}
use Rattle.gt_unions.proofs.beginnings.begins_with.Goals as goal

pub returns-then-are_same : goal.returns-then-are_same
returns-then-are_same c = it_begins c.args.program.now c.args.outer c.structs.at c.args.node (c.are_same.ensures.0 c.if-are_same.true) c.structs.invariant.1

pub returns-in_default : goal.returns-in_default
returns-in_default c =
    ends_here c.args.program.now c.args.outer c.structs.at c.args.node (not_from_Decides c.are_same.result c.are_same.ensures c.if-are_same.false) (sym c.in_default.ensures) c.structs.invariant.1

pub structs-preserved : goal.structs-preserved
structs-preserved c = (
  reached_more c.args.program.now c.structs.counter c.args.outer c.structs.at c.in-Some.next (sym c.in-Some.ensures) c.structs.invariant.0,
  alike_more c.args.program.now c.args.outer c.structs.at c.in-Some.next c.args.node (not_from_Decides c.are_same.result c.are_same.ensures c.if-are_same.false) (sym c.in-Some.ensures) c.structs.invariant.1,
)
