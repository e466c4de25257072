use Rattle.std.proofs.Common.{sym, ◌∙◌}
use Rattle.gt_paths.proofs.Meetings.{never_active, other_next, structure_next}
use Rattle.gt_paths.proofs.commons.start_with.Goals as goal

pub returns-then-not-may_be_active : goal.returns-then-not-may_be_active
returns-then-not-may_be_active c = record { next = never_active c.args.program.now c.args.start c.args.f.now (sym c.may_be_active.ensures ∙ c.if-not-may_be_active.true) }

pub returns-in-Some : goal.returns-in-Some
returns-in-Some c = record {
  next = structure_next c.args.program.now c.args.start c.join_structure.result c.args.f.now c.in-Some.own (sym c.may_be_active.ensures ∙ c.if-not-may_be_active.false) (sym c.in-Some.ensures.itself)
      c.join_structure.ensures.next;
}

pub returns-in-None : goal.returns-in-None
returns-in-None c = record { next = other_next c.args.program.now c.args.start c.args.f.now (sym c.may_be_active.ensures ∙ c.if-not-may_be_active.false) (sym c.in-None.ensures.itself) }
