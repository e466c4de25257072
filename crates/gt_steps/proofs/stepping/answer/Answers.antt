use Rattle.std.proofs.Common.{IfOk, ℕ, List, sym, subst}
use Rattle.gt_script.specs.declared.command.Command.{Command}
use Rattle.gt_next.specs.Making.{NextText}
use Rattle.gt_next.specs.Next.{Next}
use Rattle.gt_session.specs.Sessions.{Goes}
use Rattle.gt_steps.proofs.Stepped.{stays_there}
use Rattle.gt_steps.proofs.stepping.answer.Goals as goal

pub returns-in-New-clause-next : goal.returns-in-New-clause-next
returns-in-New-clause-next c =
    subst
    (λ (command : Command). IfOk c.make_single.result (Goes (λ state answer t. Next c.args.s.now.schema.program c.args.s.now.schema.layouts state command answer t) c.args.s.now c.make_single.new.s))
    (sym c.in-New.is) c.make_single.ensures.next

pub returns-in-Array-clause-next : goal.returns-in-Array-clause-next
returns-in-Array-clause-next c =
    subst
    (λ (command : Command). IfOk c.make_array.result (Goes (λ state answer t. Next c.args.s.now.schema.program c.args.s.now.schema.layouts state command answer t) c.args.s.now c.make_array.new.s))
    (sym c.in-Array.is) c.make_array.ensures.next

pub returns-in-Text-clause-next : goal.returns-in-Text-clause-next
returns-in-Text-clause-next c =
    subst
    (λ (command : Command). IfOk c.make_string.result (Goes (λ state answer t. Next c.args.s.now.schema.program c.args.s.now.schema.layouts state command answer t) c.args.s.now c.make_string.new.s))
    (sym c.in-Text.is)
    (subst
    (λ (bytes : List ℕ). IfOk c.make_string.result (Goes (λ state answer t. NextText c.args.s.now.schema.program c.args.s.now.schema.layouts state c.in-Text.var bytes answer t) c.args.s.now c.make_string.new.s))
    c.as_slice.ensures.bytes c.make_string.ensures.next)

pub returns-in-Block-clause-next : goal.returns-in-Block-clause-next
returns-in-Block-clause-next c =
    subst
    (λ (command : Command). IfOk c.make_block.result (Goes (λ state answer t. Next c.args.s.now.schema.program c.args.s.now.schema.layouts state command answer t) c.args.s.now c.make_block.new.s))
    (sym c.in-Block.is) c.make_block.ensures.next

pub returns-in-Set-clause-next : goal.returns-in-Set-clause-next
returns-in-Set-clause-next c =
    subst
    (λ (command : Command). IfOk c.set.result (Goes (λ state answer t. Next c.args.s.now.schema.program c.args.s.now.schema.layouts state command answer t) c.args.s.now c.set.new.s))
    (sym c.in-Set.is) c.set.ensures.next

pub returns-in-Get-clause-next : goal.returns-in-Get-clause-next
returns-in-Get-clause-next c =
    subst
    (λ (command : Command). IfOk c.get.result (Goes (λ state answer t. Next c.args.s.now.schema.program c.args.s.now.schema.layouts state command answer t) c.args.s.now c.get.new.s))
    (sym c.in-Get.is) c.get.ensures.next

pub returns-in-Drop-clause-next : goal.returns-in-Drop-clause-next
returns-in-Drop-clause-next c =
    subst
    (λ (command : Command). Goes (λ state answer t. Next c.args.s.now.schema.program c.args.s.now.schema.layouts state command answer t) c.args.s.now c.unbind.new.s c.unbind.result)
    (sym c.in-Drop.is) c.unbind.ensures.next

pub returns-in-Print-clause-next : goal.returns-in-Print-clause-next
returns-in-Print-clause-next c =
    subst
    (λ (command : Command). IfOk c.print.result (Goes (λ state answer t. Next c.args.s.now.schema.program c.args.s.now.schema.layouts state command answer t) c.args.s.now c.args.s.now))
    (sym c.in-Print.is) (stays_there _ c.args.s.now c.print.result c.print.ensures.next)

pub returns-in-Collect-clause-next : goal.returns-in-Collect-clause-next
returns-in-Collect-clause-next c =
    subst
    (λ (command : Command). Goes (λ state answer t. Next c.args.s.now.schema.program c.args.s.now.schema.layouts state command answer t) c.args.s.now c.collect.new.s c.collect.result)
    (sym c.in-Collect.is) c.collect.ensures.next

pub returns-in-CollectForce-clause-next : goal.returns-in-CollectForce-clause-next
returns-in-CollectForce-clause-next c =
    subst
    (λ (command : Command). Goes (λ state answer t. Next c.args.s.now.schema.program c.args.s.now.schema.layouts state command answer t) c.args.s.now c.collect_force.new.s c.collect_force.result)
    (sym c.in-CollectForce.is) c.collect_force.ensures.next

pub returns-in-Heap-clause-next : goal.returns-in-Heap-clause-next
returns-in-Heap-clause-next c =
    subst
    (λ (command : Command). IfOk c.heap.result (Goes (λ state answer t. Next c.args.s.now.schema.program c.args.s.now.schema.layouts state command answer t) c.args.s.now c.args.s.now))
    (sym c.in-Heap.is) (stays_there _ c.args.s.now c.heap.result c.heap.ensures.next)

pub returns-in-Stats-clause-next : goal.returns-in-Stats-clause-next
returns-in-Stats-clause-next c =
    subst
    (λ (command : Command). Goes (λ state answer t. Next c.args.s.now.schema.program c.args.s.now.schema.layouts state command answer t) c.args.s.now c.args.s.now c.stats.result)
    (sym c.in-Stats.is) (λ told s stands. (s, c.stats.ensures.next told s stands, stands))

pub returns-in-Put-clause-next : goal.returns-in-Put-clause-next
returns-in-Put-clause-next c =
    subst
    (λ (command : Command). IfOk c.put.result (Goes (λ state answer t. Next c.args.s.now.schema.program c.args.s.now.schema.layouts state command answer t) c.args.s.now c.put.new.s))
    (sym c.in-Put.is) c.put.ensures.next

pub returns-in-Find-clause-next : goal.returns-in-Find-clause-next
returns-in-Find-clause-next c =
    subst
    (λ (command : Command). Goes (λ state answer t. Next c.args.s.now.schema.program c.args.s.now.schema.layouts state command answer t) c.args.s.now c.args.s.now c.find.result)
    (sym c.in-Find.is) (λ told s stands. (s, c.find.ensures.next told s stands, stands))

pub returns-in-Tables-clause-next : goal.returns-in-Tables-clause-next
returns-in-Tables-clause-next c =
    subst
    (λ (command : Command). IfOk c.tables.result (Goes (λ state answer t. Next c.args.s.now.schema.program c.args.s.now.schema.layouts state command answer t) c.args.s.now c.args.s.now))
    (sym c.in-Tables.is) (stays_there _ c.args.s.now c.tables.result c.tables.ensures.next)
