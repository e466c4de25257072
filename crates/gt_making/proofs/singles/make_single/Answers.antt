use Rattle.gt_script.specs.declared.command.Command.TheVariants as command
use Rattle.gt_making.proofs.Asked.{goes}
use Rattle.gt_determined.proofs.Goods.{states-stay-good}
use Rattle.gt_making.proofs.singles.make_single.Goals as goal

pub returns-clause-next : goal.returns-clause-next
returns-clause-next c =
    goes (command.New c.args.var.now c.args.ty.now c.args.n) _ c.args.s.now c.single.new.s (λ s t answer next. next) tt (λ collects. elim collects [ ]) c.requires.session states-stay-good c.single.ensures.schema c.single.result
    c.single.ensures.next
