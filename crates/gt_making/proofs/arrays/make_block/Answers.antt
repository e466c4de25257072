use Rattle.gt_script.specs.declared.command.Command.TheVariants as command
use Rattle.gt_making.proofs.Asked.{goes}
use Rattle.gt_determined.proofs.Goods.{states-stay-good}
use Rattle.gt_making.proofs.arrays.make_block.Goals as goal

pub returns-clause-next : goal.returns-clause-next
returns-clause-next c =
    goes (command.Block c.args.var.now c.args.n) _ c.args.s.now c.block.new.s (λ s t answer next. next) tt (λ collects. elim collects [ ]) c.requires.session states-stay-good c.block.ensures.schema c.block.result
    c.block.ensures.next
