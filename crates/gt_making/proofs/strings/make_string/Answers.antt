use Rattle.std.proofs.Common.{◌<◌}
use Rattle.std.proofs.lemmas.List.Elements.{All-from_get_or}
use Rattle.gt_script.specs.declared.command.Command.TheVariants as command
use Rattle.gt_making.proofs.Asked.{goes}
use Rattle.gt_determined.proofs.Goods.{states-stay-good}
use Rattle.gt_making.proofs.strings.make_string.Goals as goal

pub returns-clause-next : goal.returns-clause-next
returns-clause-next c =
    goes (command.Text c.args.var.now c.args.text.now) _ c.args.s.now c.string.new.s (λ s t answer next. next) (All-from_get_or (λ byte. byte < 256) c.args.text.now 0 (λ i low. (c.type_inv.text i).fits)) (λ collects. elim collects [ ])
    c.requires.session states-stay-good c.string.ensures.schema c.string.result c.string.ensures.next
