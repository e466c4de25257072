use Rattle.gt_leaf.proofs.TableLemmas.{root-answer}
use Rattle.gt_leaf.proofs.reads.Reads.is_unread.Goals as goal

pub returns-in-Root : goal.returns-in-Root
returns-in-Root c = record {
  unread = λ t. root-answer c.args.program.now c.args.self.now _ c.args.place.active c.in-Root.i c.has.result c.args.place.holder c.has.ensures.there c.in-Root.is t;
}
