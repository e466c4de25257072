use Rattle.gt_show.proofs.OneText.{one-text}
use Rattle.gt_show.proofs.OneBlock.{one-block}
use Rattle.gt_show.proofs.RootTexts.{one-static}
use Rattle.gt_show.proofs.laws.shown_is_one.Goals as goal

pub returns : goal.returns
returns c = record {
  values = λ program settled blocks type tree text other. one-text program blocks settled other;
  blocks = λ program settled blocks kind trees text other. one-block program blocks settled other;
  statics = λ program settled blocks statics text other. one-static program blocks settled statics text other;
}
