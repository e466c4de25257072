use Rattle.gt_script.proofs.Decoding.{utf8_false}
use Rattle.gt_script.proofs.statements.decode.Goals as goal

pub returns-in_default : goal.returns-in_default
returns-in_default c = utf8_false c.args.bytes.now c.in_default.ensures.cases.0
