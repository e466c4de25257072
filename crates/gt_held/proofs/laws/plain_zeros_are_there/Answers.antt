use Rattle.gt_held.proofs.Commons.{decide-common}
use Rattle.gt_held.proofs.PlainZeros.{plain-zeros}
use Rattle.gt_held.proofs.laws.plain_zeros_are_there.Goals as goal

pub returns : goal.returns
returns c program g kind count settled may whole some = plain-zeros program settled (λ node s has. decide-common program settled node s has) g kind count may whole some
