use Rattle.gt_objects.proofs.totals.Totals.of_marks.Goals as goal

pub returns : goal.returns
returns c = λ blocks are. record { counts = are.counts; many = are.many; bytes = are.bytes }
