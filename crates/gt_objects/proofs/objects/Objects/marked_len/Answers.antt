use Rattle.std.proofs.Common.{◌∙◌, sym}
use Rattle.gt_objects.proofs.Marking.{marked_left}
use Rattle.gt_objects.proofs.objects.Objects.marked_len.Goals as goal

pub returns : goal.returns
returns c = record { len = λ program layouts heap is. c.marked_len.ensures.len ∙ sym (marked_left program layouts c.args.self.now heap is) }
