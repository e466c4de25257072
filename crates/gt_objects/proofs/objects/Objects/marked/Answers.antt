use Rattle.gt_objects.proofs.Marking.{starts_some}
use Rattle.gt_objects.proofs.objects.Objects.marked.Goals as goal

pub is_marked-requires : goal.is_marked-requires
is_marked-requires c = let r = c.requires.there in record { start = starts_some r.0 r.1 c.args.self.now r.2 r.4 c.args.addr r.3 r.5 }
