use Rattle.gt_paths.proofs.Meetings.{free_step}
use Rattle.gt_paths.proofs.commons.is_free.Goals as goal

pub returns : goal.returns
returns c = record { decides = free_step c.args.program.now c.args.s.now c.args.f.now c.requires.kind c.requires.there }
