use Rattle.std.proofs.Common.{sym}
use Rattle.gt_paths.proofs.Containing.{adds_nothing, adds_one}
use Rattle.gt_paths.proofs.containers.Containers.add_field.Goals as goal

pub returns-in-None : goal.returns-in-None
returns-in-None c = record { added = adds_nothing c.args.self.now c.args.outer c.args.f.now (sym c.in-None.ensures.held) }

pub returns-in_ok-add-in-Some : goal.returns-in_ok-add-in-Some
returns-in_ok-add-in-Some c = record { added = adds_one c.args.self.now c.add.new.self c.args.outer c.args.f.now c.in-Some.inner (sym c.in-Some.ensures.held) c.in_ok-add-in-Some.ensures.added }
