use Rattle.std.proofs.Common.{sym}
use Rattle.gt_paths.proofs.Odd.{held_nothing, held_one}
use Rattle.gt_paths.proofs.plain.add_odd_field.Goals as goal

pub returns-in-None : goal.returns-in-None
returns-in-None c = record { added = held_nothing c.args.program.now c.args.odd.now.keys c.args.f.now (sym c.in-None.ensures.held) }

pub returns-in_ok-add_odd-in-Some : goal.returns-in_ok-add_odd-in-Some
returns-in_ok-add_odd-in-Some c = record {
  added = held_one c.args.program.now c.args.odd.now.keys c.add_odd.new.odd.keys c.args.f.now c.in-Some.inner (sym c.in-Some.ensures.held) c.in_ok-add_odd-in-Some.ensures.added;
}
