use Rattle.std.proofs.Common.{sym, subst}
use Rattle.gt_paths.specs.declared.commons.Start.{Start}
use Rattle.gt_paths.specs.declared.commons.Start.TheVariants.{From, Apart}
use Rattle.gt_paths.specs.Starts.{StartsToo}
use Rattle.gt_paths.proofs.Meetings.{apart_too, from_meet, from_none, from_own}
use Rattle.gt_paths.proofs.commons.join_structure.Goals as goal

pub returns-in-Free : goal.returns-in-Free
returns-in-Free c = record { next = subst (λ (o : Start). StartsToo c.args.program.now o c.args.own (From c.args.own)) (sym c.in-Free.is) (from_own c.args.program.now c.args.own) }

pub returns-in-Apart : goal.returns-in-Apart
returns-in-Apart c = record { next = subst (λ (o : Start). StartsToo c.args.program.now o c.args.own Apart) (sym c.in-Apart.is) (apart_too c.args.program.now c.args.own) }

pub returns-in-Some : goal.returns-in-Some
returns-in-Some c = record {
  next = subst (λ (o : Start). StartsToo c.args.program.now o c.args.own (From c.in-Some.meet)) (sym c.in-From.is) (from_meet c.args.program.now c.in-From.from c.args.own c.in-Some.meet c.in-Some.ensures.joined);
}

pub returns-in-None : goal.returns-in-None
returns-in-None c = record {
  next = subst (λ (o : Start). StartsToo c.args.program.now o c.args.own Apart) (sym c.in-From.is) (from_none c.args.program.now c.in-From.from c.args.own c.in-None.ensures.joined);
}
