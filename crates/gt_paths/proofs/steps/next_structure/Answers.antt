use Rattle.std.proofs.Common.{sym, subst}
use Rattle.gt_paths.specs.Steps.{IsNext}
use Rattle.gt_paths.proofs.Reaching.{next_there, nothing_named, nothing_there}
use Rattle.gt_paths.proofs.steps.next_structure.Goals as goal

pub returns-in_err-place : goal.returns-in_err-place
returns-in_err-place c = record {
  next = subst (IsNext c.args.program.now c.args.node c.args.name.now) (sym c.from_residual.ensures)
      (nothing_named c.args.program.now c.args.node c.args.name.now (c.in_err-place.ensures.place c.args.program.now.structures c.requires.index.names));
}

pub returns-in_err-ty : goal.returns-in_err-ty
returns-in_err-ty c = record {
  next = subst (IsNext c.args.program.now c.args.node c.args.name.now) (sym c.from_residual-in_err-ty.ensures)
      (nothing_there c.args.program.now c.args.node c.args.name.now c.in_ok-place.place (c.requires.index.distinct c.requires.distinct)
      (c.in_ok-place.ensures.place c.args.program.now.structures c.requires.index.names) c.in_err-ty.ensures.step);
}

pub returns : goal.returns
returns c = record {
  next = subst (IsNext c.args.program.now c.args.node c.args.name.now) (sym c.itself.ensures.itself)
      (next_there c.args.program.now c.args.node c.args.name.now c.in_ok-place.place c.in_ok-ty.ty.now (c.requires.index.distinct c.requires.distinct)
      (c.in_ok-place.ensures.place c.args.program.now.structures c.requires.index.names) c.in_ok-ty.ensures.step);
}
