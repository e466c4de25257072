use Rattle.std.proofs.Common.{sym, ◌∙◌, refl}
use Rattle.gt_paths.proofs.steps.field_to.Goals as goal

pub returns-then-may_step : goal.returns-then-may_step
returns-then-may_step c =
    let there = sym c.in_ok-s.ensures.structure in
    let at = sym c.in_ok-f.ensures.item in
    record {
      step = (
        c.in_ok-s.s.now,
        c.in_ok-f.f.now,
        there,
        at,
        (c.requires.index.steps c.args.node c.in_ok-s.s.now c.args.place c.in_ok-f.f.now there at).0 (sym c.may_step.ensures.step ∙ c.if-may_step.true),
        refl,
      );
    }
