use Rattle.std.proofs.Common.{sym, subst}
use Rattle.gt_elements.specs.Elements.{IsElementAt}
use Rattle.gt_elements.proofs.Found.{known_missing}
use Rattle.gt_elements.proofs.elements.element.Goals as goal

pub returns-in_err-known : goal.returns-in_err-known
returns-in_err-known c = record {
  element = λ heap is.
      subst (IsElementAt c.args.program.now c.args.layouts.now heap c.args.objects.now.space c.args.addr c.args.place) (sym c.from_residual.ensures)
      (λ o found low. let none = c.in_err-known.ensures.known c.args.program.now c.args.layouts.now heap is in absurd (cc));
}

pub returns-then-place-known : goal.returns-then-place-known
returns-then-place-known c = record {
  element = λ heap is.
      known_missing c.args.program.now c.args.layouts.now c.requires.settled c.requires.laid c.args.objects.now heap is c.sound.ensures.space c.args.addr c.in_ok-known.known
      (c.in_ok-known.ensures.known c.args.program.now c.args.layouts.now heap is) c.args.place c.if-place-known.true;
}
