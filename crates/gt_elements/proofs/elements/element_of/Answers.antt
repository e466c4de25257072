use Rattle.std.proofs.Common.{Some, sym, subst, arith}
use Rattle.gt_elements.specs.Elements.{IsElementAt}
use Rattle.gt_elements.proofs.Found.{known_element, known_first, known_held, known_low}
use Rattle.gt_elements.proofs.elements.element_of.Goals as goal

pub returns-then-place-eq0 : goal.returns-then-place-eq0
returns-then-place-eq0 c = record {
  element = λ heap is.
      subst (λ e. IsElementAt c.args.program.now c.args.layouts.now heap c.args.objects.now.space c.args.addr c.args.place (Some e)) (sym c.of.ensures)
      (known_first c.args.program.now c.args.layouts.now c.requires.settled c.requires.laid c.args.objects.now heap is c.sound.ensures.space c.args.addr c.args.known (c.requires.known heap is) c.args.place c.if-place-eq0.true c.requires.below);
}

pub element_size-size-requires-clause-kind : goal.element_size-size-requires-clause-kind
element_size-size-requires-clause-kind c =
    let ready = c.requires.ready in
    known_held c.args.program.now c.args.layouts.now c.requires.settled c.requires.laid c.args.objects.now ready.0 ready.1 c.sound.ensures.space c.args.addr c.args.known (c.requires.known ready.0 ready.1)

pub overflow_mul-size : goal.overflow_mul-size
overflow_mul-size c =
    let ready = c.requires.ready in
    let low =
    known_low c.args.program.now c.args.layouts.now c.requires.settled c.requires.laid c.args.objects.now ready.0 ready.1 c.sound.ensures.space c.args.addr c.args.known (c.requires.known ready.0 ready.1) c.args.place c.element_size-size.result
    c.requires.below c.element_size-size.ensures in
    record { fits = omega (arith, low) }

pub overflow_add-addr : goal.overflow_add-addr
overflow_add-addr c =
    let ready = c.requires.ready in
    let low =
    known_low c.args.program.now c.args.layouts.now c.requires.settled c.requires.laid c.args.objects.now ready.0 ready.1 c.sound.ensures.space c.args.addr c.args.known (c.requires.known ready.0 ready.1) c.args.place c.element_size-size.result
    c.requires.below c.element_size-size.ensures in
    record { fits = omega (arith, low) }

pub returns : goal.returns
returns c = record {
  element = λ heap is.
      subst (λ e. IsElementAt c.args.program.now c.args.layouts.now heap c.args.objects.now.space c.args.addr c.args.place (Some e)) (sym c.of-2.ensures)
      (known_element c.args.program.now c.args.layouts.now c.requires.settled c.requires.laid c.args.objects.now heap is c.sound.ensures.space c.args.addr c.args.known (c.requires.known heap is) c.args.place c.element_size-size.result
      c.requires.below c.element_size-size.ensures);
}
