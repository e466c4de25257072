use Rattle.std.proofs.Common.{◌<◌, ◌≤◌, [], ◌∷◌, sym, subst, arith}
use Rattle.gt_types.specs.Settled.{Settled}
use Rattle.gt_script.specs.declared.command.Hop.TheVariants.{Index}
use Rattle.gt_next.specs.declared.answer.Why.TheVariants.{BadIndex}
use Rattle.gt_value.specs.Cursors.{count_of}
use Rattle.gt_routes.specs.Steps.{StepsTo}
use Rattle.gt_routes.proofs.Rows.{element-leads, element-refused, element-kept, refused-as}
use Rattle.gt_routes.proofs.steps.element_step.Goals as goal

pub returns-then-place-count-clause-refused : goal.returns-then-place-count-clause-refused
returns-then-place-count-clause-refused c why e frame value path here p =
    let counted = c.count.ensures.count frame value path here.here in
    let le : count_of here.here.p.tree ≤ c.args.place = omega (arith, c.if-place-count.true, counted) in
    refused-as frame here.here.p (Index c.args.place) BadIndex why e (element-refused frame value path c.args.at.now here (subst Settled (sym p) c.requires.settled) c.requires.row c.args.place le)

pub returns-in-Some : goal.returns-in-Some
returns-in-Some c = record {
  leads = λ frame value path here p.
      let to = c.made.result in
      let made = c.made.ensures.made in
      let counted = c.count.ensures.count frame value path here.here in
      let lt : c.args.place < count_of here.here.p.tree = omega (arith, c.if-place-count.false, counted) in
      let steps = element-leads frame value path c.args.at.now here (subst Settled (sym p) c.requires.settled) c.requires.row c.in-Some.next c.args.place lt (c.in-Some.ensures.part frame value path here.here) in
      subst (λ xs. StepsTo frame value path c.args.at.now (Index c.args.place) to.at xs here) (sym made.places_are)
      (subst (λ x. StepsTo frame value path c.args.at.now (Index c.args.place) x (c.args.place ∷ []) here) (sym made.at_is) steps);
  refused = λ why e frame value path here p. absurd (cc);
}

pub returns-in-None : goal.returns-in-None
returns-in-None c = record {
  leads = tt;
  refused = λ why e frame value path here p.
      let counted = c.count.ensures.count frame value path here.here in
      let lt : c.args.place < count_of here.here.p.tree = omega (arith, c.if-place-count.false, counted) in
      absurd (element-kept frame value path c.args.at.now here (subst Settled (sym p) c.requires.settled) c.requires.row c.args.place lt (c.in-None.ensures.part frame value path here.here));
}
