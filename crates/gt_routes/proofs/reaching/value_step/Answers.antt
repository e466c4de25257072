use Rattle.std.proofs.Common.{◌≡◌, ◌++◌, sym, ◌∙◌, ap, subst}
use Rattle.std.specs.Prelude.{Err}
use Rattle.gt_elements.specs.Elements.{owner_of}
use Rattle.gt_tree.specs.Scopes.{typed}
use Rattle.gt_next.specs.Spots.{spot, further}
use Rattle.gt_next.specs.Paths.{StepsIn, RefusesIn}
use Rattle.gt_routes.specs.Steps.{along}
use Rattle.gt_routes.specs.Reaching.{spot_of, IsValueAt}
use Rattle.gt_routes.proofs.SpotParts.{value-further}
use Rattle.gt_routes.proofs.HeapSteps.{first-further, inside-further, same-end}
use Rattle.gt_routes.proofs.reaching.value_step.Goals as goal

pub local_step-requires-clause-stands : goal.local_step-requires-clause-stands
local_step-requires-clause-stands c =
    let v = c.requires.stands c.requires.ready.0 c.requires.ready.1 in
    record { at = v.frame; value = v.value; path = v.path; program_is = v.program_is; stands = v.here }

pub returns-in-Err-clause-refused : goal.returns-in-Err-clause-refused
returns-in-Err-clause-refused c why e heap is =
    let v = c.requires.stands heap is in
    let p = v.here.here.p in
    let same : c.in-Err.why ≡ why = cc in
    let refused = c.local_step.ensures.refused why (c.in-Err.is ∙ ap Err same) v.frame v.value v.path v.here v.program_is in
    (typed p.type p.tree, v.standing, subst (λ x. RefusesIn x (typed p.type p.tree) c.args.hop.now why) v.program_is refused)

pub returns-clause-leads : goal.returns-clause-leads
returns-clause-leads c heap is =
    let program = c.args.schema.now.program in
    let at = spot_of c.args.reached.now in
    let places = along c.in-Ok.step in
    let v = c.requires.stands heap is in
    let p = v.here.here.p in
    let steps = c.in-Ok.ensures.leads v.frame v.value v.path v.here v.program_is in
    let items : c.add_places.new.places.items ≡ c.args.reached.now.places.items ++ places = c.in-Ok-add_places.ensures.added in
    let spots : spot (owner_of c.args.reached.now.owner) c.add_places.new.places.items ≡ further at places = ap (spot (owner_of c.args.reached.now.owner)) items in
    let value = value-further program c.args.schema.now.layouts c.args.objects.now heap at c.args.at.now c.in-Ok.step.at c.args.hop.now places c.requires.schema.settled v steps in
    record {
      t = typed p.type p.tree;
      path = places;
      standing = v.standing;
      steps = subst (λ x. StepsIn x (typed p.type p.tree) c.args.hop.now places) v.program_is steps.steps;
      spot_is = spots;
      ends = subst (λ s. IsValueAt program c.args.schema.now.layouts c.args.objects.now heap s c.in-Ok.step.at) (sym spots) value;
    }

pub returns-clause-first : goal.returns-clause-first
returns-clause-first c heap is =
    let schema = c.args.schema.now in
    first-further schema.program schema.layouts c.args.objects.now heap (owner_of c.args.reached.now.owner) c.args.reached.now.places.items (along c.in-Ok.step) c.add_places.new.places.items c.in-Ok-add_places.ensures.added c.args.reached.now.first (c.requires.first heap is)

pub returns-clause-inside : goal.returns-clause-inside
returns-clause-inside c =
    let schema = c.args.schema.now in
    let step = c.in-Ok.step in
    same-end schema.program schema.layouts c.args.objects.now c.args.reached.now.first c.add_places.new.places.items step.at
    (inside-further schema.program schema.layouts c.args.objects.now c.args.reached.now.first c.args.reached.now.places.items c.add_places.new.places.items c.args.at.now c.args.hop.now step c.in-Ok.ensures.leads c.in-Ok-add_places.ensures.added c.requires.inside)
