use Rattle.std.proofs.Common.{◌∙◌, sym, ap}
use Rattle.std.specs.Prelude.{slice_get}
use Rattle.gt_scope.specs.FirstValues.{value_in}
use Rattle.gt_scope.proofs.NamedValues.{first_value-found, first_value-absent}
use Rattle.gt_scope.proofs.constants.ConstantsValues.value.Goals as goal

pub returns-in-Some : goal.returns-in-Some
returns-in-Some c = record {
  worth =
      c.value_at.ensures ∙ ap (λ values. slice_get values c.in-Some.place) c.deref.ensures.value
      ∙ first_value-found c.args.name.now c.self.inside.names c.self.inside.values.items c.in-Some.place c.self.invariant (sym c.in-Some.ensures.place)
      ∙ ap (λ constants. value_in constants c.args.name.now) c.self.view_is;
}

pub returns-in-None : goal.returns-in-None
returns-in-None c = record {
  worth =
      first_value-absent c.args.name.now c.self.inside.names c.self.inside.values.items (sym c.in-None.ensures.place)
      ∙ ap (λ constants. value_in constants c.args.name.now) c.self.view_is;
}
