use Rattle.std.proofs.Common.{◌≡◌, ◌∙◌, ℤ, List, ◌++◌, ◌∷◌, [], length, sym, ap, is_some, w64}
use Rattle.std.proofs.Math.Facts.{to_z-of_z}
use Rattle.gt_names.specs.Entries.{first_some}
use Rattle.gt_scope.specs.FirstValues.{value_named, value_in, first_value}
use Rattle.gt_scope.proofs.NamedValues.{present, added, lengths}
use Rattle.gt_scope.proofs.constants.Constants.add.Goals as goal
use Rattle.gt_scope.proofs.constants.Constants.add.Goals.{In-Ok}

pub returns-then-is_some-clause-added : goal.returns-then-is_some-clause-added
returns-then-is_some-clause-added c = λ word.
    ap (λ constants. value_in constants word) (sym c.self.view_is)
    ∙ present c.args.name.now c.args.value c.self.inside.names c.self.inside.values.items c.self.invariant
    (ap is_some (sym c.get.ensures.place) ∙ sym c.is_some.ensures ∙ c.if-is_some.true) word
    ∙ ap (λ constants. first_some (value_in constants word) (value_named c.args.name.now c.args.value word)) c.self.view_is

pushed : (c : In-Ok) → c.push.new.self.items ≡ c.self.inside.values.items ++ c.args.value ∷ []
pushed c = c.in_ok-push.ensures.items ∙ ap (λ (v : ℤ). c.self.inside.values.items ++ v ∷ []) (to_z-of_z {w = w64} {z = c.args.value} c.ranges.value)

pub invariant_of-self-in-Ok : goal.invariant_of-self-in-Ok
invariant_of-self-in-Ok c =
    lengths c.args.name.now c.args.value c.self.inside.names c.add.new.self c.self.inside.values.items c.self.invariant
    (ap is_some (sym c.get.ensures.place) ∙ sym c.is_some.ensures ∙ c.if-is_some.false) c.in-Ok.ensures.added
    ∙ ap length (sym (pushed c))

pub returns-in-Ok-clause-added : goal.returns-in-Ok-clause-added
returns-in-Ok-clause-added c = λ word.
    ap (λ (values : List ℤ). first_value c.add.new.self values word) (pushed c)
    ∙ added c.args.name.now c.args.value c.self.inside.names c.add.new.self c.self.inside.values.items c.self.invariant
    (ap is_some (sym c.get.ensures.place) ∙ sym c.is_some.ensures ∙ c.if-is_some.false) c.in-Ok.ensures.added word
    ∙ ap (λ constants. first_some (value_in constants word) (value_named c.args.name.now c.args.value word)) c.self.view_is
