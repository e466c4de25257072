use Rattle.std.proofs.Common.{◌∙◌, ap}
use Rattle.gt_scope.specs.Declarations.{as_constant}
use Rattle.gt_names.specs.Entries.{value_in}
use Rattle.gt_scope.proofs.TableLemmas.{values_are_first}
use Rattle.gt_scope.proofs.scope.ScopeValues.value.Goals as goal

pub returns : goal.returns
returns c =
    record {
      worth =
          c.copied.ensures ∙ c.get.ensures.value ∙ ap (λ constants. value_in constants c.args.name.now) c.args.self.now.constant
          ∙ values_are_first as_constant c.args.self.now.declarations.items c.args.name.now;
    }
