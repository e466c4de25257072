use Rattle.std.proofs.Common.{◌∙◌, ap, sym}
use Rattle.std.specs.Prelude.{option_map, slice_get}
use Rattle.gt_names.proofs.TableLemmas.{value_at, no_value}
use Rattle.gt_names.proofs.tables.Table.get.Goals as goal

pub returns-in-None : goal.returns-in-None
returns-in-None g c = record { value = sym (no_value c.args.self.now c.args.name.now (sym c.in-None.ensures.place)) }

pub returns-in-Some-item_at : goal.returns-in-Some-item_at
returns-in-Some-item_at g c =
    record {
      value =
          ap (option_map (λ e. e.value))
          (c.in-Some-item_at.ensures.item ∙ ap (λ es. slice_get es c.in-Some.place) (c.deref.ensures.value ∙ c.self.view_is))
          ∙ sym (value_at c.args.self.now c.args.name.now c.in-Some.place (sym c.in-Some.ensures.place));
    }
