use Rattle.std.proofs.Common.{ℕ, List, ap}
use Rattle.gt_names.specs.declared.tables.Entry.{Entry}
use Rattle.gt_fields.specs.declared.field_names.FieldNames.{FieldNames}
use Rattle.gt_fields.proofs.NameLemmas.{names_are}
use Rattle.gt_fields.proofs.field_names.FieldNames.of.Goals as goal

pub returns : goal.returns
returns c = record {
  names = names_are c.args.structures.now (record { structures = c.in_ok-names_of_all.field-0 }) c.in_ok-names_of_all.ensures.made;
  made = ap (λ (all : List (List (Entry ℕ))). let names : FieldNames = record { structures = all } in names) c.in_ok-names_of_all.ensures.made;
}
