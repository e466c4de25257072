-- What each name was first declared as.
use Rattle.std.specs.Prelude.{List, [], ◌∷◌, Option}
use Rattle.std.specs.Option.{option_map_or}
use Rattle.gt_scope.specs.declared.declaration.Declaration.{Declaration}
use Rattle.gt_scope.specs.declared.declaration.What.{What}
use Rattle.gt_names.specs.declared.tables.Entry.{Entry}
use Rattle.gt_names.specs.Entries.{with_value}

-- what the first declarations of each name are of those that are of some kind, after values that are there
unfoldable pub values_from : {A : Type 0} → (What → Option A) → List (Entry A) → List Declaration → List (Entry A)
values_from kind entries [] = entries
values_from kind entries (d ∷ ds) = values_from kind (option_map_or (with_value entries d.name.word) (kind d.what) entries) ds
