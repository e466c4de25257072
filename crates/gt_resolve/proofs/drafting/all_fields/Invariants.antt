use Rattle.std.proofs.Common.{◌≡◌, ◌++◌, drop}
use Rattle.std.specs.List.{flat_map}
use Rattle.gt_resolve.specs.Drafts.{fields_in}
use Rattle.gt_resolve.proofs.drafting.all_fields.Given as goal

abbrev pub invariant-loop-one : goal.invariant-loop-one
invariant-loop-one l =
    l.made.items ++ flat_map (fields_in l.scope.declarations.items l.scope.types.items) (drop l.one-index l.fields)
    ≡ flat_map (fields_in l.scope.declarations.items l.scope.types.items) l.fields
