use Rattle.std.proofs.Common.{◌≡◌, ◌++◌, map, take}
use Rattle.gt_resolve.specs.Drafts.{field_of}
use Rattle.gt_resolve.proofs.drafting.with_fields.Given as goal

abbrev pub invariant-loop-declarator : goal.invariant-loop-declarator
invariant-loop-declarator l =
    l.made.items
    ≡ l.fn.before.items ++ map (field_of l.scope.declarations.items l.scope.types.items l.fields.ty) (take l.declarator-index l.fields.declarators)
