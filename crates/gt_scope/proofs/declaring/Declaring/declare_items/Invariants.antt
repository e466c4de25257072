use Rattle.std.proofs.Common.{◌≡◌, drop}
use Rattle.gt_scope.specs.Declarations.{declare_items}
use Rattle.gt_scope.proofs.declaring.Declaring.declare_items.Given as goal

abbrev pub invariant-loop-item : goal.invariant-loop-item
invariant-loop-item l = declare_items l.file (drop l.item-index l.items) l.self ≡ declare_items l.file l.items l.fn.self
