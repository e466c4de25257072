use Rattle.std.proofs.Common.{◌≡◌, drop}
use Rattle.std.specs.Prelude.{filter_map}
use Rattle.gt_resolve.specs.Placings.{fault_item, item_or_rest}
use Rattle.gt_resolve.proofs.placing.fault_in_items.Given as goal

-- what is found after so many items is what is found in all
abbrev pub invariant-loop-item : goal.invariant-loop-item
invariant-loop-item l =
    item_or_rest (filter_map (fault_item l.tags l.file) (drop l.item-index l.items)) l.rest ≡ item_or_rest (filter_map (fault_item l.tags l.file) l.items) l.place
