use Rattle.std.proofs.Common.{◌≡◌, Option}
use Rattle.std.specs.List.{filter_map}
use Rattle.gt_layout.specs.declared.planes.Growth.{Growth}
use Rattle.gt_layout.proofs.growths.all_found.Given as goal

abbrev pub invariant-loop-growth : goal.invariant-loop-growth
invariant-loop-growth l = l.growths.items ≡ filter_map (λ (growth : Option Growth). growth) l.yielded
