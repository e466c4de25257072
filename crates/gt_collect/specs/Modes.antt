-- When a collection runs.
use Rattle.std.specs.Prelude.{◌≤◌, ℕ}
use Rattle.gt_types.specs.declared.limits.TheConstants.{MAX_MIN_EXPAND, MAX_MIN_HEAPSIZE}
use Rattle.gt_next.specs.declared.TheConstants.{MAX_ALLOCATED}
use Rattle.gt_next.specs.Collecting.{threshold_of}
use Rattle.gt_collect.specs.declared.modes.Mode.{Mode}
use Rattle.gt_collect.specs.declared.modes.Mode.TheVariants.{Force, Heuristic}

-- the settings of a mode are within their bounds
abbrev pub IsMode : Mode → Type 0
IsMode Force = Unit {0}
IsMode (Heuristic last min_expand min_heapsize) = (last ≤ MAX_ALLOCATED) × (min_expand ≤ MAX_MIN_EXPAND) × (min_heapsize ≤ MAX_MIN_HEAPSIZE)

-- the bytes from which `collect` collects in a mode: 0 with Force, which always collects
abbrev pub threshold_in : Mode → ℕ
threshold_in Force = 0
threshold_in (Heuristic last min_expand min_heapsize) = threshold_of last min_expand min_heapsize
