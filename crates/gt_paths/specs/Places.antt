-- No promise: what is good of a path, by the option in which it stands.
use Rattle.std.specs.Prelude.{◌≡◌, ℕ, List}
use Rattle.gt_types.specs.declared.expressions.Base.{Base}
use Rattle.gt_types.specs.declared.expressions.Base.TheVariants.{Here}
use Rattle.gt_types.specs.declared.types.TypeId.{TypeId}
use Rattle.gt_types.specs.declared.program.Program.{Program}
use Rattle.gt_types.specs.Paths.{AreSteps, DescPathFitsBeside, LeadsToNumber, PathFitsBeside}
use Rattle.gt_paths.specs.declared.checks.PathOption.{PathOption}
use Rattle.gt_paths.specs.declared.checks.PathOption.TheVariants.{Own, Desc}
use Rattle.gt_paths.specs.Checks.{Checked, inner_of}

-- a path in the length of a field or the `desc` of a union, and in the `desc` of a field
abbrev pub PathAt : Checked → PathOption → Base → List (List ℕ) → Type 0
PathAt c Own base steps = AreSteps steps × PathFitsBeside (inner_of c) c.program c.node base steps
PathAt c (Desc union) base steps = AreSteps steps × DescPathFitsBeside (inner_of c) c.program c.node union base steps

-- a path in the `desc` of a root
abbrev pub RootPathFits : Program → TypeId → Base → List (List ℕ) → Type 0
RootPathFits program union base steps = (base ≡ Here) × LeadsToNumber program union steps
