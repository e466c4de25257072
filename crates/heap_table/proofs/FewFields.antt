-- The structures of a program have few fields.
use Rattle.std.proofs.Common.{◌≤◌}
use Rattle.std.specs.Prelude.{All, get_or, length}
use Rattle.std.proofs.lemmas.Option.{slice_get-get_or}
use Rattle.gt_types.specs.declared.limits.TheConstants.{MAX_FIELDS}
use Rattle.gt_types.specs.declared.program.Structure.{Structure}
use Rattle.gt_types.specs.declared.program.Program.{Program}
use Rattle.gt_types.specs.Settled.{Settled}

pub few-fields : (program : Program) → Settled program → All (λ (s : Structure). length s.fields ≤ MAX_FIELDS) program.structures
few-fields program settled i d within = (settled.structures (record { 0 = i }) (get_or program.structures i d) (slice_get-get_or program.structures i d within)).few_fields
