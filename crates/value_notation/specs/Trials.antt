-- What each row is tried on.
use Rattle.std.specs.Prelude.{◌≡◌}
use Rattle.gt_types.specs.declared.program.Program.{Program}
use Rattle.gt_types.specs.Settled.{Settled}
use Rattle.gt_layout.specs.declared.planes.Layouts.{Layouts}
use Rattle.gt_layout.specs.Planes.{IsLaidOut}
use Rattle.gt_layout.specs.Excess.{IsWithin}
use Rattle.sample_program.specs.Sample.{sample}

-- the program is the sample, which is settled, and these are its layouts
pub record IsReady (program : Program) (layouts : Layouts) : Type 0 where
  pub is_sample : program ≡ sample
  pub settled : Settled program
  pub laid : IsLaidOut program layouts
  pub within : IsWithin program layouts
