-- What heaps are tried on.
use Rattle.gt_types.specs.declared.program.Program.{Program}
use Rattle.gt_types.specs.Settled.{Settled}
use Rattle.gt_layout.specs.declared.planes.Layouts.{Layouts}
use Rattle.gt_layout.specs.Planes.{IsLaidOut}
use Rattle.gt_layout.specs.Excess.{IsWithin}
use Rattle.gt_paths.specs.Indexes.{IsIndexOf}
use Rattle.gt_held.specs.Types.{AreElementTypesOf}
use Rattle.gt_held.specs.Tails.{AreTailTypesOf}
use Rattle.heap_table.specs.declared.grounds.Ground.{Ground}

-- the program is settled, and these are its layouts
pub record IsLaid (program : Program) (layouts : Layouts) : Type 0 where
  pub settled : Settled program
  pub laid : IsLaidOut program layouts
  pub within : IsWithin program layouts

-- so it is, and what is looked up is that of the program
pub record IsGround (on : Ground) : Type 0 where
  pub laid : IsLaid on.program on.layouts
  pub index : IsIndexOf on.program on.index
  pub types : AreElementTypesOf on.program on.types
  pub tails : AreTailTypesOf on.program on.tails
