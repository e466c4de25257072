-- What values are tried on.
use Rattle.std.specs.Prelude.{◌≡◌, ℕ}
use Rattle.gt_types.specs.declared.types.Ty.{Ty}
use Rattle.gt_types.specs.declared.program.Program.{Program}
use Rattle.gt_types.specs.Settled.{Settled}
use Rattle.gt_layout.specs.declared.planes.Layouts.{Layouts}
use Rattle.gt_layout.specs.Planes.{IsLaidOut}
use Rattle.gt_layout.specs.Excess.{IsWithin}
use Rattle.gt_value.specs.Bytes.{IsElement, Takes}

-- the program is settled, and these are its layouts
pub record IsGround (program : Program) (layouts : Layouts) : Type 0 where
  pub settled : Settled program
  pub laid : IsLaidOut program layouts
  pub within : IsWithin program layouts

-- an element of a block is of this type, and takes so many bytes, and no others
pub record IsSite (program : Program) (layouts : Layouts) (capacity : ℕ) (type : Ty) (size : ℕ) : Type 0 where
  pub element : IsElement program type
  pub takes : Takes program layouts capacity type size
  pub only : (other : ℕ) → Takes program layouts capacity type other → other ≡ size
