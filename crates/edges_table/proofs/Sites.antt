-- How many bytes the elements of blocks take.
use Rattle.std.proofs.Common.{◌≡◌, ℕ}
use Rattle.gt_types.specs.declared.types.Ty.{Ty}
use Rattle.gt_types.specs.declared.types.TypeId.{TypeId}
use Rattle.gt_types.specs.declared.program.Program.{Program}
use Rattle.gt_types.specs.Settled.{Settled}
use Rattle.gt_types.specs.Paths.{MayStand}
use Rattle.gt_layout.specs.declared.planes.Layouts.{Layouts}
use Rattle.gt_layout.specs.Planes.{IsLaidOut}
use Rattle.gt_layout.specs.Capacity.{SizeAt}
use Rattle.gt_tree.specs.Blocks.{Nodes, element_type}
use Rattle.value_notation.proofs.Rereads.{takes-size, takes-only}
use Rattle.edges_table.specs.Grounds.{IsSite}

-- a structure takes its size
pub of-structure : (program : Program) (layouts : Layouts) (capacity : ℕ) (type : Ty) (id : TypeId) (size : ℕ) → Settled program → IsLaidOut program layouts → MayStand program id
    → type ≡ element_type program (Nodes id) → SizeAt program layouts.structures capacity id size → IsSite program layouts capacity type size
of-structure program layouts capacity type id size settled laid stands is at = record {
  element = (Nodes id, stands, is);
  takes = takes-size program layouts capacity type id size is at;
  only = takes-only program layouts capacity type id size settled laid stands is at;
}
