-- What an index of a program knows of it.
use Rattle.std.specs.Prelude.{◌≡◌, ◌≢◌, ℕ, true, IsTrue, Some, slice_get, All, AllPairs}
use Rattle.std.specs.Bool.{Decides}
use Rattle.gt_types.specs.declared.types.TypeId.{TypeId}
use Rattle.gt_types.specs.declared.program.Field.{Field}
use Rattle.gt_types.specs.declared.program.Structure.{Structure}
use Rattle.gt_types.specs.declared.program.Program.{Program}
use Rattle.gt_types.specs.Contains.{HasStructure}
use Rattle.gt_types.specs.Paths.{Inner, IsInner, MayStep}
use Rattle.gt_fields.specs.FieldNames.{AreNamesOf}
use Rattle.gt_paths.specs.declared.indexes.PathIndex.{PathIndex}
use Rattle.gt_paths.specs.Containers.{AreContainersOf}
use Rattle.gt_paths.specs.Outers.{AreOutersOf}
use Rattle.gt_paths.specs.Numbers.{mark_at, mark_in}

-- an index finds the fields of a program by their names, and knows which structures contain one, which may be outermost around it, and where paths may go
pub record IsIndexOn (program : Program) (index : PathIndex) : Type 0 where
  pub names : AreNamesOf program.structures index.names
  pub distinct : index.distinct ≡ true → All (λ s. AllPairs (λ f g. f.name ≢ g.name) s.fields) program.structures
  pub containers : AreContainersOf program index.containers
  pub outers : AreOutersOf program index.outers
  pub steps : (node : TypeId) (s : Structure) (place : ℕ) (f : Field) → HasStructure program node s → slice_get s.fields place ≡ Some f
      → Decides (mark_in index.steps node.0 place) (MayStep program s f)

-- the structures that an index has marked as inner
abbrev pub inner_in : PathIndex → Inner
inner_in index node = IsTrue (mark_at index.inner node.0)

-- and the inner structures are marked, and no others
pub record IsIndexOf (program : Program) (index : PathIndex) : Type 0 where
  pub on : IsIndexOn program index
  pub inner : (node : TypeId) → Decides (mark_at index.inner node.0) (IsInner program node)
