-- What checks of the paths of a structure are about, and what they know.
use Rattle.std.specs.Prelude.{Bool, List, Option, IfSome, IsTrue}
use Rattle.gt_types.specs.declared.types.TypeId.{TypeId}
use Rattle.gt_types.specs.declared.program.Program.{Program}
use Rattle.gt_types.specs.Paths.{Inner}
use Rattle.gt_paths.specs.declared.indexes.PathIndex.{PathIndex}
use Rattle.gt_paths.specs.declared.outer_paths.Answers.{Answers}
use Rattle.gt_paths.specs.declared.outer_paths.Outermost.{Outermost}
use Rattle.gt_paths.specs.Numbers.{mark_at}
use Rattle.gt_paths.specs.Containers.{containers_of}
use Rattle.gt_paths.specs.Indexes.{IsIndexOn}
use Rattle.gt_paths.specs.OuterPaths.{AreAnswers}
use Rattle.gt_paths.specs.Around.{IsAround}

-- a structure of a program, in which structures are marked as inner
pub record Checked : Type 0 where
  pub program : Program
  pub inner : List Bool
  pub node : TypeId

-- the inner structures are those that the index has marked
abbrev pub checked : Program → PathIndex → TypeId → Checked
checked program index node = record { program = program; inner = index.inner; node = node }

-- the structures that are marked as inner
abbrev pub inner_of : Checked → Inner
inner_of c node = IsTrue (mark_at c.inner node.0)

-- the answers are those for the structures that contain this one, and for those that are outermost for it
pub record HasAnswers (program : Program) (index : PathIndex) (node : TypeId) (answers : Answers) (outermost : Option Outermost) : Type 0 where
  pub index_on : IsIndexOn program index
  pub for_containers : AreAnswers program (containers_of index.containers node.0) answers
  pub around : IfSome outermost (IsAround program index node)
