-- No promise: what is known of the outermost structures of a structure.
use Rattle.gt_types.specs.declared.types.TypeId.{TypeId}
use Rattle.gt_types.specs.declared.program.Program.{Program}
use Rattle.gt_paths.specs.declared.indexes.PathIndex.{PathIndex}
use Rattle.gt_paths.specs.declared.outer_paths.Outermost.{Outermost}
use Rattle.gt_paths.specs.Indexes.{inner_in}
use Rattle.gt_paths.specs.OuterPaths.{AreAnswers, AreStarts}

-- they are listed, and the answers are those for them
pub record IsAround (program : Program) (index : PathIndex) (node : TypeId) (outermost : Outermost) : Type 0 where
  pub starts : AreStarts (inner_in index) program node outermost.starts
  pub answers : AreAnswers program outermost.starts outermost.answers
