use Rattle.std.proofs.Common.{◌≡◌, take, map}
use Rattle.gt_unions.specs.Beginnings.{AreKnown}
use Rattle.gt_unions.specs.Tables.{table_of}
use Rattle.gt_unions.proofs.tables.Unions.of.Given as goal

abbrev pub invariant-loop-structure : goal.invariant-loop-structure
invariant-loop-structure l = (l.structures.items ≡ map (table_of l.program) (take l.structure-index l.structure-items)) × (l.structure-items ≡ l.program.structures) × AreKnown l.program l.known.items
