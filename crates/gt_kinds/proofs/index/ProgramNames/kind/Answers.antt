use Rattle.gt_kinds.proofs.TypeKinds.{strings-meant, none-meant}
use Rattle.gt_kinds.proofs.index.ProgramNames.kind.Goals as goal

pub returns-then-means_strings : goal.returns-then-means_strings
returns-then-means_strings c = record { kind = strings-meant c.if-means_strings.ensures.strings }

pub returns-in-None : goal.returns-in-None
returns-in-None c = record { kind = none-meant c.if-means_strings.ensures.strings c.in-None.ensures.means }
