-- What is decided for one list of leaves is decided for the value.
use Rattle.std.proofs.Common.{ℕ, Bool, List, subst}
use Rattle.std.specs.Bool.{Decides}
use Rattle.gt_types.specs.declared.types.Ty.{Ty}
use Rattle.gt_types.specs.Settled.{Settled}
use Rattle.gt_tree.specs.Trees.{Tree}
use Rattle.gt_tree.specs.Leaves.{Stand}
use Rattle.gt_tree.proofs.Unique.{unique}
use Rattle.gt_value.specs.Bytes.{itself}
use Rattle.value_notation.specs.declared.samples.Sample.{Sample}
use Rattle.stand_table.specs.declared.leaves.Leaf.{Leaf}
use Rattle.stand_table.specs.Leaves.{leaves_in}
use Rattle.stand_table.specs.Walks.{AreLeaves}
use Rattle.stand_table.specs.Bytes.{AreBytesFor}

pub decides : (on : Sample) → Settled on.program → (type : Ty) (value : Tree) (bytes : List ℕ) (leaves : List Leaf) (r : Bool) → AreLeaves on 0 type value leaves
    → Decides r (Stand itself (leaves_in leaves) bytes) → Decides r (AreBytesFor on type value bytes)
decides on settled type value bytes leaves r has d = (
  (λ h. record { leaves = leaves_in leaves; of_value = has; stand = d.0 h }),
  (λ are. d.1 (subst (λ ls. Stand itself ls bytes) (unique on.program on.layouts.structures settled has are.leaves are.of_value) are.stand)),
)
