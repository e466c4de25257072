-- The fault of a program that is too large.
use Rattle.std.specs.Prelude.{ℕ, List, Option}
use Rattle.gt_types.specs.declared.faults.Fault.{Fault}
use Rattle.gt_types.specs.declared.program.Program.{Program}
use Rattle.gt_items.specs.declared.items.Items.{Items}
use Rattle.gt_layout.specs.Excess.{Exceeds}
use Rattle.gt_drafts.specs.FirstFaults.{IsFirst}
use Rattle.gt_resolve.specs.Placings.{placed}

-- 24: of its first structure that is too large, at the tag, and the first root that ends beyond the limit of the static record, at the
-- name, the one that stands earlier
pub record IsSizeFault (files : List Items) (program : Program) (fault : Fault) : Type 0 where
  pub structure : Option ℕ
  pub root : Option ℕ
  pub exceeds : Exceeds program structure root
  pub first : IsFirst (placed files structure root) fault
