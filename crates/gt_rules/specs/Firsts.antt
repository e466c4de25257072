-- The first of the faults that only the program tells.
use Rattle.std.specs.Prelude.{IsTrue, Option, Some, None}
use Rattle.gt_types.specs.declared.faults.Fault.{Fault}
use Rattle.gt_types.specs.declared.program.Program.{Program}
use Rattle.gt_drafts.specs.declared.draft.Draft.{Draft}
use Rattle.gt_drafts.specs.FirstFaults.{is_no_later}
use Rattle.gt_rules.specs.Faults.{HasProgramFault}

-- none where there is none, else the first of them
abbrev pub IsFirstProgramFault : Draft → Program → Option Fault → Type 0
IsFirstProgramFault draft program None = (f : Fault) → ¬ HasProgramFault draft program f
IsFirstProgramFault draft program (Some f) =
    HasProgramFault draft program f × ((other : Fault) → HasProgramFault draft program other → IsTrue (is_no_later f other))
