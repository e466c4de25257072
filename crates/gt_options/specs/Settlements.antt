-- What a draft comes to.
use Rattle.gt_types.specs.declared.faults.Stop.{Stop}
use Rattle.gt_types.specs.declared.faults.Stop.TheVariants.{Memory, At}
use Rattle.gt_drafts.specs.declared.draft.Draft.{Draft}
use Rattle.gt_rules.specs.Faults.{Declares, IsFirstFault}
use Rattle.gt_options.specs.declared.settling.Settlement.{Settlement}
use Rattle.gt_options.specs.declared.settling.Settlement.TheVariants.{Program, Fault}

-- the program that the draft declares, or its first fault
abbrev pub IsSettlement : Draft → Settlement → Type 0
IsSettlement draft (Program p) = Declares draft p
IsSettlement draft (Fault f) = IsFirstFault draft f

-- why a draft gives no program; nothing is said of running out of memory
abbrev pub IsOptionStop : Draft → Stop → Type 0
IsOptionStop draft Memory = Unit {0}
IsOptionStop draft (At f) = IsFirstFault draft f
