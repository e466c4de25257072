-- What stops the work on texts.
use Rattle.std.specs.Prelude.{◌≡◌, ℕ, List}
use Rattle.gt_types.specs.declared.faults.Stop.{Stop}
use Rattle.gt_types.specs.declared.faults.Stop.TheVariants.{Memory, At}
use Rattle.gt_types.specs.declared.program.Program.{Program}
use Rattle.gt_items.specs.declared.items.Items.{Items}
use Rattle.gt_headers.specs.Reading.{IsReadingFault, IsTextFault}
use Rattle.gt_headers.specs.Sizes.{IsSizeFault}

-- out of memory, or the first fault of one text, which is that of this file
abbrev pub IsTextStop : ℕ → List ℕ → Stop → Type 0
IsTextStop file text Memory = Unit {0}
IsTextStop file text (At fault) = (fault.file ≡ file) × IsTextFault text fault.number fault.at

-- out of memory, or the first fault of all texts
abbrev pub IsReadingStop : List (List ℕ) → Stop → Type 0
IsReadingStop texts Memory = Unit {0}
IsReadingStop texts (At fault) = IsReadingFault texts fault

-- out of memory, or the fault of a program that is too large
abbrev pub IsSizeStop : List Items → Program → Stop → Type 0
IsSizeStop files program Memory = Unit {0}
IsSizeStop files program (At fault) = IsSizeFault files program fault
