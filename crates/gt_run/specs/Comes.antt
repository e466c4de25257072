-- Which refusal comes first in the order of work, the commands of the script among it.
use Rattle.std.specs.Prelude.{◌≡◌, ℕ, ◌⊎◌, List, Option, Contains}
use Rattle.gt_types.specs.declared.program.Program.{Program}
use Rattle.gt_io.specs.Held.{Held}
use Rattle.gt_script.specs.declared.command.Line.{Line}
use Rattle.gt_words.specs.declared.call.Call.{Call}
use Rattle.gt_front.specs.Texts.{Texts}
use Rattle.gt_front.specs.Asks.{Asks}
use Rattle.gt_front.specs.Comes.{Comes}
use Rattle.gt_front.specs.declared.refusal.FileWhy.TheVariants.{Missing, TooLong, Fault}
use Rattle.gt_front.specs.declared.refusal.Refusal.{Refusal}
use Rattle.gt_front.specs.declared.refusal.Refusal.TheVariants.{Words, Header, Script, NotBuilt, File as InFile}
use Rattle.gt_next.specs.Laws.{IsBuilt}

-- one of the commands is not built so far
abbrev pub HasUnbuilt : List Line → Type 0
HasUnbuilt lines = (line : Line) × Contains lines line × (IsBuilt line.command → ⊥)

-- what is refused first, where these are the texts: up to the lines of the script; or else one of its commands is not built so far
abbrev pub IsRefusedFirst : List (List ℕ) → Option Held → Texts → Refusal → Type 0
IsRefusedFirst words told texts refusal =
    Comes words told texts refusal
    ⊎ ((refusal ≡ NotBuilt) × (call : Call) × (program : Program) × (lines : List Line) × (asks : Asks words told call program lines) × (asks.texts ≡ texts)
    × HasUnbuilt lines)

-- a refusal that the files tell: not the failure of a read
abbrev pub IsTold : Refusal → Type 0
IsTold Words = Unit {0}
IsTold (InFile word Missing) = Unit {0}
IsTold (InFile word TooLong) = Unit {0}
IsTold (InFile word Fault) = ⊥
IsTold (Header fault) = Unit {0}
IsTold NotBuilt = Unit {0}
IsTold (Script number line) = Unit {0}
