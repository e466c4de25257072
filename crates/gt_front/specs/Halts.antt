-- Why a call stops before its first command.
use Rattle.std.specs.Prelude.{ℕ, List, Option, Result}
use Rattle.gt_io.specs.declared.fail.ReadFail.{ReadFail}
use Rattle.gt_io.specs.Held.{Held}
use Rattle.gt_front.specs.Texts.{Texts}
use Rattle.gt_front.specs.Comes.{Comes}
use Rattle.gt_front.specs.Order.{HasRead, extent_for}
use Rattle.gt_front.specs.Refused.{IsRefusalLine}
use Rattle.gt_front.specs.declared.preparing.Halt.{Halt}
use Rattle.gt_front.specs.declared.preparing.Halt.TheVariants.{Memory, Refused}

-- the refusal that comes first, with its line; nothing is said of running out of memory
abbrev pub Halts : List (List ℕ) → Option Held → Halt → Type 0
Halts words told Memory = Unit {0}
Halts words told (Refused refusal line) = (texts : Texts) × Comes words told texts refusal × IsRefusalLine words texts refusal line

-- the same, by the reads of a store: what was read up to the refusal, and where all files were, the refusal is by the texts that the reads gave
abbrev pub HaltsAfter : {F : Type 0} → (F → List ℕ → ℕ → Result (Option (List ℕ)) ReadFail → F → Type 0) → List (List ℕ) → Option Held → F → Halt → F → Type 0
HaltsAfter reads words told store Memory last = Unit {0}
HaltsAfter reads words told store (Refused refusal line) last =
    (texts : Texts) × Comes words told texts refusal × IsRefusalLine words texts refusal line × HasRead reads words store (extent_for texts refusal) last
