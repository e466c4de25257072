-- No promise: what one stage hands to the next. Only the functions inside the crate cite this.
use Rattle.std.specs.Prelude.{◌≡◌, ◌≤◌, ℕ, List, All, Option, length}
use Rattle.gt_io.specs.Held.{Held}
use Rattle.gt_words.specs.declared.call.Call.{Call}
use Rattle.gt_words.specs.declared.call.Script.TheVariants.{File}
use Rattle.gt_front.specs.Texts.{Texts}
use Rattle.gt_front.specs.Comes.{Comes}
use Rattle.gt_front.specs.Order.{Extent, upto, extent_for}
use Rattle.gt_front.specs.Refused.{IsRefusalLine}
use Rattle.gt_front.specs.declared.TheConstants.{MAX_HEADER_BYTES}
use Rattle.gt_front.specs.declared.preparing.Halt.{Halt}
use Rattle.gt_front.specs.declared.preparing.Halt.TheVariants as halt
use Rattle.gt_front.specs.declared.reading.ReadStop.{ReadStop}
use Rattle.gt_front.specs.declared.reading.ReadStop.TheVariants as stop
use Rattle.gt_front.specs.declared.stages.Found.{Found}

-- the texts that were found
abbrev pub texts_of : Found → Texts
texts_of found = record { headers = found.headers.items; script = found.script }

-- a call has a word at each place up to this one: those of its headers, or that of a generated script
abbrev pub HasWordAt : Call → ℕ → Type 0
HasWordAt call place = (name : List ℕ) → call.script ≡ File name → place ≤ length call.headers

-- a call has a word for each of the texts of headers, of which there are at most 64, and each is within its limit
pub record AreWithin (call : Call) (texts : List (List ℕ)) : Type 0 where
  pub each : HasWordAt call (length texts)
  pub few : length texts ≤ 64
  pub short : All (λ text. length text ≤ MAX_HEADER_BYTES) texts

-- out of memory, or a refusal by these texts, with its line, up to which this is to be read
abbrev pub HaltsBy : List (List ℕ) → Option Held → Texts → Extent → Halt → Type 0
HaltsBy words told texts extent halt.Memory = Unit {0}
HaltsBy words told texts extent (halt.Refused refusal line) = Comes words told texts refusal × IsRefusalLine words texts refusal line × (extent ≡ extent_for texts refusal)

-- out of memory, or the refusal of the file that was not read
abbrev pub HaltsAt : List (List ℕ) → Option Held → Texts → ReadStop → Halt → Type 0
HaltsAt words told texts stop.Memory result = result ≡ halt.Memory
HaltsAt words told texts (stop.Refused word why) result = HaltsBy words told texts (upto word why) result
