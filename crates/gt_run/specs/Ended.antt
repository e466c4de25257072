-- How the program ends, and what it has then answered and written.
use Rattle.std.specs.Prelude.{◌≡◌, ℕ, ◌⊎◌, List, [], Option, Some, None, Result, Ok, Err, if◌then◌else◌}
use Rattle.std.specs.List.{list_any}
use Rattle.gt_space.specs.Range.{Range, empty_range}
use Rattle.gt_io.specs.declared.fail.ReadFail.{ReadFail}
use Rattle.gt_io.specs.declared.fail.WriteFail.TheVariants.{Failed, Memory}
use Rattle.gt_io.specs.Held.{Held}
use Rattle.gt_io.specs.Appends.{Adds, AddsFront, IsFrontOf}
use Rattle.gt_front.specs.Order.{HasRead, Extent, extent_for, whole}
use Rattle.gt_front.specs.Texts.{Texts}
use Rattle.gt_front.specs.Refused.{IsRefusalLine}
use Rattle.gt_front.specs.declared.refusal.Refusal.{Refusal}
use Rattle.gt_front.specs.declared.refusal.Refusal.TheVariants.{Words, Header, Script, NotBuilt, File as InFile}
use Rattle.gt_next.specs.declared.answer.Answer.{Answer}
use Rattle.gt_next.specs.Texts.{is_refusal, texts_of}
use Rattle.gt_lines.specs.Runs.{AddsAllBut, IsNothing}
use Rattle.gt_lines.specs.Calls.{SinkCalls}
use Rattle.gt_lines.specs.declared.lines.LinesEnd.TheVariants as lines
use Rattle.gt_run.specs.Comes.{IsRefusedFirst}
use Rattle.gt_run.specs.Runs.{Runs}
use Rattle.gt_run.specs.Outputs.{Output}
use Rattle.gt_run.specs.declared.ending.Ending.{Ending}
use Rattle.gt_run.specs.declared.ending.Ending.TheVariants.{Finished, Refused, SinkFailed, NoMemory}
use Rattle.gt_run.specs.declared.outcome.Outcome.{Outcome}

-- this was read, by the reads of a store; where nothing is named, nothing is said
abbrev pub WasRead : {F : Type 0} → (F → List ℕ → ℕ → Result (Option (List ℕ)) ReadFail → F → Type 0) → List (List ℕ) → F → Option Extent → F → Type 0
WasRead reads words store (Some extent) last = HasRead reads words store extent last
WasRead reads words store None last = Unit {0}

-- the one call was for the line of what comes first in the order of work, and answered out of memory
pub record FailsRefusal (words : List (List ℕ)) (told : Option Held) (read : Option Extent) (out : Output) : Type 0 where
  pub refusal : Refusal
  pub texts : Texts
  pub first : IsRefusedFirst words told texts refusal
  pub reads : read ≡ Some (extent_for texts refusal)
  pub line : List ℕ
  pub is : IsRefusalLine words texts refusal line
  pub fails : out.write out.old line (Err Memory) out.new

-- how the program ends, with its answers, what the sink took and which calls of it were made, and the bytes of the space, where this was read
-- finished: a run of all lines, by the texts that were read, and the text of its answers, each by one call where it has a byte
-- refused: what comes first in the order of work, by the texts that were read, with its line, by one call, and what has to be read for this
-- refusal was read (`extent_for`); no command ran, and the space is empty, as it came
-- the sink failed: a prefix of such a refusal's line, where no command ran and the space is empty, as it came; or of the text of the
-- answers with all but the last whole; the last call is the one that failed
-- out of memory: no answer, where nothing was written, no call was made but one for the line of a refusal that answered out of memory, and
-- the space is empty, as it came; or some, and the text of the answers, or of all but the last: the answers are those to the lines that were run
abbrev pub Ended : List (List ℕ) → Option Held → Option Extent → Output → Ending → List Answer → Range → Type 0
Ended words told read out Finished answers range = (r : Runs words told answers range) × (read ≡ Some (whole r.asks.texts)) × (r.left ≡ [])
    × Adds out.had (texts_of r.done answers) out.has × SinkCalls out.write out.old r.lines answers out.new lines.Finished
Ended words told read out (Refused refusal) answers range = (answers ≡ []) × (range ≡ empty_range) × (texts : Texts) × IsRefusedFirst words told texts refusal
    × (read ≡ Some (extent_for texts refusal)) × (line : List ℕ) × IsRefusalLine words texts refusal line × Adds out.had line out.has × out.write out.old line (Ok tt) out.new
Ended words told read out SinkFailed answers range =
    ((answers ≡ []) × (range ≡ empty_range) × (refusal : Refusal) × (texts : Texts) × IsRefusedFirst words told texts refusal
    × (read ≡ Some (extent_for texts refusal)) × (line : List ℕ) × IsRefusalLine words texts refusal line × AddsFront out.had line out.has × out.write out.old line (Err Failed) out.new)
    ⊎ ((r : Runs words told answers range) × (read ≡ Some (whole r.asks.texts)) × AddsAllBut out.had r.done answers IsFrontOf out.has
    × SinkCalls out.write out.old r.lines answers out.new lines.SinkFailed)
Ended words told read out NoMemory answers range =
    ((answers ≡ []) × (out.has ≡ out.had) × (range ≡ empty_range) × ((out.new ≡ out.old) ⊎ FailsRefusal words told read out))
    ⊎ ((answers ≡ [] → ⊥) × (r : Runs words told answers range) × (read ≡ Some (whole r.asks.texts))
    × (Adds out.had (texts_of r.done answers) out.has ⊎ AddsAllBut out.had r.done answers IsNothing out.has)
    × SinkCalls out.write out.old r.lines answers out.new lines.NoMemory)

-- the status of a refusal: 3 for a file, else 2
abbrev pub refusal_status : Refusal → ℕ
refusal_status (InFile word why) = 3
refusal_status Words = 2
refusal_status (Header fault) = 2
refusal_status (Script number line) = 2
refusal_status NotBuilt = 2

-- the status of the program
abbrev pub status_of : Ending → List Answer → ℕ
status_of Finished answers = if list_any is_refusal answers then 1 else 0
status_of (Refused refusal) answers = refusal_status refusal
status_of SinkFailed answers = 4
status_of NoMemory answers = 9

-- the refusal that is told
abbrev pub refusal_of : Ending → Option Refusal
refusal_of (Refused refusal) = Some refusal
refusal_of Finished = None
refusal_of SinkFailed = None
refusal_of NoMemory = None

-- the program ended in one of these ways, and told it
pub record Ends (words : List (List ℕ)) (told : Option Held) (read : Option Extent) (out : Output) (outcome : Outcome) (range : Range) : Type 0 where
  pub ending : Ending
  pub status : outcome.status ≡ status_of ending outcome.answers.items
  pub refusal : outcome.refusal ≡ refusal_of ending
  pub ended : Ended words told read out ending outcome.answers.items range
