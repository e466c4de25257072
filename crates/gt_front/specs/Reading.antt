-- No promise: what the reading of files comes to, their texts, or why the first file that is refused was not read. Only the functions
-- inside the crate cite this.
use Rattle.std.specs.Prelude.{◌≡◌, ◌≤◌, ℕ, List, length, Option, Result}
use Rattle.gt_io.specs.declared.fail.ReadFail.{ReadFail}
use Rattle.gt_io.specs.Held.{Held}
use Rattle.gt_words.specs.declared.call.Call.{Call}
use Rattle.gt_front.specs.Texts.{File, headers_from, files_in_order, AreTextsOf}
use Rattle.gt_front.specs.Comes.{IsRefusedFile, IsRefusedFor}
use Rattle.gt_front.specs.Order.{StopsAt, answer_for}
use Rattle.gt_front.specs.declared.reading.ReadStop.{ReadStop}
use Rattle.gt_front.specs.declared.reading.ReadStop.TheVariants.{Memory, Refused}

-- out of memory, or a refusal of this file
abbrev pub IsStopAt : Option Held → File → ReadStop → Type 0
IsStopAt told file Memory = Unit {0}
IsStopAt told file (Refused word why) = (word ≡ file.word) × IsRefusedFor told file why

-- each header has its text
abbrev pub AreHeadersRead : Option Held → (names texts : List (List ℕ)) → Type 0
AreHeadersRead told names texts = AreTextsOf told (headers_from 1 names) texts

-- out of memory, or the refusal of the first header that was not read
abbrev pub IsStopIn : Option Held → (names : List (List ℕ)) → ReadStop → Type 0
IsStopIn told names Memory = Unit {0}
IsStopIn told names (Refused word why) = (word ≤ length names) × IsRefusedFile told (headers_from 1 names) word why

-- out of memory, or the refusal of the first of all files that was not read
abbrev pub IsStopOf : Option Held → (script : List ℕ) → (headers : List (List ℕ)) → ReadStop → Type 0
IsStopOf told script headers Memory = Unit {0}
IsStopOf told script headers (Refused word why) = IsRefusedFile told (files_in_order script headers) word why

-- a refusal is of a word that the call has
abbrev pub HasWord : Call → ReadStop → Type 0
HasWord call Memory = Unit {0}
HasWord call (Refused word why) = word ≤ length call.headers

module _ {F : Type 0} (reads : F → List ℕ → ℕ → Result (Option (List ℕ)) ReadFail → F → Type 0) where
  -- out of memory, or the read of this file was answered so
  abbrev pub IsAnswered : F → File → ReadStop → F → Type 0
  IsAnswered store file Memory last = Unit {0}
  IsAnswered store file (Refused word why) last = (word ≡ file.word) × reads store file.name file.limit (answer_for why) last

  -- out of memory, or the reading of these files came so far
  abbrev pub HasStopped : F → List File → ReadStop → F → Type 0
  HasStopped store files Memory last = Unit {0}
  HasStopped store files (Refused word why) last = StopsAt reads store files word why last
