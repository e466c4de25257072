-- Which refusal comes first in the order of work: of the words; of the reading of each header and then of the script; of the
-- headers; of the script.
use Rattle.std.specs.Prelude.{◌≡◌, ℕ, ◌⊎◌, List, ◌∷◌, ◌++◌, Option, None}
use Rattle.std.specs.List.{AllByRecursion}
use Rattle.gt_types.specs.declared.program.Program.{Program}
use Rattle.gt_io.specs.Held.{Held}
use Rattle.gt_io.specs.Reads.{Tells, TellsLonger}
use Rattle.gt_words.specs.declared.call.Call.{Call}
use Rattle.gt_words.specs.Calls.{call_of}
use Rattle.gt_script.specs.Outcome.{IsRefusedAt, IsTooLong}
use Rattle.gt_headers.specs.Headers.{Declares, IsFirstFault}
use Rattle.gt_front.specs.Texts.{File, Texts, files_in_order, IsTextOf}
use Rattle.gt_front.specs.Asks.{Calls, Reads}
use Rattle.gt_front.specs.declared.TheConstants.{SCRIPT_SYNTAX, SCRIPT_TOO_LONG}
use Rattle.gt_front.specs.declared.refusal.FileWhy.{FileWhy}
use Rattle.gt_front.specs.declared.refusal.FileWhy.TheVariants.{Missing, TooLong, Fault}
use Rattle.gt_front.specs.declared.refusal.Refusal.{Refusal}
use Rattle.gt_front.specs.declared.refusal.Refusal.TheVariants.{Words, Header, Script, NotBuilt, File as InFile}

-- a file is there with bytes within its limit, as far as the store tells
abbrev pub IsThere : Option Held → File → Type 0
IsThere told file = (bytes : List ℕ) × IsTextOf told file bytes

-- a file is refused: it is told absent, or told longer than its limit; of which file the reading failed is said by its reads (`StopsIn`)
abbrev pub IsRefusedFor : Option Held → File → FileWhy → Type 0
IsRefusedFor told file Missing = Tells told file.name None
IsRefusedFor told file TooLong = TellsLonger told file.name file.limit
IsRefusedFor told file Fault = Unit {0}

-- the file of the word at this place is refused, and each one before it in order is there
pub record IsRefusedFile (told : Option Held) (files : List File) (word : ℕ) (why : FileWhy) : Type 0 where
  pub before : List File
  pub file : File
  pub after : List File
  pub split : files ≡ before ++ file ∷ after
  pub are_there : AllByRecursion (IsThere told) before
  pub word_is : file.word ≡ word
  pub refused : IsRefusedFor told file why

-- a fault of a script: its first line that is refused, or too many commands, which has no line
abbrev pub IsScriptFault : List ℕ → (number line : ℕ) → Type 0
IsScriptFault text number line =
    ((number ≡ SCRIPT_SYNTAX) × IsRefusedAt text line) ⊎ ((number ≡ SCRIPT_TOO_LONG) × (line ≡ 0) × IsTooLong text)

-- what is refused first, where these are the texts, if the files are read; which commands are not built is told by the layer above
abbrev pub Comes : List (List ℕ) → Option Held → Texts → Refusal → Type 0
Comes words told texts Words = call_of words ≡ None
Comes words told texts (InFile word why) = (call : Call) × (name : List ℕ) × Calls words call name × IsRefusedFile told (files_in_order name call.headers) word why
Comes words told texts (Header fault) = (call : Call) × Reads words told call texts × IsFirstFault texts.headers fault
Comes words told texts NotBuilt = ⊥
Comes words told texts (Script number line) = (call : Call) × Reads words told call texts × ((program : Program) × Declares texts.headers program)
    × IsScriptFault texts.script number line
