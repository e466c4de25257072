-- The one line that is written where no command is run.
use Rattle.std.specs.Prelude.{◌≡◌, ℕ, zero, suc, ◌-◌, ◌==◌, if◌then◌else◌, List, [], ◌∷◌, ◌++◌, Option, Some, codes, slice_get, encode_utf8_all}
use Rattle.gt_types.specs.declared.faults.Fault.{Fault as HeaderFault}
use Rattle.gt_digits.specs.Digits.{decimal}
use Rattle.gt_words.specs.declared.call.Call.{Call}
use Rattle.gt_words.specs.declared.call.Script.{Script as ScriptWord}
use Rattle.gt_words.specs.declared.call.Script.TheVariants.{File, Generated}
use Rattle.gt_words.specs.Calls.{call_of}
use Rattle.gt_front.specs.Places.{line_of, column_of}
use Rattle.gt_front.specs.Texts.{Texts}
use Rattle.gt_front.specs.declared.TheConstants.{SCRIPT_SYNTAX}
use Rattle.gt_front.specs.declared.refusal.FileWhy.{FileWhy}
use Rattle.gt_front.specs.declared.refusal.FileWhy.TheVariants.{Missing, TooLong, Fault}
use Rattle.gt_front.specs.declared.refusal.Refusal.{Refusal}
use Rattle.gt_front.specs.declared.refusal.Refusal.TheVariants.{Words, Header, Script, NotBuilt, File as InFile}

-- the word of the script as given
abbrev pub script_word : ScriptWord → List ℕ
script_word (File name) = name
script_word (Generated word n) = word

-- the word of a header as given, counted from 0; a generated script has no such words, and its own stands for them
abbrev pub header_word : ScriptWord → (headers : List (List ℕ)) → ℕ → Option (List ℕ)
header_word (File name) headers i = slice_get headers i
header_word (Generated word n) headers i = Some word

-- the word at a place as given: the script's at 0, and the i-th header's at i
abbrev pub word_at : Call → ℕ → Option (List ℕ)
word_at call zero = Some (script_word call.script)
word_at call (suc i) = header_word call.script call.headers i

-- what is said of a file that was not read
abbrev pub why_text : FileWhy → List ℕ
why_text Missing = codes ": missing"
why_text TooLong = codes ": too long"
why_text Fault = codes ": read fault"

-- the name of a fault of a header, by its number
unfoldable pub fault_name : ℕ → List ℕ
fault_name number =
    if number == 1 then codes "BadUtf8"
    else if number == 2 then codes "OpenComment"
    else if number == 3 then codes "OpenString"
    else if number == 4 then codes "BadNumber"
    else if number == 5 then codes "BadExpr"
    else if number == 6 then codes "ExprTooLarge"
    else if number == 7 then codes "Unclosed"
    else if number == 8 then codes "Unexpected"
    else if number == 9 then codes "Unsupported"
    else if number == 10 then codes "BadMarkerPlace"
    else if number == 11 then codes "Redefined"
    else if number == 12 then codes "Undefined"
    else if number == 13 then codes "ByValueCycle"
    else if number == 14 then codes "BadBound"
    else if number == 15 then codes "TooMany"
    else if number == 16 then codes "UnknownOption"
    else if number == 17 then codes "WrongPlace"
    else if number == 18 then codes "MissingDesc"
    else if number == 19 then codes "DuplicateTag"
    else if number == 20 then codes "BadPath"
    else if number == 21 then codes "ChainNotOwnPointer"
    else if number == 22 then codes "UnknownHook"
    else if number == 23 then codes "CacheShape"
    else if number == 24 then codes "TypeTooLarge"
    else []

-- what is said of a fault: where it stands in its text, and its number and name
abbrev pub fault_text : (line column number : ℕ) → List ℕ
fault_text line column number = codes ":" ++ decimal line ++ codes ":" ++ decimal column ++ codes ": fault " ++ decimal number ++ codes " " ++ fault_name number

-- what is said of a fault of the script
abbrev pub script_text : (number line : ℕ) → List ℕ
script_text number line =
    if number == SCRIPT_SYNTAX then codes ":" ++ decimal line ++ codes ": fault 25 ScriptSyntax" else codes ": fault 26 ScriptTooLong"

-- the line begins with the word at this place of what the words ask for, and this stands after it
abbrev pub IsLineOf : List (List ℕ) → ℕ → List ℕ → List ℕ → Type 0
IsLineOf words word said line =
    (call : Call) × (name : List ℕ) × (call_of words ≡ Some call) × (word_at call word ≡ Some name) × (line ≡ encode_utf8_all name ++ said ++ 10 ∷ [])

-- the line of a header's fault, whose place is by the text of that header
abbrev pub IsFaultLine : List (List ℕ) → Texts → HeaderFault → List ℕ → Type 0
IsFaultLine words texts fault line = (text : List ℕ) × (slice_get texts.headers (fault.file - 1) ≡ Some text)
    × IsLineOf words fault.file (fault_text (line_of text fault.at) (column_of text fault.at) fault.number) line

-- the line of a refusal: what it is of and why; each line ends with a newline (10)
abbrev pub IsRefusalLine : List (List ℕ) → Texts → Refusal → List ℕ → Type 0
IsRefusalLine words texts Words line = line ≡ codes "words: refused" ++ 10 ∷ []
IsRefusalLine words texts (InFile word why) line = IsLineOf words word (why_text why) line
IsRefusalLine words texts NotBuilt line = IsLineOf words 0 (codes ": not built") line
IsRefusalLine words texts (Header fault) line = IsFaultLine words texts fault line
IsRefusalLine words texts (Script number at) line = IsLineOf words 0 (script_text number at) line
