-- The text of each answer.
use Rattle.std.specs.Prelude.{ℕ, ◌==◌, Bool, true, false, not, ◌&&◌, if◌then◌else◌, List, [], ◌∷◌, ◌++◌, codes, length, filter, sum, map}
use Rattle.gt_digits.specs.Digits.{decimal, hexadecimal}
use Rattle.gt_script.specs.declared.command.Line.{Line}
use Rattle.gt_show.specs.Shown.{number_text}
use Rattle.gt_pages.specs.Ledger.{Block, Ledger, sizes}
use Rattle.gt_next.specs.declared.answer.Answer.{Answer}
use Rattle.gt_next.specs.declared.answer.Answer.TheVariants.{Done, Made, Number, Null, Ref, Shown, Skipped, Collected, Heap, Stats, Tables, Refused}
use Rattle.gt_next.specs.declared.answer.Why.{Why}
use Rattle.gt_next.specs.declared.answer.Why.TheVariants.{Unbound, NoType, NoField, WrongType, OutOfRange, BadIndex, Inactive, Shape, TooLarge, Full, NullStep, NoCache, TooManyVars}

-- the number and the name of a refusal, with its numbers
abbrev pub why_text : Why → List ℕ
why_text Unbound = codes "F1 Unbound"
why_text NoType = codes "F2 NoType"
why_text NoField = codes "F3 NoField"
why_text WrongType = codes "F4 WrongType"
why_text OutOfRange = codes "F5 OutOfRange"
why_text BadIndex = codes "F6 BadIndex"
why_text Inactive = codes "F7 Inactive"
why_text Shape = codes "F8 Shape"
why_text TooLarge = codes "F9 TooLarge"
why_text (Full need) = codes "F10 Full " ++ decimal need
why_text NullStep = codes "F11 NullStep"
why_text NoCache = codes "F12 NoCache"
why_text TooManyVars = codes "F17 TooManyVars"

-- the text of an answer, without the newline at its end; the lines of `tables` have theirs
abbrev pub answer_text : Answer → List ℕ
answer_text Done = codes "ok"
answer_text (Made address size) = codes "made 0x" ++ hexadecimal address ++ codes " " ++ decimal size
answer_text (Number n) = number_text n
answer_text Null = codes "null"
answer_text (Ref address) = codes "ref 0x" ++ hexadecimal address
answer_text (Shown text) = text
answer_text Skipped = codes "skipped"
answer_text (Collected kept freed dropped) =
    codes "collected kept " ++ decimal kept ++ codes " freed " ++ decimal freed ++ codes " dropped " ++ decimal dropped
answer_text (Heap text) = text
answer_text (Tables text) = text
answer_text (Stats allocated last threshold image rounds) =
    codes "allocated " ++ decimal allocated ++ 10 ∷ [] ++ codes "last " ++ decimal last ++ 10 ∷ [] ++ codes "threshold " ++ decimal threshold ++ 10 ∷ []
    ++ codes "image " ++ decimal image ++ 10 ∷ [] ++ codes "rounds " ++ decimal rounds
answer_text (Refused why) = codes "error " ++ why_text why

-- an answer is a refusal
abbrev pub is_refusal : Answer → Bool
is_refusal (Refused why) = true
is_refusal answer = false

-- what ends an answer: a newline (10), but where its lines have theirs
abbrev pub end_of : Answer → List ℕ
end_of (Tables text) = []
end_of answer = 10 ∷ []

-- the text of a line's answer: its lines, each with a newline at its end; where the line is quiet, nothing but a refusal
abbrev pub text_of : Line → Answer → List ℕ
text_of line answer = if line.quiet && not (is_refusal answer) then [] else answer_text answer ++ end_of answer

-- the texts of the answers to lines, one after another
abbrev pub texts_of : List Line → List Answer → List ℕ
texts_of (line ∷ lines) (answer ∷ answers) = text_of line answer ++ texts_of lines answers
texts_of lines answers = []

-- ---- the answer to `heap`

-- the bytes of all blocks together
abbrev pub allocated_of : Ledger → ℕ
allocated_of ledger = sum (map (λ b. b.size) ledger.blocks)

-- how many blocks have this size
abbrev pub count_of_size : ℕ → List Block → ℕ
count_of_size size blocks = length (filter (λ b. b.size == size) blocks)

-- the line of a size that so many objects have, with its newline; no line where none has it
abbrev pub size_line : (size count : ℕ) → List ℕ
size_line size count = if count == 0 then [] else codes "size " ++ decimal size ++ codes " objects " ++ decimal count ++ 10 ∷ []

-- the lines of these sizes, in order
unfoldable pub size_lines : List Block → List ℕ → List ℕ
size_lines blocks [] = []
size_lines blocks (size ∷ rest) = size_line size (count_of_size size blocks) ++ size_lines blocks rest

-- how many objects there are of each size, rising; then how many there are, and the bytes of their blocks
abbrev pub heap_text : Ledger → List ℕ
heap_text ledger =
    size_lines ledger.blocks sizes ++ codes "objects " ++ decimal (length ledger.blocks) ++ codes " bytes " ++ decimal (allocated_of ledger)
