-- Which calls of a sink are made for the answers to lines.
use Rattle.std.specs.Prelude.{◌≡◌, ◌≢◌, ◌⊎◌, ℕ, List, [], ◌∷◌, ◌++◌, length, Some, Result, Ok, Err, slice_get}
use Rattle.gt_io.specs.declared.fail.WriteFail.{WriteFail}
use Rattle.gt_io.specs.declared.fail.WriteFail.TheVariants.{Failed, Memory}
use Rattle.gt_script.specs.declared.command.Line.{Line}
use Rattle.gt_next.specs.declared.answer.Answer.{Answer}
use Rattle.gt_next.specs.Texts.{text_of}
use Rattle.gt_lines.specs.declared.lines.LinesEnd.{LinesEnd}
use Rattle.gt_lines.specs.declared.lines.LinesEnd.TheVariants.{Finished, SinkFailed, NoMemory}
use Rattle.gt_lines.specs.declared.lines.LineStop.{LineStop}
use Rattle.gt_lines.specs.declared.lines.LineStop.TheVariants.{NoAnswer, NoText, NotWritten}

-- what is known of one write of a sink: the sink before, the bytes, the answer, and the sink after
abbrev pub WriteOf : Type 0 → Type 1
WriteOf K = K → List ℕ → Result (Unit {0}) WriteFail → K → Type 0

-- a text is one call where it has a byte, and else none
abbrev pub one_called : List ℕ → List (List ℕ)
one_called [] = []
one_called (c ∷ cs) = (c ∷ cs) ∷ []

-- the texts of these answers to the first of the lines that are not empty, in order
abbrev pub called : List Line → List Answer → List (List ℕ)
called (line ∷ lines) (answer ∷ answers) = one_called (text_of line answer) ++ called lines answers
called lines answers = []

-- these texts were written, each by one call, and no other call was made
abbrev pub AreWritten : {K : Type 0} → WriteOf K → K → List (List ℕ) → K → Type 0
AreWritten write old [] new = new ≡ old
AreWritten {K} write old (text ∷ texts) new = (mid : K) × write old text (Ok tt) mid × AreWritten write mid texts new

-- a text with a byte was not written: its one call failed for this reason
abbrev pub IsNotWritten : {K : Type 0} → WriteOf K → WriteFail → K → List ℕ → K → Type 0
IsNotWritten write fail old text new = (text ≢ []) × write old text (Err fail) new

-- the texts of all answers but the last were written, and the call for that of the last one failed for this reason
pub record LastFails {K : Type 0} (write : WriteOf K) (fail : WriteFail) (old : K) (lines : List Line) (answers : List Answer) (new : K) : Type 0 where
  pub before : List Answer
  pub answer : Answer
  pub cut : answers ≡ before ++ answer ∷ []
  pub line : Line
  pub at : slice_get lines (length before) ≡ Some line
  pub mid : K
  pub written : AreWritten write old (called lines before) mid
  pub fails : IsNotWritten write fail mid (text_of line answer) new

-- the texts of all answers but the last were written, and no call was made for that of the last one
pub record LastUncalled {K : Type 0} (write : WriteOf K) (old : K) (lines : List Line) (answers : List Answer) (new : K) : Type 0 where
  pub before : List Answer
  pub answer : Answer
  pub cut : answers ≡ before ++ answer ∷ []
  pub written : AreWritten write old (called lines before) new

-- the calls for the answers to lines, by how these end; out of memory, the last text was written, or its call failed, or it has no call
abbrev pub SinkCalls : {K : Type 0} → WriteOf K → K → List Line → List Answer → K → LinesEnd → Type 0
SinkCalls write old lines answers new Finished = AreWritten write old (called lines answers) new
SinkCalls write old lines answers new SinkFailed = LastFails write Failed old lines answers new
SinkCalls write old lines answers new NoMemory =
    AreWritten write old (called lines answers) new ⊎ LastFails write Memory old lines answers new ⊎ LastUncalled write old lines answers new

-- the call for one more line, by what came of it
abbrev pub LineCalls : {K : Type 0} → WriteOf K → K → Line → (before now : List Answer) → K → Result (Unit {0}) LineStop → Type 0
LineCalls write old line before now new (Ok done) = (answer : Answer) × (now ≡ before ++ answer ∷ []) × AreWritten write old (one_called (text_of line answer)) new
LineCalls write old line before now new (Err NoAnswer) = (now ≡ before) × (new ≡ old)
LineCalls write old line before now new (Err NoText) =
    (answer : Answer) × (now ≡ before ++ answer ∷ []) × ((new ≡ old) ⊎ IsNotWritten write Memory old (text_of line answer) new)
LineCalls write old line before now new (Err NotWritten) = (answer : Answer) × (now ≡ before ++ answer ∷ []) × IsNotWritten write Failed old (text_of line answer) new
