-- Reading a script line by line. Of these words the laws cite `line_at` alone.
use Rattle.std.specs.Prelude.{◌≡◌, ℕ, suc, ◌==◌, if◌then◌else◌, List, [], ◌∷◌, Option, Some, None, Result, Ok, Err}
use Rattle.std.specs.Option.{option_map}
use Rattle.std.specs.Str.{is_utf8}
use Rattle.std.specs.Str.Lines.{strip_carriage_return}
use Rattle.gt_script.specs.declared.command.Line.{Line}
use Rattle.gt_script.specs.declared.stop.ScriptStop.{ScriptStop}
use Rattle.gt_script.specs.declared.stop.ScriptStop.TheVariants.{Memory, ScriptSyntax, ScriptTooLong}
use Rattle.gt_split.specs.Texts.{◌>>=◌, lines_of}
use Rattle.gt_split.specs.Cutting.{words_of}
use Rattle.gt_script.specs.Commands.{line_of}
use Rattle.gt_script.specs.Language.{is_passed_over}

-- the line that a text is, where it is one
unfoldable pub spoken_at : List ℕ → Option Line
spoken_at text = do
  words ← words_of text
  line_of words

-- what a text without its carriage return says: None where it is refused, Some None where it is passed over
unfoldable pub said_at : List ℕ → Option (Option Line)
said_at text = if is_utf8 text then (if is_passed_over text then Some None else option_map Some (spoken_at text)) else None

-- one carriage return at a line's end is dropped
unfoldable pub line_at : List ℕ → Option (Option Line)
line_at text = said_at (strip_carriage_return text)

-- lines, or why there are none
abbrev pub Outcome : Type 0
Outcome = Result (List Line) ScriptStop

-- a line in front of those that follow
abbrev pub with_line : Line → Outcome → Outcome
with_line line (Ok lines) = Ok (line ∷ lines)
with_line line (Err stop) = Err stop

-- after as many lines and as many commands: what a text says, and then what follows it says
abbrev pub outcome_step : Option (Option Line) → ℕ → ℕ → Outcome → Outcome → Outcome
outcome_step None number count skipped added = Err (ScriptSyntax (suc number))
outcome_step (Some None) number count skipped added = skipped
outcome_step (Some (Some line)) number count skipped added = if count == 1000000 then Err ScriptTooLong else with_line line added

-- the texts of lines, after as many lines and as many commands
unfoldable pub outcome_from : ℕ → ℕ → List (List ℕ) → Outcome
outcome_from number count [] = Ok []
outcome_from number count (text ∷ texts) =
    outcome_step (line_at text) number count (outcome_from (suc number) count texts) (outcome_from (suc number) (suc count) texts)

-- the outcome of a script
abbrev pub outcome_of : List ℕ → Outcome
outcome_of text = outcome_from 0 0 (lines_of text)

-- what was returned is the outcome, unless memory ran out
abbrev pub IsOutcomeUnlessMemory : Outcome → Outcome → Type 0
IsOutcomeUnlessMemory (Err Memory) outcome = Unit {0}
IsOutcomeUnlessMemory result outcome = result ≡ outcome
