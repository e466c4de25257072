-- What a script says: its lines, the first line that is refused, or that it is too long.
use Rattle.std.specs.Prelude.{◌≡◌, ℕ, suc, ◌≤◌, ◌<◌, List, [], ◌∷◌, ◌++◌, length, Result, Ok, Err}
use Rattle.gt_script.specs.declared.command.Line.{Line}
use Rattle.gt_script.specs.declared.stop.ScriptStop.{ScriptStop}
use Rattle.gt_script.specs.declared.stop.ScriptStop.TheVariants.{Memory, ScriptSyntax, ScriptTooLong}
use Rattle.gt_split.specs.Texts.{lines_of}
use Rattle.gt_script.specs.Language.{IsLine, IsPassedOver, IsRefused}

-- the texts say these lines in order; those that are passed over say none
pub data Say : List (List ℕ) → List Line → Type 0 where
  nothing : Say [] []
  passed_over : {texts : List (List ℕ)} {lines : List Line} (text : List ℕ) → IsPassedOver text → Say texts lines → Say (text ∷ texts) lines
  said : {texts : List (List ℕ)} {lines : List Line} (text : List ℕ) (line : Line) → IsLine text line → Say texts lines → Say (text ∷ texts) (line ∷ lines)

-- a script has at most 1,000,000 commands, and its lines say them
pub record Parsed (text : List ℕ) (lines : List Line) : Type 0 where
  pub few : length lines ≤ 1000000
  pub say : Say (lines_of text) lines

-- the first line that is refused has this number from 1, all lines counted, and at most 1,000,000 commands before it
pub record IsRefusedAt (text : List ℕ) (number : ℕ) : Type 0 where
  pub front : List (List ℕ)
  pub refused : List ℕ
  pub back : List (List ℕ)
  pub cut : lines_of text ≡ front ++ refused ∷ back
  pub lines : List Line
  pub say : Say front lines
  pub few : length lines ≤ 1000000
  pub is_refused : IsRefused refused
  pub number_is : number ≡ suc (length front)

-- more than 1,000,000 commands stand, and no line up to the 1,000,001st command is refused
pub record IsTooLong (text : List ℕ) : Type 0 where
  pub front : List (List ℕ)
  pub back : List (List ℕ)
  pub cut : lines_of text ≡ front ++ back
  pub lines : List Line
  pub say : Say front lines
  pub many : 1000000 < length lines

-- what a stop says of the text; out of memory says nothing
abbrev pub IsScriptStop : List ℕ → ScriptStop → Type 0
IsScriptStop text Memory = Unit {0}
IsScriptStop text (ScriptSyntax line) = IsRefusedAt text line
IsScriptStop text ScriptTooLong = IsTooLong text

-- the outcome of a script: its lines, or why it has none
abbrev pub IsOutcome : List ℕ → Result (List Line) ScriptStop → Type 0
IsOutcome text (Ok lines) = Parsed text lines
IsOutcome text (Err (ScriptSyntax line)) = IsRefusedAt text line
IsOutcome text (Err ScriptTooLong) = IsTooLong text
IsOutcome text (Err Memory) = ⊥

-- there is one
pub record HasOutcome (text : List ℕ) : Type 0 where
  pub outcome : Result (List Line) ScriptStop
  pub is : IsOutcome text outcome
