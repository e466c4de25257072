-- What words and told files ask for.
use Rattle.std.specs.Prelude.{◌≡◌, ℕ, List, [], ◌∷◌, Option, Some}
use Rattle.gt_types.specs.declared.program.Program.{Program}
use Rattle.gt_io.specs.Held.{Held}
use Rattle.gt_words.specs.declared.call.Call.{Call}
use Rattle.gt_words.specs.declared.call.Script.{Script as ScriptWord}
use Rattle.gt_words.specs.declared.call.Script.TheVariants.{File, Generated}
use Rattle.gt_words.specs.Calls.{call_of}
use Rattle.gt_script.specs.declared.command.Line.{Line}
use Rattle.gt_script.specs.Outcome.{Parsed}
use Rattle.gt_headers.specs.Headers.{Declares}
use Rattle.gt_generated.specs.Generated.{header_text, script_text}
use Rattle.gt_front.specs.Texts.{Texts, AreTexts}

-- the words ask for a script in the file of this name
pub record Calls (words : List (List ℕ)) (call : Call) (name : List ℕ) : Type 0 where
  pub called : call_of words ≡ Some call
  pub script : call.script ≡ File name

-- the header and the script that `:N` stands for
abbrev pub generated_texts : ℕ → Texts
generated_texts n = record { headers = header_text ∷ []; script = script_text n }

-- the texts of a script and its headers: each of the files holds its text, where files are told, or the script is generated with its header
abbrev pub AreTextsFor : Option Held → ScriptWord → (headers : List (List ℕ)) → Texts → Type 0
AreTextsFor told (File name) headers texts = AreTexts told name headers texts
AreTextsFor told (Generated word n) headers texts = texts ≡ generated_texts n

-- the words ask for a script with its headers, and these are their texts, as `AreTextsFor` says it; what was read of a store is said by
-- `IsReadAs`
pub record Reads (words : List (List ℕ)) (told : Option Held) (call : Call) (texts : Texts) : Type 0 where
  pub called : call_of words ≡ Some call
  pub texts_are : AreTextsFor told call.script call.headers texts

-- the words and the files ask for the lines of the script under the program that the headers declare
pub record Asks (words : List (List ℕ)) (told : Option Held) (call : Call) (program : Program) (lines : List Line) : Type 0 where
  pub texts : Texts
  pub reads : Reads words told call texts
  pub declares : Declares texts.headers program
  pub parsed : Parsed texts.script lines
