-- When the program has to run a script to its end.
use Rattle.std.specs.Prelude.{◌≡◌, ℕ, ◌≤◌, List, [], ◌∷◌, ◌++◌, length, Option, Some, None, All}
use Rattle.gt_types.specs.declared.program.Program.{Program}
use Rattle.gt_io.specs.Held.{Held, contents}
use Rattle.gt_script.specs.declared.command.Line.{Line}
use Rattle.gt_script.specs.Outcome.{Parsed}
use Rattle.gt_words.specs.declared.call.Call.{Call}
use Rattle.gt_words.specs.declared.call.Script.{Script as ScriptWord}
use Rattle.gt_words.specs.declared.call.Script.TheVariants.{File as NamedFile, Generated}
use Rattle.gt_words.specs.Calls.{call_of}
use Rattle.gt_headers.specs.Headers.{Declares}
use Rattle.gt_front.specs.Texts.{File, Texts, files_in_order}
use Rattle.gt_front.specs.Asks.{generated_texts}
use Rattle.gt_next.specs.Laws.{IsBuilt}

-- each file is there with its text, which is within its limit
abbrev pub AreHeld : Held → List File → List (List ℕ) → Type 0
AreHeld held [] [] = Unit {0}
AreHeld held (file ∷ files) (text ∷ texts) = (contents held file.name ≡ Some text) × (length text ≤ file.limit) × AreHeld held files texts
AreHeld held files texts = ⊥

-- the texts of a script and its headers: each of their files is told to be there with its text; or the script is generated with its header,
-- and no file is asked for
abbrev pub AreThere : ScriptWord → Option Held → (headers : List (List ℕ)) → Texts → Type 0
AreThere (NamedFile name) (Some held) headers texts = AreHeld held (files_in_order name headers) (texts.headers ++ texts.script ∷ [])
AreThere (NamedFile name) None headers texts = ⊥
AreThere (Generated word n) told headers texts = texts ≡ generated_texts n

-- the words ask for a script with its headers, each file that they name is told to be there and within its limit, the headers declare a
-- program, and the script has lines, of which each command is built
pub record IsWell (words : List (List ℕ)) (told : Option Held) : Type 0 where
  pub call : Call
  pub called : call_of words ≡ Some call
  pub texts : Texts
  pub there : AreThere call.script told call.headers texts
  pub program : Program
  pub declares : Declares texts.headers program
  pub lines : List Line
  pub parsed : Parsed texts.script lines
  pub built : All (λ line. IsBuilt line.command) lines
