-- Where all is well, nothing is refused.
use Rattle.std.proofs.Common.{◌≡◌, ℕ, ◌<◌, ◌≤◌, ◌⊎◌, List, [], ◌∷◌, ◌++◌, length, All, refl, sym, ap, subst, ◌∙◌, Some, None, Option, Result, Ok, Err, inl, inr, arith, Bool, true, false, cond}
use Rattle.std.specs.Prelude.{IsSomeAnd}
use Rattle.std.specs.List.{list_any}
use Rattle.std.proofs.lemmas.List.Elements.{All-contains}
use Rattle.gt_types.specs.declared.faults.Fault.{Fault as HeaderFault}
use Rattle.gt_types.specs.declared.program.Program.{Program}
use Rattle.gt_space.specs.Range.{Range}
use Rattle.gt_io.specs.Held.{Held, contents}
use Rattle.gt_script.specs.declared.command.Line.{Line}
use Rattle.gt_script.specs.declared.stop.ScriptStop.{ScriptStop}
use Rattle.gt_script.specs.declared.stop.ScriptStop.TheVariants.{ScriptSyntax, ScriptTooLong}
use Rattle.gt_script.specs.Outcome.{Parsed, IsOutcome}
use Rattle.gt_words.specs.declared.call.Call.{Call}
use Rattle.gt_words.specs.declared.call.Script.{Script as ScriptWord}
use Rattle.gt_words.specs.declared.call.Script.TheVariants.{File as NamedFile, Generated}
use Rattle.gt_headers.specs.Headers.{Declares, IsFirstFault}
use Rattle.gt_front.specs.Texts.{File, Texts, AreTextsOf, files_in_order}
use Rattle.gt_front.specs.Asks.{Asks, AreTextsFor, Calls, Reads}
use Rattle.gt_front.specs.Comes.{Comes, IsRefusedFile, IsRefusedFor, IsScriptFault}
use Rattle.gt_front.specs.Order.{Extent}
use Rattle.gt_front.specs.declared.refusal.FileWhy.{FileWhy}
use Rattle.gt_front.specs.declared.refusal.FileWhy.TheVariants.{Missing, TooLong, Fault}
use Rattle.gt_front.specs.declared.refusal.Refusal.{Refusal}
use Rattle.gt_front.specs.declared.refusal.Refusal.TheVariants.{Words, Header, Script, NotBuilt, File as InFile}
use Rattle.gt_next.specs.Texts.{is_refusal}
use Rattle.gt_next.specs.Laws.{IsBuilt}
use Rattle.gt_run.specs.Comes.{HasUnbuilt, IsRefusedFirst}
use Rattle.gt_run.specs.Complete.{AreHeld, AreThere, IsWell}
use Rattle.gt_run.specs.Outputs.{Output}
use Rattle.gt_run.specs.Ended.{Ended, Ends, status_of, refusal_of}
use Rattle.gt_run.specs.declared.ending.Ending.{Ending}
use Rattle.gt_run.specs.declared.ending.Ending.TheVariants.{Finished, Refused, SinkFailed, NoMemory}
use Rattle.gt_run.specs.declared.outcome.Outcome.{Outcome}

-- the reading of some file failed
abbrev IsReadFault : Refusal → Type 0
IsReadFault refusal = (word : ℕ) × (refusal ≡ InFile word Fault)

pub same_call : (a b : Call) → Some a ≡ Some b → a ≡ b
same_call a b e = cc

same_text : (a b : List ℕ) → Some a ≡ Some b → a ≡ b
same_text a b e = cc

pub same_name : (script : ScriptWord) (a b : List ℕ) → script ≡ NamedFile a → script ≡ NamedFile b → a ≡ b
same_name script a b e f = cc

pub same_lines : (a b : List Line) → ◌≡◌ {A = Result (List Line) ScriptStop} (Ok a) (Ok b) → a ≡ b
same_lines a b e = cc

-- each of the files is held
held_one : (held : Held) (before : List File) (file : File) (after : List File) (texts : List (List ℕ)) → AreHeld held (before ++ file ∷ after) texts
    → (text : List ℕ) × (contents held file.name ≡ Some text) × (length text ≤ file.limit)
held_one held [] file after [] h = absurd h
held_one held [] file after (text ∷ texts) h = (text, h.0, h.1)
held_one held (f ∷ before) file after [] h = absurd h
held_one held (f ∷ before) file after (text ∷ texts) h = held_one held before file after texts h.2

-- the texts that are told are those that are held
held_texts : (held : Held) (told : Option Held) → told ≡ Some held → (files : List File) (texts others : List (List ℕ)) → AreHeld held files texts → AreTextsOf told files others → others ≡ texts
held_texts held told e [] [] [] h t = refl
held_texts held told e [] [] (o ∷ others) h t = absurd t
held_texts held told e [] (text ∷ texts) others h t = absurd h
held_texts held told e (file ∷ files) [] others h t = absurd h
held_texts held told e (file ∷ files) (text ∷ texts) [] h t = absurd t
held_texts held told e (file ∷ files) (text ∷ texts) (o ∷ others) h t =
    let here : o ≡ text = same_text o text (sym (t.0.1 held e) ∙ h.0) in
    let rest : others ≡ texts = held_texts held told e files texts others h.2 t.1 in
    cc

-- a list with one more at its end gives both
parts : (xs ys : List (List ℕ)) (x y : List ℕ) → xs ++ x ∷ [] ≡ ys ++ y ∷ [] → (xs ≡ ys) × (x ≡ y)
parts [] [] x y e = (refl, cc)
parts [] (b ∷ []) x y e = absurd (cc)
parts [] (b ∷ c ∷ ys) x y e = absurd (cc)
parts (a ∷ []) [] x y e = absurd (cc)
parts (a ∷ c ∷ xs) [] x y e = absurd (cc)
parts (a ∷ xs) (b ∷ ys) x y e =
    let rest : xs ++ x ∷ [] ≡ ys ++ y ∷ [] = cc in
    let head : a ≡ b = cc in
    let w = parts xs ys x y rest in
    let tail : xs ≡ ys = w.0 in
    (cc, w.1)

-- the texts that were read for a script are those that are there
pub same_texts : (told : Option Held) (script : ScriptWord) (headers : List (List ℕ)) (texts others : Texts)
    → AreThere script told headers texts → AreTextsFor told script headers others → (others.headers ≡ texts.headers) × (others.script ≡ texts.script)
same_texts (Some held) (NamedFile name) headers texts others there read =
    parts others.headers texts.headers others.script texts.script (held_texts held (Some held) refl (files_in_order name headers) _ _ there read)
same_texts None (NamedFile name) headers texts others there read = absurd there
same_texts told (Generated word n) headers texts others there read =
    let same : others ≡ texts = read ∙ sym there in (ap (λ (t : Texts). t.headers) same, ap (λ (t : Texts). t.script) same)

-- a file that is held within its limit is refused only for a fault
pub no_refusal : (held : Held) (told : Option Held) → told ≡ Some held → (file : File) (text : List ℕ) → contents held file.name ≡ Some text → length text ≤ file.limit
    → (why : FileWhy) → IsRefusedFor told file why → why ≡ Fault
no_refusal held told e file text at within Missing h = let none : None ≡ Some text = sym (h held e) ∙ at in absurd (cc)
no_refusal held told e file text at within TooLong h =
    let P : Option (List ℕ) → Type 0 = λ o. IsSomeAnd o (λ bytes. file.limit < length bytes) in
    let longer : file.limit < length text = subst P at (h held e) in
    absurd (omega arith)
no_refusal held told e file text at within Fault h = refl

-- so that of files that are held each refusal is a fault
pub refused_file : (held : Held) (told : Option Held) → told ≡ Some held → (files : List File) (texts : List (List ℕ)) → AreHeld held files texts
    → (word : ℕ) (why : FileWhy) → IsRefusedFile told files word why → why ≡ Fault
refused_file held told e files texts there word why r =
    let H : List File → Type 0 = λ xs. AreHeld held xs texts in
    let one = held_one held r.before r.file r.after texts (subst H r.split there) in
    no_refusal held told e r.file one.0 one.1 one.2 why r.refused

-- and so it is with the files of a script that is in a file
pub refused_named : (told : Option Held) (name : List ℕ) (headers : List (List ℕ)) (texts : Texts) → AreThere (NamedFile name) told headers texts
    → (word : ℕ) (why : FileWhy) → IsRefusedFile told (files_in_order name headers) word why → why ≡ Fault
refused_named (Some held) name headers texts there word why r = refused_file held (Some held) refl (files_in_order name headers) (texts.headers ++ texts.script ∷ []) there word why r
refused_named None name headers texts there word why r = absurd there

-- each script has one outcome
abbrev pub OneOutcome : Type 0
OneOutcome = (text : List ℕ) (outcome other : Result (List Line) ScriptStop) → IsOutcome text outcome → IsOutcome text other → outcome ≡ other

-- headers that declare a program have no fault
abbrev pub NoFault : Type 0
NoFault = (texts : List (List ℕ)) (program : Program) (fault : HeaderFault) → Declares texts program → IsFirstFault texts fault → ⊥

-- a script with lines has no fault
pub no_script_fault : OneOutcome → (text : List ℕ) (lines : List Line) (number line : ℕ) → Parsed text lines → IsScriptFault text number line → ⊥
no_script_fault one text lines number line parsed (inl h) = let e = one text (Ok lines) (Err (ScriptSyntax line)) parsed h.1 in absurd (cc)
no_script_fault one text lines number line parsed (inr h) = let e = one text (Ok lines) (Err ScriptTooLong) parsed h.2 in absurd (cc)

module _ (one : OneOutcome) (no_fault : NoFault) (words : List (List ℕ)) (told : Option Held) (well : IsWell words told) where
  -- the texts that were read are those that are there
  read_texts : (call : Call) (texts : Texts) → Reads words told call texts → (texts.headers ≡ well.texts.headers) × (texts.script ≡ well.texts.script)
  read_texts call texts reads =
      let same : call ≡ well.call = same_call _ _ (sym reads.called ∙ well.called) in
      let T : Call → Type 0 = λ c. AreTextsFor told c.script c.headers texts in
      same_texts told well.call.script well.call.headers well.texts texts well.there (subst T same reads.texts_are)

  -- so the headers that were read declare the program
  declares : (call : Call) (texts : Texts) → Reads words told call texts → Declares texts.headers well.program
  declares call texts reads =
      let D : List (List ℕ) → Type 0 = λ headers. Declares headers well.program in
      subst D (sym (read_texts call texts reads).0) well.declares

  -- and the script that was read has the lines
  parsed : (call : Call) (texts : Texts) → Reads words told call texts → Parsed texts.script well.lines
  parsed call texts reads =
      let P : List ℕ → Type 0 = λ script. Parsed script well.lines in
      subst P (sym (read_texts call texts reads).1) well.parsed

  -- all of its commands are built
  no_unbuilt : (call : Call) (program : Program) (lines : List Line) → Asks words told call program lines → HasUnbuilt lines → ⊥
  no_unbuilt call program lines asks has =
      let same : lines ≡ well.lines = same_lines _ _ (one asks.texts.script (Ok lines) (Ok well.lines) asks.parsed (parsed call asks.texts asks.reads)) in
      let A : List Line → Type 0 = λ x. All (λ (line : Line). IsBuilt line.command) x in
      has.2 (All-contains (λ (line : Line). IsBuilt line.command) lines has.0 (subst A (sym same) well.built) has.1)

  -- the files that the words name are those that are held
  called_file : (call : Call) (name : List ℕ) → Calls words call name → (word : ℕ) (why : FileWhy) → IsRefusedFile told (files_in_order name call.headers) word why → why ≡ Fault
  called_file call name calls word why r =
      let same : well.call ≡ call = same_call _ _ (sym well.called ∙ calls.called) in
      let T : Call → Type 0 = λ c. AreThere c.script told c.headers well.texts in
      let S : ScriptWord → Type 0 = λ script. AreThere script told call.headers well.texts in
      refused_named told name call.headers well.texts (subst S calls.script (subst T same well.there)) word why r

  -- up to the lines of the script, a refusal is one for a fault of a file
  Comes-well : (texts : Texts) (refusal : Refusal) → Comes words told texts refusal → IsReadFault refusal
  Comes-well texts Words comes = let none : None ≡ Some well.call = sym comes ∙ well.called in absurd (cc)
  Comes-well texts (InFile word why) comes = (word, ap (InFile word) (called_file comes.0 comes.1 comes.2 word why comes.3))
  Comes-well texts (Header fault) comes = absurd (no_fault texts.headers well.program fault (declares comes.0 texts comes.1) comes.2)
  Comes-well texts NotBuilt comes = absurd comes
  Comes-well texts (Script number line) comes = absurd (no_script_fault one texts.script well.lines number line (parsed comes.0 texts comes.1) comes.3)

  -- and so it is after them
  pub refused_well : (texts : Texts) (refusal : Refusal) → IsRefusedFirst words told texts refusal → IsReadFault refusal
  refused_well texts refusal (inl comes) = Comes-well texts refusal comes
  refused_well texts refusal (inr unbuilt) = absurd (no_unbuilt unbuilt.1 unbuilt.2 unbuilt.3 unbuilt.4 unbuilt.6)

one_or_none : (b : Bool) (n : ℕ) → n ≡ cond b 1 0 → (n ≡ 0) ⊎ (n ≡ 1) ⊎ (n ≡ 9)
one_or_none true n e = inr (inl e)
one_or_none false n e = inl e

-- where nothing is refused and nothing outside failed, the script is run to its end, or memory runs out
pub Ends-well : (words : List (List ℕ)) (told : Option Held) (read : Option Extent) (out : Output) (outcome : Outcome) (range : Range) (FileRose SinkRose : Type 0)
    → ((texts : Texts) (refusal : Refusal) → IsRefusedFirst words told texts refusal → IsReadFault refusal) → (FileRose → ⊥) → (SinkRose → ⊥)
    → ((word : ℕ) → outcome.refusal ≡ Some (InFile word Fault) → FileRose) → (outcome.status ≡ 4 → SinkRose)
    → Ends words told read out outcome range → (outcome.status ≡ 0) ⊎ (outcome.status ≡ 1) ⊎ (outcome.status ≡ 9)
Ends-well words told read out outcome range FileRose SinkRose nothing no_file no_sink file_cause sink_cause ends =
    ends_well ends.ending ends.status ends.refusal ends.ended where
      ends_well : (ending : Ending) → outcome.status ≡ status_of ending outcome.answers.items → outcome.refusal ≡ refusal_of ending
          → Ended words told read out ending outcome.answers.items range → (outcome.status ≡ 0) ⊎ (outcome.status ≡ 1) ⊎ (outcome.status ≡ 9)
      ends_well Finished s r h = one_or_none (list_any is_refusal outcome.answers.items) outcome.status s
      ends_well (Refused refusal) s r h =
          let w = nothing h.2 refusal h.3 in
          absurd (no_file (file_cause w.0 (r ∙ ap (λ x. Some x) w.1)))
      ends_well SinkFailed s r h = absurd (no_sink (sink_cause s))
      ends_well NoMemory s r h = inr (inr s)
