-- Where the files are told, one refusal comes first, and no command is run after it.
use Rattle.std.proofs.Common.{◌≡◌, ℕ, ◌<◌, List, [], ◌∷◌, ◌++◌, length, All, refl, sym, ap, subst, ◌∙◌, Some, None, Option, Result, Ok, Err, inl, inr}
use Rattle.std.specs.Prelude.{IsSomeAnd}
use Rattle.std.specs.List.{AllByRecursion}
use Rattle.std.proofs.lemmas.List.Elements.{All-contains}
use Rattle.gt_types.specs.declared.faults.Fault.{Fault as HeaderFault}
use Rattle.gt_types.specs.declared.program.Program.{Program}
use Rattle.gt_io.specs.Held.{Held}
use Rattle.gt_script.specs.declared.command.Line.{Line}
use Rattle.gt_script.specs.declared.stop.ScriptStop.{ScriptStop}
use Rattle.gt_script.specs.declared.stop.ScriptStop.TheVariants.{ScriptSyntax, ScriptTooLong}
use Rattle.gt_script.specs.Outcome.{Parsed}
use Rattle.gt_words.specs.declared.call.Call.{Call}
use Rattle.gt_words.specs.declared.call.Script.{Script as ScriptWord}
use Rattle.gt_words.specs.declared.call.Script.TheVariants.{File as NamedFile, Generated}
use Rattle.gt_words.specs.Calls.{call_of}
use Rattle.gt_headers.specs.Headers.{Declares, IsFirstFault}
use Rattle.gt_front.specs.Texts.{File, Texts, AreTextsOf, files_in_order}
use Rattle.gt_front.specs.Asks.{Asks, AreTextsFor, Calls, Reads}
use Rattle.gt_front.specs.Comes.{Comes, IsThere, IsRefusedFile, IsRefusedFor, IsScriptFault}
use Rattle.gt_front.specs.declared.refusal.FileWhy.{FileWhy}
use Rattle.gt_front.specs.declared.refusal.FileWhy.TheVariants.{Missing, TooLong, Fault}
use Rattle.gt_front.specs.declared.refusal.Refusal.{Refusal}
use Rattle.gt_front.specs.declared.refusal.Refusal.TheVariants.{Words, Header, Script, NotBuilt, File as InFile}
use Rattle.gt_next.specs.Laws.{IsBuilt}
use Rattle.gt_run.specs.Comes.{HasUnbuilt, IsRefusedFirst, IsTold}
use Rattle.gt_run.specs.Complete.{AreHeld, AreThere}
use Rattle.gt_run.proofs.WellLemmas.{same_call, same_name, same_lines, same_texts, no_refusal, refused_file, OneOutcome, NoFault, no_script_fault}

-- texts that are told are held
held_of_told : (held : Held) (files : List File) (texts : List (List ℕ)) → AreTextsOf (Some held) files texts → AreHeld held files texts
held_of_told held [] [] t = t
held_of_told held [] (text ∷ texts) t = absurd t
held_of_told held (file ∷ files) [] t = absurd t
held_of_told held (file ∷ files) (text ∷ texts) t = (t.0.1 held refl, t.0.0, held_of_told held files texts t.1)

-- and so are those that are told for a script
there_of_told : (held : Held) (script : ScriptWord) (headers : List (List ℕ)) (texts : Texts) → AreTextsFor (Some held) script headers texts → AreThere script (Some held) headers texts
there_of_told held (NamedFile name) headers texts t = held_of_told held (files_in_order name headers) (texts.headers ++ texts.script ∷ []) t
there_of_told held (Generated word n) headers texts t = t

-- a file that was read is refused only for a fault
read_file : (held : Held) (file : File) (why : FileWhy) → IsThere (Some held) file → IsRefusedFor (Some held) file why → why ≡ Fault
read_file held file why read r = no_refusal held (Some held) refl file read.0 (read.1.1 held refl) read.1.0 why r

-- the first file that is refused is one
first_file : (held : Held) (before befores : List File) (file other : File) (after afters : List File) → before ++ file ∷ after ≡ befores ++ other ∷ afters
    → AllByRecursion (IsThere (Some held)) before → AllByRecursion (IsThere (Some held)) befores
    → (why reason : FileWhy) → IsRefusedFor (Some held) file why → IsRefusedFor (Some held) other reason → (why ≡ Fault → ⊥) → (reason ≡ Fault → ⊥) → file ≡ other
first_file held [] [] file other after afters e r s why reason h k n m = cc
first_file held [] (b ∷ befores) file other after afters e r s why reason h k n m =
    let same : b ≡ file = cc in
    absurd (n (read_file held file why (subst (IsThere (Some held)) same s.0) h))
first_file held (a ∷ before) [] file other after afters e r s why reason h k n m =
    let same : a ≡ other = cc in
    absurd (m (read_file held other reason (subst (IsThere (Some held)) same r.0) k))
first_file held (a ∷ before) (b ∷ befores) file other after afters e r s why reason h k n m =
    let rest : before ++ file ∷ after ≡ befores ++ other ∷ afters = cc in
    first_file held before befores file other after afters rest r.1 s.1 why reason h k n m

-- a file is not both absent and too long
absent_long : (held : Held) (file : File) → IsRefusedFor (Some held) file Missing → IsRefusedFor (Some held) file TooLong → ⊥
absent_long held file h k =
    let P : Option (List ℕ) → Type 0 = λ o. IsSomeAnd o (λ bytes. file.limit < length bytes) in
    subst P (h held refl) (k held refl)

-- why it is refused is one
same_why : (held : Held) (file : File) (why reason : FileWhy) → IsRefusedFor (Some held) file why → IsRefusedFor (Some held) file reason → (why ≡ Fault → ⊥) → (reason ≡ Fault → ⊥) → why ≡ reason
same_why held file Missing Missing h k n m = refl
same_why held file Missing TooLong h k n m = absurd (absent_long held file h k)
same_why held file TooLong Missing h k n m = absurd (absent_long held file k h)
same_why held file TooLong TooLong h k n m = refl
same_why held file Fault reason h k n m = absurd (n refl)
same_why held file Missing Fault h k n m = absurd (m refl)
same_why held file TooLong Fault h k n m = absurd (m refl)

-- the same place and the same why are the same refusal
same_refused : (word other : ℕ) (why reason : FileWhy) → word ≡ other → why ≡ reason → InFile word why ≡ InFile other reason
same_refused word other why reason e f = cc

-- so of the files that are refused one comes first
one_file : (held : Held) (files : List File) (word other : ℕ) (why reason : FileWhy) → IsRefusedFile (Some held) files word why → IsRefusedFile (Some held) files other reason
    → (why ≡ Fault → ⊥) → (reason ≡ Fault → ⊥) → InFile word why ≡ InFile other reason
one_file held files word other why reason r s n m =
    let same : r.file ≡ s.file = first_file held r.before s.before r.file s.file r.after s.after (sym r.split ∙ s.split) r.are_there s.are_there why reason r.refused s.refused n m in
    let R : File → Type 0 = λ file. IsRefusedFor (Some held) file why in
    same_refused word other why reason (sym r.word_is ∙ ap (λ (f : File). f.word) same ∙ s.word_is) (same_why held s.file why reason (subst R same r.refused) s.refused n m)

-- a refusal of a file that is told is not for a fault
no_fault_told : (word : ℕ) (why : FileWhy) → IsTold (InFile word why) → why ≡ Fault → ⊥
no_fault_told word Missing t e = absurd (cc)
no_fault_told word TooLong t e = absurd (cc)
no_fault_told word Fault t e = t

-- the names of two readings of the words are the same
same_files : (words : List (List ℕ)) (call other : Call) (name named : List ℕ) → Calls words call name → Calls words other named → files_in_order name call.headers ≡ files_in_order named other.headers
same_files words call other name named a b =
    let same : call ≡ other = same_call _ _ (sym a.called ∙ b.called) in
    let name_is : name ≡ named = same_name other.script _ _ (ap (λ (c : Call). c.script) (sym same) ∙ a.script) b.script in
    ap (λ n. files_in_order n call.headers) name_is ∙ ap (λ (c : Call). files_in_order named c.headers) same

-- the texts of these headers and this script
abbrev texts_of : List (List ℕ) → List ℕ → Texts
texts_of headers script = record { headers = headers; script = script }

-- texts with the same headers and the same script are the same
same_pair : (a b : Texts) → a.headers ≡ b.headers → a.script ≡ b.script → a ≡ b
same_pair a b e f = ap (λ headers. texts_of headers a.script) e ∙ ap (λ script. texts_of b.headers script) f

-- the texts that were read are the same
same_read : (words : List (List ℕ)) (held : Held) (call other : Call) (texts others : Texts) → Reads words (Some held) call texts → Reads words (Some held) other others → texts ≡ others
same_read words held call other texts others a b =
    let same : call ≡ other = same_call _ _ (sym a.called ∙ b.called) in
    let T : Call → Type 0 = λ c. AreTextsFor (Some held) c.script c.headers texts in
    let w = same_texts (Some held) other.script other.headers others texts (there_of_told held other.script other.headers others b.texts_are) (subst T same a.texts_are) in
    same_pair texts others w.0 w.1

-- what is refused once there are texts
data After (texts : Texts) : Refusal → Type 0 where
  header : (fault : HeaderFault) → IsFirstFault texts.headers fault → After texts (Header fault)
  script : (number line : ℕ) (program : Program) → Declares texts.headers program → IsScriptFault texts.script number line → After texts (Script number line)
  unbuilt : (program : Program) (lines : List Line) → Declares texts.headers program → Parsed texts.script lines → HasUnbuilt lines → After texts NotBuilt

-- what is refused, by how far the work came
data Place (words : List (List ℕ)) (held : Held) : Refusal → Type 0 where
  of_words : call_of words ≡ None → Place words held Words
  of_file : (call : Call) (name : List ℕ) (word : ℕ) (why : FileWhy) → Calls words call name → IsRefusedFile (Some held) (files_in_order name call.headers) word why → (why ≡ Fault → ⊥) → Place words held (InFile word why)
  of_texts : (call : Call) (texts : Texts) (refusal : Refusal) → Reads words (Some held) call texts → After texts refusal → Place words held refusal

-- each refusal up to the lines of the script has its place
place_comes : (words : List (List ℕ)) (held : Held) (texts : Texts) (refusal : Refusal) → Comes words (Some held) texts refusal → IsTold refusal → Place words held refusal
place_comes words held texts Words c t = of_words c
place_comes words held texts (InFile word why) c t = of_file c.0 c.1 word why c.2 c.3 (no_fault_told word why t)
place_comes words held texts (Header fault) c t = of_texts c.0 texts (Header fault) c.1 (header fault c.2)
place_comes words held texts NotBuilt c t = absurd c
place_comes words held texts (Script number line) c t = of_texts c.0 texts (Script number line) c.1 (script number line c.2.0 c.2.1 c.3)

-- and so has that of a command that is not built
place : (words : List (List ℕ)) (held : Held) (texts : Texts) (refusal : Refusal) → IsRefusedFirst words (Some held) texts refusal → IsTold refusal → Place words held refusal
place words held texts refusal (inl c) t = place_comes words held texts refusal c t
place words held texts refusal (inr u) t =
    let asks = u.4 in
    subst (Place words held) (sym u.0) (of_texts u.1 asks.texts NotBuilt asks.reads (unbuilt u.2 u.3 asks.declares asks.parsed u.6))

-- the same number and the same line are the same refusal
same_script : (number other line place : ℕ) → number ≡ other → line ≡ place → Script number line ≡ Script other place
same_script number other line place e f = cc

-- a stop at a line has one line
syntax_line : (line other : ℕ) → ◌≡◌ {A = Result (List Line) ScriptStop} (Err (ScriptSyntax line)) (Err (ScriptSyntax other)) → line ≡ other
syntax_line line other e = cc

-- a script has one fault
one_script : OneOutcome → (text : List ℕ) (number line other place : ℕ) → IsScriptFault text number line → IsScriptFault text other place → Script number line ≡ Script other place
one_script one text number line other place (inl h) (inl k) = same_script number other line place (h.0 ∙ sym k.0) (syntax_line line place (one text (Err (ScriptSyntax line)) (Err (ScriptSyntax place)) h.1 k.1))
one_script one text number line other place (inl h) (inr k) = let e = one text (Err (ScriptSyntax line)) (Err ScriptTooLong) h.1 k.2 in absurd (cc)
one_script one text number line other place (inr h) (inl k) = let e = one text (Err ScriptTooLong) (Err (ScriptSyntax place)) h.2 k.1 in absurd (cc)
one_script one text number line other place (inr h) (inr k) = same_script number other line place (h.0 ∙ sym k.0) (h.1 ∙ sym k.1)

-- headers have one first fault
abbrev OneFault : Type 0
OneFault = (texts : List (List ℕ)) (fault other : HeaderFault) → IsFirstFault texts fault → IsFirstFault texts other → fault ≡ other

-- words that ask for nothing have no call
no_call : (words : List (List ℕ)) (call : Call) → call_of words ≡ None → call_of words ≡ Some call → ⊥
no_call words call e f = absurd (cc)

-- files that were read are not refused
not_refused : (words : List (List ℕ)) (held : Held) (call other : Call) (name : List ℕ) (texts : Texts) (word : ℕ) (why : FileWhy)
    → Calls words call name → IsRefusedFile (Some held) (files_in_order name call.headers) word why → Reads words (Some held) other texts → why ≡ Fault
not_refused words held call other name texts word why calls r reads =
    let same : other ≡ call = same_call _ _ (sym reads.called ∙ calls.called) in
    let T : Call → Type 0 = λ c. AreTextsFor (Some held) c.script c.headers texts in
    let S : ScriptWord → Type 0 = λ script. AreTextsFor (Some held) script call.headers texts in
    refused_file held (Some held) refl (files_in_order name call.headers) (texts.headers ++ texts.script ∷ [])
    (held_of_told held (files_in_order name call.headers) (texts.headers ++ texts.script ∷ []) (subst S calls.script (subst T same reads.texts_are))) word why r

module _ (one : OneOutcome) (no_fault : NoFault) (one_fault : OneFault) where
  -- over the same texts one is refused
  one_after : (texts : Texts) (refusal other : Refusal) → After texts refusal → After texts other → refusal ≡ other
  one_after texts _ _ (header f h) (header g k) = ap Header (one_fault texts.headers f g h k)
  one_after texts _ _ (header f h) (script n l p d k) = absurd (no_fault texts.headers p f d h)
  one_after texts _ _ (header f h) (unbuilt p l d q k) = absurd (no_fault texts.headers p f d h)
  one_after texts _ _ (script n l p d h) (header g k) = absurd (no_fault texts.headers p g d k)
  one_after texts _ _ (script n l p d h) (script m j r s k) = one_script one texts.script n l m j h k
  one_after texts _ _ (script n l p d h) (unbuilt r j s q k) = absurd (no_script_fault one texts.script j n l q h)
  one_after texts _ _ (unbuilt p l d q h) (header g k) = absurd (no_fault texts.headers p g d k)
  one_after texts _ _ (unbuilt p l d q h) (script m j r s k) = absurd (no_script_fault one texts.script l m j q k)
  one_after texts _ _ (unbuilt p l d q h) (unbuilt r j s t k) = refl

  -- nor is anything, where the headers declare a program and the script has lines that are all built
  none_after : (texts : Texts) (refusal : Refusal) (program : Program) (lines : List Line) → Declares texts.headers program → Parsed texts.script lines → All (λ (line : Line). IsBuilt line.command) lines → After texts refusal → ⊥
  none_after texts _ program lines d q b (header f h) = no_fault texts.headers program f d h
  none_after texts _ program lines d q b (script n l p s h) = no_script_fault one texts.script lines n l q h
  none_after texts _ program lines d q b (unbuilt p l s t h) =
      let same : lines ≡ l = same_lines _ _ (one texts.script (Ok lines) (Ok l) q t) in
      let A : List Line → Type 0 = λ x. All (λ (line : Line). IsBuilt line.command) x in
      h.2 (All-contains (λ (line : Line). IsBuilt line.command) l h.0 (subst A same b) h.1)

  module _ (words : List (List ℕ)) (held : Held) where
    -- by how far the work came, one refusal is first
    one_place : (refusal other : Refusal) → Place words held refusal → Place words held other → refusal ≡ other
    one_place _ _ (of_words h) (of_words k) = refl
    one_place _ _ (of_words h) (of_file c n w y k r m) = absurd (no_call words c h k.called)
    one_place _ _ (of_words h) (of_texts c t x k b) = absurd (no_call words c h k.called)
    one_place _ _ (of_file d n w y k r m) (of_words h) = absurd (no_call words d h k.called)
    one_place _ _ (of_file d n w y k r m) (of_file c j v z i s o) =
        let F : List File → Type 0 = λ files. IsRefusedFile (Some held) files w y in
        one_file held (files_in_order j c.headers) w v y z (subst F (same_files words d c n j k i) r) s m o
    one_place _ _ (of_file d n w y k r m) (of_texts c t x i b) = absurd (m (not_refused words held d c n t w y k r i))
    one_place _ _ (of_texts d t x k b) (of_words h) = absurd (no_call words d h k.called)
    one_place _ _ (of_texts d t x k b) (of_file c n w y i r m) = absurd (m (not_refused words held c d n t w y i r k))
    one_place _ _ (of_texts d t x k b) (of_texts c s z i a) =
        let B : Texts → Type 0 = λ texts. After texts x in
        one_after s x z (subst B (same_read words held d c t s k i) b) a

    -- and none where the words and the files ask for lines that are all built
    none_place : (refusal : Refusal) (call : Call) (program : Program) (lines : List Line) → Asks words (Some held) call program lines → All (λ (line : Line). IsBuilt line.command) lines → Place words held refusal → ⊥
    none_place _ call program lines asks built (of_words h) = no_call words call h asks.reads.called
    none_place _ call program lines asks built (of_file d n w y k r m) = m (not_refused words held d call n asks.texts w y k r asks.reads)
    none_place _ call program lines asks built (of_texts d t x k b) =
        let B : Texts → Type 0 = λ texts. After texts x in
        none_after asks.texts x program lines asks.declares asks.parsed built (subst B (same_read words held d call t asks.texts k asks.reads) b)

    -- so what is refused first is one
    pub one_first : (texts others : Texts) (refusal other : Refusal) → IsRefusedFirst words (Some held) texts refusal → IsRefusedFirst words (Some held) others other → IsTold refusal → IsTold other → refusal ≡ other
    one_first texts others refusal other h k t u = one_place refusal other (place words held texts refusal h t) (place words held others other k u)

    -- and no line is run
    pub none_run : (texts : Texts) (refusal : Refusal) → IsRefusedFirst words (Some held) texts refusal → IsTold refusal
        → (call : Call) (program : Program) (lines : List Line) → Asks words (Some held) call program lines → All (λ (line : Line). IsBuilt line.command) lines → ⊥
    none_run texts refusal h t call program lines asks built = none_place refusal call program lines asks built (place words held texts refusal h t)
