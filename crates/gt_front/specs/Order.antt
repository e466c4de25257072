-- In which order the files that a call names are read, and what was read of them. What one read is, the store says (`Files::reads`).
use Rattle.std.specs.Prelude.{◌≡◌, ℕ, ◌⊎◌, List, [], ◌∷◌, ◌++◌, Option, Some, None, Result, Ok, Err}
use Rattle.gt_io.specs.declared.fail.ReadFail.{ReadFail}
use Rattle.gt_io.specs.declared.fail.ReadFail.TheVariants as fail
use Rattle.gt_words.specs.declared.call.Call.{Call}
use Rattle.gt_words.specs.declared.call.Script.{Script as ScriptWord}
use Rattle.gt_words.specs.declared.call.Script.TheVariants.{File as NamedFile, Generated}
use Rattle.gt_words.specs.Calls.{call_of}
use Rattle.gt_front.specs.Texts.{File, Texts, files_in_order}
use Rattle.gt_front.specs.Asks.{Calls}
use Rattle.gt_front.specs.declared.refusal.FileWhy.{FileWhy}
use Rattle.gt_front.specs.declared.refusal.FileWhy.TheVariants.{Missing, TooLong, Fault}
use Rattle.gt_front.specs.declared.refusal.Refusal.{Refusal}
use Rattle.gt_front.specs.declared.refusal.Refusal.TheVariants.{Words, Header, Script, NotBuilt, File as InFile}

-- the answer of a read for which a file is refused
abbrev pub answer_for : FileWhy → Result (Option (List ℕ)) ReadFail
answer_for Missing = Ok None
answer_for TooLong = Err fail.TooLong
answer_for Fault = Err fail.Failed

-- How far the files of a call were read: all of them, which gave these texts; up to one that is refused; or not at all.
pub data Extent : Type 0 where
  whole : Texts → Extent
  upto : (word : ℕ) → FileWhy → Extent
  nothing : Extent

-- how far they are read before a refusal: not at all, where the words are refused; up to the file that is refused; and else all of them, since
-- texts are judged once all are there
abbrev pub extent_for : Texts → Refusal → Extent
extent_for texts Words = nothing
extent_for texts (InFile word why) = upto word why
extent_for texts (Header fault) = whole texts
extent_for texts NotBuilt = whole texts
extent_for texts (Script number line) = whole texts

module _ {F : Type 0} (reads : F → List ℕ → ℕ → Result (Option (List ℕ)) ReadFail → F → Type 0) where
  -- the files were read, each once and in this order, and the reads gave these texts: the first from this store, and each other from the
  -- store that the read before it left
  abbrev pub AreRead : F → List File → List (List ℕ) → F → Type 0
  AreRead store [] [] last = last ≡ store
  AreRead store (file ∷ files) (text ∷ texts) last = (next : F) × reads store file.name file.limit (Ok (Some text)) next × AreRead next files texts last
  AreRead store files texts last = ⊥

  -- each file before that of this word was read, and then its file was read and answered so; nothing else was read
  pub record StopsAt (store : F) (files : List File) (word : ℕ) (why : FileWhy) (last : F) : Type 0 where
    pub before : List File
    pub file : File
    pub after : List File
    pub split : files ≡ before ++ file ∷ after
    pub word_is : file.word ≡ word
    pub texts : List (List ℕ)
    pub between : F
    pub are_read : AreRead store before texts between
    pub stops : reads between file.name file.limit (answer_for why) last

  -- what is read for a script with its headers: its files in order, which give these texts; or nothing where it is generated
  abbrev pub IsReadAs : ScriptWord → (headers : List (List ℕ)) → Texts → F → F → Type 0
  IsReadAs (NamedFile name) headers texts store last = AreRead store (files_in_order name headers) (texts.headers ++ texts.script ∷ []) last
  IsReadAs (Generated word n) headers texts store last = last ≡ store

  -- the same, whatever the texts are
  abbrev pub IsReadFor : ScriptWord → (headers : List (List ℕ)) → F → F → Type 0
  IsReadFor script headers store last = (texts : Texts) × IsReadAs script headers texts store last

  -- the words name files, and the file of this word was read and answered so, after those before it were read
  pub record StopsIn (words : List (List ℕ)) (store : F) (word : ℕ) (why : FileWhy) (last : F) : Type 0 where
    pub call : Call
    pub name : List ℕ
    pub calls : Calls words call name
    pub stops : StopsAt store (files_in_order name call.headers) word why last

  -- the same where its reading failed
  abbrev pub FailsIn : (words : List (List ℕ)) → F → (word : ℕ) → F → Type 0
  FailsIn words store word last = StopsIn words store word Fault last

  -- the files of the words were read so far
  abbrev pub HasRead : List (List ℕ) → F → Extent → F → Type 0
  HasRead words store (whole texts) last = (call : Call) × (call_of words ≡ Some call) × IsReadAs call.script call.headers texts store last
  HasRead words store (upto word why) last = StopsIn words store word why last
  HasRead words store nothing last = last ≡ store

-- the words name no file: they ask for nothing, or for a generated script
abbrev pub AskNoFile : List (List ℕ) → Type 0
AskNoFile words = (call_of words ≡ None) ⊎ ((call : Call) × (word : List ℕ) × (n : ℕ) × (call_of words ≡ Some call) × (call.script ≡ Generated word n))
