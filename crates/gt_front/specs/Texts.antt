-- The files that a call names, in the order in which they are read, and their texts.
use Rattle.std.specs.Prelude.{ℕ, ◌+◌, ◌≤◌, List, [], ◌∷◌, ◌++◌, length, Option, Some}
use Rattle.gt_io.specs.Held.{Held}
use Rattle.gt_io.specs.Reads.{Tells}
use Rattle.gt_front.specs.declared.TheConstants.{MAX_HEADER_BYTES, MAX_SCRIPT_BYTES}

-- a file: its place among the words, 0 for the script and i for the i-th header, its name, and its limit in bytes
pub record File : Type 0 where
  pub word : ℕ
  pub name : List ℕ
  pub limit : ℕ

-- the headers from this place on
abbrev pub headers_from : ℕ → List (List ℕ) → List File
headers_from word [] = []
headers_from word (name ∷ names) = record { word = word; name = name; limit = MAX_HEADER_BYTES } ∷ headers_from (word + 1) names

-- the file of the script
abbrev pub script_file : List ℕ → File
script_file name = record { word = 0; name = name; limit = MAX_SCRIPT_BYTES }

-- the headers in order, and then the script
abbrev pub files_in_order : (script : List ℕ) → (headers : List (List ℕ)) → List File
files_in_order script headers = headers_from 1 headers ++ script_file script ∷ []

-- the bytes of a file are within its limit, and those that are told
abbrev pub IsTextOf : Option Held → File → List ℕ → Type 0
IsTextOf told file bytes = (length bytes ≤ file.limit) × Tells told file.name (Some bytes)

-- each file has its text
abbrev pub AreTextsOf : Option Held → List File → List (List ℕ) → Type 0
AreTextsOf told [] [] = Unit {0}
AreTextsOf told (file ∷ files) (text ∷ texts) = IsTextOf told file text × AreTextsOf told files texts
AreTextsOf told files texts = ⊥

-- the bytes of the headers in order, and those of the script
pub record Texts : Type 0 where
  pub headers : List (List ℕ)
  pub script : List ℕ

-- the texts of the headers and of the script
abbrev pub AreTexts : Option Held → (script : List ℕ) → (headers : List (List ℕ)) → Texts → Type 0
AreTexts told script headers texts = AreTextsOf told (files_in_order script headers) (texts.headers ++ texts.script ∷ [])
