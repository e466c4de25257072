-- The ranges of what words ask for, which the layer above relies on.
use Rattle.std.specs.Prelude.{◌≡◌, ℕ, ◌≤◌, List, [], length}
use Rattle.gt_words.specs.declared.call.Settings.{Settings}
use Rattle.gt_words.specs.declared.call.Script.{Script}
use Rattle.gt_words.specs.declared.call.Script.TheVariants.{File, Generated}
use Rattle.gt_words.specs.declared.call.Call.{Call}

-- each setting is in its range
pub record AreInRange (settings : Settings) : Type 0 where
  pub enough_pages : 16 ≤ settings.pages
  pub not_too_many_pages : settings.pages ≤ 16384
  pub min_expand : settings.min_expand ≤ 1000
  pub min_heapsize : settings.min_heapsize ≤ 1048576

-- a file has from 1 to 64 headers, and a generated script none, and at most 100000 nodes
abbrev pub HasHeaders : Script → List (List ℕ) → Type 0
HasHeaders (File name) headers = (1 ≤ length headers) × (length headers ≤ 64)
HasHeaders (Generated word n) headers = (n ≤ 100000) × (headers ≡ [])

-- both hold of a call
pub record IsInRange (call : Call) : Type 0 where
  pub settings : AreInRange call.settings
  pub headers : HasHeaders call.script call.headers
