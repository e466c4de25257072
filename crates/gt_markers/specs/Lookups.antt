-- Constants and roots that are numbers, by name.
use Rattle.std.specs.Prelude.{◌≡◌, ℕ, ◌+◌, ℤ, if◌then◌else◌, List, [], ◌∷◌}
use Rattle.gt_names.specs.declared.tables.Entry.{Entry}
use Rattle.gt_names.specs.Entries.{value_in, with_value}
use Rattle.gt_drafts.specs.declared.draft.Draft.{Draft}
use Rattle.gt_drafts.specs.declared.draft.DraftConstant.{DraftConstant}
use Rattle.gt_drafts.specs.declared.draft.DraftRoot.{DraftRoot}
use Rattle.gt_markers.specs.declared.lookups.Lookup.{Lookup}
use Rattle.gt_markers.specs.Expressions.{constant_of, scalar_root, is_scalar}

-- a lookup has the constants and the roots of a draft that are numbers
pub record IsLookupOf (draft : Draft) (lookup : Lookup) : Type 0 where
  pub constants : (word : List ℕ) → value_in lookup.constants word ≡ constant_of draft word
  pub roots : (word : List ℕ) → value_in lookup.roots word ≡ scalar_root draft word

-- ---- no promise: how it is made

-- constants after others
unfoldable pub constants_from : List (Entry ℤ) → List DraftConstant → List (Entry ℤ)
constants_from entries [] = entries
constants_from entries (c ∷ cs) = constants_from (with_value entries c.name c.value) cs

-- a root at a place, where it is a number
abbrev pub with_root : List (Entry ℕ) → ℕ → DraftRoot → List (Entry ℕ)
with_root entries place r = if is_scalar r then with_value entries r.name.word place else entries

-- roots after others, of which the first has this place
unfoldable pub roots_from : List (Entry ℕ) → ℕ → List DraftRoot → List (Entry ℕ)
roots_from entries place [] = entries
roots_from entries place (r ∷ rs) = roots_from (with_root entries place r) (place + 1) rs
