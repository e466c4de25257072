-- No promise: which paths of a table may lead to a leaf from the structures around it.
use Rattle.std.specs.Prelude.{◌≡◌, ℕ, List, Option, Some, Contains}
use Rattle.gt_starts.specs.Ways.{LeadsAlong}
use Rattle.gt_leaf.specs.Seeking.{PathStarts}
use Rattle.gt_leaf.specs.Unread.{Enclosing}

-- a path may lead from a structure around a leaf of this name to the leaf
abbrev pub LeadsFrom : PathStarts → List ℕ → Enclosing → Type 0
LeadsFrom starts last outer = (names : List (List ℕ)) × starts names outer.0.0 × LeadsAlong outer.1 last names

-- one may from some of these structures
abbrev pub SomeLead : PathStarts → List ℕ → List Enclosing → Type 0
SomeLead starts last structures = (outer : Enclosing) × Contains structures outer × LeadsFrom starts last outer

-- one may from the outermost structure, where there is one
abbrev pub TopLeads : PathStarts → List ℕ → Option Enclosing → Type 0
TopLeads starts last top = (outer : Enclosing) × (top ≡ Some outer) × LeadsFrom starts last outer
