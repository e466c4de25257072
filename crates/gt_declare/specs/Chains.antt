-- No promise: the chains of all structures.
use Rattle.std.specs.Prelude.{ℕ, ◌+◌, List, [], ◌∷◌, filter_map}
use Rattle.gt_types.specs.declared.program.Chain.{Chain}
use Rattle.gt_types.specs.declared.program.Structure.{Structure}
use Rattle.gt_items.specs.declared.items.RawOption.{RawOption}
use Rattle.gt_drafts.specs.declared.draft.DraftStructure.{DraftStructure}
use Rattle.gt_markers.specs.Typing.{node}
use Rattle.gt_declare.specs.Programs.{chain_of}

-- the chains of the structure at a place
abbrev pub chains_of : List Structure → ℕ → List RawOption → List Chain
chains_of structures place options = filter_map (chain_of structures (node place)) options

-- the chains of each structure, of which the first is at this place
unfoldable pub chains_from : List Structure → ℕ → List DraftStructure → List (List Chain)
chains_from structures place [] = []
chains_from structures place (d ∷ ds) = chains_of structures place d.options ∷ chains_from structures (1 + place) ds

-- structures with these chains
unfoldable pub joined : List (List Chain) → List Structure → List Structure
joined (chains ∷ others) (s ∷ ss) = record s { chains = chains } ∷ joined others ss
joined chains structures = []
