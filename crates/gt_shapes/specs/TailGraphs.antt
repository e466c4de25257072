-- The graph along which tail types go: from each structure to the unions of which it is a member.
use Rattle.std.specs.Prelude.{ℕ, suc, Bool, ◌&&◌, not, if◌then◌else◌, List, [], ◌∷◌, ◌++◌, filter_map}
use Rattle.gt_drafts.specs.declared.draft.DraftStructure.{DraftStructure}
use Rattle.gt_drafts.specs.Shapes.{ends_in_tail, member_structure}

-- a struct that ends in an array with `length`
abbrev pub is_tail_struct : DraftStructure → Bool
is_tail_struct s = not s.is_union && ends_in_tail s.fields

-- the places of such structs, where the first structure has this place
unfoldable pub tail_structs : ℕ → List DraftStructure → List ℕ
tail_structs place [] = []
tail_structs place (s ∷ ss) = (if is_tail_struct s then place ∷ [] else []) ++ tail_structs (suc place) ss

-- the structures that are members of a union; a struct has none
abbrev pub members_of : DraftStructure → List ℕ
members_of s = if s.is_union then filter_map member_structure s.fields else []
