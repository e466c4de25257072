-- Where a structure or a root stands whose type is too large.
use Rattle.std.specs.Prelude.{ℕ, zero, suc, ◌<◌, Bool, true, false, List, [], ◌∷◌, ◌++◌, length, Option, Some, None, Result, Ok, Err, slice_get}
use Rattle.std.specs.Option.{IfSome, option_to_list}
use Rattle.gt_types.specs.declared.faults.Fault.{Fault}
use Rattle.gt_items.specs.declared.items.Item.{Item}
use Rattle.gt_items.specs.declared.items.Item.TheVariants as item
use Rattle.gt_items.specs.declared.items.Items.{Items}
use Rattle.gt_resolve.specs.declared.TheConstants.{TYPE_TOO_LARGE}
use Rattle.gt_resolve.specs.Drafts.{items_from}

-- the fault of a structure, at its tag, or of a root, at its name
abbrev pub fault_item : (tags : Bool) → ℕ → Item → Option Fault
fault_item true file (item.Structure s) = Some (record { number = TYPE_TOO_LARGE; file = file; at = s.tag.at })
fault_item false file (item.Root r) = Some (record { number = TYPE_TOO_LARGE; file = file; at = r.name.at })
fault_item tags file one = None

-- the faults of all structures, or of all roots, in order
abbrev pub faults_from : (tags : Bool) → ℕ → List Items → List Fault
faults_from tags file files = items_from (fault_item tags) file files

-- the one at a place, where a place is given
abbrev pub chosen : List Fault → Option ℕ → Option Fault
chosen faults None = None
chosen faults (Some place) = slice_get faults place

-- the faults of the structure and of the root that are given
abbrev pub placed : List Items → (structure root : Option ℕ) → List Fault
placed files structure root = option_to_list (chosen (faults_from true 1 files) structure) ++ option_to_list (chosen (faults_from false 1 files) root)

-- the place that is given is there
abbrev pub IsThere : List Fault → Option ℕ → Type 0
IsThere faults place = IfSome place (λ n. n < length faults)

-- the item at a place, or by how many places the list is too short
abbrev pub item_or_rest : List Fault → ℕ → Result Fault ℕ
item_or_rest [] place = Err place
item_or_rest (fault ∷ faults) zero = Ok fault
item_or_rest (fault ∷ faults) (suc place) = item_or_rest faults place

-- one item more, where there is one
abbrev pub one_item : Option Fault → ℕ → Result Fault ℕ
one_item None place = Err place
one_item (Some fault) zero = Ok fault
one_item (Some fault) (suc place) = Err place
