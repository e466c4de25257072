-- No promise: what the code decides of a value before it moves the parts.
use Rattle.std.specs.Prelude.{◌≡◌, ℕ, zero, suc, ◌+◌, ◌<◌, ◌⊎◌, Result, Ok, Err, List, [], ◌∷◌, ◌++◌, Option, Some, None, map, slice_get, Vec}
use Rattle.std.specs.Global.{Global}
use Rattle.gt_tree.specs.Trees.{Tree, Null, Rec, Alt, Row, Trees, End, And, tree_at, without_pointers}
use Rattle.gt_value.specs.declared.values.Value.{Value}
use Rattle.gt_value.specs.declared.values.ValueFail.{ValueFail}
use Rattle.gt_value.specs.declared.values.ValueFail.TheVariants.{Shape, Memory}
use Rattle.gt_value.specs.Values.{trees, tree_of}
use Rattle.gt_types.specs.declared.program.Structure.{Structure}
use Rattle.gt_types.specs.declared.program.Program.{Program}
use Rattle.gt_unions.specs.Commons.{common_of}
use Rattle.gt_assign.specs.Pasts.{Past}
use Rattle.gt_assign.specs.Turning.{Maker, alt_made, begun_by}
use Rattle.gt_assign.specs.declared.changes.Change.{Change}
use Rattle.gt_assign.specs.declared.changes.Change.TheVariants.{Kept}
use Rattle.gt_assign.specs.declared.changes.Change.TheOpen as open_part
use Rattle.gt_assign.specs.declared.changes.Change.TheOpen.{Change-F}
use Rattle.gt_assign.specs.declared.changes.Change.TheFolds.{fold-Change}
use Rattle.gt_assign.specs.declared.changes.Parts.{Parts}

-- each part becomes what its change says; a change after the last part makes one of null
abbrev pub all_changed : List (Tree → Tree) → Trees → Trees
all_changed [] trees = End
all_changed (change ∷ changes) End = And (change Null) (all_changed changes End)
all_changed (change ∷ changes) (And tree trees) = And (change tree) (all_changed changes trees)

-- so many parts stay, and then each becomes what its change says
abbrev pub parts_changed : ℕ → List (Tree → Tree) → Trees → Trees
parts_changed zero changes trees = all_changed changes trees
parts_changed (suc kept) changes (And tree trees) = And tree (parts_changed kept changes trees)
parts_changed (suc kept) changes End = all_changed changes End

-- a part, or null where there is none
abbrev pub or_null : Option Tree → Tree
or_null (Some tree) = tree
or_null None = Null

abbrev pub change_step : Change-F (Tree → Tree) → Tree → Tree
change_step open_part.Kept tree = tree
change_step (open_part.New value) tree = tree_of value
change_step (open_part.Parts kept changes) (Rec trees) = Rec (parts_changed kept changes.items trees)
change_step (open_part.Parts kept changes) (Row trees) = Row (parts_changed kept changes.items trees)
change_step (open_part.Parts kept changes) tree = tree
change_step open_part.Bare tree = without_pointers tree
change_step (open_part.There member change) (Alt old tree) = Alt member (change tree)
change_step (open_part.There member change) tree = tree
change_step (open_part.OfFirst change) (Rec trees) = change (or_null (tree_at trees 0))
change_step (open_part.OfFirst change) tree = tree
change_step (open_part.Begins first rest) tree = Rec (And (first tree) (trees (map tree_of rest.items)))

-- what a value becomes
abbrev pub changed : Change → Tree → Tree
changed = fold-Change (Tree → Tree) change_step

-- what a call gives that decides what becomes of a value
abbrev pub Decides : Result Change ValueFail → Tree → Option Tree → Type 0
Decides (Ok change) old tree = tree ≡ Some (changed change old)
Decides (Err Shape) old tree = tree ≡ None
Decides (Err Memory) old tree = Unit {0}

-- what a call gives that makes values, one after another
abbrev pub GivesAll : Result (Vec Value Global) ValueFail → Option Trees → Type 0
GivesAll (Ok values) all = all ≡ Some (trees (map tree_of values.items))
GivesAll (Err Shape) all = all ≡ None
GivesAll (Err Memory) all = Unit {0}

-- one more part stays, or becomes what its change says
abbrev pub IsNext : Parts → Change → Parts → Type 0
IsNext old change new =
    ((new.len ≡ old.len) × (old.kept < old.len) × (change ≡ Kept) × (old.changes.items ≡ []) × (new.kept ≡ old.kept + 1) × (new.changes.items ≡ []))
    ⊎ ((new.len ≡ old.len) × (new.kept ≡ old.kept) × (new.changes.items ≡ old.changes.items ++ change ∷ []))

-- what a union becomes of which the member at a place becomes active, where this is there by another
abbrev pub turned_made : Program → Maker → Past → Structure → Option ℕ → ℕ → Tree → Option Tree
turned_made program make past s member place tree = alt_made make past place (slice_get s.fields place) (begun_by program s member tree (common_of program s))
