-- No promise: the structures above one, as the lists of containers tell.
use Rattle.std.specs.Prelude.{◌≡◌, ◌⊎◌, ◌↔◌, ℕ, List, Option, Some, Contains, slice_get}
use Rattle.std.specs.declared.alloc.Global.{Global}
use Rattle.std.specs.declared.rc.Rc.{Rc}
use Rattle.gt_sets.specs.Sets.{IsIn}
use Rattle.gt_paths.specs.declared.containers.Containers.{Containers}
use Rattle.gt_paths.specs.Containers.{containers_of}

-- a structure is above another: it is this one itself, or above one that is listed as its container
pub data IsAncestor (containers : Containers) : ℕ → ℕ → Type 0 where
  itself : {node : ℕ} → IsAncestor containers node node
  above : {node next outer : ℕ} → Contains (containers_of containers node) next → IsAncestor containers next outer → IsAncestor containers node outer

-- these are the structures above one
abbrev pub AreAncestors : Containers → ℕ → List ℕ → Type 0
AreAncestors containers node set = (i : ℕ) → IsIn set i ↔ IsAncestor containers node i

-- these are the structure itself, and those above some of its containers
abbrev pub AreAbove : Containers → ℕ → List ℕ → List ℕ → Type 0
AreAbove containers node some set = (i : ℕ) → IsIn set i ↔ ((i ≡ node) ⊎ ((next : ℕ) × Contains some next × IsAncestor containers next i))

-- each set that is known of a structure is that of those above it
abbrev pub TellAncestors : Containers → List (Option (Rc (List ℕ) Global)) → Type 0
TellAncestors containers known = (node : ℕ) (set : Rc (List ℕ) Global) → slice_get known node ≡ Some (Some set) → AreAncestors containers node set.value

-- the sets of the first structures are those of the ones above each
abbrev pub AreSets : Containers → List (Rc (List ℕ) Global) → Type 0
AreSets containers sets = (node : ℕ) (set : Rc (List ℕ) Global) → slice_get sets node ≡ Some set → AreAncestors containers node set.value
