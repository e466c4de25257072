-- Which structures contain a structure.
use Rattle.std.specs.Prelude.{◌≡◌, ◌⊎◌, ℕ, nat_eq, List, [], Option, Some, None, Any, Contains}
use Rattle.indexmap.specs.IndexMap.{get}
use Rattle.gt_types.specs.declared.types.TypeId.{TypeId}
use Rattle.gt_types.specs.declared.program.Field.{Field}
use Rattle.gt_types.specs.declared.program.Program.{Program}
use Rattle.gt_types.specs.Contains.{ContainsStructure, held_by}
use Rattle.gt_paths.specs.declared.containers.Containers.{Containers}
use Rattle.gt_paths.specs.Numbers.{numbered}

abbrev pub or_none : Option (List ℕ) → List ℕ
or_none (Some list) = list
or_none None = []

-- the numbers that are listed for a structure
abbrev pub containers_of : Containers → ℕ → List ℕ
containers_of containers id = or_none (get nat_eq containers.lists id)

-- for each number those of the structures are listed that contain its structure, and no others
pub record AreContainersOf (program : Program) (containers : Containers) : Type 0 where
  pub listed : (outer inner : TypeId) → ContainsStructure program outer inner → Contains (containers_of containers inner.0) outer.0
  pub only : (outer inner : ℕ) → Contains (containers_of containers inner) outer → ContainsStructure program (numbered outer) (numbered inner)

-- numbers with one more, if it is not among them
pub record AddsNumber (ids : List ℕ) (id : ℕ) (made : List ℕ) : Type 0 where
  pub added : Contains made id
  pub kept : (x : ℕ) → Contains ids x → Contains made x
  pub only : (x : ℕ) → Contains made x → Contains ids x ⊎ (x ≡ id)

-- one more number is listed for a structure
pub record Adds (old : Containers) (inner outer : ℕ) (new : Containers) : Type 0 where
  pub added : Contains (containers_of new inner) outer
  pub kept : (id x : ℕ) → Contains (containers_of old id) x → Contains (containers_of new id) x
  pub only : (id x : ℕ) → Contains (containers_of new id) x → Contains (containers_of old id) x ⊎ ((id ≡ inner) × (x ≡ outer))

-- the number of a structure is listed for each that its fields hold
pub record AddsHeld (old : Containers) (outer : ℕ) (fields : List Field) (new : Containers) : Type 0 where
  pub added : (inner : TypeId) → Any (λ f. held_by f.ty ≡ Some inner) fields → Contains (containers_of new inner.0) outer
  pub kept : (id x : ℕ) → Contains (containers_of old id) x → Contains (containers_of new id) x
  pub only : (id x : ℕ) → Contains (containers_of new id) x → Contains (containers_of old id) x ⊎ ((x ≡ outer) × Any (λ f. held_by f.ty ≡ Some (numbered id)) fields)
