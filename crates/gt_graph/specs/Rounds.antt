-- How many rounds the marking of a collection takes: a number that is left free between bounds.
use Rattle.std.specs.Prelude.{◌≡◌, ◌≢◌, ◌==◌, ◌≤◌, ◌⊎◌, ◌+◌, ℕ, Bool, true, false, cond, List, [], ◌∷◌, Option, Some, None, length, find, count_by, nat_eq, slice_get, All, Contains}
use Rattle.std.specs.List.{IsDistinct}
use Rattle.gt_types.specs.declared.types.Ty.{Ty}
use Rattle.gt_types.specs.declared.types.Ty.TheVariants as ty
use Rattle.gt_types.specs.declared.program.ChainKind.{ChainKind}
use Rattle.gt_types.specs.declared.program.ChainKind.TheVariants.{Next, Prev, Circular}
use Rattle.gt_types.specs.declared.program.Structure.{Structure}
use Rattle.gt_types.specs.declared.program.Program.{Program}
use Rattle.gt_tree.specs.Trees.{Tree, To, Row, And, End, edges}
use Rattle.gt_tree.specs.Blocks.{Kind, Nodes}
use Rattle.gt_tree.specs.Scopes.{Typed, member_of, field_of, ◌then◌}
use Rattle.gt_tree.specs.Fits.{static_edges}
use Rattle.gt_graph.specs.Objects.{Object, Graph}

-- a chain that leads on: not one that leads back
abbrev pub leads_on : ChainKind → Bool
leads_on Next = true
leads_on Prev = false
leads_on Circular = true

-- ---- where a chain leads

-- one step of a chain path, by the place of a field: in a union to its common structure, whatever member is active
abbrev pub step_at : Program → Structure → ℕ → Tree → Option Typed
step_at program s place tree = slice_get s.fields place then λ f. cond s.is_union (member_of program s f.ty tree) (field_of f tree place)

abbrev pub step_by : Program → Ty → ℕ → Tree → Option Typed
step_by program (ty.Node node desc) place tree = slice_get program.structures node.0 then λ s. step_at program s place tree
step_by program type place tree = None

-- the part of a value to which a chain path leads
abbrev pub chain_part : Program → List ℕ → Ty → Tree → Option Tree
chain_part program [] type tree = Some tree
chain_part program (place ∷ places) type tree = step_by program type place tree then λ next. chain_part program places next.type next.value

-- the one element of a block that has one
abbrev pub only_element : Tree → Option Tree
only_element (Row (And tree End)) = Some tree
only_element tree = None

-- the object that a pointer names
abbrev pub named_in : Tree → Option ℕ
named_in (To id) = Some id
named_in tree = None

abbrev pub chain_target_of : Program → Kind → Tree → Option ℕ
chain_target_of program (Nodes node) value =
    slice_get program.structures node.0 then λ s.
    find (λ c. leads_on c.kind) s.chains then λ c.
    only_element value then λ element.
    chain_part program c.path (ty.Node node None) element then λ part. named_in part
chain_target_of program kind value = None

-- the object that the chain pointer of a block of one structure names: the pointer of its first chain that leads on
abbrev pub chain_target : Program → Object → Option ℕ
chain_target program o = chain_target_of program o.kind o.value

-- ---- bounds

-- an edge of an object, other than that of its chain pointer, leads to another
abbrev pub LeadsAside : Program → Object → ℕ → Type 0
LeadsAside program o id = Contains (edges o.value) id × (chain_target program o ≡ Some id → 2 ≤ count_by (λ e. e == id) (edges o.value))

-- an object that is kept, by a root that is not deletable, as the value of a pair that stays, or by an edge other than a chain edge
abbrev pub IsNamedAside : Program → (old new : Graph) → List ℕ → ℕ → Type 0
IsNamedAside program old new values id =
    Contains (static_edges program.roots old.statics) id ⊎ (Contains values id ⊎ ((o : Object) × Contains new.objects o × LeadsAside program o id))

-- a kept object names another, which no root that is not deletable and no other kept object names, and which is no value of a pair that stays
pub record IsOnlyFrom (program : Program) (old new : Graph) (values : List ℕ) (from : Object) (id : ℕ) : Type 0 where
  pub leads : Contains (edges from.value) id
  pub no_root : ¬ Contains (static_edges program.roots old.statics) id
  pub no_value : ¬ Contains values id
  pub no_other : (o : Object) → Contains new.objects o → o.id ≢ from.id → ¬ Contains (edges o.value) id

-- The rounds of a collection that keeps these objects and the pairs with these values: one at least, and at most one more than there are
-- kept objects; one alone where at most 64 are named aside; two at least where one object names 66 that nothing else names.
pub record AreRounds (program : Program) (old new : Graph) (values : List ℕ) (rounds : ℕ) : Type 0 where
  pub at_least : 1 ≤ rounds
  pub at_most : rounds ≤ 1 + length new.objects
  pub one : (ids : List ℕ) → length ids ≤ 64 → ((o : Object) → Contains new.objects o → IsNamedAside program old new values o.id → Contains ids o.id) → rounds ≡ 1
  pub more : (from : Object) (ids : List ℕ) → Contains new.objects from → IsDistinct nat_eq ids → 66 ≤ length ids → All (IsOnlyFrom program old new values from) ids → 2 ≤ rounds
