-- How the walks of structures and of pointers to them begin.
use Rattle.std.specs.Prelude.{◌≡◌, ℕ, ◌+◌, Bool, true, false, List, [], ◌∷◌, Option, Some, None, find, slice_get}
use Rattle.gt_types.specs.declared.types.TypeId.{TypeId}
use Rattle.gt_types.specs.declared.types.Ty.{Ty}
use Rattle.gt_types.specs.declared.types.Ty.TheVariants as ty
use Rattle.gt_types.specs.declared.program.ChainKind.{ChainKind}
use Rattle.gt_types.specs.declared.program.ChainKind.TheVariants.{Next, Prev, Circular}
use Rattle.gt_types.specs.declared.program.Structure.{Structure}
use Rattle.gt_types.specs.declared.program.Program.{Program}
use Rattle.gt_types.specs.Contains.{HasStructure, itself}
use Rattle.gt_types.specs.Paths.{MayStand}
use Rattle.gt_layout.specs.declared.planes.Plane.{Plane}
use Rattle.gt_tree.specs.Blocks.{Pointers}
use Rattle.gt_tree.specs.Scopes.{◌then◌}
use Rattle.gt_walk.specs.declared.rows.Count.TheVariants.{Fixed}
use Rattle.gt_walk.specs.declared.rows.WalkRow.{WalkRow}
use Rattle.gt_walk.specs.declared.rows.WalkRow.TheVariants.{Note, Ptr}
use Rattle.gt_walk.specs.declared.tables.Tables.{Tables}
use Rattle.gt_walk.specs.Rows.{rows_of}
use Rattle.gt_edges.specs.Numbers.{walk_of}

-- ---- chains

-- a field of a structure by its place: its type, and the byte at which it begins
pub record PlacedField : Type 0 where
  pub type : Ty
  pub offset : ℕ

abbrev pub placed : Ty → ℕ → PlacedField
placed type offset = record { type = type; offset = offset }

abbrev pub field_at : Program → List Plane → TypeId → ℕ → Option PlacedField
field_at program planes node place =
    slice_get program.structures node.0 then λ s.
    slice_get planes node.0 then λ plane. slice_get s.fields place then λ f. slice_get plane.fields place then λ spot. Some (placed f.ty spot.offset)

-- the byte to which the places of fields lead from the begin of a value of a type
abbrev pub offset_to : Program → List Plane → Ty → List ℕ → Option ℕ
offset_to program planes type [] = Some 0
offset_to program planes type (place ∷ places) =
    itself type then λ node. field_at program planes node place then λ f. offset_to program planes f.type places then λ rest. Some (f.offset + rest)

-- the chains that the marker may follow: not those that lead back
abbrev pub leads_on : ChainKind → Bool
leads_on Next = true
leads_on Prev = false
leads_on Circular = true

-- the offset of the chain pointer of a structure, which is that of its first such chain
abbrev pub chain_offset : Program → List Plane → TypeId → Structure → Option ℕ
chain_offset program planes node s = find (λ c. leads_on c.kind) s.chains then λ c. offset_to program planes (ty.Node node None) c.path

-- ---- notes

-- a walk begins with a note of this size and this offset of the chain pointer
abbrev pub HasNote : Tables → ℕ → ℕ → Option ℕ → Type 0
HasNote tables walk size chain = (rows : List WalkRow) × (rows_of tables walk ≡ Note size chain ∷ rows)

-- a walk has its note alone
abbrev pub IsBare : Tables → ℕ → ℕ → Option ℕ → Type 0
IsBare tables walk size chain = rows_of tables walk ≡ Note size chain ∷ []

-- The walks of structures and of pointers to them. Each structure has its size and its chain pointer in the note, and a pointer names one
-- structure. Of a structure that may not stand alone there are the notes alone.
pub record AreBlockWalks (program : Program) (planes : List Plane) (tables : Tables) : Type 0 where
  pub structures : (node : TypeId) (s : Structure) (plane : Plane) → HasStructure program node s → slice_get planes node.0 ≡ Some plane
      → HasNote tables node.0 plane.size (chain_offset program planes node s)
  pub inner : (node : TypeId) (s : Structure) (plane : Plane) → HasStructure program node s → slice_get planes node.0 ≡ Some plane → ¬ MayStand program node
      → IsBare tables node.0 plane.size (chain_offset program planes node s)
  pub pointers : (node : TypeId) → MayStand program node → rows_of tables (walk_of program (Pointers node)) ≡ Note 8 None ∷ Ptr 0 node.0 (Fixed 1) false ∷ []
  pub no_pointers : (node : TypeId) (s : Structure) → HasStructure program node s → ¬ MayStand program node → IsBare tables (walk_of program (Pointers node)) 8 None
