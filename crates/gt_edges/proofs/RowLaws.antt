-- What is shown of rows and walks: where a value stands, they give the edges of its leaves.
use Rattle.std.proofs.Common.{◌≡◌, ℕ, ◌+◌, ◌*◌, true, false, List, [], ◌∷◌, Option, Some, None}
use Rattle.std.specs.Prelude.{All}
use Rattle.gt_types.specs.declared.expressions.Expr.{Expr}
use Rattle.gt_types.specs.declared.types.TypeId.{TypeId}
use Rattle.gt_types.specs.declared.types.Ty.{Ty}
use Rattle.gt_types.specs.declared.types.Ty.TheVariants as ty
use Rattle.gt_types.specs.declared.program.Field.{Field}
use Rattle.gt_layout.specs.declared.planes.FieldSpot.{FieldSpot}
use Rattle.gt_layout.specs.Progress.{IsWithinDepth, HoldsWithinDepth}
use Rattle.gt_tree.specs.Trees.{Tree, Trees}
use Rattle.gt_tree.specs.Blocks.{Blocks}
use Rattle.gt_tree.specs.Scopes.{Scope}
use Rattle.gt_tree.specs.Fits.{Fits, AllFit}
use Rattle.gt_tree.specs.Leaves.{Leaf, HasLeaves, FieldsHaveLeaves}
use Rattle.gt_tree.proofs.Types.{is_bits}
use Rattle.gt_value.specs.declared.sources.Around.{Around}
use Rattle.gt_value.specs.declared.sources.Source.{Source}
use Rattle.gt_value.specs.Reading.{entered}
use Rattle.gt_value.specs.Finding.{StandsIn, FieldsStandIn}
use Rattle.gt_walk.specs.declared.rows.Arm.{Arm, out-Arm}
use Rattle.gt_walk.specs.declared.rows.WalkRow.{WalkRow}
use Rattle.gt_walk.specs.declared.tables.Tables.{Tables}
use Rattle.gt_walk.specs.Rows.{Edge, Frame, walk_edges}
use Rattle.gt_walk.specs.Visiting.{rows_at, arm_row}
use Rattle.gt_edges.specs.Edges.{edges_at}
use Rattle.gt_edges.specs.Walks.{Around as Nodes}
use Rattle.gt_edges.proofs.RowWorths.{IsFrame}
use Rattle.gt_edges.proofs.TypeFacts.{Known}

-- the address of the first bit of a source
abbrev pub base : Source → ℕ
base source = source.space.now.start + source.from

-- a bit of a source lies at an address
abbrev pub IsAddress : Source → (address at : ℕ) → Type 0
IsAddress source address at = 8 * address ≡ 8 * base source + at

-- the edges of leaves in a source
abbrev pub edges_in : Source → Blocks → List Leaf → List Edge
edges_in source blocks leaves = edges_at source.program.now blocks (base source) leaves

-- a value of a type stands at a bit, with these leaves
pub record Valued (source : Source) (blocks : Blocks) (capacity : ℕ) (around : Around) (type : Ty) (at : ℕ) (value : Tree) (leaves : List Leaf) : Type 0 where
  pub scope : Scope
  pub stands : StandsIn source around scope type at value
  pub fits : Fits source.program.now blocks capacity scope type value
  pub has : HasLeaves source.program.now source.layouts.now.structures at type value leaves
  pub whole : around.whole ≡ true
  pub known : Known source type

-- values of fields stand in a structure that begins at a bit, with these leaves
pub record FieldsValued (source : Source) (blocks : Blocks) (capacity : ℕ) (around : Around) (types : List Ty) (spots : List FieldSpot) (at : ℕ) (values : Trees) (leaves : List Leaf) : Type 0 where
  pub scope : Scope
  pub stand : FieldsStandIn source around scope types spots at values
  pub fit : AllFit source.program.now blocks capacity scope types values
  pub have : FieldsHaveLeaves source.program.now source.layouts.now.structures at types spots values leaves
  pub whole : around.whole ≡ true
  pub known : All (Known source) types

-- what is no bit-field begins at a byte
abbrev pub AreEven : List Ty → List FieldSpot → Type 0
AreEven (type ∷ types) (spot ∷ spots) = (is_bits type ≡ false → spot.bit ≡ 0) × AreEven types spots
AreEven types spots = Unit {0}

module _ (source : Source) (tables : Tables) (blocks : Blocks) (capacity : ℕ) where
  -- the row of a type gives the edges of its values
  abbrev pub RowLaw : Nodes → Ty → ℕ → Option WalkRow → Type 0
  RowLaw nodes type offset r =
      (depth : ℕ) (around : Around) (f : Frame) (at : ℕ) (value : Tree) (leaves : List Leaf) → IsFrame source around nodes f → Valued source blocks capacity around type at value leaves
      → HoldsWithinDepth source.program.now type depth → (is_bits type ≡ false → IsAddress source (f.at + offset) at)
      → arm_row tables source.space.now depth r f ≡ edges_in source blocks leaves

  -- the walk of a part
  abbrev pub walk_given : ℕ → Option ℕ → Frame → List Edge
  walk_given depth (Some walk) f = walk_edges tables source.space.now depth walk f
  walk_given depth None f = []

  -- the rows of a structure give the edges of its values, in the frame inside it
  abbrev pub RowsLaw : Nodes → TypeId → Option Expr → List WalkRow → Type 0
  RowsLaw nodes node desc rows =
      (depth : ℕ) (around : Around) (f : Frame) (at : ℕ) (value : Tree) (leaves : List Leaf) → IsFrame source (entered around node at) nodes f
      → Valued source blocks capacity around (ty.Node node desc) at value leaves → IsWithinDepth source.program.now node.0 depth → IsAddress source f.at at
      → rows_at tables source.space.now depth rows f ≡ edges_in source blocks leaves

  -- the rows of fields give the edges of their values
  abbrev pub FieldsLaw : Nodes → List Ty → List FieldSpot → List WalkRow → Type 0
  FieldsLaw nodes types spots rows =
      (depth : ℕ) (around : Around) (f : Frame) (at : ℕ) (values : Trees) (leaves : List Leaf) → IsFrame source around nodes f → FieldsValued source blocks capacity around types spots at values leaves
      → All (λ type. HoldsWithinDepth source.program.now type depth) types → AreEven types spots → IsAddress source f.at at
      → rows_at tables source.space.now depth rows f ≡ edges_in source blocks leaves

  -- the arms have the tags of the members, in order, and their rows give the edges of the members' values
  abbrev pub ArmsLaw : Nodes → List Field → List Arm → Type 0
  ArmsLaw nodes [] [] = Unit {0}
  ArmsLaw nodes (m ∷ fields) (arm ∷ arms) = ((out-Arm arm).active ≡ m.active) × RowLaw nodes m.ty 0 (out-Arm arm).row × ArmsLaw nodes fields arms
  ArmsLaw nodes fields arms = ⊥
