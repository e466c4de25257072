-- What is known of a leaf of an element whose place is known.
use Rattle.std.specs.Prelude.{ℕ, List}
use Rattle.gt_types.specs.declared.types.Ty.{Ty}
use Rattle.gt_types.specs.declared.program.Program.{Program}
use Rattle.gt_layout.specs.declared.planes.Layouts.{Layouts}
use Rattle.gt_layout.specs.Planes.{IsLaidOut}
use Rattle.gt_space.specs.Range.{Range}
use Rattle.gt_tree.specs.Trees.{Tree, Trees}
use Rattle.gt_tree.specs.Blocks.{Blocks}
use Rattle.gt_tree.specs.Scopes.{outside}
use Rattle.gt_value.specs.declared.places.Holder.TheVariants as lies_in
use Rattle.gt_value.specs.declared.places.Place.{Place}
use Rattle.gt_value.specs.Bytes.{IsRoomFor}
use Rattle.gt_value.specs.Places.{IsPlaceOf}
use Rattle.gt_leaf.specs.Writing.{StandsBeside}

-- the bytes of an element stand for this value, in which the leaf at a path lies at this place
pub record HasLeafAt (program : Program) (layouts : Layouts) (blocks : Blocks) (statics : Trees) (capacity : ℕ) (type : Ty) (range : Range) (address : ℕ) (value : Tree) (path : List ℕ) (place : Place) : Type 0 where
  pub laid : IsLaidOut program layouts
  pub inside : IsRoomFor program layouts capacity type range address
  pub stands : StandsBeside program layouts blocks statics capacity type range address value
  pub at : IsPlaceOf program layouts.structures (outside statics) lies_in.Element type range address value path place
