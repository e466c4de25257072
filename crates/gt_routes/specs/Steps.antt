-- Where a step leads within a value.
use Rattle.std.specs.Prelude.{◌≡◌, ◌≢◌, ℕ, List, ◌∷◌, ◌++◌, Some, replicate}
use Rattle.gt_types.specs.declared.types.TypeId.{TypeId}
use Rattle.gt_types.specs.declared.program.Program.{Program}
use Rattle.gt_types.specs.declared.program.Structure.{Structure}
use Rattle.gt_types.specs.Contains.{HasStructure}
use Rattle.gt_script.specs.declared.command.Hop.{Hop}
use Rattle.gt_tree.specs.Scopes.{typed}
use Rattle.gt_tree.specs.Trees.{Tree}
use Rattle.gt_value.specs.declared.cursors.Cursor.{Cursor}
use Rattle.gt_value.specs.Places.{Part}
use Rattle.gt_value.specs.Cursors.{Frame, IsAt, member_of}
use Rattle.gt_next.specs.declared.answer.Why.{Why}
use Rattle.gt_next.specs.Spots.{typed_part}
use Rattle.gt_next.specs.Paths.{StepsIn, RefusesIn, place_of, way_to}
use Rattle.gt_routes.specs.declared.steps.Step.{Step}

-- a cursor stands at a part of a value, at the end of this path in it, and a walk by types and values leads to the same
pub record StandsAt (at : Frame) (value : Part) (path : List ℕ) (c : Cursor) : Type 0 where
  pub here : IsAt at c value path
  pub known : typed_part at.program value.type value.tree path ≡ Some (typed here.p.type here.p.tree)

-- a cursor stands somewhere in a value of this program
pub record IsIn (program : Program) (c : Cursor) : Type 0 where
  pub at : Frame
  pub value : Part
  pub path : List ℕ
  pub program_is : at.program ≡ program
  pub stands : StandsAt at value path c

-- a step leads to where another cursor stands, by some places
pub record StepsTo (at : Frame) (value : Part) (path : List ℕ) (c : Cursor) (hop : Hop) (next : Cursor) (places : List ℕ) (here : StandsAt at value path c) : Type 0 where
  pub there : StandsAt at value (path ++ places) next
  pub steps : StepsIn at.program (typed here.here.p.type here.here.p.tree) hop places

-- the places by which a step leads on, from the outside in
abbrev pub along : Step → List ℕ
along step = step.place ∷ replicate step.zeros 0

-- a step has this cursor and these places
pub record MadeOf (step : Step) (c : Cursor) (places : List ℕ) : Type 0 where
  pub at_is : step.at ≡ c
  pub places_are : along step ≡ places

-- a member of a union has this name, and is not the active one
pub record IsInactive (program : Program) (tree : Tree) (node : TypeId) (name : List ℕ) : Type 0 where
  pub s : Structure
  pub place : ℕ
  pub has : HasStructure program node s
  pub place_is : place_of s name ≡ Some place
  pub inactive : member_of tree ≢ Some place

-- a step leads to where another cursor stands, wherever this one stands
abbrev pub LeadsFrom : Program → Cursor → Hop → Step → Type 0
LeadsFrom program c hop to = (at : Frame) (value : Part) (path : List ℕ) (here : StandsAt at value path c) → at.program ≡ program → StepsTo at value path c hop to.at (along to) here

-- a step is refused, wherever a cursor stands
abbrev pub RefusedFrom : Program → Cursor → Hop → Why → Type 0
RefusedFrom program c hop why = (at : Frame) (value : Part) (path : List ℕ) (here : StandsAt at value path c) → at.program ≡ program → RefusesIn at.program (typed here.here.p.type here.here.p.tree) hop why

-- a cursor stands at the structure of a type with which the value at another begins, and these are the place of a member and the way there
pub record IsBegin (at : Frame) (value : Part) (path : List ℕ) (c : Cursor) (common : TypeId) (member : ℕ) (to : Step) (here : StandsAt at value path c) : Type 0 where
  pub way : List ℕ
  pub places_are : along to ≡ member ∷ way
  pub there : StandsAt at value (path ++ way) to.at
  pub found : way_to at.program common (Some here.here.p.type) here.here.p.tree ≡ Some way
