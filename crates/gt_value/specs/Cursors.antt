-- Where a cursor stands. From steps on it is no promise: what the proofs of steps need.
use Rattle.std.specs.Prelude.{◌≡◌, ◌≤◌, ℕ, ◌+◌, ◌-◌, ◌*◌, ◌++◌, true, List, [], ◌∷◌, Option, Some, None, MatchOption, slice_get}
use Rattle.gt_types.specs.declared.types.Ty.{Ty}
use Rattle.gt_types.specs.declared.program.Root.{Root as RootOf}
use Rattle.gt_types.specs.declared.program.Program.{Program}
use Rattle.gt_layout.specs.declared.planes.Layouts.{Layouts}
use Rattle.gt_layout.specs.declared.planes.FieldSpot.{FieldSpot}
use Rattle.gt_layout.specs.Storages.{extent_of}
use Rattle.gt_layout.specs.Places.{begin_at}
use Rattle.gt_space.specs.Range.{Range}
use Rattle.gt_tree.specs.Trees.{Tree, Alt, Row, Trees, count, tree_at, part_at}
use Rattle.gt_tree.specs.Scopes.{Scope, outside}
use Rattle.gt_tree.specs.Reshapes.{LeadsToLeaf}
use Rattle.gt_value.specs.declared.cursors.Cursor.{Cursor}
use Rattle.gt_value.specs.declared.cursors.Site.{Site}
use Rattle.gt_value.specs.declared.places.Holder.TheVariants.{Element, Root}
use Rattle.gt_value.specs.declared.sources.Source.{Source}
use Rattle.gt_value.specs.Places.{Part, PartLies}
use Rattle.gt_value.specs.Finding.{StandsIn, EachStandIn}
use Rattle.gt_value.specs.Reading.{EachStands}

-- by which program and layouts bytes of a space are read, and the address at which the value begins
pub record Frame : Type 0 where
  pub program : Program
  pub layouts : Layouts
  pub space : Range
  pub addr : ℕ

abbrev pub frame : Program → Layouts → Range → ℕ → Frame
frame program layouts space addr = record { program = program; layouts = layouts; space = space; addr = addr }

-- a value of an element of a block, as a part that lies in no other
abbrev pub element_part : Trees → Ty → Tree → Part
element_part statics type value = record { bit = 0; type = type; holder = Element; scope = outside statics; active = true; tree = value }

-- a value of the root of this number, as a part of the static record
abbrev pub root_part : Trees → ℕ → FieldSpot → RootOf → Tree → Part
root_part values i spot r value = record { bit = begin_at spot; type = r.ty; holder = Root i; scope = outside values; active = true; tree = value }

-- what is read, and where
pub record IsRead (at : Frame) (source : Source) : Type 0 where
  pub program : source.program.now ≡ at.program
  pub layouts : source.layouts.now ≡ at.layouts
  pub space : source.space.now ≡ at.space
  pub from : source.from ≡ at.addr - at.space.start
  pub from_start : at.space.start ≤ at.addr

-- the part at which a cursor stands
pub record IsAtPart (c : Cursor) (p : Part) : Type 0 where
  pub type_is : c.ty.now ≡ p.type
  pub bit_is : c.at ≡ p.bit
  pub holder_is : c.site.holder ≡ p.holder
  pub active_is : c.site.around.whole ≡ p.active

-- a part lies at a path of a value
abbrev pub LiesAt : Frame → Part → List ℕ → Part → Type 0
LiesAt at value path p = PartLies at.program at.layouts.structures value.scope value.holder value.active value.bit value.type value.tree path p

-- a cursor stands at the part of a value at a path, which stands there in the bytes
pub record IsAt (at : Frame) (c : Cursor) (value : Part) (path : List ℕ) : Type 0 where
  pub p : Part
  pub lies : LiesAt at value path p
  pub there : part_at value.tree path ≡ Some p.tree
  pub is : IsAtPart c p
  pub read : IsRead at c.source
  pub stands : StandsIn c.source c.site.around p.scope c.ty.now c.at p.tree

-- a cursor stands at the value of the root of this number
pub record IsAtRoot (program : Program) (layouts : Layouts) (space : Range) (values : Trees) (i : ℕ) (c : Cursor) : Type 0 where
  pub r : RootOf
  pub spot : FieldSpot
  pub tree : Tree
  pub root : slice_get program.roots i ≡ Some r
  pub spot_is : slice_get layouts.statics.fields i ≡ Some spot
  pub there : tree_at values i ≡ Some tree
  pub is : IsAt (frame program layouts space space.start) c (root_part values i spot r tree) []

-- a cursor stands at a part of some value
pub record IsSomewhere (c : Cursor) : Type 0 where
  pub at : Frame
  pub value : Part
  pub path : List ℕ
  pub is : IsAt at c value path

-- a path of a value leads to no part, and to no leaf
pub record LeadsNowhere (at : Frame) (value : Part) (path : List ℕ) : Type 0 where
  pub lies : (p : Part) → ¬ LiesAt at value path p
  pub leaf : ¬ LeadsToLeaf value.tree path

-- no part lies at a place of the part at a path, and no leaf at or below it
abbrev pub IsNoPart : Frame → Part → List ℕ → ℕ → Type 0
IsNoPart at value path place = (rest : List ℕ) → LeadsNowhere at value (path ++ place ∷ rest)

-- the active member of a union
abbrev pub member_of : Tree → Option ℕ
member_of (Alt member tree) = member
member_of tree = None

-- how many elements an array has
abbrev pub count_of : Tree → ℕ
count_of (Row trees) = count trees
count_of tree = 0

-- ---- steps

-- a cursor with this source
pub record IsMoved (c : Cursor) (source : Source) (site : Site) (type : Ty) (bit : ℕ) : Type 0 where
  pub source_is : c.source ≡ source
  pub site_is : c.site ≡ site
  pub type_is : c.ty.now ≡ type
  pub bit_is : c.at ≡ bit

-- a place of what stands somewhere leads to the part at which a cursor stands
pub record IsStep (source : Source) (site : Site) (scope : Scope) (type : Ty) (at : ℕ) (tree : Tree) (place : ℕ) (next : Cursor) : Type 0 where
  pub p : Part
  pub lies : PartLies source.program.now source.layouts.now.structures scope site.holder site.around.whole at type tree (place ∷ []) p
  pub there : part_at tree (place ∷ []) ≡ Some p.tree
  pub is : IsAtPart next p
  pub source_is : next.source ≡ source
  pub stands : StandsIn source next.site.around p.scope next.ty.now next.at p.tree

-- a place of what stands somewhere leads to no part
pub record IsNoStep (source : Source) (site : Site) (scope : Scope) (type : Ty) (at : ℕ) (tree : Tree) (place : ℕ) : Type 0 where
  pub lies : (rest : List ℕ) (p : Part) → ¬ PartLies source.program.now source.layouts.now.structures scope site.holder site.around.whole at type tree (place ∷ rest) p
  pub leaf : (rest : List ℕ) → ¬ LeadsToLeaf tree (place ∷ rest)

abbrev pub StepAnswers : Source → Site → Ty → ℕ → ℕ → Option Cursor → Type 0
StepAnswers source site type at place result =
    MatchOption result ((scope : Scope) (tree : Tree) → StandsIn source site.around scope type at tree → IsNoStep source site scope type at tree place)
    (λ next. (scope : Scope) (tree : Tree) → StandsIn source site.around scope type at tree → IsStep source site scope type at tree place next)

-- a place among values that stand one after another leads to the one at which a cursor stands
pub record IsElementStep (source : Source) (site : Site) (scope : Scope) (type : Ty) (at : ℕ) (values : Trees) (place : ℕ) (next : Cursor) : Type 0 where
  pub tree : Tree
  pub there : tree_at values place ≡ Some tree
  pub stands : StandsIn source site.around scope type (at + place * (8 * (extent_of source.layouts.now.structures type).size)) tree
  pub is : IsMoved next source site type (at + place * (8 * (extent_of source.layouts.now.structures type).size))

abbrev pub ElementAnswers : Source → Site → Ty → ℕ → ℕ → ℕ → Option Cursor → Type 0
ElementAnswers source site type at n place result =
    MatchOption result ((values : Trees) → EachStands source site.around type at n values → tree_at values place ≡ None)
    (λ next. (scope : Scope) (values : Trees) → EachStandIn source site.around scope type at n values → IsElementStep source site scope type at values place next)
