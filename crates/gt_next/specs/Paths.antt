-- Where a path of a script leads, step by step, and why it leads nowhere.
use Rattle.std.specs.Prelude.{◌≡◌, ◌≢◌, ◌<◌, ℕ, cond, true, false, Bool, List, [], ◌∷◌, Option, Some, None, option_map, slice_get}
use Rattle.std.specs.Str.{bytes_eq}
use Rattle.std.specs.List.{position_from}
use Rattle.gt_types.specs.declared.expressions.Expr.{Expr}
use Rattle.gt_types.specs.declared.types.TypeId.{TypeId}
use Rattle.gt_types.specs.declared.types.Ty.{Ty}
use Rattle.gt_types.specs.declared.types.Ty.TheVariants as ty
use Rattle.gt_types.specs.declared.program.Field.{Field}
use Rattle.gt_types.specs.declared.program.Structure.{Structure}
use Rattle.gt_types.specs.declared.program.Program.{Program}
use Rattle.gt_types.specs.Contains.{HasStructure}
use Rattle.gt_types.specs.Shapes.{is_pointer}
use Rattle.gt_types.specs.Unions.{IsCommon}
use Rattle.gt_script.specs.declared.command.Route.{Route}
use Rattle.gt_script.specs.declared.command.Hop.{Hop}
use Rattle.gt_script.specs.declared.command.Hop.TheVariants.{Name, Index}
use Rattle.gt_tree.specs.Trees.{Tree, Null, To, Rec, Alt, Row, Trees, End, And, count, part_at}
use Rattle.gt_tree.specs.Blocks.{Nodes, element_type}
use Rattle.gt_tree.specs.Scopes.{Typed, typed, is_of_node, first_type_of}
use Rattle.gt_graph.specs.Objects.{Object, Graph}
use Rattle.gt_graph.specs.Changes.{Statics, Of}
use Rattle.gt_next.specs.declared.answer.Why.{Why}
use Rattle.gt_next.specs.declared.answer.Why.TheVariants.{Unbound, NoField, WrongType, BadIndex, Inactive, NullStep}
use Rattle.gt_next.specs.States.{State, meaning}
use Rattle.gt_next.specs.Spots.{Spot, spot, further, Whole, Value, standing_at, element_of}

-- ---- steps in a value

-- the place of the field of a name
abbrev pub place_of : Structure → List ℕ → Option ℕ
place_of s name = position_from (λ f. bytes_eq f.name name) 0 s.fields

-- the member at a place is of the type of the common structure
abbrev pub IsCommonMember : Program → Structure → ℕ → TypeId → Type 0
IsCommonMember program s place common =
    (f : Field) × (desc : Option Expr) × (slice_get s.fields place ≡ Some f) × (f.ty ≡ ty.Node common desc) × IsCommon program s common

abbrev mutual
  -- the way from a value to the structure of a type with which it begins: no place, or the first field, or the first of that, and so on
  pub way_to : Program → TypeId → Option Ty → Tree → Option (List ℕ)
  way_to program node type (Rec trees) = cond (is_of_node node type) (Some []) (way_on program node (first_type_of program type) trees)
  way_to program node type tree = cond (is_of_node node type) (Some []) None

  pub way_on : Program → TypeId → Option Ty → Trees → Option (List ℕ)
  way_on program node type End = None
  way_on program node type (And tree trees) = option_map (λ way. 0 ∷ way) (way_to program node type tree)

-- A step leads to a part of a value: by a name to a field of a struct, to the active member of a union, or, by a member of the common
-- structure's type, to the common structure; by a number below the number of elements to an element of an array.
pub data StepsIn (program : Program) : Typed → Hop → List ℕ → Type 0 where
  to_field : {node : TypeId} {desc : Option Expr} {s : Structure} {tree : Tree} {name : List ℕ} {place : ℕ} → HasStructure program node s → s.is_union ≡ false
      → place_of s name ≡ Some place → StepsIn program (typed (ty.Node node desc) tree) (Name name) (place ∷ [])
  to_active : {node : TypeId} {desc : Option Expr} {s : Structure} {tree : Tree} {name : List ℕ} {place : ℕ} → HasStructure program node s → s.is_union ≡ true
      → place_of s name ≡ Some place → StepsIn program (typed (ty.Node node desc) (Alt (Some place) tree)) (Name name) (place ∷ [])
  to_common : {node common : TypeId} {desc : Option Expr} {s : Structure} {f : Field} {tree : Tree} {name way : List ℕ} {place member : ℕ} → HasStructure program node s
      → place_of s name ≡ Some place → place ≢ member → IsCommonMember program s place common → slice_get s.fields member ≡ Some f
      → way_to program common (Some f.ty) tree ≡ Some way → StepsIn program (typed (ty.Node node desc) (Alt (Some member) tree)) (Name name) (member ∷ way)
  to_kept : {node common : TypeId} {desc : Option Expr} {s : Structure} {tree : Tree} {name : List ℕ} {place : ℕ} → HasStructure program node s
      → place_of s name ≡ Some place → IsCommonMember program s place common → StepsIn program (typed (ty.Node node desc) (Alt None tree)) (Name name) (place ∷ [])
  to_element : {type elem : Ty} {trees : Trees} {place : ℕ} → element_of type ≡ Some elem → place < count trees
      → StepsIn program (typed type (Row trees)) (Index place) (place ∷ [])

-- a step suits a type: a name a structure, and a number an array
abbrev pub is_some_type : Option Ty → Bool
is_some_type (Some type) = true
is_some_type None = false

abbrev pub is_suited : Ty → Hop → Bool
is_suited (ty.Node node desc) (Name name) = true
is_suited type (Name name) = false
is_suited type (Index place) = is_some_type (element_of type)

-- A step in a value is refused: no field has the name; the member is not active, and not of the common structure's type; there is no such
-- element; or the step does not suit the type.
pub data RefusesIn (program : Program) : Typed → Hop → Why → Type 0 where
  no_field : {node : TypeId} {desc : Option Expr} {s : Structure} {tree : Tree} {name : List ℕ} → HasStructure program node s → place_of s name ≡ None
      → RefusesIn program (typed (ty.Node node desc) tree) (Name name) NoField
  inactive : {node : TypeId} {desc : Option Expr} {s : Structure} {tree : Tree} {name : List ℕ} {place : ℕ} {active : Option ℕ} → HasStructure program node s
      → place_of s name ≡ Some place → active ≢ Some place → ((common : TypeId) → ¬ IsCommonMember program s place common)
      → RefusesIn program (typed (ty.Node node desc) (Alt active tree)) (Name name) Inactive
  no_element : {type elem : Ty} {trees : Trees} {place : ℕ} → element_of type ≡ Some elem → ¬ (place < count trees)
      → RefusesIn program (typed type (Row trees)) (Index place) BadIndex
  not_suited : {t : Typed} {hop : Hop} → is_suited t.type hop ≡ false → RefusesIn program t hop WrongType

-- ---- steps in a heap

-- Where a step begins: at a pointer it first goes to the object that this names.
pub data Follows (program : Program) (g : Graph) : Spot → Spot → Type 0 where
  to_target : {at : Spot} {type : Ty} {id : ℕ} → standing_at program g at ≡ Some (Value (typed type (To id))) → Follows program g at (spot (Of id) [])
  at_value : {at : Spot} {t : Typed} → standing_at program g at ≡ Some (Value t) → is_pointer t.type ≡ false → Follows program g at at
  at_object : {at : Spot} {o : Object} → standing_at program g at ≡ Some (Whole o) → Follows program g at at

-- a block of one structure, and this
abbrev pub IsOne : Program → Object → Typed → Type 0
IsOne program o t = (node : TypeId) × (tree : Tree) × (o.kind ≡ Nodes node) × (o.count ≡ 1) × (part_at o.value (0 ∷ []) ≡ Some tree) × (t ≡ typed (element_type program o.kind) tree)

-- One step leads from a spot to another: in a value; by a name in the one structure of an object; by a number to an element of an object.
pub data Steps (program : Program) (g : Graph) : Spot → Hop → Spot → Type 0 where
  in_value : {from at : Spot} {hop : Hop} {t : Typed} {path : List ℕ} → Follows program g from at → standing_at program g at ≡ Some (Value t) → StepsIn program t hop path
      → Steps program g from hop (further at path)
  in_one : {from at : Spot} {name : List ℕ} {o : Object} {t : Typed} {path : List ℕ} → Follows program g from at → standing_at program g at ≡ Some (Whole o) → IsOne program o t
      → StepsIn program t (Name name) path → Steps program g from (Name name) (further at (0 ∷ path))
  to_element : {from at : Spot} {place : ℕ} {o : Object} → Follows program g from at → standing_at program g at ≡ Some (Whole o) → place < o.count
      → Steps program g from (Index place) (further at (place ∷ []))

-- One step is refused: at a null pointer, whatever the step is; or where it begins.
pub data RefusesStep (program : Program) (g : Graph) : Spot → Hop → Why → Type 0 where
  at_null : {from : Spot} {hop : Hop} {type : Ty} → standing_at program g from ≡ Some (Value (typed type Null)) → RefusesStep program g from hop NullStep
  in_value : {from at : Spot} {hop : Hop} {t : Typed} {why : Why} → Follows program g from at → standing_at program g at ≡ Some (Value t) → RefusesIn program t hop why
      → RefusesStep program g from hop why
  in_one : {from at : Spot} {name : List ℕ} {o : Object} {t : Typed} {why : Why} → Follows program g from at → standing_at program g at ≡ Some (Whole o) → IsOne program o t
      → RefusesIn program t (Name name) why → RefusesStep program g from (Name name) why
  not_one : {from at : Spot} {name : List ℕ} {o : Object} → Follows program g from at → standing_at program g at ≡ Some (Whole o) → ((t : Typed) → ¬ IsOne program o t)
      → RefusesStep program g from (Name name) WrongType
  no_element : {from at : Spot} {place : ℕ} {o : Object} → Follows program g from at → standing_at program g at ≡ Some (Whole o) → ¬ (place < o.count)
      → RefusesStep program g from (Index place) BadIndex

-- ---- paths

-- some steps lead from one spot to another
pub data Walks (program : Program) (g : Graph) : Spot → List Hop → Spot → Type 0 where
  there : {at : Spot} → Walks program g at [] at
  onward : {from next to : Spot} {hop : Hop} {hops : List Hop} → Steps program g from hop next → Walks program g next hops to → Walks program g from (hop ∷ hops) to

-- one of some steps is refused, where those before it lead
pub data RefusesWalk (program : Program) (g : Graph) : Spot → List Hop → Why → Type 0 where
  here : {from : Spot} {hop : Hop} {hops : List Hop} {why : Why} → RefusesStep program g from hop why → RefusesWalk program g from (hop ∷ hops) why
  later : {from next : Spot} {hop : Hop} {hops : List Hop} {why : Why} → Steps program g from hop next → RefusesWalk program g next hops why
      → RefusesWalk program g from (hop ∷ hops) why

-- the place of the root of a name
abbrev pub root_of : Program → List ℕ → Option ℕ
root_of program name = position_from (λ r. bytes_eq r.name name) 0 program.roots

-- a path begins at a variable's object, or at the root of its name
pub data Begins (program : Program) (s : State) : Route → Spot → Type 0 where
  at_variable : {path : Route} {id : ℕ} → path.variable ≡ true → meaning s.variables path.name ≡ Some id → Begins program s path (spot (Of id) [])
  at_root : {path : Route} {place : ℕ} → path.variable ≡ false → root_of program path.name ≡ Some place → Begins program s path (spot Statics (place ∷ []))

-- a path begins nowhere: its variable is not bound, or no root has its name
pub data RefusesStart (program : Program) (s : State) : Route → Why → Type 0 where
  unbound : {path : Route} → path.variable ≡ true → meaning s.variables path.name ≡ None → RefusesStart program s path Unbound
  no_root : {path : Route} → path.variable ≡ false → root_of program path.name ≡ None → RefusesStart program s path NoField

-- a path leads to a spot
pub record Leads (program : Program) (s : State) (path : Route) (to : Spot) : Type 0 where
  pub start : Spot
  pub begins : Begins program s path start
  pub walks : Walks program s.heap.graph start path.steps to

-- a path is refused, at its start or at the first step that does not lead on
pub data RefusesPath (program : Program) (s : State) (path : Route) : Why → Type 0 where
  at_start : {why : Why} → RefusesStart program s path why → RefusesPath program s path why
  at_step : {start : Spot} {why : Why} → Begins program s path start → RefusesWalk program s.heap.graph start path.steps why → RefusesPath program s path why
