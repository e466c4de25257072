-- Spots in a heap, and what stands at each.
use Rattle.std.specs.Prelude.{ℕ, zero, suc, List, [], ◌∷◌, ◌++◌, Bool, true, false, Option, Some, None, option_map, slice_get}
use Rattle.gt_types.specs.declared.types.Ty.{Ty, out-Ty}
use Rattle.gt_types.specs.declared.types.Ty.TheOpen as part
use Rattle.gt_types.specs.declared.types.Ty.TheOpen.{Ty-F}
use Rattle.gt_types.specs.declared.types.Ty.TheVariants as ty
use Rattle.gt_types.specs.declared.program.Program.{Program}
use Rattle.gt_tree.specs.Trees.{Tree, Rec, Alt, Row, Trees, End, And, tree_at, part_at}
use Rattle.gt_tree.specs.Blocks.{element_type}
use Rattle.gt_tree.specs.Scopes.{Typed, typed, ◌then◌}
use Rattle.gt_graph.specs.Objects.{Object, Graph, object_of}
use Rattle.gt_graph.specs.Changes.{Owner, Statics, Of}

-- where a path of a script leads: into the static record or an object, and on by places in its value, from the outside in
pub record Spot : Type 0 where
  pub owner : Owner
  pub path : List ℕ

abbrev pub spot : Owner → List ℕ → Spot
spot owner path = record { owner = owner; path = path }

-- the same with more places
abbrev pub further : Spot → List ℕ → Spot
further at path = spot at.owner (at.path ++ path)

-- ---- what stands at a spot

abbrev pub element_at : Ty-F Ty → Option Ty
element_at (part.Arr n elem) = Some elem
element_at (part.Tail length elem) = Some elem
element_at type = None

-- what an array has as elements
abbrev pub element_of : Ty → Option Ty
element_of type = element_at (out-Ty type)

-- the type of a part at a place: of a structure the field there, also where in a union no member is active; of an array an element
abbrev pub type_of_part : Program → Ty → ℕ → Option Ty
type_of_part program (ty.Node node desc) place = slice_get program.structures node.0 then λ s. slice_get s.fields place then λ f. Some f.ty
type_of_part program type place = element_of type

-- the part of a value to which places lead, and its type
abbrev pub typed_part : Program → Ty → Tree → List ℕ → Option Typed
typed_part program type tree [] = Some (typed type tree)
typed_part program type tree (place ∷ path) =
    type_of_part program type place then λ inner. part_at tree (place ∷ []) then λ part. typed_part program inner part path

-- what stands at a spot: an object as a whole, or a value of a type
pub data Standing : Type 0 where
  Whole : Object → Standing
  Value : Typed → Standing

abbrev pub in_object : Program → Object → List ℕ → Option Standing
in_object program o [] = Some (Whole o)
in_object program o (place ∷ path) = part_at o.value (place ∷ []) then λ element. option_map Value (typed_part program (element_type program o.kind) element path)

abbrev pub in_statics : Program → Trees → List ℕ → Option Standing
in_statics program statics [] = None
in_statics program statics (place ∷ path) =
    slice_get program.roots place then λ root. tree_at statics place then λ value. option_map Value (typed_part program root.ty value path)

abbrev pub standing_in : Program → Graph → Owner → List ℕ → Option Standing
standing_in program g Statics path = in_statics program g.statics path
standing_in program g (Of id) path = object_of g.objects id then λ o. in_object program o path

abbrev pub standing_at : Program → Graph → Spot → Option Standing
standing_at program g at = standing_in program g at.owner at.path

-- ---- unions without an active member

abbrev mutual
  -- places lead through a union in which no member is active
  pub passes_none : Tree → List ℕ → Bool
  passes_none tree [] = false
  passes_none (Rec trees) (i ∷ path) = passes_none_of trees i path
  passes_none (Row trees) (i ∷ path) = passes_none_of trees i path
  passes_none (Alt None tree) (i ∷ path) = true
  passes_none (Alt (Some member) tree) (i ∷ path) = passes_none tree path
  passes_none tree (i ∷ path) = false

  pub passes_none_of : Trees → ℕ → List ℕ → Bool
  passes_none_of End i path = false
  passes_none_of (And tree trees) zero path = passes_none tree path
  passes_none_of (And tree trees) (suc i) path = passes_none_of trees i path

abbrev pub value_of : Graph → Owner → Option Tree
value_of g Statics = Some (Rec g.statics)
value_of g (Of id) = option_map (λ o. o.value) (object_of g.objects id)

-- a spot lies in a common structure while no member of its union is active
abbrev pub is_in_none : Graph → Spot → Bool
is_in_none g at = elim (value_of g at.owner) as (λ _. Bool) [ None ↦ false | Some tree ↦ passes_none tree at.path ]
