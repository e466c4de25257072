-- No promise: one step of a path, and what follows it.
use Rattle.std.specs.Prelude.{◌≡◌, ◌≢◌, ◌⊎◌, ℕ, Bool, IsTrue, List, [], ◌∷◌, Option, None, Some, Any, slice_get}
use Rattle.gt_types.specs.declared.expressions.Base.{Base}
use Rattle.gt_types.specs.declared.expressions.Expr.{Expr}
use Rattle.gt_types.specs.declared.types.TypeId.{TypeId}
use Rattle.gt_types.specs.declared.types.Target.TheVariants as target
use Rattle.gt_types.specs.declared.types.PtrKind.TheVariants as kind
use Rattle.gt_types.specs.declared.types.Ty.{Ty}
use Rattle.gt_types.specs.declared.types.Ty.TheVariants as ty
use Rattle.gt_types.specs.declared.program.Field.{Field}
use Rattle.gt_types.specs.declared.program.Structure.{Structure}
use Rattle.gt_types.specs.declared.program.Program.{Program}
use Rattle.gt_types.specs.Shapes.{is_number}
use Rattle.gt_types.specs.Contains.{HasStructure}
use Rattle.gt_types.specs.Paths.{LeadsToNumber, Leads, MayStep, by_place, paths_of}

-- a path of an expression begins so
abbrev pub NamesBase : Base → Expr → Type 0
NamesBase base e = Any (λ path. path.0 ≡ base) (paths_of e)

-- the rest of a path leads from a field of this type to a number
abbrev pub GoesOn : Program → List (List ℕ) → Ty → Type 0
GoesOn program rest type =
    ((rest ≡ []) × IsTrue (is_number type)) ⊎ ((next : TypeId) × (desc : Option Expr) × (type ≡ ty.Node next desc) × LeadsToNumber program next rest)

-- a type is a plain pointer to the structure
abbrev pub PointsTo : TypeId → Ty → Type 0
PointsTo own type = (reorder : Bool) × (type ≡ ty.Ptr (Some (target.Node own)) kind.Plain reorder)

-- a path by places leads to a plain pointer to the structure
abbrev pub LeadsToPointer : Program → TypeId → TypeId → List ℕ → Type 0
LeadsToPointer program own node places = (reorder : Bool) × Leads program by_place node places (ty.Ptr (Some (target.Node own)) kind.Plain reorder)

-- the rest of a path leads from a field of this type to such a pointer
abbrev pub PointerGoesOn : Program → TypeId → List ℕ → Ty → Type 0
PointerGoesOn program own rest type =
    ((rest ≡ []) × PointsTo own type) ⊎ ((next : TypeId) × (desc : Option Expr) × (type ≡ ty.Node next desc) × LeadsToPointer program own next rest)

-- a path may go from a structure to its field at a place, which has this type
abbrev pub StepsAt : Program → TypeId → ℕ → Ty → Type 0
StepsAt program node place type =
    (s : Structure) × (f : Field) × HasStructure program node s × (slice_get s.fields place ≡ Some f) × MayStep program s f × (f.ty ≡ type)

-- a path may go from a structure to its field at a place, and the rest leads from it to a number
abbrev pub PlaceGoesOn : Program → TypeId → List (List ℕ) → ℕ → Type 0
PlaceGoesOn program node rest place = (type : Ty) × StepsAt program node place type × GoesOn program rest type

-- a field of this name is at the place, and the path goes on from it
abbrev pub GoesOnNamed : Program → TypeId → List ℕ → List (List ℕ) → ℕ → Field → Type 0
GoesOnNamed program node step rest place f = (f.name ≡ step) × PlaceGoesOn program node rest place

-- the path goes on from some field of this name
abbrev pub NamedGoesOn : Program → TypeId → List ℕ → List (List ℕ) → Type 0
NamedGoesOn program node step rest =
    (s : Structure) × (place : ℕ) × (f : Field) × HasStructure program node s × (slice_get s.fields place ≡ Some f) × GoesOnNamed program node step rest place f

-- the rest of a path leads to a number from the structure to which its first name leads, if there is one
abbrev pub NextLeads : Program → Option TypeId → List (List ℕ) → Type 0
NextLeads program (Some next) rest = LeadsToNumber program next rest
NextLeads program None rest = ⊥

-- this is the structure by value to which a name leads from another, or it leads to none
abbrev pub IsNext : Program → TypeId → List ℕ → Option TypeId → Type 0
IsNext program node name next =
    (rest : List (List ℕ)) → rest ≢ [] → (LeadsToNumber program node (name ∷ rest) → NextLeads program next rest) × (NextLeads program next rest → LeadsToNumber program node (name ∷ rest))
