-- What the expressions of options may read, and where a structure may stand alone.
use Rattle.std.specs.Prelude.{◌≡◌, ◌≢◌, ◌⊎◌, ℕ, Bool, true, IsTrue, List, [], ◌∷◌, ◌++◌, Option, Some, IsSome, slice_get, All, Any, Contains, filter_map, option_to_list}
use Rattle.gt_types.specs.declared.expressions.Base.{Base}
use Rattle.gt_types.specs.declared.expressions.Base.TheVariants.{Here, Outer, Outermost}
use Rattle.gt_types.specs.declared.expressions.Expr.{Expr}
use Rattle.gt_types.specs.declared.expressions.Expr.TheOpen.{Expr-F, Int, Path, Root, One, Two, Cond}
use Rattle.gt_types.specs.declared.expressions.Expr.TheFolds.{fold-Expr}
use Rattle.gt_types.specs.declared.types.TypeId.{TypeId}
use Rattle.gt_types.specs.declared.types.Target.TheVariants as target
use Rattle.gt_types.specs.declared.types.PtrKind.TheVariants as kind
use Rattle.gt_types.specs.declared.types.Ty.{Ty}
use Rattle.gt_types.specs.declared.types.Ty.TheVariants as ty
use Rattle.gt_types.specs.declared.program.Field.{Field}
use Rattle.gt_types.specs.declared.program.Structure.{Structure}
use Rattle.gt_types.specs.declared.program.Root.{Root as RootOf}
use Rattle.gt_types.specs.declared.program.Program.{Program}
use Rattle.gt_types.specs.Names.{IsName}
use Rattle.gt_types.specs.Operators.{HasOperators}
use Rattle.gt_types.specs.Shapes.{count_of, is_number}
use Rattle.gt_types.specs.Contains.{HasStructure, ContainsStructure, ContainsAtDepth}
use Rattle.gt_types.specs.Unions.{IsCommon}

-- ---- what an expression names

-- a path: the structure at which it begins, and the names of the fields on it
abbrev pub Way : Type 0
Way = Base × List (List ℕ)

abbrev pub paths_step : Expr-F (List Way) → List Way
paths_step (Int n) = []
paths_step (Path base steps) = (base, steps) ∷ []
paths_step (Root i) = []
paths_step (One op a) = a
paths_step (Two op a b) = a ++ b
paths_step (Cond test a b) = test ++ a ++ b

-- the paths in an expression
abbrev pub paths_of : Expr → List Way
paths_of = fold-Expr (List Way) paths_step

abbrev pub roots_step : Expr-F (List ℕ) → List ℕ
roots_step (Int n) = []
roots_step (Path base steps) = []
roots_step (Root i) = i ∷ []
roots_step (One op a) = a
roots_step (Two op a b) = a ++ b
roots_step (Cond test a b) = test ++ a ++ b

-- the places of the roots in an expression
abbrev pub roots_of : Expr → List ℕ
roots_of = fold-Expr (List ℕ) roots_step

-- ---- structures that may stand alone

-- an expression names the structure that contains its own
abbrev pub NamesOuter : Expr → Type 0
NamesOuter e = Any (λ path. path.0 ≡ Outer) (paths_of e)

-- the expressions of a structure that speak of itself as `%h`: the lengths of its fields, and its own `desc`
abbrev pub own_expressions : Structure → List Expr
own_expressions s = filter_map (λ f. count_of f.ty) s.fields ++ option_to_list s.desc

-- a structure is inner where one of these names the structure that contains it
abbrev pub IsInner : Program → TypeId → Type 0
IsInner program node = (s : Structure) × HasStructure program node s × Any NamesOuter (own_expressions s)

-- Which structures are inner is told apart from the program, since headers with a fault declare options that no program has.
abbrev pub Inner : Type 1
Inner = TypeId → Type 0

-- a structure may stand alone, as an object or as what a pointer names: it is not inner, and a union has a `desc` of its own
abbrev pub MayStandBeside : Inner → Program → TypeId → Type 0
MayStandBeside inner program node = (s : Structure) × HasStructure program node s × ¬ inner node × (s.is_union ≡ true → IsSome s.desc)

-- the same, where the inner structures are those of the program
abbrev pub MayStand : Program → TypeId → Type 0
MayStand program = MayStandBeside (IsInner program) program

-- ---- paths

-- a path may go from a structure to a field: from a struct to each, from a union only to a member of the common structure's type
pub record MayStep (program : Program) (s : Structure) (f : Field) : Type 0 where
  pub there : Contains s.fields f
  pub common : s.is_union ≡ true → (node : TypeId) × (desc : Option Expr) × (f.ty ≡ ty.Node node desc) × IsCommon program s node

-- A path leads from a structure through fields of structures by value to a field of this type. Its steps pick the fields, by
-- name or by place.
pub data Leads {X : Type 0} (program : Program) (picks : X → Structure → Field → Type 0) : TypeId → List X → Ty → Type 0 where
  last_step : {node : TypeId} {x : X} {s : Structure} {f : Field} → HasStructure program node s → picks x s f → MayStep program s f
      → Leads program picks node (x ∷ []) f.ty
  next_step : {node next : TypeId} {x : X} {xs : List X} {s : Structure} {f : Field} {desc : Option Expr} {type : Ty}
      → HasStructure program node s → picks x s f → MayStep program s f → f.ty ≡ ty.Node next desc → Leads program picks next xs type
      → Leads program picks node (x ∷ xs) type

-- a step by the field's name
abbrev pub by_name : List ℕ → Structure → Field → Type 0
by_name name s f = f.name ≡ name

-- a step by the field's place in its structure
abbrev pub by_place : ℕ → Structure → Field → Type 0
by_place place s f = slice_get s.fields place ≡ Some f

-- a path leads from a structure to a number or a bit-field that is no element of an array
abbrev pub LeadsToNumber : Program → TypeId → List (List ℕ) → Type 0
LeadsToNumber program node steps = (type : Ty) × Leads program by_name node steps type × IsTrue (is_number type)

-- a path leads from a structure to a plain pointer to this same structure
abbrev pub LeadsToOwnPointer : Program → TypeId → List ℕ → Type 0
LeadsToOwnPointer program node places = (reorder : Bool) × Leads program by_place node places (ty.Ptr (Some (target.Node node)) kind.Plain reorder)

-- ---- the expressions of options

-- the structures at which a block may begin that holds the structure by value
abbrev pub IsOutermostBeside : Inner → Program → TypeId → TypeId → Type 0
IsOutermostBeside inner program node outer = ¬ inner outer × ((outer ≡ node) ⊎ ContainsAtDepth program outer node)

-- A path in an option of a structure, by where it begins: the structure itself; each structure that contains it; each that
-- is outermost.
abbrev pub PathFitsBeside : Inner → Program → TypeId → Base → List (List ℕ) → Type 0
PathFitsBeside inner program node Here steps = LeadsToNumber program node steps
PathFitsBeside inner program node Outer steps = (outer : TypeId) → ContainsStructure program outer node → LeadsToNumber program outer steps
PathFitsBeside inner program node Outermost steps = (outer : TypeId) → IsOutermostBeside inner program node outer → LeadsToNumber program outer steps

-- A path in the `desc` of a field that holds a union: it begins at the union, at the field's structure, or at each that is
-- outermost for this one.
abbrev pub DescPathFitsBeside : Inner → Program → TypeId → TypeId → Base → List (List ℕ) → Type 0
DescPathFitsBeside inner program node union Here steps = LeadsToNumber program union steps
DescPathFitsBeside inner program node union Outer steps = LeadsToNumber program node steps
DescPathFitsBeside inner program node union Outermost steps = PathFitsBeside inner program node Outermost steps

-- the same, where the inner structures are those of the program
abbrev pub IsOutermost : Program → TypeId → TypeId → Type 0
IsOutermost program = IsOutermostBeside (IsInner program) program

abbrev pub PathFits : Program → TypeId → Base → List (List ℕ) → Type 0
PathFits program = PathFitsBeside (IsInner program) program

abbrev pub DescPathFits : Program → TypeId → TypeId → Base → List (List ℕ) → Type 0
DescPathFits program = DescPathFitsBeside (IsInner program) program

-- the steps of a path: one at least, each of which is a name
abbrev pub AreSteps : List (List ℕ) → Type 0
AreSteps steps = (steps ≢ []) × All IsName steps

-- a root is a number
abbrev pub IsScalarRoot : Program → ℕ → Type 0
IsScalarRoot program i = (r : RootOf) × (slice_get program.roots i ≡ Some r) × IsTrue (is_number r.ty)

-- the length of a field, or the `desc` of a union itself
pub record IsOptionBeside (inner : Inner) (program : Program) (node : TypeId) (e : Expr) : Type 0 where
  pub operators : HasOperators e
  pub no_roots : roots_of e ≡ []
  pub steps : All (λ path. AreSteps path.1) (paths_of e)
  pub paths : All (λ path. PathFitsBeside inner program node path.0 path.1) (paths_of e)

-- the `desc` of a field of a structure that holds a union
pub record IsFieldDescBeside (inner : Inner) (program : Program) (node union : TypeId) (e : Expr) : Type 0 where
  pub operators : HasOperators e
  pub no_roots : roots_of e ≡ []
  pub steps : All (λ path. AreSteps path.1) (paths_of e)
  pub paths : All (λ path. DescPathFitsBeside inner program node union path.0 path.1) (paths_of e)

-- the same, where the inner structures are those of the program
abbrev pub IsOption : Program → TypeId → Expr → Type 0
IsOption program = IsOptionBeside (IsInner program) program

abbrev pub IsFieldDesc : Program → TypeId → TypeId → Expr → Type 0
IsFieldDesc program = IsFieldDescBeside (IsInner program) program

-- the length of a root, which has no paths
pub record IsRootCount (program : Program) (e : Expr) : Type 0 where
  pub operators : HasOperators e
  pub roots : All (IsScalarRoot program) (roots_of e)
  pub no_paths : paths_of e ≡ []

-- the `desc` of a root that holds a union, whose paths begin at the union
pub record IsRootDesc (program : Program) (union : TypeId) (e : Expr) : Type 0 where
  pub operators : HasOperators e
  pub roots : All (IsScalarRoot program) (roots_of e)
  pub paths : All (λ path. (path.0 ≡ Here) × LeadsToNumber program union path.1) (paths_of e)
