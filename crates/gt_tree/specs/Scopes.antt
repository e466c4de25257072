-- What the expressions of options read: values of structures, along paths of fields, and roots.
use Rattle.std.specs.Prelude.{ℕ, Bool, false, cond, ℤ, List, [], ◌∷◌, Option, Some, None, slice_get}
use Rattle.std.specs.Str.{bytes_eq}
use Rattle.std.specs.List.{position_from}
use Rattle.gt_types.specs.declared.expressions.Base.{Base}
use Rattle.gt_types.specs.declared.expressions.Base.TheVariants.{Here, Outer, Outermost}
use Rattle.gt_types.specs.declared.expressions.Expr.{Expr}
use Rattle.gt_types.specs.declared.types.TypeId.{TypeId}
use Rattle.gt_types.specs.declared.types.Ty.{Ty}
use Rattle.gt_types.specs.declared.types.Ty.TheVariants as ty
use Rattle.gt_types.specs.declared.program.Field.{Field}
use Rattle.gt_types.specs.declared.program.Structure.{Structure}
use Rattle.gt_types.specs.declared.program.Program.{Program}
use Rattle.gt_types.specs.Values.{value_of, within_i64}
pub use Rattle.gt_unions.specs.Members.{is_node}
use Rattle.gt_tree.specs.Trees.{Tree, Num, Rec, Alt, Trees, End, And, tree_at}

-- a structure and its value
pub record Held : Type 0 where
  pub node : TypeId
  pub value : Tree

-- Where an expression stands: the structure of the option, the one that contains it by value, the outermost of the block,
-- where there are such; and the values of the roots.
pub record Scope : Type 0 where
  pub here : Option Held
  pub outer : Option Held
  pub outermost : Option Held
  pub statics : Trees

-- outside every structure
abbrev pub outside : Trees → Scope
outside statics = record { here = None; outer = None; outermost = None; statics = statics }

abbrev pub first_of : Option Held → Option Held → Option Held
first_of (Some held) other = Some held
first_of None other = other

-- Inside the value of a structure: it is `here`, what was `here` contains it, and where there was nothing it is the outermost.
abbrev pub inside : Scope → TypeId → Tree → Scope
inside scope node tree = record {
  here = Some (record { node = node; value = tree });
  outer = scope.here;
  outermost = first_of scope.outermost (Some (record { node = node; value = tree }));
  statics = scope.statics;
}

abbrev pub base_of : Scope → Base → Option Held
base_of scope Here = scope.here
base_of scope Outer = scope.outer
base_of scope Outermost = scope.outermost

-- ---- what a union begins with

abbrev pub type_of_field : Option Field → Option Ty
type_of_field (Some f) = Some f.ty
type_of_field None = None

abbrev pub first_field_type : Option Structure → Option Ty
first_field_type (Some s) = type_of_field (slice_get s.fields 0)
first_field_type None = None

-- the type of the first field of a structure by value
abbrev pub first_type : Program → Ty → Option Ty
first_type program (ty.Node node desc) = first_field_type (slice_get program.structures node.0)
first_type program type = None

abbrev pub is_of_node : TypeId → Option Ty → Bool
is_of_node node (Some type) = is_node node type
is_of_node node None = false

abbrev pub first_type_of : Program → Option Ty → Option Ty
first_type_of program (Some type) = first_type program type
first_type_of program None = None

abbrev mutual
  -- the structure with which a value of this type begins: itself, or its first field, or the first field of that, and so on
  pub beginning : Program → TypeId → Option Ty → Tree → Option Tree
  beginning program node type (Rec trees) = cond (is_of_node node type) (Some (Rec trees)) (beginning_of program node (first_type_of program type) trees)
  beginning program node type tree = cond (is_of_node node type) (Some tree) None

  pub beginning_of : Program → TypeId → Option Ty → Trees → Option Tree
  beginning_of program node type End = None
  beginning_of program node type (And tree trees) = beginning program node type tree

-- the type of what is there in a union: that of the active member; where there is none, the common structure
abbrev pub type_there : Structure → TypeId → Option ℕ → Option Ty
type_there s common (Some place) = type_of_field (slice_get s.fields place)
type_there s common None = Some (ty.Node common None)

-- ---- paths

-- a type and a value of it
pub record Typed : Type 0 where
  pub type : Ty
  pub value : Tree

infixl 10 ◌then◌
abbrev pub ◌then◌ : {X Y : Type 0} → Option X → (X → Option Y) → Option Y
None then f = None
(Some x) then f = f x

abbrev pub typed : Ty → Tree → Typed
typed type tree = record { type = type; value = tree }

-- the field of a struct, by its value
abbrev pub field_of : Field → Tree → ℕ → Option Typed
field_of f (Rec trees) place = tree_at trees place then λ tree. Some (typed f.ty tree)
field_of f tree place = None

-- a member of a union that is its common structure, whatever member is active
abbrev pub member_of : Program → Structure → Ty → Tree → Option Typed
member_of program s (ty.Node common desc) (Alt member tree) = beginning program common (type_there s common member) tree then λ part. Some (typed (ty.Node common desc) part)
member_of program s type tree = None

-- one step of a path, by the name of a field
abbrev pub step_in : Program → Structure → List ℕ → Tree → Option Typed
step_in program s name tree =
    position_from (λ f. bytes_eq f.name name) 0 s.fields then λ place.
    slice_get s.fields place then λ f.
    cond s.is_union (member_of program s f.ty tree) (field_of f tree place)

abbrev pub step : Program → Ty → List ℕ → Tree → Option Typed
step program (ty.Node node desc) name tree = slice_get program.structures node.0 then λ s. step_in program s name tree
step program type name tree = None

-- a number; one that is outside i64 is no value
abbrev pub number_at : Tree → Option ℤ
number_at (Num n) = within_i64 n
number_at tree = None

-- the number to which a path of names leads
abbrev pub read_path : Program → List (List ℕ) → Ty → Tree → Option ℤ
read_path program [] type tree = number_at tree
read_path program (name ∷ names) type tree = step program type name tree then λ next. read_path program names next.type next.value

-- what a path of an expression reads
abbrev pub leaf_in : Program → Scope → Base → List (List ℕ) → Option ℤ
leaf_in program scope base steps = base_of scope base then λ held. read_path program steps (ty.Node held.node None) held.value

-- what a root of an expression is worth
abbrev pub root_in : Scope → ℕ → Option ℤ
root_in scope i = tree_at scope.statics i then number_at

-- the value of an expression where it stands
abbrev pub eval_in : Program → Scope → Expr → Option ℤ
eval_in program scope = value_of (leaf_in program scope) (root_in scope)
