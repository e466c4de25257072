-- The common structure of a union, found by a search: definitions that go on from it need a value. A law of this crate says that it is the
-- structure of `IsCommon`.
use Rattle.std.specs.Prelude.{ℕ, zero, suc, Bool, true, false, not, ◌&&◌, ◌||◌, cond, List, [], ◌∷◌, Option, Some, None, is_some, slice_get}
use Rattle.std.specs.List.{list_all}
use Rattle.gt_types.specs.declared.types.TypeId.{TypeId}
use Rattle.gt_types.specs.declared.types.Ty.{Ty}
use Rattle.gt_types.specs.declared.types.Ty.TheVariants as ty
use Rattle.gt_types.specs.declared.program.Field.{Field}
use Rattle.gt_types.specs.declared.program.Structure.{Structure}
use Rattle.gt_types.specs.declared.program.Program.{Program}
use Rattle.gt_types.specs.Contains.{held_by}
use Rattle.gt_types.specs.Tails.{tail_of}
use Rattle.gt_types.specs.Unions.{may_be_active}
use Rattle.gt_unions.specs.Members.{is_node}

-- what a field holds passes, where it holds a structure
abbrev pub held_is : (TypeId → Bool) → Option TypeId → Bool
held_is test (Some inner) = test inner
held_is test None = true

-- a struct that does not end in an array with a length, and whose parts pass
abbrev pub is_plain_in : (TypeId → Bool) → Option Structure → Bool
is_plain_in test (Some s) = not s.is_union && not (is_some (tail_of s.fields)) && list_all (λ f. held_is test (held_by f.ty)) s.fields
is_plain_in test None = false

-- a structure is plain, and so is each that it contains, where less than so many nest
abbrev pub is_plain : Program → ℕ → TypeId → Bool
is_plain program zero node = false
is_plain program (suc depth) node = is_plain_in (is_plain program depth) (slice_get program.structures node.0)

-- there is a first field, and its type passes
abbrev pub first_is : (Ty → Bool) → List Field → Bool
first_is test (f ∷ fields) = test f.ty
first_is test [] = false

-- the type of the first field of a struct passes
abbrev pub struct_is : (Ty → Bool) → Option Structure → Bool
struct_is test (Some s) = not s.is_union && first_is test s.fields
struct_is test None = false

-- a type is a struct, and the type of its first field passes
abbrev pub inside_is : Program → (Ty → Bool) → Ty → Bool
inside_is program test (ty.Node node desc) = struct_is test (slice_get program.structures node.0)
inside_is program test type = false

-- a type is a structure or begins with it, where less than so many nest
abbrev pub begins_with : Program → ℕ → TypeId → Ty → Bool
begins_with program zero common type = false
begins_with program (suc depth) common type = is_node common type || inside_is program (begins_with program depth common) type

-- a member is never active, or begins with a structure
abbrev pub suits : Program → TypeId → Field → Bool
suits program common f = not (may_be_active f.active) || begins_with program 33 common f.ty

-- a structure is plain, and each member that may be active begins with it
abbrev pub is_common : Program → Structure → TypeId → Bool
is_common program s common = is_plain program 33 common && list_all (suits program common) s.fields

-- the structure that a member is, where it is the common one
abbrev pub common_by : Program → Structure → Ty → Option TypeId
common_by program s (ty.Node common desc) = cond (is_common program s common) (Some common) None
common_by program s type = None

-- the first of two that is there
abbrev pub or_else : Option TypeId → Option TypeId → Option TypeId
or_else (Some common) other = Some common
or_else None other = other

-- the first of the members' types that is the common structure
abbrev pub common_among : Program → Structure → List Field → Option TypeId
common_among program s [] = None
common_among program s (f ∷ fields) = or_else (common_by program s f.ty) (common_among program s fields)

-- the common structure of a union; none where there is none
abbrev pub common_of : Program → Structure → Option TypeId
common_of program s = common_among program s s.fields
