-- No promise: what a value is made into, from the outside in: a part is made by its type, by what it was and by what was around it.
use Rattle.std.specs.Prelude.{◌≡◌, Result, Ok, Err, ℕ, zero, suc, Bool, true, false, cond, ◌==◌, nat_le, ℤ, pos, List, [], ◌∷◌, Option, Some, None, slice_get, replicate, option_map, length, map}
use Rattle.gt_types.specs.declared.expressions.Expr.{Expr}
use Rattle.gt_types.specs.declared.types.TypeId.{TypeId}
use Rattle.gt_types.specs.declared.types.Ty.{Ty, out-Ty}
use Rattle.gt_types.specs.declared.types.Ty.TheOpen as part
use Rattle.gt_types.specs.declared.types.Ty.TheOpen.{Ty-F}
use Rattle.gt_types.specs.declared.types.Ty.TheVariants as ty
use Rattle.gt_types.specs.declared.program.Field.{Field}
use Rattle.gt_types.specs.declared.program.Structure.{Structure}
use Rattle.gt_types.specs.declared.program.Root.{Root}
use Rattle.gt_types.specs.declared.program.Program.{Program}
use Rattle.gt_tree.specs.Trees.{Tree, Num, Null, Raw, Rec, Alt, Row, Trees, End, And, count, tree_at, is_leaf, without_pointers}
use Rattle.gt_tree.specs.Scopes.{◌then◌, beginning, type_there}
use Rattle.gt_tree.specs.Fits.{active_member, types_of}
use Rattle.gt_value.specs.declared.values.Value.{Value}
use Rattle.gt_value.specs.declared.values.ValueFail.{ValueFail}
use Rattle.gt_value.specs.declared.values.ValueFail.TheVariants.{Shape, Memory}
use Rattle.gt_value.specs.Values.{tree_of}
use Rattle.gt_assign.specs.Pasts.{Was, Whole, Nothing, Begun, Past, past_outside, past_inside, value_was, desc_was}
use Rattle.gt_unions.specs.Commons.{common_of}

-- what a call gives that makes a value
abbrev pub Gives : Result Value ValueFail → Option Tree → Type 0
Gives (Ok value) tree = tree ≡ Some (tree_of value)
Gives (Err Shape) tree = tree ≡ None
Gives (Err Memory) tree = Unit {0}

-- how a part is made
abbrev pub Maker : Type 0
Maker = Past → Ty → Was → Option Tree

-- ---- leaves

-- a leaf that was not there is 0, null or zero bytes
abbrev pub zero_leaf : Ty-F Ty → Option Tree
zero_leaf (part.Num scalar) = Some (Num (pos 0))
zero_leaf (part.Bits unit width) = Some (Num (pos 0))
zero_leaf (part.Opaque size align) = Some (Raw (replicate size 0))
zero_leaf (part.Str len) = Some Null
zero_leaf (part.Ptr target kind reorder) = Some Null
zero_leaf layer = None

-- a leaf stays
abbrev pub leaf_made : Ty-F Ty → Was → Option Tree
leaf_made layer (Whole tree) = cond (is_leaf tree) (Some tree) None
leaf_made layer Nothing = zero_leaf layer
leaf_made layer (Begun common tree) = None

-- ---- parts of what a value was

abbrev pub field_was : Was → ℕ → Option Was
field_was (Whole (Rec trees)) i = option_map Whole (tree_at trees i)
field_was (Whole tree) i = None
field_was Nothing i = Some Nothing
field_was (Begun common tree) i = Some (cond (i == 0) (Begun common tree) Nothing)

-- a struct was one with so many fields
abbrev pub has_fields : Was → ℕ → Bool
has_fields (Whole (Rec trees)) n = count trees == n
has_fields (Whole tree) n = false
has_fields was n = true

-- an element that was not there is nothing
abbrev pub maybe_whole : Option Tree → Was
maybe_whole (Some tree) = Whole tree
maybe_whole None = Nothing

abbrev pub element_was : Was → ℕ → Option Was
element_was (Whole (Row trees)) i = Some (maybe_whole (tree_at trees i))
element_was Nothing i = Some Nothing
element_was was i = None

-- ---- structs and rows

-- the fields from a place on
abbrev pub fields_made : Maker → Past → Was → ℕ → List Ty → Option Trees
fields_made make past was i [] = Some End
fields_made make past was i (type ∷ types) =
    field_was was i then λ part.
    make past type part then λ tree.
    fields_made make past was (suc i) types then λ trees. Some (And tree trees)

abbrev pub struct_made : Maker → Past → List Field → Was → Option Tree
struct_made make past fields was = cond (has_fields was (length fields)) (option_map Rec (fields_made make past was 0 (types_of fields))) None

-- so many elements from a place on
abbrev pub elements_made : Maker → Past → Ty → Was → ℕ → ℕ → Option Trees
elements_made make past type was i zero = Some End
elements_made make past type was i (suc n) =
    element_was was i then λ part.
    make past type part then λ tree.
    elements_made make past type was (suc i) n then λ trees. Some (And tree trees)

-- an array was one, or nothing
abbrev pub is_row : Was → Bool
is_row (Whole (Row trees)) = true
is_row Nothing = true
is_row was = false

abbrev pub row_made : Maker → Past → Ty → Was → ℕ → Option Tree
row_made make past type was n = cond (is_row was) (option_map Row (elements_made make past type was 0 n)) None

-- how many elements there are at a structure's end: what their length says, where there is room for them
abbrev pub within : ℕ → Option ℤ → Option ℕ
within capacity (Some (pos n)) = cond (nat_le n capacity) (Some n) None
within capacity value = None

-- ---- unions

-- what a member was that is active now: what it is, where it was active; what the common structure makes of it, where another was
abbrev pub begun_by : Program → Structure → Option ℕ → Tree → Option TypeId → Option Was
begun_by program s member tree (Some common) = option_map (Begun common) (beginning program common (type_there s common member) tree)
begun_by program s member tree None = Some Nothing

abbrev pub is_member : Option ℕ → ℕ → Bool
is_member (Some place) i = place == i
is_member None i = false

abbrev pub member_was : Program → Structure → ℕ → Was → Option Was
member_was program s place (Whole (Alt member tree)) = cond (is_member member place) (Some (Whole tree)) (begun_by program s member tree (common_of program s))
member_was program s place Nothing = Some Nothing
member_was program s place was = None

-- the common structure without its pointers, where no member is active now
abbrev pub rest_by : Program → Structure → Option ℕ → Tree → Option TypeId → Option Tree
rest_by program s member tree (Some common) = option_map without_pointers (beginning program common (type_there s common member) tree)
rest_by program s member tree None = Some (Rec End)

abbrev pub rest_zero : Maker → Past → Option TypeId → Option Tree
rest_zero make past (Some common) = make past (ty.Node common None) Nothing
rest_zero make past None = Some (Rec End)

abbrev pub rest_whole : Program → Structure → Tree → Option Tree
rest_whole program s (Alt (Some place) tree) = rest_by program s (Some place) tree (common_of program s)
rest_whole program s (Alt None tree) = Some (without_pointers tree)
rest_whole program s tree = None

abbrev pub rest_made : Program → Maker → Past → Structure → Was → Option Tree
rest_made program make past s (Whole tree) = rest_whole program s tree
rest_made program make past s Nothing = rest_zero make past (common_of program s)
rest_made program make past s (Begun common tree) = None

abbrev pub alt_made : Maker → Past → ℕ → Option Field → Option Was → Option Tree
alt_made make past place (Some f) (Some was) = option_map (Alt (Some place)) (make past f.ty was)
alt_made make past place f was = None

abbrev pub member_made : Program → Maker → Past → Structure → Was → Option ℕ → Option Tree
member_made program make past s was (Some place) = alt_made make past place (slice_get s.fields place) (member_was program s place was)
member_made program make past s was None = option_map (Alt None) (rest_made program make past s was)

-- ---- a value

abbrev pub structure_made : Program → Maker → Past → Option Expr → Was → Option Structure → Option Tree
structure_made program make past desc was (Some s) =
    cond s.is_union (member_made program make past s was (active_member (desc_was program past desc) s.fields)) (struct_made make past s.fields was)
structure_made program make past desc was None = None

-- a structure with which a part begins stays as it is
abbrev pub stays : TypeId → Was → Option Tree
stays node (Begun common tree) = cond (common.0 == node.0) (Some tree) None
stays node was = None

abbrev pub or_made : Option Tree → Option Tree → Option Tree
or_made (Some tree) other = Some tree
or_made None other = other

abbrev pub node_made : Program → Maker → Past → TypeId → Option Expr → Was → Option Tree
node_made program make past node desc was = or_made (stays node was) (structure_made program make (past_inside past node was) desc was (slice_get program.structures node.0))

abbrev pub tail_made : Maker → Past → Ty → Was → Option ℕ → Option Tree
tail_made make past elem was (Some n) = row_made make past elem was n
tail_made make past elem was None = None

abbrev pub layer_made : Program → ℕ → Maker → Past → Ty-F Ty → Was → Option Tree
layer_made program capacity make past (part.Node node desc) was = node_made program make past node desc was
layer_made program capacity make past (part.Arr n elem) was = row_made make past elem was n
layer_made program capacity make past (part.Tail len elem) was = tail_made make past elem was (within capacity (value_was program past len))
layer_made program capacity make past layer was = leaf_made layer was

-- the value that a part becomes, where types nest at most so deep
abbrev pub made : Program → ℕ → ℕ → Maker
made program capacity zero past type was = None
made program capacity (suc depth) past type was = layer_made program capacity (made program capacity depth) past (out-Ty type) was

-- ---- the static record

-- the roots, each by what it was
abbrev pub roots_made : Maker → Past → List Root → Was → Option Tree
roots_made make past roots was = cond (has_fields was (length roots)) (option_map Rec (fields_made make past was 0 (map (λ r. r.ty) roots))) None

-- the static record becomes what its roots do, whose expressions read the record with the new leaf in it
abbrev pub record_made : Program → ℕ → Tree → Option Tree
record_made program depth (Rec written) = roots_made (made program 0 depth) (past_outside written) program.roots (Whole (Rec written))
record_made program depth tree = None
