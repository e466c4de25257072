-- The words of a type, as `tables` writes them.
use Rattle.std.specs.Prelude.{ℕ, Bool, true, false, List, [], ◌∷◌, ◌++◌, Option, Some, None, codes, slice_get}
use Rattle.gt_types.specs.declared.types.TypeId.{TypeId}
use Rattle.gt_types.specs.declared.types.Width.{Width}
use Rattle.gt_types.specs.declared.types.Width.TheVariants.{W1, W2, W4, W8}
use Rattle.gt_types.specs.declared.types.Scalar.{Scalar}
use Rattle.gt_types.specs.declared.types.Scalar.TheVariants as scalar
use Rattle.gt_types.specs.declared.types.Target.{Target}
use Rattle.gt_types.specs.declared.types.Target.TheVariants as target
use Rattle.gt_types.specs.declared.types.PtrKind.{PtrKind}
use Rattle.gt_types.specs.declared.types.PtrKind.TheVariants as kind
use Rattle.gt_types.specs.declared.types.Ty.{Ty}
use Rattle.gt_types.specs.declared.types.Ty.TheFolds.{fold-Ty}
use Rattle.gt_types.specs.declared.types.Ty.TheOpen as part
use Rattle.gt_types.specs.declared.types.Ty.TheOpen.{Ty-F}
use Rattle.gt_types.specs.declared.program.Structure.{Structure}
use Rattle.gt_types.specs.declared.program.Program.{Program}
use Rattle.gt_digits.specs.Digits.{decimal}
use Rattle.gt_canon.specs.Names.{structure_name}
use Rattle.gt_canon.specs.Canon.{structure_word}

-- a number: its sign, and its bits
abbrev pub scalar_word : Scalar → List ℕ
scalar_word scalar.Bool = codes "bool"
scalar_word (scalar.Int W1 true) = codes "i8"
scalar_word (scalar.Int W1 false) = codes "u8"
scalar_word (scalar.Int W2 true) = codes "i16"
scalar_word (scalar.Int W2 false) = codes "u16"
scalar_word (scalar.Int W4 true) = codes "i32"
scalar_word (scalar.Int W4 false) = codes "u32"
scalar_word (scalar.Int W8 true) = codes "i64"
scalar_word (scalar.Int W8 false) = codes "u64"

-- what a pointer names: a structure, pointers to structures, or strings
abbrev pub target_words : Program → Option Target → List (List ℕ)
target_words program (Some (target.Node id)) = codes "ptr" ∷ structure_name program id ∷ []
target_words program (Some (target.Pointers id)) = codes "ptrs" ∷ structure_name program id ∷ []
target_words program (Some target.Strings) = codes "strings" ∷ []
target_words program None = []

-- a pointer, by its kind
abbrev pub pointer_words : Program → Option Target → PtrKind → List (List ℕ)
pointer_words program target kind.Plain = target_words program target
pointer_words program target (kind.Length count) = codes "length" ∷ target_words program target
pointer_words program target kind.Atomic = codes "atomic" ∷ []
pointer_words program target kind.Undef = codes "undef" ∷ []

abbrev pub word_if_structure : Option Structure → List ℕ
word_if_structure (Some s) = structure_word s.is_union
word_if_structure None = []

-- the word for a structure of this number: `struct` or `union`
abbrev pub kind_word : Program → TypeId → List ℕ
kind_word program id = word_if_structure (slice_get program.structures id.0)

-- One part of a type, by the words of its elements. A bit-field begins at this bit of its unit.
abbrev pub type_step : Program → ℕ → Ty-F (List (List ℕ)) → List (List ℕ)
type_step program bit (part.Num scalar) = scalar_word scalar ∷ []
type_step program bit (part.Bits unit count) = scalar_word unit ∷ codes "bits" ∷ decimal count ∷ codes "at" ∷ decimal bit ∷ []
type_step program bit (part.Opaque size align) = codes "opaque" ∷ decimal size ∷ []
type_step program bit (part.Str count) = codes "string" ∷ []
type_step program bit (part.Ptr target kind reorder) = pointer_words program target kind
type_step program bit (part.Node id desc) = kind_word program id ∷ structure_name program id ∷ []
type_step program bit (part.Arr n elem) = codes "array" ∷ decimal n ∷ elem
type_step program bit (part.Tail count elem) = codes "tail" ∷ elem

-- the words of a type
abbrev pub type_words : Program → ℕ → Ty → List (List ℕ)
type_words program bit = fold-Ty (List (List ℕ)) (type_step program bit)
