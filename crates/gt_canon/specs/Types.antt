-- The words of a type.
use Rattle.std.specs.Prelude.{ℕ, Bool, true, false, List, [], ◌∷◌, ◌++◌, Option, Some, None, codes}
use Rattle.gt_types.specs.declared.expressions.Expr.{Expr}
use Rattle.gt_types.specs.declared.types.Width.TheVariants.{W1, W2, W4, W8}
use Rattle.gt_types.specs.declared.types.Scalar.{Scalar}
use Rattle.gt_types.specs.declared.types.Scalar.TheVariants as scalar
use Rattle.gt_types.specs.declared.types.Target.{Target}
use Rattle.gt_types.specs.declared.types.Target.TheVariants as target
use Rattle.gt_types.specs.declared.types.PtrKind.{PtrKind}
use Rattle.gt_types.specs.declared.types.PtrKind.TheVariants as kind
use Rattle.gt_types.specs.declared.types.Ty.{Ty}
use Rattle.gt_types.specs.declared.types.Ty.TheFolds.{fold-Ty}
use Rattle.gt_types.specs.declared.types.Ty.TheOpen as part
use Rattle.gt_types.specs.declared.types.Ty.TheOpen.{Ty-F}
use Rattle.gt_types.specs.declared.program.Program.{Program}
use Rattle.gt_digits.specs.Digits.{decimal}
use Rattle.gt_canon.specs.Names.{structure_name}
use Rattle.gt_canon.specs.Expressions.{expression_text}

-- a number, by its bytes and whether it has a sign
abbrev pub scalar_word : Scalar → List ℕ
scalar_word scalar.Bool = codes "b"
scalar_word (scalar.Int W1 true) = codes "i1"
scalar_word (scalar.Int W1 false) = codes "u1"
scalar_word (scalar.Int W2 true) = codes "i2"
scalar_word (scalar.Int W2 false) = codes "u2"
scalar_word (scalar.Int W4 true) = codes "i4"
scalar_word (scalar.Int W4 false) = codes "u4"
scalar_word (scalar.Int W8 true) = codes "i8"
scalar_word (scalar.Int W8 false) = codes "u8"

-- the `desc` of a union; - where there is none
abbrev pub desc_word : Program → Option Expr → List ℕ
desc_word program (Some e) = expression_text program e
desc_word program None = codes "-"

-- what a pointer with a length leads to
abbrev pub target_words : Program → Option Target → List (List ℕ)
target_words program (Some (target.Node id)) = codes "node" ∷ structure_name program id ∷ []
target_words program (Some (target.Pointers id)) = codes "ptr" ∷ structure_name program id ∷ []
target_words program (Some target.Strings) = codes "str" ∷ []
target_words program None = []

-- the name of the structure that a plain pointer leads to
abbrev pub node_words : Program → Option Target → List (List ℕ)
node_words program (Some (target.Node id)) = structure_name program id ∷ []
node_words program (Some (target.Pointers id)) = []
node_words program (Some target.Strings) = []
node_words program None = []

-- a pointer, by its kind
abbrev pub pointer_words : Program → Option Target → PtrKind → List (List ℕ)
pointer_words program target kind.Plain = codes "ptr" ∷ node_words program target
pointer_words program target (kind.Length count) = codes "len" ∷ expression_text program count ∷ target_words program target
pointer_words program target kind.Atomic = codes "atomic" ∷ []
pointer_words program target kind.Undef = codes "undef" ∷ []

-- whether a pointer's block is sorted in an image
abbrev pub reorder_words : Bool → List (List ℕ)
reorder_words true = codes "reorder" ∷ []
reorder_words false = []

-- one part of a type, by the words of its elements
abbrev pub type_step : Program → Ty-F (List (List ℕ)) → List (List ℕ)
type_step program (part.Num scalar) = scalar_word scalar ∷ []
type_step program (part.Bits unit count) = codes "bits" ∷ scalar_word unit ∷ decimal count ∷ []
type_step program (part.Opaque size align) = codes "raw" ∷ decimal size ∷ decimal align ∷ []
type_step program (part.Str None) = codes "str" ∷ []
type_step program (part.Str (Some count)) = codes "strlen" ∷ expression_text program count ∷ []
type_step program (part.Ptr target kind reorder) = reorder_words reorder ++ pointer_words program target kind
type_step program (part.Node id desc) = codes "node" ∷ structure_name program id ∷ desc_word program desc ∷ []
type_step program (part.Arr n elem) = codes "arr" ∷ decimal n ∷ elem
type_step program (part.Tail count elem) = codes "tail" ∷ expression_text program count ∷ elem

-- the words of a type
abbrev pub type_words : Program → Ty → List (List ℕ)
type_words program = fold-Ty (List (List ℕ)) (type_step program)
