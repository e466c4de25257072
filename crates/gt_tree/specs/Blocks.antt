-- What a pointer may name.
use Rattle.std.specs.Prelude.{◌≡◌, ◌≢◌, ℕ, ℤ, pos, List, [], ◌∷◌, ◌++◌, Option, Some, None, All, false, length, slice_get}
use Rattle.gt_types.specs.declared.expressions.Expr.{Expr}
use Rattle.gt_types.specs.declared.types.TypeId.{TypeId}
use Rattle.gt_types.specs.declared.types.Width.TheVariants.{W1}
use Rattle.gt_types.specs.declared.types.Scalar.TheVariants as scalar
use Rattle.gt_types.specs.declared.types.Target.TheVariants as target
use Rattle.gt_types.specs.declared.types.PtrKind.TheVariants as kind
use Rattle.gt_types.specs.declared.types.Ty.{Ty}
use Rattle.gt_types.specs.declared.types.Ty.TheVariants as ty
use Rattle.gt_types.specs.declared.program.Structure.{Structure}
use Rattle.gt_types.specs.declared.program.Program.{Program}

-- what a block holds: structures of a type, plain pointers to such, string pointers, the characters of a string with a zero
-- at their end, or bytes that are never scanned
pub data Kind : Type 0 where
  Nodes : TypeId → Kind
  Pointers : TypeId → Kind
  Strings : Kind
  Chars : Kind
  Raw : Kind

abbrev pub desc_of : Option Structure → Option Expr
desc_of (Some s) = s.desc
desc_of None = None

-- the type of a block's elements; a union that stands alone has a `desc` of its own
abbrev pub element_type : Program → Kind → Ty
element_type program (Nodes node) = ty.Node node (desc_of (slice_get program.structures node.0))
element_type program (Pointers node) = ty.Ptr (Some (target.Node node)) kind.Plain false
element_type program Strings = ty.Str None
element_type program Chars = ty.Num (scalar.Int W1 false)
element_type program Raw = ty.Num (scalar.Int W1 false)

-- what is known of a block by its name: what it holds, how many elements, and, of Chars, their bytes
pub record Block : Type 0 where
  pub kind : Kind
  pub count : ℕ
  pub chars : List ℕ

-- a block of characters has as many elements as bytes, of which the last is a zero
abbrev pub IsWhole : Block → Type 0
IsWhole b = b.kind ≡ Chars → (b.count ≡ length b.chars) × ((text : List ℕ) × (b.chars ≡ text ++ 0 ∷ []))

-- the blocks under their names
abbrev pub Blocks : Type 0
Blocks = ℕ → Option Block

-- the name is that of a block that holds so many elements of this kind
abbrev pub Holds : Blocks → ℕ → Kind → ℕ → Type 0
Holds blocks id kind count = (b : Block) × (blocks id ≡ Some b) × (b.kind ≡ kind) × (b.count ≡ count)

-- the same, where the number is the value of an expression, which has one
abbrev pub HoldsAsMany : Blocks → ℕ → Kind → Option ℤ → Type 0
HoldsAsMany blocks id kind value = (n : ℕ) × (value ≡ Some (pos n)) × Holds blocks id kind n

-- a string: its only zero is the last byte
abbrev pub IsString : Blocks → ℕ → Type 0
IsString blocks id = (b : Block) × (text : List ℕ) × (blocks id ≡ Some b) × (b.kind ≡ Chars) × (b.chars ≡ text ++ 0 ∷ []) × All (λ byte. byte ≢ 0) text

-- A block that a pointer of this type may name, by the values of expressions: one structure, or as many structures, pointers
-- or characters as the length says; a string; bytes that are never scanned. A pointer to what is not defined names none.
abbrev pub MayName : Blocks → (Expr → Option ℤ) → Ty → ℕ → Type 0
MayName blocks value (ty.Str None) id = IsString blocks id
MayName blocks value (ty.Str (Some len)) id = HoldsAsMany blocks id Chars (value len)
MayName blocks value (ty.Ptr (Some (target.Node node)) kind.Plain reorder) id = Holds blocks id (Nodes node) 1
MayName blocks value (ty.Ptr (Some (target.Node node)) (kind.Length len) reorder) id = HoldsAsMany blocks id (Nodes node) (value len)
MayName blocks value (ty.Ptr (Some (target.Pointers node)) (kind.Length len) reorder) id = HoldsAsMany blocks id (Pointers node) (value len)
MayName blocks value (ty.Ptr (Some target.Strings) (kind.Length len) reorder) id = HoldsAsMany blocks id Strings (value len)
MayName blocks value (ty.Ptr None kind.Atomic reorder) id = (n : ℕ) × Holds blocks id Raw n
MayName blocks value type id = ⊥
