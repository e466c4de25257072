-- The text of a value.
use Rattle.std.specs.Prelude.{◌≡◌, ℕ, suc, ◌-◌, ◌/◌, ◌%◌, true, false, ◌&&◌, ◌||◌, ◌==◌, nat_le, if◌then◌else◌, IsTrue, ℤ, pos, negsuc, List, [], ◌∷◌, ◌++◌, Option, Some, None, length, take, slice_get, codes, encode_utf8_all}
use Rattle.std.specs.Char.{digit_char}
use Rattle.std.specs.List.{flat_map, join_by}
use Rattle.gt_types.specs.declared.expressions.Expr.{Expr}
use Rattle.gt_types.specs.declared.types.TypeId.{TypeId}
use Rattle.gt_types.specs.declared.types.Target.{Target}
use Rattle.gt_types.specs.declared.types.Target.TheVariants as target
use Rattle.gt_types.specs.declared.types.PtrKind.{PtrKind}
use Rattle.gt_types.specs.declared.types.PtrKind.TheVariants as kind
use Rattle.gt_types.specs.declared.types.Ty.{Ty, out-Ty}
use Rattle.gt_types.specs.declared.types.Ty.TheOpen as part
use Rattle.gt_types.specs.declared.types.Ty.TheVariants as ty
use Rattle.gt_types.specs.declared.program.Field.{Field}
use Rattle.gt_types.specs.declared.program.Structure.{Structure}
use Rattle.gt_types.specs.declared.program.Program.{Program}
use Rattle.gt_types.specs.Shapes.{is_number, is_pointer}
use Rattle.gt_types.specs.Contains.{HasStructure}
use Rattle.gt_types.specs.Unions.{IsCommon}
use Rattle.gt_digits.specs.Digits.{decimal}
use Rattle.gt_tree.specs.Trees.{Tree, Num, Null, To, Raw, Rec, Alt, Row, Trees, End, And}
use Rattle.gt_tree.specs.Blocks.{Block, Blocks}

-- ---- leaves

-- a whole number in decimal; `negsuc n` is -(n + 1)
abbrev pub number_text : ℤ → List ℕ
number_text (pos n) = decimal n
number_text (negsuc n) = codes "-" ++ decimal (suc n)

-- two hexadecimal digits of a byte, in lower case
abbrev pub byte_text : ℕ → List ℕ
byte_text b = digit_char (b / 16) ∷ digit_char (b % 16) ∷ []

-- a byte of a string: `"` (34) and `\` (92) after a `\`, other printable ones as they are, the rest as \x and two digits
abbrev pub char_text : ℕ → List ℕ
char_text b =
    if (b == 34) || (b == 92) then codes "\\" ++ b ∷ []
    else (if nat_le 32 b && nat_le b 126 then b ∷ [] else codes "\\x" ++ byte_text b)

-- a string in quotes, without its last zero
abbrev pub string_text : List ℕ → List ℕ
string_text bytes = codes "\"" ++ flat_map char_text (take (length bytes - 1) bytes) ++ codes "\""

abbrev pub name_if_there : Option Structure → List ℕ
name_if_there (Some s) = encode_utf8_all s.name
name_if_there None = []

-- the name of a structure
abbrev pub name_of : Program → TypeId → List ℕ
name_of program node = name_if_there (slice_get program.structures node.0)

-- what a pointer points to: structures, pointers to structures, strings, or bytes that are never scanned
abbrev pub pointed_text : Program → Option Target → List ℕ
pointed_text program (Some (target.Node node)) = name_of program node
pointed_text program (Some (target.Pointers node)) = name_of program node ++ codes "*"
pointed_text program (Some target.Strings) = codes "char*"
pointed_text program None = codes "raw"

-- how many elements a block has, in brackets; a plain pointer, which names one structure, does not say it
abbrev pub count_text : PtrKind → ℕ → List ℕ
count_text kind.Plain n = []
count_text kind n = codes "[" ++ decimal n ++ codes "]"

-- what a pointer names: a string, or & with what it points to and how many
abbrev pub target_text : Program → Ty → Block → List ℕ
target_text program (ty.Str len) b = string_text b.chars
target_text program (ty.Ptr target kind reorder) b = codes "&" ++ pointed_text program target ++ count_text kind b.count
target_text program type b = []

-- ---- values

-- texts with a comma and a space between two
abbrev pub joined : List (List ℕ) → List ℕ
joined texts = join_by (λ text. text) (codes ", ") texts

-- a text after a name and a mark
abbrev pub named : List ℕ → List ℕ → List ℕ → List ℕ
named name mark text = encode_utf8_all name ++ mark ++ text

mutual
  -- The text of a value of a type.
  --   Numbers are in decimal; opaque bytes are `raw:` and two digits for each.
  --   A pointer is `null` or says what it names.
  --   A struct has its fields in braces, a union its active member after the member's name, and an array its elements in brackets.
  --   Where no member of a union is active, its common structure stands after `none`, or nothing where it has none.
  pub data Shows (program : Program) (blocks : Blocks) : Ty → Tree → List ℕ → Type 0 where
    number : {type : Ty} {n : ℤ} → IsTrue (is_number type) → Shows program blocks type (Num n) (number_text n)
    opaque : {size align : ℕ} {bytes : List ℕ} → Shows program blocks (ty.Opaque size align) (Raw bytes) (codes "raw:" ++ flat_map byte_text bytes)
    null : {type : Ty} → IsTrue (is_pointer type) → Shows program blocks type Null (codes "null")
    to : {type : Ty} {id : ℕ} {b : Block} → IsTrue (is_pointer type) → blocks id ≡ Some b → Shows program blocks type (To id) (target_text program type b)
    struct : {node : TypeId} {desc : Option Expr} {s : Structure} {trees : Trees} {texts : List (List ℕ)} → HasStructure program node s → s.is_union ≡ false
        → ShowFields program blocks s.fields trees texts → Shows program blocks (ty.Node node desc) (Rec trees) (codes "{" ++ joined texts ++ codes "}")
    member : {node : TypeId} {desc : Option Expr} {s : Structure} {place : ℕ} {f : Field} {tree : Tree} {text : List ℕ} → HasStructure program node s → s.is_union ≡ true
        → slice_get s.fields place ≡ Some f → Shows program blocks f.ty tree text
        → Shows program blocks (ty.Node node desc) (Alt (Some place) tree) (named f.name (codes ":") text)
    common : {node common : TypeId} {desc : Option Expr} {s : Structure} {tree : Tree} {text : List ℕ} → HasStructure program node s → s.is_union ≡ true
        → IsCommon program s common → Shows program blocks (ty.Node common None) tree text
        → Shows program blocks (ty.Node node desc) (Alt None tree) (codes "none:" ++ text)
    nothing : {node : TypeId} {desc : Option Expr} {s : Structure} → HasStructure program node s → s.is_union ≡ true
        → ((common : TypeId) → ¬ IsCommon program s common) → Shows program blocks (ty.Node node desc) (Alt None (Rec End)) (codes "none")
    array : {type elem : Ty} {n : ℕ} {trees : Trees} {texts : List (List ℕ)} → out-Ty type ≡ part.Arr n elem → ShowEach program blocks elem trees texts
        → Shows program blocks type (Row trees) (codes "[" ++ joined texts ++ codes "]")
    tail : {type elem : Ty} {length : Expr} {trees : Trees} {texts : List (List ℕ)} → out-Ty type ≡ part.Tail length elem → ShowEach program blocks elem trees texts
        → Shows program blocks type (Row trees) (codes "[" ++ joined texts ++ codes "]")

  -- the texts of fields: the name of each, `=`, and its value
  pub data ShowFields (program : Program) (blocks : Blocks) : List Field → Trees → List (List ℕ) → Type 0 where
    no_field : ShowFields program blocks [] End []
    next_field : {f : Field} {fs : List Field} {tree : Tree} {trees : Trees} {text : List ℕ} {texts : List (List ℕ)} → Shows program blocks f.ty tree text
        → ShowFields program blocks fs trees texts → ShowFields program blocks (f ∷ fs) (And tree trees) (named f.name (codes "=") text ∷ texts)

  -- the texts of elements
  pub data ShowEach (program : Program) (blocks : Blocks) : Ty → Trees → List (List ℕ) → Type 0 where
    no_more : {type : Ty} → ShowEach program blocks type End []
    one_more : {type : Ty} {tree : Tree} {trees : Trees} {text : List ℕ} {texts : List (List ℕ)} → Shows program blocks type tree text
        → ShowEach program blocks type trees texts → ShowEach program blocks type (And tree trees) (text ∷ texts)

-- two texts of one value of one type are one text
abbrev pub TextIsOne : Program → Type 0
TextIsOne program = (blocks : Blocks) (type : Ty) (tree : Tree) (text other : List ℕ) → Shows program blocks type tree text → Shows program blocks type tree other → text ≡ other
