-- No promise: parts of values, and what is added to a text for them.
use Rattle.std.specs.Prelude.{◌≡◌, ◌⊎◌, ◌==◌, if◌then◌else◌, true, ℕ, ℤ, List, [], ◌++◌, codes, Option, Some, None, length, slice_get}
use Rattle.gt_types.specs.declared.expressions.Expr.{Expr}
use Rattle.gt_types.specs.declared.types.TypeId.{TypeId}
use Rattle.gt_types.specs.declared.types.Ty.{Ty, out-Ty}
use Rattle.gt_types.specs.declared.types.Ty.TheOpen as part
use Rattle.gt_types.specs.declared.types.Ty.TheOpen.{Ty-F}
use Rattle.gt_types.specs.declared.types.Ty.TheVariants as ty
use Rattle.gt_types.specs.declared.program.Field.{Field}
use Rattle.gt_types.specs.declared.program.Structure.{Structure}
use Rattle.gt_types.specs.declared.program.Program.{Program}
use Rattle.gt_types.specs.Contains.{HasStructure}
use Rattle.gt_types.specs.Unions.{IsCommon}
use Rattle.gt_tree.specs.Trees.{Tree, Rec, Alt, Trees, End}
use Rattle.gt_tree.specs.Blocks.{Chars, Block, Blocks, MayName}
use Rattle.gt_tree.specs.Scopes.{Scope}
use Rattle.gt_tree.specs.Fits.{Fits, AllFit, EachFits}
use Rattle.gt_show.specs.Shown.{Shows, ShowFields, ShowEach, joined, named}

-- ---- types

-- the structure that a type is
abbrev pub structure_in : Program → Ty → Option Structure
structure_in program (ty.Node node desc) = slice_get program.structures node.0
structure_in program type = None

abbrev pub element_at : Ty-F Ty → Option Ty
element_at (part.Arr n elem) = Some elem
element_at (part.Tail count elem) = Some elem
element_at type = None

-- what an array has as elements
abbrev pub element_in : Ty → Option Ty
element_in type = element_at (out-Ty type)

-- ---- values that fit somewhere

-- a value fits a type: it is a whole value, or a part of one
abbrev pub FitsSomewhere : Program → Blocks → Ty → Tree → Type 0
FitsSomewhere program blocks type tree = (scope : Scope) × (capacity : ℕ) × Fits program blocks capacity scope type tree

-- values fit these types, one after another
abbrev pub AllFitSomewhere : Program → Blocks → List Ty → Trees → Type 0
AllFitSomewhere program blocks types trees = (scope : Scope) × (capacity : ℕ) × AllFit program blocks capacity scope types trees

-- each value fits the type
abbrev pub EachFitsSomewhere : Program → Blocks → Ty → Trees → Type 0
EachFitsSomewhere program blocks type trees = (scope : Scope) × (capacity : ℕ) × EachFits program blocks capacity scope type trees

-- a value of the member at a place of a union fits
abbrev pub MemberFits : Program → Blocks → Structure → ℕ → Tree → Type 0
MemberFits program blocks s place tree = (f : Field) × (slice_get s.fields place ≡ Some f) × FitsSomewhere program blocks f.ty tree

-- a value of the common structure of a union fits; where there is none it is nothing
abbrev pub CommonFits : Program → Blocks → Structure → Tree → Type 0
CommonFits program blocks s tree =
    ((common : TypeId) × IsCommon program s common × FitsSomewhere program blocks (ty.Node common None) tree) ⊎ (((common : TypeId) → ¬ IsCommon program s common) × (tree ≡ Rec End))

-- a pointer of this type may name the block, by some values of expressions
abbrev pub MayPoint : Blocks → Ty → ℕ → Type 0
MayPoint blocks type id = (value : Expr → Option ℤ) × MayName blocks value type id

-- the name is that of a block of so many characters
abbrev pub HasChars : Blocks → ℕ → ℕ → Type 0
HasChars blocks id count = (b : Block) × (blocks id ≡ Some b) × (b.kind ≡ Chars) × (count ≡ length b.chars)

-- ---- texts

-- what stands before the part at a place: a comma and a space, but for the first
abbrev pub separator : ℕ → List ℕ
separator place = if place == 0 then [] else codes ", "

-- such a text stands after what was there
abbrev pub IsAdded : (List ℕ → Type 0) → List ℕ → List ℕ → Type 0
IsAdded shows old new = (text : List ℕ) × shows text × (new ≡ old ++ text)

-- ---- the text of a value by its structure or its elements

-- the fields of a struct, in braces
abbrev pub ShowsStruct : Program → Blocks → Structure → Trees → List ℕ → Type 0
ShowsStruct program blocks s trees text = (texts : List (List ℕ)) × ShowFields program blocks s.fields trees texts × (text ≡ codes "{" ++ joined texts ++ codes "}")

-- the member at a place of a union
abbrev pub ShowsMember : Program → Blocks → Structure → ℕ → Tree → List ℕ → Type 0
ShowsMember program blocks s place tree text =
    (f : Field) × (own : List ℕ) × (slice_get s.fields place ≡ Some f) × Shows program blocks f.ty tree own × (text ≡ named f.name (codes ":") own)

-- a union in which no member is active
abbrev pub ShowsCommon : Program → Blocks → Structure → Tree → List ℕ → Type 0
ShowsCommon program blocks s tree text = (node : TypeId) (desc : Option Expr) → HasStructure program node s → s.is_union ≡ true → Shows program blocks (ty.Node node desc) (Alt None tree) text

-- elements, in brackets
abbrev pub ShowsRow : Program → Blocks → Ty → Trees → List ℕ → Type 0
ShowsRow program blocks elem trees text = (texts : List (List ℕ)) × ShowEach program blocks elem trees texts × (text ≡ codes "[" ++ joined texts ++ codes "]")
