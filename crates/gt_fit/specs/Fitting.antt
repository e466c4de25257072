-- No promise: whether a value fits, layer by layer: by its type, and by whether its parts fit.
use Rattle.std.specs.Prelude.{◌≡◌, ◌≤◌, ◌<◌, ℕ, Bool, true, false, pos, List, Option, Some, None, length, slice_get, All}
use Rattle.gt_types.specs.declared.expressions.Expr.{Expr}
use Rattle.gt_types.specs.declared.types.TypeId.{TypeId}
use Rattle.gt_types.specs.declared.types.Ty.{Ty}
use Rattle.gt_types.specs.declared.types.Ty.TheOpen as part
use Rattle.gt_types.specs.declared.types.Ty.TheOpen.{Ty-F}
use Rattle.gt_types.specs.declared.types.Ty.TheVariants as ty
use Rattle.gt_types.specs.declared.program.Field.{Field}
use Rattle.gt_types.specs.declared.program.Structure.{Structure}
use Rattle.gt_types.specs.declared.program.Program.{Program}
use Rattle.gt_tree.specs.Trees.{Tree, Rec, Trees, End, count, without_pointers}
use Rattle.gt_tree.specs.Blocks.{Chars, Block, Blocks}
use Rattle.gt_tree.specs.Scopes.{Scope, inside, eval_in}
use Rattle.gt_tree.specs.Fits.{Fits, AllFit, EachFits, active_member, desc_value, types_of}
use Rattle.gt_unions.specs.Commons.{common_of}

-- a block of so many characters is there
abbrev pub HasChars : Blocks → ℕ → ℕ → Type 0
HasChars blocks id n = (b : Block) × (blocks id ≡ Some b) × (b.kind ≡ Chars) × (n ≡ length b.chars)

-- opaque bytes are as many as their type says
abbrev pub OpaqueFits : Ty → List ℕ → Type 0
OpaqueFits (ty.Opaque size align) bytes = (length bytes ≡ size) × All (λ byte. byte < 256) bytes
OpaqueFits type bytes = ⊥

module _ (program : Program) (blocks : Blocks) (capacity : ℕ) where
  -- values fit these fields, where they are those of a struct and not of a union
  abbrev pub FieldsFit : Scope → Bool → List Field → Trees → Type 0
  FieldsFit inner false fields trees = AllFit program blocks capacity inner (types_of fields) trees
  FieldsFit inner true fields trees = ⊥

  -- values fit the fields of a structure that is a struct
  abbrev pub StructFits : Scope → Option Structure → Trees → Type 0
  StructFits inner (Some s) trees = FieldsFit inner s.is_union s.fields trees
  StructFits inner None trees = ⊥

  -- a value fits a member, where there is such
  abbrev pub MemberFits : Scope → Option Field → Tree → Type 0
  MemberFits inner (Some f) tree = Fits program blocks capacity inner f.ty tree
  MemberFits inner None tree = ⊥

  -- a value fits the common structure, with null pointers; where there is none it is nothing
  abbrev pub CommonFits : Scope → Option TypeId → Tree → Type 0
  CommonFits inner (Some common) tree = (without_pointers tree ≡ tree) × Fits program blocks capacity inner (ty.Node common None) tree
  CommonFits inner None tree = tree ≡ Rec End

  -- what is there in a union fits the member that is active, or without one the common structure
  abbrev pub ThereFits : Scope → Structure → Option ℕ → Tree → Type 0
  ThereFits inner s (Some place) tree = MemberFits inner (slice_get s.fields place) tree
  ThereFits inner s None tree = CommonFits inner (common_of program s) tree

  -- what is there in a union fits, and the member is the active one; a struct has no members
  abbrev pub ActiveFits : Scope → Option Expr → Bool → Structure → Option ℕ → Tree → Type 0
  ActiveFits inner desc true s member tree = (active_member (desc_value program inner desc) s.fields ≡ member) × ThereFits inner s member tree
  ActiveFits inner desc false s member tree = ⊥

  -- what is there fits a structure that is a union
  abbrev pub UnionFits : Scope → Option Expr → Option Structure → Option ℕ → Tree → Type 0
  UnionFits inner desc (Some s) member tree = ActiveFits inner desc s.is_union s member tree
  UnionFits inner desc None member tree = ⊥

  -- values fit the fields of a type that is a struct, of which this is the whole value
  abbrev pub RecFits : Scope → Ty → Tree → Trees → Type 0
  RecFits scope (ty.Node node desc) whole trees = StructFits (inside scope node whole) (slice_get program.structures node.0) trees
  RecFits scope type whole trees = ⊥

  -- what is there fits a type that is a union, of which this is the whole value
  abbrev pub AltFits : Scope → Ty → Tree → Option ℕ → Tree → Type 0
  AltFits scope (ty.Node node desc) whole member tree = UnionFits (inside scope node whole) desc (slice_get program.structures node.0) member tree
  AltFits scope type whole member tree = ⊥

  -- the elements of an array fit: as many as its type says, or as its length says where there is room for them
  abbrev pub RowFits : Scope → Ty-F Ty → Trees → Type 0
  RowFits scope (part.Arr n elem) trees = (count trees ≡ n) × EachFits program blocks capacity scope elem trees
  RowFits scope (part.Tail len elem) trees = (eval_in program scope len ≡ Some (pos (count trees))) × (count trees ≤ capacity) × EachFits program blocks capacity scope elem trees
  RowFits scope layer trees = ⊥
