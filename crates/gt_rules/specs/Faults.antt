-- The faults of options.
use Rattle.std.specs.Prelude.{◌≡◌, ◌⊎◌, ◌&&◌, ◌||◌, not, ℕ, Bool, true, false, if◌then◌else◌, codes, option_map, IsTrue, List, Option, Some, None, IsSome, slice_get, Contains, All}
use Rattle.gt_types.specs.declared.expressions.Expr.{Expr}
use Rattle.gt_types.specs.declared.faults.Fault.{Fault}
use Rattle.gt_types.specs.declared.types.Ty.{Ty}
use Rattle.gt_types.specs.declared.types.Ty.TheVariants as ty
use Rattle.gt_types.specs.declared.types.TypeId.{TypeId}
use Rattle.gt_types.specs.declared.program.Field.{Field}
use Rattle.gt_types.specs.declared.program.Structure.{Structure}
use Rattle.gt_types.specs.declared.program.Root.{Root}
use Rattle.gt_types.specs.declared.program.Program.{Program}
use Rattle.gt_types.specs.Shapes.{innermost}
use Rattle.gt_types.specs.Contains.{HasStructure, held_by}
use Rattle.gt_types.specs.Paths.{MayStandBeside, LeadsToOwnPointer, IsOptionBeside, IsFieldDescBeside, IsRootCount, IsRootDesc}
use Rattle.gt_types.specs.Settled.{EndsInPointers, NamesSortable}
use Rattle.gt_expr.specs.declared.raw.RawExpr.{RawExpr}
use Rattle.gt_items.specs.declared.items.Parameter.{Parameter}
use Rattle.gt_items.specs.declared.items.Parameter.TheVariants.{Expression}
use Rattle.gt_items.specs.declared.items.RawOption.{RawOption}
use Rattle.gt_items.specs.declared.items.Stars.{Stars}
use Rattle.gt_items.specs.declared.items.Stars.TheVariants.{One, Two}
use Rattle.gt_drafts.specs.declared.types.BaseType.{BaseType}
use Rattle.gt_drafts.specs.declared.types.BaseType.TheVariants.{Structure as StructureOf}
use Rattle.gt_drafts.specs.declared.types.DeclaredType.{DeclaredType}
use Rattle.gt_drafts.specs.declared.draft.Draft.{Draft}
use Rattle.gt_drafts.specs.declared.draft.DraftCache.{DraftCache}
use Rattle.gt_drafts.specs.declared.draft.DraftField.{DraftField}
use Rattle.gt_drafts.specs.declared.draft.DraftRoot.{DraftRoot}
use Rattle.gt_drafts.specs.declared.draft.DraftStructure.{DraftStructure}
use Rattle.gt_drafts.specs.Options.{has_option, has_skip}
use Rattle.gt_drafts.specs.FirstFaults.{is_no_later}
use Rattle.gt_drafts.specs.Shapes.{held_type, is_nil}
use Rattle.gt_markers.specs.declared.TheConstants.{WRONG_PLACE, MISSING_DESC, BAD_PATH, CHAIN_NOT_OWN_POINTER, CACHE_SHAPE}
use Rattle.gt_markers.specs.Options.{kind_of, option_named}
use Rattle.gt_markers.specs.Expressions.{Names, constants, constants_and_roots, names_in, with_names}
use Rattle.gt_declare.specs.Programs.{IsMadeOf, chain_kind, path_places, key_type, pointed}
use Rattle.gt_markers.specs.MarkerFaults.{draft_faults}
use Rattle.gt_markers.specs.Typing.{node}
use Rattle.gt_rules.specs.Inner.{IsDeclaredInner}

-- ---- by the program

-- a union without a `desc` of its own
abbrev pub IsBareUnion : Program → TypeId → Type 0
IsBareUnion program id = (s : Structure) × HasStructure program id s × (s.is_union ≡ true) × (s.desc ≡ None)

-- a union by value has no `desc` to be read with
abbrev pub LacksDesc : Program → Ty → Type 0
LacksDesc program (ty.Node id None) = (s : Structure) × HasStructure program id s × (s.is_union ≡ true)
LacksDesc program type = ⊥

-- the structure that a pointer, or a pointer to pointers, names by its declaration
abbrev pub named_by : BaseType → Stars → Option ℕ
named_by (StructureOf id) One = Some id
named_by (StructureOf id) Two = Some id
named_by base stars = None

-- What pointers without `skip` name by their declarations, with `atomic` too: in the program an atomic pointer names no structure.
abbrev pub names_node : List RawOption → DeclaredType → Option ℕ
names_node options t = if has_skip options || t.is_function then None else named_by t.resolved.base t.resolved.stars

-- what is named is a union without a `desc` of its own
abbrev pub NamesBareUnion : Program → List RawOption → DeclaredType → Type 0
NamesBareUnion program options t = (id : ℕ) × (names_node options t ≡ Some id) × IsBareUnion program (node id)

-- what is named is an inner structure, which may not stand alone
abbrev pub NamesInner : Draft → List RawOption → DeclaredType → Type 0
NamesInner draft options t = (id : ℕ) × (names_node options t ≡ Some id) × IsDeclaredInner draft (node id)

-- the parameter is an expression whose names all stand for something, and with what they stand for it is good
pub record IsGood (names : Names) (good : Expr → Type 0) (parameter : Parameter) : Type 0 where
  pub e : RawExpr
  pub expression : parameter ≡ Expression e
  pub named : All (λ word. IsSome (names word)) (names_in e)
  pub fits : good (with_names names e)

-- a field of a structure: as the draft has it, and as the program has it
pub record IsFieldAt (draft : Draft) (program : Program) (id : TypeId) (ds : DraftStructure) (df : DraftField) (f : Field) : Type 0 where
  pub structure : slice_get draft.structures id.0 ≡ Some ds
  pub s : Structure
  pub there : HasStructure program id s
  pub place : ℕ
  pub drafted : slice_get ds.fields place ≡ Some df
  pub made : slice_get s.fields place ≡ Some f

-- a root: as the draft has it, and as the program has it
pub record IsRootAt (draft : Draft) (program : Program) (dr : DraftRoot) (r : Root) : Type 0 where
  pub place : ℕ
  pub drafted : slice_get draft.roots place ≡ Some dr
  pub made : slice_get program.roots place ≡ Some r

-- the option of a name that is read at a field: the first, and none beside `skip`
abbrev pub IsReadOption : List RawOption → List ℕ → RawOption → Type 0
IsReadOption options name o = (has_skip options ≡ false) × (option_named name options ≡ Some o)

-- a length, of elements or of characters
abbrev pub IsLengthOption : List RawOption → RawOption → Type 0
IsLengthOption options o = IsReadOption options (codes "length") o ⊎ IsReadOption options (codes "string_length") o

-- the structure that a root holds by its declaration, alone or in an array
abbrev pub held_node : DeclaredType → Option TypeId
held_node t = option_map node (held_type t)

-- no array and no function, and neither `length` nor `atomic`
abbrev pub is_plain : List RawOption → DeclaredType → Bool
is_plain options t = is_nil t.bounds && not t.is_function && not (has_option (codes "length") options || has_option (codes "atomic") options)

-- the structure to which a root is a plain pointer by its declaration
abbrev pub plain_node : List RawOption → DeclaredType → Option TypeId
plain_node options t = if is_plain options t then pointed t.resolved.base t.resolved.stars else None

-- a key or a value points to a structure that may stand alone
abbrev pub StandsAlone : Draft → Program → Option TypeId → Type 0
StandsAlone draft program (Some id) = MayStandBeside (IsDeclaredInner draft) program id
StandsAlone draft program None = ⊥

abbrev pub fault : (number file at : ℕ) → Fault
fault number file at = record { number = number; file = file; at = at }

-- the faults of a draft that only the program tells which it declares
pub data HasProgramFault (draft : Draft) (program : Program) : Fault → Type 0 where
  -- at the name: a union without `desc`, a pointer to an inner structure, a root of an inner type
  field_without_desc : {id : TypeId} {ds : DraftStructure} {df : DraftField} {f : Field} → IsFieldAt draft program id ds df f
      → LacksDesc program (innermost f.ty) → HasProgramFault draft program (fault MISSING_DESC ds.file df.name.at)
  field_to_bare_union : {id : TypeId} {ds : DraftStructure} {df : DraftField} {f : Field} → IsFieldAt draft program id ds df f
      → NamesBareUnion program df.options df.ty → HasProgramFault draft program (fault MISSING_DESC ds.file df.name.at)
  field_to_inner : {id : TypeId} {ds : DraftStructure} {df : DraftField} {f : Field} → IsFieldAt draft program id ds df f
      → NamesInner draft df.options df.ty → HasProgramFault draft program (fault BAD_PATH ds.file df.name.at)
  root_without_desc : {dr : DraftRoot} {r : Root} → IsRootAt draft program dr r
      → LacksDesc program (innermost r.ty) → HasProgramFault draft program (fault MISSING_DESC dr.file dr.name.at)
  root_to_bare_union : {dr : DraftRoot} {r : Root} → IsRootAt draft program dr r
      → NamesBareUnion program dr.options dr.ty → HasProgramFault draft program (fault MISSING_DESC dr.file dr.name.at)
  root_to_inner : {dr : DraftRoot} {r : Root} → IsRootAt draft program dr r
      → NamesInner draft dr.options dr.ty → HasProgramFault draft program (fault BAD_PATH dr.file dr.name.at)
  root_of_inner : {dr : DraftRoot} {r : Root} {id : TypeId} → IsRootAt draft program dr r → held_by r.ty ≡ Some id → IsDeclaredInner draft id
      → HasProgramFault draft program (fault BAD_PATH dr.file dr.name.at)
  -- At the option: an expression that leads to nothing. On a root `skip` passes over nothing, so what stands beside it counts by the
  -- declaration.
  field_length : {id : TypeId} {ds : DraftStructure} {df : DraftField} {f : Field} {o : RawOption} → IsFieldAt draft program id ds df f
      → IsLengthOption df.options o → ¬ IsGood (constants draft) (IsOptionBeside (IsDeclaredInner draft) program id) o.parameter
      → HasProgramFault draft program (fault BAD_PATH ds.file o.name.at)
  field_desc : {id union : TypeId} {ds : DraftStructure} {df : DraftField} {f : Field} {o : RawOption} → IsFieldAt draft program id ds df f
      → IsReadOption df.options (codes "desc") o → held_by f.ty ≡ Some union
      → ¬ IsGood (constants draft) (IsFieldDescBeside (IsDeclaredInner draft) program id union) o.parameter
      → HasProgramFault draft program (fault BAD_PATH ds.file o.name.at)
  union_desc : {id : TypeId} {ds : DraftStructure} {o : RawOption} → slice_get draft.structures id.0 ≡ Some ds → ds.is_union ≡ true
      → option_named (codes "desc") ds.options ≡ Some o → ¬ IsGood (constants draft) (IsOptionBeside (IsDeclaredInner draft) program id) o.parameter
      → HasProgramFault draft program (fault BAD_PATH ds.file o.name.at)
  root_length : {dr : DraftRoot} {r : Root} {o : RawOption} → IsRootAt draft program dr r → option_named (codes "length") dr.options ≡ Some o
      → ¬ IsGood (constants_and_roots draft) (IsRootCount program) o.parameter → HasProgramFault draft program (fault BAD_PATH dr.file o.name.at)
  root_desc : {dr : DraftRoot} {r : Root} {union : TypeId} {o : RawOption} → IsRootAt draft program dr r → option_named (codes "desc") dr.options ≡ Some o
      → held_node dr.ty ≡ Some union → ¬ IsGood (constants_and_roots draft) (IsRootDesc program union) o.parameter
      → HasProgramFault draft program (fault BAD_PATH dr.file o.name.at)
  -- at the option: what is sorted in an image is no struct that ends in plain pointers
  field_reorder : {id : TypeId} {ds : DraftStructure} {df : DraftField} {f : Field} {o : RawOption} → IsFieldAt draft program id ds df f
      → IsReadOption df.options (codes "reorder") o → ¬ NamesSortable program f.ty → HasProgramFault draft program (fault WRONG_PLACE ds.file o.name.at)
  root_reorder : {dr : DraftRoot} {r : Root} {id : TypeId} {o : RawOption} → IsRootAt draft program dr r → option_named (codes "reorder") dr.options ≡ Some o
      → plain_node dr.options dr.ty ≡ Some id → ¬ EndsInPointers program id → HasProgramFault draft program (fault WRONG_PLACE dr.file o.name.at)
  -- at the option: a chain that leads to no plain pointer to its own structure
  chain : {id : TypeId} {ds : DraftStructure} {o : RawOption} → slice_get draft.structures id.0 ≡ Some ds → Contains ds.options o
      → IsSome (chain_kind (kind_of o.name.word))
      → ((path : List ℕ) → path_places program.structures id o.parameter ≡ Some path → ¬ LeadsToOwnPointer program id path)
      → HasProgramFault draft program (fault CHAIN_NOT_OWN_POINTER ds.file o.name.at)
  -- at the cache's name: a key or a value that may not stand alone
  cache_shape : {c : DraftCache} → Contains draft.caches c → ¬ (StandsAlone draft program (key_type c.key) × StandsAlone draft program (key_type c.value))
      → HasProgramFault draft program (fault CACHE_SHAPE c.file c.name.at)

-- the faults of a draft of which this program is made
abbrev pub HasFault : Draft → Program → Fault → Type 0
HasFault draft program f = Contains (draft_faults draft) f ⊎ HasProgramFault draft program f

-- a draft declares the program that is made of it, where it has no fault
pub record Declares (draft : Draft) (program : Program) : Type 0 where
  pub made : IsMadeOf draft program
  pub faultless : (f : Fault) → ¬ HasFault draft program f

-- the first fault of a draft: the one at the earliest place, and of those at one place the one with the lowest number
pub record IsFirstFault (draft : Draft) (f : Fault) : Type 0 where
  pub program : Program
  pub made : IsMadeOf draft program
  pub there : HasFault draft program f
  pub first : (other : Fault) → HasFault draft program other → IsTrue (is_no_later f other)
