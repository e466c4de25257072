-- No promise: the faults that only the program tells, part by part, and the first of them so far.
use Rattle.std.specs.Prelude.{◌≡◌, ◌⊎◌, ◌&&◌, ℕ, Bool, true, false, if◌then◌else◌, codes, IsTrue, List, Option, Some, None, IsSome, slice_get}
use Rattle.std.specs.Bool.{Decides}
use Rattle.gt_types.specs.declared.expressions.Expr.{Expr}
use Rattle.gt_types.specs.declared.faults.Fault.{Fault}
use Rattle.gt_types.specs.declared.types.Ty.{Ty}
use Rattle.gt_types.specs.declared.types.TypeId.{TypeId}
use Rattle.gt_types.specs.declared.program.Field.{Field}
use Rattle.gt_types.specs.declared.program.Structure.{Structure}
use Rattle.gt_types.specs.declared.program.Root.{Root}
use Rattle.gt_types.specs.declared.program.Program.{Program}
use Rattle.gt_types.specs.Shapes.{innermost}
use Rattle.gt_types.specs.Contains.{held_by}
use Rattle.gt_types.specs.Paths.{LeadsToOwnPointer, IsOptionBeside, IsFieldDescBeside, IsRootCount, IsRootDesc}
use Rattle.gt_types.specs.Settled.{EndsInPointers, NamesSortable}
use Rattle.gt_items.specs.declared.items.Parameter.{Parameter}
use Rattle.gt_items.specs.declared.items.RawOption.{RawOption}
use Rattle.gt_drafts.specs.declared.types.DeclaredType.{DeclaredType}
use Rattle.gt_drafts.specs.declared.draft.Draft.{Draft}
use Rattle.gt_drafts.specs.declared.draft.DraftCache.{DraftCache}
use Rattle.gt_drafts.specs.declared.draft.DraftField.{DraftField}
use Rattle.gt_drafts.specs.declared.draft.DraftRoot.{DraftRoot}
use Rattle.gt_drafts.specs.declared.draft.DraftStructure.{DraftStructure}
use Rattle.gt_drafts.specs.Options.{has_skip}
use Rattle.gt_drafts.specs.FirstFaults.{is_no_later}
use Rattle.gt_markers.specs.declared.TheConstants.{WRONG_PLACE, MISSING_DESC, BAD_PATH, CHAIN_NOT_OWN_POINTER, CACHE_SHAPE}
use Rattle.gt_markers.specs.declared.expressions.Scope.TheVariants.{Fields, Roots}
use Rattle.gt_markers.specs.NameScopes.{names_of}
use Rattle.gt_markers.specs.Options.{kind_of, option_named}
use Rattle.gt_markers.specs.Typing.{node}
use Rattle.gt_declare.specs.Programs.{chain_kind, path_places, key_type}
use Rattle.gt_paths.specs.declared.indexes.PathIndex.{PathIndex}
use Rattle.gt_paths.specs.Checks.{Checked}
use Rattle.gt_paths.specs.Indexes.{IsIndexOn}
use Rattle.gt_paths.specs.Numbers.{mark_at}
use Rattle.gt_rules.specs.declared.purposes.Purpose.{Purpose}
use Rattle.gt_rules.specs.declared.purposes.Purpose.TheVariants.{Own, FieldDesc}
use Rattle.gt_rules.specs.declared.purposes.RootPurpose.{RootPurpose}
use Rattle.gt_rules.specs.declared.purposes.RootPurpose.TheVariants.{Count, Desc}
use Rattle.gt_rules.specs.Inner.{IsDeclaredInner}
use Rattle.gt_rules.specs.Faults.{IsBareUnion, IsGood, LacksDesc, NamesBareUnion, NamesInner, StandsAlone, fault, held_node, plain_node}

-- ---- what is looked up

-- an index of a program in which those structures are inner that a draft declares so
pub record IsIndexFor (draft : Draft) (program : Program) (index : PathIndex) : Type 0 where
  pub on : IsIndexOn program index
  pub inner : (id : TypeId) → Decides (mark_at index.inner id.0) (IsDeclaredInner draft id)

-- checks of a structure of a program in which those structures are inner that a draft declares so
pub record AreChecksFor (draft : Draft) (program : Program) (checks : Checked) : Type 0 where
  pub same : checks.program ≡ program
  pub inner : (id : TypeId) → Decides (mark_at checks.inner id.0) (IsDeclaredInner draft id)

-- ---- the first so far

-- of faults and the first before them, this one is the first
pub record IsFirstWith (before : Option Fault) (faults : Fault → Type 0) (first : Option Fault) : Type 0 where
  pub there : (f : Fault) → first ≡ Some f → (before ≡ Some f) ⊎ faults f
  pub least : (f : Fault) → (before ≡ Some f) ⊎ faults f → (g : Fault) × (first ≡ Some g) × IsTrue (is_no_later g f)

-- the faults of one part and those of another
abbrev pub Either : (Fault → Type 0) → (Fault → Type 0) → Fault → Type 0
Either a b f = a f ⊎ b f

-- the faults of each of some items, by place
abbrev pub Each : {A : Type 0} → List A → (ℕ → A → Fault → Type 0) → Fault → Type 0
Each {A} xs faults f = (k : ℕ) × (x : A) × (slice_get xs k ≡ Some x) × faults k x f

-- the faults of what stands at a place, where something does
abbrev pub AtPlace : {A : Type 0} → List A → ℕ → (A → Fault → Type 0) → Fault → Type 0
AtPlace {A} xs k faults f = (x : A) × (slice_get xs k ≡ Some x) × faults x f

-- ---- parts

-- a fault of this number at a place, where this holds
abbrev pub FaultIf : Type 0 → (number file at : ℕ) → Fault → Type 0
FaultIf holds number file at f = holds × (f ≡ fault number file at)

-- the option of a name that is read: on a field none beside `skip`
abbrev pub read_option : (of_field : Bool) → List ℕ → List RawOption → Option RawOption
read_option of_field name options = if of_field && has_skip options then None else option_named name options

-- the option of a name that is read, and of which this is true
abbrev pub OptionFault : (of_field : Bool) → List RawOption → List ℕ → (RawOption → Type 0) → (number file : ℕ) → Fault → Type 0
OptionFault of_field options name holds number file f =
    (o : RawOption) × (read_option of_field name options ≡ Some o) × holds o × (f ≡ fault number file o.name.at)

-- which expressions are good in a structure
abbrev pub Fits : Draft → Program → TypeId → Purpose → Expr → Type 0
Fits draft program structure Own = IsOptionBeside (IsDeclaredInner draft) program structure
Fits draft program structure (FieldDesc held) = IsFieldDescBeside (IsDeclaredInner draft) program structure held

-- and in a root
abbrev pub RootFits : Program → RootPurpose → Expr → Type 0
RootFits program Count = IsRootCount program
RootFits program (Desc held) = IsRootDesc program held

-- a parameter is good for a purpose of a structure
abbrev pub Serves : Draft → Program → TypeId → Purpose → Parameter → Type 0
Serves draft program structure purpose parameter = IsGood (names_of Fields draft) (Fits draft program structure purpose) parameter

-- and for one of a root
abbrev pub ServesRoot : Draft → Program → RootPurpose → Parameter → Type 0
ServesRoot draft program purpose parameter = IsGood (names_of Roots draft) (RootFits program purpose) parameter

-- the option of a name that is read, where its parameter does not serve
abbrev pub ExpressionFault : (Parameter → Type 0) → (of_field : Bool) → List RawOption → List ℕ → ℕ → Fault → Type 0
ExpressionFault serves of_field options name file = OptionFault of_field options name (λ o. ¬ serves o.parameter) BAD_PATH file

-- the `reorder` of a field that is not sorted
abbrev pub ReorderFault : Program → List RawOption → Ty → ℕ → Fault → Type 0
ReorderFault program options type file = OptionFault true options (codes "reorder") (λ o. ¬ NamesSortable program type) WRONG_PLACE file

-- the `reorder` of a root that points to this structure, where it is not sorted
abbrev pub RootReorderFaultOf : Program → List RawOption → ℕ → TypeId → Fault → Type 0
RootReorderFaultOf program options file id = OptionFault false options (codes "reorder") (λ o. ¬ EndsInPointers program id) WRONG_PLACE file

-- a structure is named, and of it this is true
abbrev pub Names : Option TypeId → (TypeId → Type 0) → Type 0
Names named holds = (id : TypeId) × (named ≡ Some id) × holds id

-- a type holds a union without `desc`, or names a union without a `desc` of its own
abbrev pub LacksItsDesc : Program → Option TypeId → Ty → Type 0
LacksItsDesc program named type = LacksDesc program (innermost type) ⊎ Names named (IsBareUnion program)

-- at a name: a union without `desc`, a pointer to an inner structure
abbrev pub TypeFaults : Draft → Program → List RawOption → DeclaredType → Ty → (file at : ℕ) → Fault → Type 0
TypeFaults draft program options t type file at =
    Either (FaultIf (LacksDesc program (innermost type) ⊎ NamesBareUnion program options t) MISSING_DESC file at)
    (FaultIf (NamesInner draft options t) BAD_PATH file at)

-- the faults of what a type holds by value, where it holds a structure
abbrev pub OfHeld : Option TypeId → (TypeId → Fault → Type 0) → Fault → Type 0
OfHeld found faults f = (held : TypeId) × (found ≡ Some held) × faults held f

-- the `desc` of a field that holds a union, where it is not good
abbrev pub FieldDescFault : Draft → Program → TypeId → (of_field : Bool) → List RawOption → Ty → ℕ → Fault → Type 0
FieldDescFault draft program structure of_field options type file =
    OfHeld (held_by type) (λ held. ExpressionFault (Serves draft program structure (FieldDesc held)) of_field options (codes "desc") file)

-- the `desc` of a root that holds a union, where it is not good
abbrev pub RootDescFault : Draft → Program → (of_field : Bool) → List RawOption → DeclaredType → ℕ → Fault → Type 0
RootDescFault draft program of_field options t file =
    OfHeld (held_node t) (λ held. ExpressionFault (ServesRoot draft program (Desc held)) of_field options (codes "desc") file)

-- the `reorder` of a root that is a plain pointer, where it is not sorted
abbrev pub RootReorderFault : Program → List RawOption → DeclaredType → ℕ → Fault → Type 0
RootReorderFault program options t file = OfHeld (plain_node options t) (RootReorderFaultOf program options file)

-- the faults of a field of these options and this type, at its name or at an option
abbrev pub FieldFaultsBy : Draft → Program → TypeId → (file at : ℕ) → DeclaredType → Ty → List RawOption → Fault → Type 0
FieldFaultsBy draft program structure file at t type options =
    Either (TypeFaults draft program options t type file at)
    (Either (ExpressionFault (Serves draft program structure Own) true options (codes "length") file)
    (Either (ExpressionFault (Serves draft program structure Own) true options (codes "string_length") file)
    (Either (FieldDescFault draft program structure true options type file) (ReorderFault program options type file))))

-- the faults of a field, as the draft has it and as the program has it
abbrev pub FieldFaults : Draft → Program → TypeId → (file : ℕ) → DraftField → Field → Fault → Type 0
FieldFaults draft program structure file df f = FieldFaultsBy draft program structure file df.name.at df.ty f.ty df.options

-- the faults of fields, which the draft and the program have at the same places
abbrev pub FieldsFaults : Draft → Program → TypeId → (file : ℕ) → List DraftField → List Field → Fault → Type 0
FieldsFaults draft program structure file drafted made =
    Each drafted (λ k df. AtPlace made k (λ f. FieldFaults draft program structure file df f))

-- the `desc` of a union itself, where it is not good
abbrev pub UnionDescFault : Draft → Program → TypeId → DraftStructure → Fault → Type 0
UnionDescFault draft program structure ds f =
    (o : RawOption) × (ds.is_union ≡ true) × (option_named (codes "desc") ds.options ≡ Some o)
    × (¬ Serves draft program structure Own o.parameter) × (f ≡ fault BAD_PATH ds.file o.name.at)

-- the path of a chain leads to a plain pointer to its own structure
abbrev pub LeadsBack : Program → TypeId → Parameter → Type 0
LeadsBack program structure parameter =
    (path : List ℕ) × (path_places program.structures structure parameter ≡ Some path) × LeadsToOwnPointer program structure path

-- a chain whose path does not lead back
abbrev pub ChainFault : Program → TypeId → ℕ → RawOption → Fault → Type 0
ChainFault program structure file o =
    FaultIf (IsSome (chain_kind (kind_of o.name.word)) × ¬ LeadsBack program structure o.parameter) CHAIN_NOT_OWN_POINTER file o.name.at

-- the faults of the chains among some options
abbrev pub ChainsFaults : Program → TypeId → ℕ → List RawOption → Fault → Type 0
ChainsFaults program structure file options = Each options (λ k o. ChainFault program structure file o)

-- the faults of a structure, of which the draft's and the program's stand at one place
abbrev pub StructureFaults : Draft → Program → TypeId → DraftStructure → Structure → Fault → Type 0
StructureFaults draft program structure ds s =
    Either (UnionDescFault draft program structure ds)
    (Either (ChainsFaults program structure ds.file ds.options) (FieldsFaults draft program structure ds.file ds.fields s.fields))

-- the faults of all structures
abbrev pub StructuresFaults : Draft → Program → Fault → Type 0
StructuresFaults draft program = Each draft.structures (λ k ds. AtPlace program.structures k (λ s. StructureFaults draft program (node k) ds s))

-- a root of an inner type
abbrev pub HoldsInner : Draft → Ty → Type 0
HoldsInner draft type = Names (held_by type) (IsDeclaredInner draft)

-- the faults of a root of these options and this type, at its name or at an option
abbrev pub RootFaultsBy : Draft → Program → (file at : ℕ) → DeclaredType → Ty → List RawOption → Fault → Type 0
RootFaultsBy draft program file at t type options =
    Either (TypeFaults draft program options t type file at)
    (Either (FaultIf (HoldsInner draft type) BAD_PATH file at)
    (Either (ExpressionFault (ServesRoot draft program Count) false options (codes "length") file)
    (Either (RootDescFault draft program false options t file) (RootReorderFault program options t file))))

-- the faults of a root, as the draft has it and as the program has it
abbrev pub RootFaults : Draft → Program → DraftRoot → Root → Fault → Type 0
RootFaults draft program dr r = RootFaultsBy draft program dr.file dr.name.at dr.ty r.ty dr.options

-- the faults of all roots
abbrev pub RootsFaults : Draft → Program → Fault → Type 0
RootsFaults draft program = Each draft.roots (λ k dr. AtPlace program.roots k (λ r. RootFaults draft program dr r))

-- a cache with a key or a value that may not stand alone
abbrev pub CacheFault : Draft → Program → DraftCache → Fault → Type 0
CacheFault draft program c = FaultIf (¬ (StandsAlone draft program (key_type c.key) × StandsAlone draft program (key_type c.value))) CACHE_SHAPE c.file c.name.at

-- the faults of all caches
abbrev pub CachesFaults : Draft → Program → Fault → Type 0
CachesFaults draft program = Each draft.caches (λ k c. CacheFault draft program c)

-- all of them
abbrev pub ProgramFaults : Draft → Program → Fault → Type 0
ProgramFaults draft program = Either (StructuresFaults draft program) (Either (RootsFaults draft program) (CachesFaults draft program))
