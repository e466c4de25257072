-- What holds of each draft that headers resolve to.
use Rattle.std.specs.Prelude.{◌≡◌, ◌≢◌, ◌≤◌, ◌<◌, ℕ, pos, Bool, true, false, List, [], ◌∷◌, ◌++◌, map, length, Some, None, IfSome, All, AllPairs}
use Rattle.gt_types.specs.declared.limits.TheConstants.{MAX_STRUCTURES, MAX_FIELDS, MAX_ROOTS, MAX_CACHES, MAX_DEPTH, MAX_DIMENSIONS, MAX_BOUND}
use Rattle.gt_types.specs.Names.{IsName}
use Rattle.gt_types.specs.Operators.{HasOperators}
use Rattle.gt_types.specs.Paths.{paths_of}
use Rattle.gt_types.specs.Shapes.{bits_of}
use Rattle.gt_items.specs.declared.items.Parameter.{Parameter}
use Rattle.gt_items.specs.declared.items.Parameter.TheVariants.{Expression}
use Rattle.gt_items.specs.declared.items.RawOption.{RawOption}
use Rattle.gt_items.specs.declared.items.Stars.TheVariants.{Zero}
use Rattle.gt_drafts.specs.declared.types.Amount.{Amount}
use Rattle.gt_drafts.specs.declared.types.Amount.TheVariants.{Is, Unread}
use Rattle.gt_drafts.specs.declared.types.BaseType.{BaseType}
use Rattle.gt_drafts.specs.declared.types.BaseType.TheVariants.{Number, Structure}
use Rattle.gt_drafts.specs.declared.types.DeclaredType.{DeclaredType}
use Rattle.gt_drafts.specs.declared.draft.Draft.{Draft}
use Rattle.gt_drafts.specs.declared.draft.DraftField.{DraftField}
use Rattle.gt_drafts.specs.declared.draft.DraftRoot.{DraftRoot}
use Rattle.gt_drafts.specs.declared.draft.DraftStructure.{DraftStructure}
use Rattle.gt_drafts.specs.Options.{has_skip, has_length}
use Rattle.gt_drafts.specs.Undefined.{is_undefined_type}
use Rattle.gt_drafts.specs.Shapes.{Holds, IsNested, IsTail, held_type, is_nil}
use Rattle.gt_markers.specs.Expressions.{Names, with_names}

-- ---- types

-- a number of elements from 1 to the limit
abbrev pub IsBound : Amount → Type 0
IsBound amount = (n : ℕ) × (amount ≡ Is (pos n)) × (1 ≤ n) × (n ≤ MAX_BOUND)

-- of bounds the outermost is not read where `length` replaces it
abbrev pub AreBounds : Bool → List Amount → Type 0
AreBounds replaced [] = Unit {0}
AreBounds true (bound ∷ bounds) = (bound ≡ Unread) × All IsBound bounds
AreBounds false (bound ∷ bounds) = All IsBound (bound ∷ bounds)

-- a bit-field is of a number, no array, and has from 1 to as many bits as its unit
abbrev pub IsBitCount : DeclaredType → Amount → Type 0
IsBitCount t amount = (n : ℕ) × (amount ≡ Is (pos n)) × (1 ≤ n) × (t.bounds ≡ []) × (t.resolved.stars ≡ Zero) × (t.is_function ≡ false)
    × ((scalar : _) × (is_char : Bool) × (t.resolved.base ≡ Number scalar is_char) × (n ≤ bits_of scalar))

-- a structure that a type names is there
abbrev pub NamesStructure : Draft → BaseType → Type 0
NamesStructure draft (Structure id) = id < length draft.structures
NamesStructure draft base = Unit {0}

-- a tail type by value is a member of a union, in no array and without `skip`
abbrev pub KeepsTail : Draft → Bool → List RawOption → DeclaredType → Type 0
KeepsTail draft in_union options t = (id : ℕ) → held_type t ≡ Some id → IsTail draft.structures id
    → (in_union ≡ true) × (is_nil t.bounds ≡ true) × (has_skip options ≡ false)

pub record IsSoundType (draft : Draft) (in_union : Bool) (options : List RawOption) (t : DeclaredType) : Type 0 where
  pub bounds : AreBounds (has_length options) t.bounds
  pub few : length t.bounds ≤ MAX_DIMENSIONS
  pub bits : IfSome t.bits (IsBitCount t)
  pub defined : is_undefined_type options t ≡ false
  pub there : NamesStructure draft t.resolved.base
  pub tail : KeepsTail draft in_union options t

-- ---- options

-- an expression whose operators have as many operands as they take, and whose paths go by names
abbrev pub IsWellFormed : Names → Parameter → Type 0
IsWellFormed names (Expression e) = HasOperators (with_names names e) × All (λ path. All IsName path.1) (paths_of (with_names names e))
IsWellFormed names parameter = Unit {0}

-- so are the expressions of options, whatever their names stand for
abbrev pub AreWellFormed : List RawOption → Type 0
AreWellFormed options = All (λ o. (names : Names) → ((word : List ℕ) → IfSome (names word) (λ e. HasOperators e × (paths_of e ≡ []))) → IsWellFormed names o.parameter) options

-- ---- the draft

pub record IsSoundField (draft : Draft) (in_union : Bool) (f : DraftField) : Type 0 where
  pub name : IsName f.name.word
  pub options : AreWellFormed f.options
  pub type : IsSoundType draft in_union f.options f.ty

pub record IsSoundStructure (draft : Draft) (s : DraftStructure) : Type 0 where
  pub name : IsName s.tag.word
  pub options : AreWellFormed s.options
  pub some : 1 ≤ length s.fields
  pub few : length s.fields ≤ MAX_FIELDS
  pub distinct : AllPairs (λ f g. f.name.word ≢ g.name.word) s.fields
  pub fields : All (IsSoundField draft s.is_union) s.fields

pub record IsSoundRoot (draft : Draft) (r : DraftRoot) : Type 0 where
  pub name : IsName r.name.word
  pub options : AreWellFormed r.options
  pub type : IsSoundType draft false r.options r.ty
  pub no_bits : r.ty.bits ≡ None

-- the names of roots, caches and typedefs, which are of one name space
abbrev pub global_names : Draft → List (List ℕ)
global_names draft = map (λ r. r.name.word) draft.roots ++ map (λ c. c.name.word) draft.caches ++ map (λ w. w.name) draft.words

-- what holds of a draft: names are there once, types are defined, bounds are numbers, no structure contains itself, and limits hold
pub record IsSound (draft : Draft) : Type 0 where
  pub few_structures : length draft.structures ≤ MAX_STRUCTURES
  pub few_roots : length draft.roots ≤ MAX_ROOTS
  pub few_caches : length draft.caches ≤ MAX_CACHES
  pub structures : All (IsSoundStructure draft) draft.structures
  pub roots : All (IsSoundRoot draft) draft.roots
  pub caches : All (λ c. IsName c.name.word × NamesStructure draft c.key.base × NamesStructure draft c.value.base) draft.caches
  pub words : All (λ w. IsName w.name × (w.id < length draft.structures)) draft.words
  pub distinct_structures : AllPairs (λ s t. s.tag.word ≢ t.tag.word) draft.structures
  pub distinct_globals : AllPairs ◌≢◌ (global_names draft)
  pub no_cycle : (id : ℕ) → ¬ Holds draft.structures id id
  pub depth : (n id : ℕ) → IsNested draft.structures n id → n ≤ MAX_DEPTH
