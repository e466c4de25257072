-- Which programs headers can declare.
use Rattle.std.specs.Prelude.{◌≡◌, ◌≢◌, ◌≤◌, ◌⊎◌, ℕ, Bool, true, false, IsTrue, List, ◌++◌, length, map, Option, Some, None, IfSome, All, AllPairs}
use Rattle.gt_types.specs.declared.expressions.Expr.{Expr}
use Rattle.gt_types.specs.declared.limits.TheConstants.{MAX_STRUCTURES, MAX_FIELDS, MAX_ROOTS, MAX_CACHES, MAX_DEPTH}
use Rattle.gt_types.specs.declared.types.TypeId.{TypeId}
use Rattle.gt_types.specs.declared.types.Target.TheVariants as target
use Rattle.gt_types.specs.declared.types.PtrKind.TheVariants as kind
use Rattle.gt_types.specs.declared.types.Ty.{Ty}
use Rattle.gt_types.specs.declared.types.Ty.TheVariants as ty
use Rattle.gt_types.specs.declared.program.Active.TheVariants.{Always}
use Rattle.gt_types.specs.declared.program.Field.{Field}
use Rattle.gt_types.specs.declared.program.Structure.{Structure}
use Rattle.gt_types.specs.declared.program.Root.{Root}
use Rattle.gt_types.specs.declared.program.Cache.{Cache}
use Rattle.gt_types.specs.declared.program.Typedef.{Typedef}
use Rattle.gt_types.specs.declared.program.Program.{Program}
use Rattle.gt_types.specs.Names.{IsName}
use Rattle.gt_types.specs.Shapes.{innermost, count_of, is_field_type, is_root_type, is_pointer, is_plain_pointer}
use Rattle.gt_types.specs.Contains.{HasStructure, Nests, ContainsAtDepth, held_by}
use Rattle.gt_types.specs.Tails.{IsTailType, KeepsTails, tail_of, only_last_is_tail, no_tails}
use Rattle.gt_types.specs.Unions.{AreMembers}
use Rattle.gt_types.specs.Paths.{IsInner, MayStand, LeadsToOwnPointer, IsOption, IsFieldDesc, IsRootCount, IsRootDesc}

-- ---- what a type names

-- a pointer names a structure that may stand alone; another type names none
abbrev pub NamesStanding : Program → Ty → Type 0
NamesStanding program (ty.Ptr (Some (target.Node node)) kind reorder) = MayStand program node
NamesStanding program (ty.Ptr (Some (target.Pointers node)) kind reorder) = MayStand program node
NamesStanding program type = Unit {0}

-- a struct that ends in an array with a length, of plain pointers
abbrev pub EndsInPointers : Program → TypeId → Type 0
EndsInPointers program node =
    (s : Structure) × (elem : Ty) × HasStructure program node s × (s.is_union ≡ false) × (tail_of s.fields ≡ Some elem) × IsTrue (is_plain_pointer elem)

-- a plain pointer whose block is sorted in an image names a struct that ends in plain pointers
abbrev pub NamesSortable : Program → Ty → Type 0
NamesSortable program (ty.Ptr (Some (target.Node node)) kind.Plain true) = EndsInPointers program node
NamesSortable program type = Unit {0}

-- a structure by value has a `desc` where it is a union, and this one is good; a struct has none
abbrev pub HasDesc : Structure → Option Expr → (Expr → Type 0) → Type 0
HasDesc s (Some e) good = (s.is_union ≡ true) × good e
HasDesc s None good = s.is_union ≡ false

-- a structure by value is there, with the `desc` that it needs; another type names none
abbrev pub NamesDescribed : Program → (TypeId → Structure → Expr → Type 0) → Ty → Type 0
NamesDescribed program good (ty.Node node desc) = (s : Structure) × HasStructure program node s × HasDesc s desc (good node s)
NamesDescribed program good type = Unit {0}

-- what holds of what a type names, by which `desc` of a union is good
pub record NamesFit (program : Program) (good : TypeId → Structure → Expr → Type 0) (type : Ty) : Type 0 where
  pub standing : NamesStanding program (innermost type)
  pub sortable : NamesSortable program (innermost type)
  pub described : NamesDescribed program good (innermost type)

-- ---- structures

-- a field of a structure
pub record IsField (program : Program) (node : TypeId) (s : Structure) (f : Field) : Type 0 where
  pub name : IsName f.name
  pub shape : IsTrue (is_field_type f.ty)
  pub names : NamesFit program (λ union u e. IsFieldDesc program node union e) f.ty
  pub count : IfSome (count_of f.ty) (IsOption program node)
  pub tails : KeepsTails program s f

-- a struct has no `desc`, its fields are always a part of it, and only the last may be an array with a length
pub record IsStruct (s : Structure) : Type 0 where
  pub no_desc : s.desc ≡ None
  pub active : All (λ f. f.active ≡ Always) s.fields
  pub last_tail : IsTrue (only_last_is_tail s.fields)

-- a union may have a `desc`, and no member is an array with a length
pub record IsUnion (program : Program) (node : TypeId) (s : Structure) : Type 0 where
  pub desc : IfSome s.desc (IsOption program node)
  pub members : AreMembers s.fields
  pub tails : IsTrue (no_tails s.fields)

-- a struct or a union by its mark
abbrev pub IsOfItsKind : Program → TypeId → Structure → Bool → Type 0
IsOfItsKind program node s true = IsUnion program node s
IsOfItsKind program node s false = IsStruct s

-- a structure: its name, its fields, and its chains, of which no two are of one kind
pub record IsStructure (program : Program) (node : TypeId) (s : Structure) : Type 0 where
  pub name : IsName s.name
  pub some_fields : 1 ≤ length s.fields
  pub few_fields : length s.fields ≤ MAX_FIELDS
  pub distinct : AllPairs (λ f g. f.name ≢ g.name) s.fields
  pub fields : All (IsField program node s) s.fields
  pub sort : IsOfItsKind program node s s.is_union
  pub chains : All (λ c. LeadsToOwnPointer program node c.path) s.chains
  pub kinds : AllPairs (λ c d. c.kind ≢ d.kind) s.chains

-- ---- roots, caches and type words

-- the `desc` of a union that a root holds: the union's own, or the root's
abbrev pub IsDescOfRoot : Program → TypeId → Structure → Expr → Type 0
IsDescOfRoot program union u e = (u.desc ≡ Some e) ⊎ IsRootDesc program union e

-- a root: what it holds by value is not inner and no tail type, and only pointers and arrays of them are deletable
pub record IsRoot (program : Program) (r : Root) : Type 0 where
  pub name : IsName r.name
  pub shape : IsTrue (is_root_type r.ty)
  pub names : NamesFit program (IsDescOfRoot program) r.ty
  pub count : IfSome (count_of r.ty) (IsRootCount program)
  pub whole : (node : TypeId) → held_by r.ty ≡ Some node → ¬ IsInner program node × ¬ IsTailType program node
  pub deletable : IsTrue r.deletable → IsTrue (is_pointer (innermost r.ty))

-- a cache, whose keys and values may stand alone
pub record IsCache (program : Program) (c : Cache) : Type 0 where
  pub name : IsName c.name
  pub key : MayStand program c.key
  pub value : MayStand program c.value

-- a type word, whose structure is there
pub record IsTypedef (program : Program) (w : Typedef) : Type 0 where
  pub name : IsName w.name
  pub there : (s : Structure) × HasStructure program w.id s

-- the names of roots, caches and type words, which are of one name space
abbrev pub global_names : Program → List (List ℕ)
global_names program = map (λ r. r.name) program.roots ++ map (λ c. c.name) program.caches ++ map (λ w. w.name) program.words

-- ---- the program

-- what holds of each program that headers declare
pub record Settled (program : Program) : Type 0 where
  pub few_structures : length program.structures ≤ MAX_STRUCTURES
  pub few_roots : length program.roots ≤ MAX_ROOTS
  pub few_caches : length program.caches ≤ MAX_CACHES
  pub distinct_structures : AllPairs (λ s t. s.name ≢ t.name) program.structures
  pub distinct_globals : AllPairs ◌≢◌ (global_names program)
  pub no_cycle : (node : TypeId) → ¬ ContainsAtDepth program node node
  pub depth : (n : ℕ) (outer inner : TypeId) → Nests program n outer inner → n ≤ MAX_DEPTH
  pub structures : (node : TypeId) (s : Structure) → HasStructure program node s → IsStructure program node s
  pub roots : All (IsRoot program) program.roots
  pub caches : All (IsCache program) program.caches
  pub words : All (IsTypedef program) program.words
