-- No promise: the paths of expressions, each with the structures at which it begins, part by part.
use Rattle.std.specs.Prelude.{◌≡◌, ◌↔◌, ◌⊎◌, ℕ, Bool, true, false, List, Option, Some, None, Contains, slice_get}
use Rattle.gt_types.specs.declared.expressions.Base.{Base}
use Rattle.gt_types.specs.declared.expressions.Base.TheVariants.{Here, Outer, Outermost}
use Rattle.gt_types.specs.declared.expressions.Expr.{Expr}
use Rattle.gt_types.specs.declared.types.TypeId.{TypeId}
use Rattle.gt_types.specs.declared.types.Ty.{Ty}
use Rattle.gt_types.specs.declared.types.Ty.TheVariants as ty
use Rattle.gt_types.specs.declared.program.Field.{Field}
use Rattle.gt_types.specs.declared.program.Structure.{Structure}
use Rattle.gt_types.specs.declared.program.Root.{Root as RootOf}
use Rattle.gt_types.specs.declared.program.Program.{Program}
use Rattle.gt_types.specs.Shapes.{innermost, count_of}
use Rattle.gt_types.specs.Contains.{ContainsStructure}
use Rattle.gt_types.specs.Paths.{paths_of, own_expressions}
use Rattle.gt_paths.specs.Numbers.{numbered}
use Rattle.gt_paths.specs.Outers.{IsOuter}
use Rattle.gt_leaf.specs.Unread.{HasPath}

-- paths of names, each with the numbers of the structures at which it begins
abbrev pub PathStarts : Type 1
PathStarts = List (List ℕ) → ℕ → Type 0

-- to these paths those are added, and no others
pub record Gains (old new more : PathStarts) : Type 0 where
  pub each : (names : List (List ℕ)) (begin : ℕ) → new names begin ↔ (old names begin ⊎ more names begin)

-- ---- the paths of expressions from a base, where they begin at each of some structures

-- bases are the same
abbrev pub same_base : Base → Base → Bool
same_base Here Here = true
same_base Outer Outer = true
same_base Outermost Outermost = true
same_base a b = false

-- those of an expression
abbrev pub PathsOf : Base → (ℕ → Type 0) → Expr → PathStarts
PathsOf base begins e names begin = Contains (paths_of e) (base, names) × begins begin

-- those of an expression, where there is one
abbrev pub PathsOfSome : Base → (ℕ → Type 0) → Option Expr → PathStarts
PathsOfSome base begins o names begin = (e : Expr) × (o ≡ Some e) × PathsOf base begins e names begin

-- those of the lengths of fields
abbrev pub PathsOfCounts : Base → (ℕ → Type 0) → List Field → PathStarts
PathsOfCounts base begins fields names begin = (f : Field) × Contains fields f × PathsOfSome base begins (count_of f.ty) names begin

-- those of the expressions that speak of a structure as `%h`
abbrev pub PathsOfOwn : Base → (ℕ → Type 0) → Structure → PathStarts
PathsOfOwn base begins s names begin = (e : Expr) × Contains (own_expressions s) e × PathsOf base begins e names begin

-- the `desc` that a type gives to a union
abbrev pub desc_in : Ty → Option Expr
desc_in (ty.Node union desc) = desc
desc_in type = None

-- those of the `desc` of fields
abbrev pub PathsOfDescs : Base → (ℕ → Type 0) → List Field → PathStarts
PathsOfDescs base begins fields names begin = (f : Field) × Contains fields f × PathsOfSome base begins (desc_in (innermost f.ty)) names begin

-- ---- the paths of a `desc`, which begin at its union

-- one structure
abbrev pub IsOne : ℕ → ℕ → Type 0
IsOne node i = i ≡ node

-- those of the `desc` that a type gives to a union
abbrev pub PathsOfUnion : Base → Ty → PathStarts
PathsOfUnion base type names begin = (union : TypeId) × (e : Expr) × (type ≡ ty.Node union (Some e)) × PathsOf base (IsOne union.0) e names begin

-- those of fields
abbrev pub PathsOfUnions : Base → List Field → PathStarts
PathsOfUnions base fields names begin = (f : Field) × Contains fields f × PathsOfUnion base (innermost f.ty) names begin

-- those of roots
abbrev pub PathsOfRoots : Base → List RootOf → PathStarts
PathsOfRoots base roots names begin = (r : RootOf) × Contains roots r × PathsOfUnion base (innermost r.ty) names begin

-- ---- the paths of a program

-- the structures that contain one
abbrev pub IsContainer : Program → ℕ → ℕ → Type 0
IsContainer program node i = ContainsStructure program (numbered i) (numbered node)

-- the paths from `%h` and `%1` of the expressions in a structure
abbrev pub PathsInside : Program → ℕ → Structure → PathStarts
PathsInside program node s names begin =
    ((PathsOfOwn Here (IsOne node) s names begin ⊎ PathsOfDescs Outer (IsOne node) s.fields names begin) ⊎ PathsOfUnions Here s.fields names begin) ⊎ PathsOfCounts Outer (IsContainer program node) s.fields names begin

-- those from `%0`
abbrev pub PathsOutermost : Program → ℕ → Structure → PathStarts
PathsOutermost program node s names begin = PathsOfOwn Outermost (IsOuter program node) s names begin ⊎ PathsOfDescs Outermost (IsOuter program node) s.fields names begin

-- the paths of each structure of several
abbrev pub PathsOfAll : (ℕ → Structure → PathStarts) → List Structure → PathStarts
PathsOfAll paths structures names begin = (node : ℕ) × (s : Structure) × (slice_get structures node ≡ Some s) × paths node s names begin

-- the paths from `%h` and `%1` of all expressions of a program
abbrev pub AllInside : Program → PathStarts
AllInside program names begin = HasPath program Here (numbered begin) names ⊎ HasPath program Outer (numbered begin) names

-- those from `%0`
abbrev pub AllOutermost : Program → PathStarts
AllOutermost program names begin = HasPath program Outermost (numbered begin) names
