-- The members of a union, and the structure with which all of them begin.
use Rattle.std.specs.Prelude.{◌≡◌, ◌≢◌, Bool, true, false, IsTrue, List, ◌∷◌, Option, None, All, AllPairs, Contains}
use Rattle.gt_types.specs.declared.expressions.Expr.{Expr}
use Rattle.gt_types.specs.declared.types.TypeId.{TypeId}
use Rattle.gt_types.specs.declared.types.Ty.{Ty}
use Rattle.gt_types.specs.declared.types.Ty.TheVariants as ty
use Rattle.gt_types.specs.declared.program.Active.{Active}
use Rattle.gt_types.specs.declared.program.Active.TheVariants.{Always, Tag, Other, Never}
use Rattle.gt_types.specs.declared.program.Field.{Field}
use Rattle.gt_types.specs.declared.program.Structure.{Structure}
use Rattle.gt_types.specs.declared.program.Program.{Program}
use Rattle.gt_types.specs.Shapes.{is_unscanned}
use Rattle.gt_types.specs.Contains.{HasStructure, ContainsAtDepth}
use Rattle.gt_types.specs.Tails.{tail_of}

-- ---- members

-- a member may be the active one: it has a tag, or is the default
abbrev pub may_be_active : Active → Bool
may_be_active (Tag tag) = true
may_be_active Other = true
may_be_active _ = false

-- two members are never both active: their tags differ, and not both are the default
abbrev pub AreApart : Active → Active → Type 0
AreApart (Tag a) (Tag b) = a ≢ b
AreApart Other Other = ⊥
AreApart a b = Unit {0}

-- a member of a union has a tag, or is the default, or is not scanned and never active
abbrev pub IsMember : Field → Type 0
IsMember f = (f.active ≢ Always) × (f.active ≡ Never → IsTrue (is_unscanned f.ty))

-- the members of a union: at most one is the default, and no tag stands twice
pub record AreMembers (fields : List Field) : Type 0 where
  pub each : All IsMember fields
  pub apart : AllPairs (λ f g. AreApart f.active g.active) fields

-- ---- the common structure

-- a type is a structure, or a struct whose first field begins with it
pub data BeginsWith (program : Program) : Ty → TypeId → Type 0 where
  is_it : {node : TypeId} {desc : Option Expr} → BeginsWith program (ty.Node node desc) node
  by_first : {outer node : TypeId} {desc : Option Expr} {s : Structure} {f : Field} {fs : List Field} → HasStructure program outer s → s.is_union ≡ false
      → s.fields ≡ f ∷ fs → BeginsWith program f.ty node → BeginsWith program (ty.Node outer desc) node

-- a struct that does not end in an array with a length
abbrev pub IsPlainStruct : Program → TypeId → Type 0
IsPlainStruct program node = (s : Structure) × HasStructure program node s × (s.is_union ≡ false) × (tail_of s.fields ≡ None)

-- The common structure of a union: some member is of this type, it contains no union and no array with a length at any depth,
-- and each member that may be active is of this type or begins with it.
pub record IsCommon (program : Program) (s : Structure) (common : TypeId) : Type 0 where
  pub union : s.is_union ≡ true
  pub member : (f : Field) × (desc : Option Expr) × Contains s.fields f × (f.ty ≡ ty.Node common desc)
  pub plain : IsPlainStruct program common
  pub plain_inside : (inner : TypeId) → ContainsAtDepth program common inner → IsPlainStruct program inner
  pub begun : All (λ f. IsTrue (may_be_active f.active) → BeginsWith program f.ty common) s.fields
