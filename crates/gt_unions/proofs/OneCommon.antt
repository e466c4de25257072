-- A union has one common structure.
use Rattle.std.proofs.Common.{◌≡◌, suc, IsTrue, List, ◌∷◌, refl, ap, sym, subst, arith, Option, Some, ◌⊎◌, inl, inr}
use Rattle.std.specs.Prelude.{◌≢◌, Contains}
use Rattle.std.proofs.lemmas.List.Elements.{All-contains}
use Rattle.gt_types.specs.declared.expressions.Expr.{Expr}
use Rattle.gt_types.specs.declared.types.TypeId.{TypeId}
use Rattle.gt_types.specs.declared.types.Ty.{Ty}
use Rattle.gt_types.specs.declared.types.Ty.TheVariants as ty
use Rattle.gt_types.specs.declared.program.Active.{Active}
use Rattle.gt_types.specs.declared.program.Active.TheVariants.{Always, Tag, Other, Never}
use Rattle.gt_types.specs.declared.program.Field.{Field}
use Rattle.gt_types.specs.declared.program.Structure.{Structure}
use Rattle.gt_types.specs.declared.program.Program.{Program}
use Rattle.gt_types.specs.Shapes.{is_unscanned}
use Rattle.gt_types.specs.Contains.{HasStructure, held_by, once, deeper, ContainsAtDepth}
use Rattle.gt_types.specs.Unions.{BeginsWith, is_it, by_first, IsCommon, IsMember, may_be_active}
use Rattle.gt_types.specs.Settled.{Settled, IsUnion, IsOfItsKind}
use Rattle.gt_unions.proofs.Structures.{held-node, nests_nests}

-- a structure holds itself
pub held-it : (node : TypeId) (desc : Option Expr) → held_by (ty.Node node desc) ≡ Some node
held-it node desc = held-node (ty.Node node desc) node desc refl

Contains-first : {X : Type 0} (xs : List X) (x : X) (rest : List X) → xs ≡ x ∷ rest → Contains xs x
Contains-first xs x rest e = subst (λ ys. Contains ys x) (sym e) (0, omega arith, refl)

-- what a type that begins with a structure holds: this one, or one that contains it
Begins : Program → Ty → TypeId → Type 0
Begins program type node = (held_by type ≡ Some node) ⊎ ((outer : TypeId) × (held_by type ≡ Some outer) × ContainsAtDepth program outer node)

deepened : (program : Program) (outer : TypeId) (desc : Option Expr) (s : Structure) (f : Field) (node : TypeId) → HasStructure program outer s → Contains s.fields f → Begins program f.ty node → Begins program (ty.Node outer desc) node
unfolding Begins
deepened program outer desc s f node has contains (inl held) = inr (outer, held-it outer desc, (1, once (s, f, has, contains, held)))
deepened program outer desc s f node has contains (inr (next, held, (n, nests))) = inr (outer, held-it outer desc, (suc n, deeper (s, f, has, contains, held) nests))

begins : (program : Program) {type : Ty} {node : TypeId} → BeginsWith program type node → Begins program type node
unfolding Begins
begins program (is_it {node} {desc}) = inl (held-it node desc)
begins program (by_first {outer} {node} {desc} {s} {f} {fs} has struct e rest) = deepened program outer desc s f node has (Contains-first s.fields f fs e) (begins program rest)

active-may : (active : Active) → active ≢ Always → active ≢ Never → IsTrue (may_be_active active)
active-may Always a n = absurd (a refl)
active-may (Tag tag) a n = refl
active-may Other a n = refl
active-may Never a n = absurd (n refl)

-- each common structure begins with each other one
common-begins : (program : Program) (node : TypeId) (s : Structure) (common other : TypeId) → Settled program → HasStructure program node s → IsCommon program s common → IsCommon program s other
    → (common ≡ other) ⊎ ContainsAtDepth program common other
unfolding Begins
common-begins program node s common other settled has c o = go (begins program found)
  where
    members : IsUnion program node s
    members = subst (λ u. IsOfItsKind program node s u) c.union (settled.structures node s has).sort

    member : IsMember c.member.0
    member = All-contains IsMember s.fields c.member.0 members.members.each c.member.2

    scanned : c.member.0.active ≢ Never
    scanned never = let u = member.1 never in let t = ap is_unscanned c.member.3 in cc

    begun : BeginsWith program c.member.0.ty other
    begun = All-contains (λ f. IsTrue (may_be_active f.active) → BeginsWith program f.ty other) s.fields c.member.0 o.begun c.member.2 (active-may c.member.0.active member.0 scanned)

    found : BeginsWith program (ty.Node common c.member.1) other
    found = subst (λ t. BeginsWith program t other) c.member.3 begun

    held : held_by (ty.Node common c.member.1) ≡ Some common
    held = held-it common c.member.1

    go : (held_by (ty.Node common c.member.1) ≡ Some other) ⊎ ((outer : TypeId) × (held_by (ty.Node common c.member.1) ≡ Some outer) × ContainsAtDepth program outer other) → (common ≡ other) ⊎ ContainsAtDepth program common other
    go (inl h) = let k = held in let same : common ≡ other = cc in inl same
    go (inr (outer, h, inside)) = let k = held in let same : outer ≡ common = cc in inr (subst (λ n. ContainsAtDepth program n other) same inside)

pub one-common : (program : Program) (node : TypeId) (s : Structure) (common other : TypeId) → Settled program → HasStructure program node s → IsCommon program s common → IsCommon program s other → common ≡ other
one-common program node s common other settled has c o = go (common-begins program node s common other settled has c o) (common-begins program node s other common settled has o c)
  where
    go : (common ≡ other) ⊎ ContainsAtDepth program common other → (other ≡ common) ⊎ ContainsAtDepth program other common → common ≡ other
    go (inl e) b = e
    go (inr a) (inl e) = sym e
    go (inr (n, a)) (inr (m, b)) = absurd (settled.no_cycle common (nests_nests program a b))
