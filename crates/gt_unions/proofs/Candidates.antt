-- The one member's structure that can be the common one, member by member.
use Rattle.std.proofs.Common.{◌≡◌, ◌≢◌, ℕ, ◌+◌, ◌<◌, ◌⊎◌, inl, inr, Bool, true, false, cond, IsTrue, List, [], ◌∷◌, ◌++◌, Option, Some, None, length, get_or, take, ap, sym, subst, ◌∙◌, refl, arith}
use Rattle.std.specs.Prelude.{All, Any, Contains, IfSome}
use Rattle.std.specs.Bool.{Decides}
use Rattle.std.proofs.lemmas.List.{take_more}
use Rattle.std.proofs.lemmas.List.Elements.{All-push, All-contains, Contains-push_cases}
use Rattle.gt_types.specs.declared.types.TypeId.{TypeId}
use Rattle.gt_types.specs.declared.program.Active.{Active}
use Rattle.gt_types.specs.declared.program.Active.TheVariants.{Always, Tag, Other, Never}
use Rattle.gt_types.specs.declared.program.Field.{Field}
use Rattle.gt_types.specs.declared.program.Structure.{Structure}
use Rattle.gt_types.specs.declared.program.Program.{Program}
use Rattle.gt_types.specs.Shapes.{is_unscanned}
use Rattle.gt_types.specs.Contains.{HasStructure, itself}
use Rattle.gt_types.specs.Settled.{Settled, IsUnion, IsOfItsKind}
use Rattle.gt_types.specs.Unions.{may_be_active, IsMember, BeginsWith, IsCommon}
use Rattle.gt_unions.specs.Beginnings.{Begins, IsPlain, active_structure, BeginsIfActive, IsFoundAmong}
use Rattle.gt_unions.proofs.Structures.{some_is, itself-node}
use Rattle.gt_unions.proofs.Starts.{of_itself, to_itself, one_beginning}

-- ---- one more member

-- a member is this structure
abbrev Is : TypeId → Field → Type 0
Is node f = active_structure f ≡ Some node

any_last : (P : Field → Type 0) (xs : List Field) (y : Field) → Any P (xs ++ y ∷ []) → Any P xs ⊎ P y
any_last P xs y (i, x, within, at, p) =
    elim (Contains-push_cases xs y x (i, within, at)) [
      | inl c ↦ inl (c.0, x, c.1, c.2, p)
      | inr same ↦ inr (subst P (sym same) p)
    ]

-- it is no structure that may be active
pub none_more : (program : Program) (common : TypeId) (fields : List Field) (f : Field) (found : Option TypeId) → active_structure f ≡ None → IsFoundAmong program common fields found
    → IsFoundAmong program common (fields ++ f ∷ []) found
none_more program common fields f None none all = All-push (λ g. active_structure g ≢ Some common) fields f all (λ e. let never : None ≡ Some common = sym none ∙ e in cc)
none_more program common fields f (Some found) none (begins, only) =
    (begins, λ any. elim (any_last (Is common) fields f any) [ inl before ↦ only before | inr is ↦ let never : None ≡ Some common = sym none ∙ is in cc ])

-- it is the first
pub first_one : (program : Program) (common node : TypeId) (fields : List Field) (f : Field) → active_structure f ≡ Some node → BeginsIfActive program common f → IsFoundAmong program common fields None
    → IsFoundAmong program common (fields ++ f ∷ []) (Some node)
first_one program common node fields f e begins all = (
  begins node e,
  λ any.
      elim (any_last (Is common) fields f any) [
        | inl before ↦ absurd (All-contains (λ g. active_structure g ≢ Some common) fields before.1 all (before.0, before.2, before.3) before.4)
        | inr is ↦ some_is node common (sym e ∙ is)
      ],
)

-- it begins with what was found
pub same_one : (program : Program) (common first node : TypeId) (fields : List Field) (f : Field) → Settled program → active_structure f ≡ Some node → Begins program node first
    → IsFoundAmong program common fields (Some first) → IsFoundAmong program common (fields ++ f ∷ []) (Some first)
same_one program common first node fields f settled e begun (begins, only) = (
  begins,
  λ any.
      elim (any_last (Is common) fields f any) [
        | inl before ↦ only before
        | inr is ↦
            let same : node ≡ common = some_is node common (sym e ∙ is) in
            one_beginning program first common settled begins (subst (λ (n : TypeId). Begins program n first) same begun)
      ],
)

-- it does not begin with what was found
pub other_one : (program : Program) (common first node : TypeId) (fields : List Field) (f : Field) → active_structure f ≡ Some node → ¬ Begins program node first → BeginsIfActive program common f
    → IsFoundAmong program common fields (Some first) → IsFoundAmong program common (fields ++ f ∷ []) (Some node)
other_one program common first node fields f e not_begun begins_if (begins, only) = (
  begins_if node e,
  λ any.
      elim (any_last (Is common) fields f any) [
        | inl before ↦ absurd (not_begun (subst (λ (n : TypeId). Begins program node n) (sym (only before)) (begins_if node e)))
        | inr is ↦ some_is node common (sym e ∙ is)
      ],
)

-- ---- members of a union with a common structure

active-may : (active : Active) → active ≢ Always → active ≢ Never → may_be_active active ≡ true
active-may Always a n = absurd (a refl)
active-may (Tag tag) a n = refl
active-may Other a n = refl
active-may Never a n = absurd (n refl)

split : (b : Bool) (o : Option TypeId) (node : TypeId) → cond b o None ≡ Some node → (b ≡ true) × (o ≡ Some node)
split true o node e = (refl, e)
split false o node e = cc

begins_if_active : (program : Program) (common : TypeId) (f : Field) → (IsTrue (may_be_active f.active) → BeginsWith program f.ty common) → BeginsIfActive program common f
begins_if_active program common f begun outer e =
    let parts = split (may_be_active f.active) (itself f.ty) outer e in
    to_itself program f.ty outer common parts.1 (begun parts.0)

some_member : (program : Program) (node common : TypeId) (s : Structure) → Settled program → HasStructure program node s → IsCommon program s common → Any (Is common) s.fields
some_member program node common s settled there c = (contains.0, f, contains.1, contains.2, is)
  where
    f : Field
    f = c.member.0

    contains : Contains s.fields f
    contains = c.member.2

    union : IsUnion program node s
    union = subst (λ u. IsOfItsKind program node s u) c.union (settled.structures node s there).sort

    member : IsMember f
    member = All-contains IsMember s.fields f union.members.each contains

    scanned : f.active ≢ Never
    scanned never = let u = member.1 never in let t = ap is_unscanned c.member.3 in cc

    is : active_structure f ≡ Some common
    is = ap (λ (b : Bool). cond b (itself f.ty) None) (active-may f.active member.0 scanned) ∙ ap itself c.member.3

-- ---- the loop

-- what is found among the first members
pub record SoFar (program : Program) (s : Structure) (fields : List Field) (found : Option TypeId) : Type 0 where
  pub member : IfSome found (λ node. Any (λ f. active_structure f ≡ Some node) s.fields)
  pub only : (common : TypeId) → IsCommon program s common → IsFoundAmong program common fields found

pub so_far_none : (program : Program) (s : Structure) → SoFar program s [] None
so_far_none program s = record { member = tt; only = λ common is k d within. absurd (omega (arith, within)) }

pub so_far_more :
    (program : Program) (s : Structure) (items : List Field) (i : ℕ) (f : Field) (found next : Option TypeId) → items ≡ s.fields → i < length items → f ≡ get_or items i f
    → IfSome next (λ node. (found ≡ Some node) ⊎ (active_structure f ≡ Some node))
    → ((common : TypeId) (fields : List Field) → BeginsIfActive program common f → IsFoundAmong program common fields found → IsFoundAmong program common (fields ++ f ∷ []) next)
    → SoFar program s (take i items) found → SoFar program s (take (i + 1) items) next
so_far_more program s items i f found next same within is from more so = record { member = member next from; only = only }
  where
    there : Contains s.fields f
    there = subst (λ (xs : List Field). Contains xs f) same (i, within, sym is)

    member : (next : Option TypeId) → IfSome next (λ node. (found ≡ Some node) ⊎ (active_structure f ≡ Some node)) → IfSome next (λ node. Any (λ g. active_structure g ≡ Some node) s.fields)
    member None from = tt
    member (Some node) (inl e) = subst (λ (o : Option TypeId). IfSome o (λ n. Any (λ g. active_structure g ≡ Some n) s.fields)) e so.member
    member (Some node) (inr e) = (there.0, f, there.1, there.2, e)

    first : take (i + 1) items ≡ take i items ++ f ∷ []
    first = take_more items i f within ∙ ap (λ (g : Field). take i items ++ g ∷ []) (sym is)

    only : (common : TypeId) → IsCommon program s common → IsFoundAmong program common (take (i + 1) items) next
    only common c =
        let begins = begins_if_active program common f (All-contains (λ g. IsTrue (may_be_active g.active) → BeginsWith program g.ty common) s.fields f c.begun there) in
        subst (λ (xs : List Field). IsFoundAmong program common xs next) (sym first) (more common (take i items) begins (so.only common c))

the_one : (program : Program) (common : TypeId) (fields : List Field) (found : Option TypeId) → Any (Is common) fields → IsFoundAmong program common fields found → found ≡ Some common
the_one program common fields None any all = absurd (All-contains (λ g. active_structure g ≢ Some common) fields any.1 all (any.0, any.2, any.3) any.4)
the_one program common fields (Some found) any (begins, only) = ap (λ (n : TypeId). Some n) (only any)

pub only_one : (program : Program) (s : Structure) (found : Option TypeId) → Settled program → (node : TypeId) × HasStructure program node s → SoFar program s s.fields found
    → (common : TypeId) → IsCommon program s common → found ≡ Some common
only_one program s found settled (node, there) so common c =
    the_one program common s.fields found (some_member program node common s settled there c) (so.only common c)

-- ---- the tests

pub begun_if : (program : Program) (f : Field) (outer node : TypeId) (b : Bool) → may_be_active f.active ≡ true → itself f.ty ≡ Some outer → Decides b (Begins program outer node)
    → Decides b (IsTrue (may_be_active f.active) → BeginsWith program f.ty node)
begun_if program f outer node b may e (to, from) =
    (λ yes' _. of_itself program f.ty outer node e (to yes'), λ begun. from (to_itself program f.ty outer node e (begun may)))

pub is_common : (program : Program) (s : Structure) (common : TypeId) (b : Bool) → s.is_union ≡ true → Any (λ f. active_structure f ≡ Some common) s.fields
    → All (λ f. IsTrue (may_be_active f.active) → BeginsWith program f.ty common) s.fields → Decides b (IsPlain program common) → Decides b (IsCommon program s common)
is_common program s common b union any begun (to, from) =
    let type = itself-node any.1.ty common (split (may_be_active any.1.active) (itself any.1.ty) common any.4).1 in (
      λ e. record { union = union; member = (any.1, type.0, (any.0, any.2, any.3), type.1); plain = (to e).0; plain_inside = (to e).1; begun = begun },
      λ c. from (c.plain, c.plain_inside),
    )
