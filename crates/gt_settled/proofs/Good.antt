-- What follows for expressions, pointers and unions from a draft without faults.
use Rattle.std.proofs.Common.{◌≡◌, ◌∙◌, inl, inr, ℕ, suc, ◌<◌, Bool, true, false, ◌||◌, List, [], ◌∷◌, length, get_or, Option, Some, None, refl, sym, ap, subst, arith}
use Rattle.std.specs.Prelude.{IsSome, slice_get, option_map, if◌then◌else◌}
use Rattle.std.specs.Option.{option_map_or}
use Rattle.std.proofs.lemmas.Option.{none-some, same_Some, slice_get-get_or}
use Rattle.gt_types.specs.declared.expressions.Base.{Base}
use Rattle.gt_types.specs.declared.expressions.Base.TheVariants.{Here, Outer, Outermost}
use Rattle.gt_types.specs.declared.expressions.Expr.{Expr}
use Rattle.gt_types.specs.declared.types.TypeId.{TypeId}
use Rattle.gt_types.specs.declared.types.Ty.TheVariants as ty
use Rattle.gt_types.specs.declared.program.Structure.{Structure}
use Rattle.gt_types.specs.declared.program.Program.{Program}
use Rattle.gt_types.specs.Contains.{HasStructure, ContainsStructure, Nests, once, deeper}
use Rattle.gt_types.specs.Paths.{IsInner, MayStand, IsOutermost, PathFits, DescPathFits, IsOption, IsFieldDesc}
use Rattle.gt_types.specs.Settled.{HasDesc, NamesDescribed}
use Rattle.gt_expr.specs.declared.raw.RawExpr.{RawExpr}
use Rattle.gt_items.specs.declared.items.Parameter.{Parameter}
use Rattle.gt_items.specs.declared.items.Parameter.TheVariants.{Absent, Expression, Text}
use Rattle.gt_items.specs.declared.items.RawOption.{RawOption}
use Rattle.gt_items.specs.declared.items.Stars.{Stars}
use Rattle.gt_items.specs.declared.items.Stars.TheVariants.{Zero, One, Two, More}
use Rattle.gt_layout.specs.declared.planes.Plane.{Plane}
use Rattle.gt_drafts.specs.declared.types.BaseType.{BaseType}
use Rattle.gt_drafts.specs.declared.types.BaseType.TheVariants as base
use Rattle.gt_drafts.specs.declared.types.DeclaredType.{DeclaredType}
use Rattle.gt_drafts.specs.declared.draft.Draft.{Draft}
use Rattle.gt_drafts.specs.declared.draft.DraftStructure.{DraftStructure}
use Rattle.gt_drafts.specs.Options.{has_skip}
use Rattle.gt_drafts.specs.Undefined.{is_zero}
use Rattle.gt_markers.specs.Expressions.{Names, expression_of, with_names}
use Rattle.gt_markers.specs.Options.{option_named}
use Rattle.gt_markers.specs.Sound.{NamesStructure}
use Rattle.gt_markers.specs.Typing.{desc_at, expression_named, first_some, node, own_desc, used_desc}
use Rattle.gt_declare.specs.Programs.{program_by}
use Rattle.gt_rules.specs.Faults.{IsGood, LacksDesc, NamesBareUnion, NamesInner, named_by, names_node}
use Rattle.gt_rules.specs.Inner.{IsDeclaredInner}
use Rattle.gt_rules.proofs.InnerLemmas.{Agree}
use Rattle.gt_settled.proofs.Stable.{Stable}
use Rattle.gt_settled.proofs.Made.{structure_at}

-- ---- expressions

same_expression : (a b : RawExpr) → Expression a ≡ Expression b → a ≡ b
same_expression a b e = cc

-- a parameter that cannot be other than good is good
pub good_of : (names : Names) (good : Expr → Type 0) → ((e : Expr) → Stable (good e)) → (parameter : Parameter) → ¬ (¬ IsGood names good parameter) → good (expression_of names parameter)
good_of names good stable (Expression e) nn =
    stable (with_names names e) (λ no. nn (λ is. no (subst (λ (raw : RawExpr). good (with_names names raw)) (sym (same_expression e is.e is.expression)) is.fits)))
good_of names good stable Absent nn = absurd (nn (λ is. let never : Absent ≡ Expression is.e = is.expression in cc))
good_of names good stable (Text text) nn = absurd (nn (λ is. let never : Text text ≡ Expression is.e = is.expression in cc))

-- the expression of an option, where the option is good
pub good_named : (names : Names) (good : Expr → Type 0) → ((e : Expr) → Stable (good e)) → (name : List ℕ) (options : List RawOption)
    → ((o : RawOption) → option_named name options ≡ Some o → ¬ (¬ IsGood names good o.parameter)) → (e : Expr) → expression_named names name options ≡ Some e → good e
good_named names good stable name options nn e is = by (option_named name options) refl is
  where
    by : (o : Option RawOption) → option_named name options ≡ o → option_map (λ (o : RawOption). expression_of names o.parameter) o ≡ Some e → good e
    by None at is = absurd (none-some e is)
    by (Some o) at is = subst good (same_Some (expression_of names o.parameter) e is) (good_of names good stable o.parameter (nn o at))

-- ---- a union's own `desc` in its field

nests_then : (program : Program) (n : ℕ) (a b c : TypeId) → Nests program n a b → ContainsStructure program b c → Nests program (suc n) a c
nests_then program n a b c (once first) last = deeper first (once last)
nests_then program n a b c (deeper {n = m} {next = next} first more) last = deeper first (nests_then program m next b c more last)

outermost_of : (program : Program) (outer union top : TypeId) → ContainsStructure program outer union → IsOutermost program outer top → IsOutermost program union top
outermost_of program outer union top contains (standing, inl same) = (standing, inr (1, once (subst (λ (id : TypeId). ContainsStructure program id union) (sym same) contains)))
outermost_of program outer union top contains (standing, inr (n, nests)) = (standing, inr (suc n, nests_then program n top outer union nests contains))

path_of_field : (program : Program) (outer union : TypeId) → ContainsStructure program outer union → (base : Base) (steps : List (List ℕ)) → PathFits program union base steps
    → DescPathFits program outer union base steps
path_of_field program outer union contains Here steps fits = fits
path_of_field program outer union contains Outer steps fits = fits outer contains
path_of_field program outer union contains Outermost steps fits = λ top is. fits top (outermost_of program outer union top contains is)

pub desc_of_field : (program : Program) (outer union : TypeId) (e : Expr) → ContainsStructure program outer union → IsOption program union e → IsFieldDesc program outer union e
desc_of_field program outer union e contains is = record {
  operators = is.operators;
  no_roots = is.no_roots;
  steps = is.steps;
  paths = λ k d within. path_of_field program outer union contains _ _ (is.paths k d within);
}

-- ---- structures that are named

pub present : {X : Type 0} (xs : List X) (k : ℕ) → k < length xs → (x : X) × (slice_get xs k ≡ Some x)
present [] k within = absurd (omega (arith, within))
present (x ∷ xs) k within = (get_or (x ∷ xs) k x, slice_get-get_or (x ∷ xs) k x within)

module _ (draft : Draft) (planes : List Plane) (program : Program) (is : program ≡ program_by draft planes) where
  -- where a pointer names neither a union without `desc` nor an inner structure
  module _ (options : List RawOption) (t : DeclaredType) (skip : has_skip options ≡ false) (function : t.is_function ≡ false) (there : NamesStructure draft t.resolved.base)
      (agree : Agree (IsDeclaredInner draft) (IsInner program)) (bare : ¬ NamesBareUnion program options t) (inner : ¬ NamesInner draft options t) where
    named : (id : ℕ) (stars : Stars) → t.resolved.base ≡ base.Structure id → t.resolved.stars ≡ stars → is_zero stars ≡ false → ¬ (stars ≡ More) → names_node options t ≡ Some id
    named id stars b s some few = names_by ∙ by_stars stars some few
      where
        names_by : names_node options t ≡ named_by (base.Structure id) stars
        names_by =
            ap (λ (x : Bool). if (x || t.is_function) then None else named_by t.resolved.base t.resolved.stars) skip
            ∙ ap (λ (x : Bool). if x then None else named_by t.resolved.base t.resolved.stars) function
            ∙ ap (λ (x : BaseType). named_by x t.resolved.stars) b ∙ ap (λ (x : Stars). named_by (base.Structure id) x) s

        by_stars : (stars : Stars) → is_zero stars ≡ false → ¬ (stars ≡ More) → named_by (base.Structure id) stars ≡ Some id
        by_stars Zero some few = absurd (cc)
        by_stars One some few = refl
        by_stars Two some few = refl
        by_stars More some few = absurd (few refl)

    pub stands : (id : ℕ) (stars : Stars) → t.resolved.base ≡ base.Structure id → t.resolved.stars ≡ stars → is_zero stars ≡ false → ¬ (stars ≡ More) → MayStand program (node id)
    stands id stars b s some few =
        let at = present draft.structures id (subst (NamesStructure draft) b there) in
        let made = structure_at draft planes program is id at.0 at.1 in
        let name = named id stars b s some few in (
          made.0,
          made.1,
          λ is_inner. inner (id, name, (agree (node id)).1 is_inner),
          λ union. has_desc made.0.desc (λ none. bare (id, name, (made.0, made.1, union, none))),
        )
      where
        has_desc : (d : Option Expr) → ¬ (d ≡ None) → IsSome d
        has_desc None never = absurd (never refl)
        has_desc (Some x) never = refl

  -- a structure by value has the `desc` that it needs
  pub described_at : (id : ℕ) (ds : DraftStructure) (given : Option Expr) (good : TypeId → Structure → Expr → Type 0) → slice_get draft.structures id ≡ Some ds
      → ((s : Structure) (e : Expr) → HasStructure program (node id) s → s.is_union ≡ true → given ≡ Some e → good (node id) s e)
      → ((s : Structure) (e : Expr) → HasStructure program (node id) s → s.is_union ≡ true → s.desc ≡ Some e → good (node id) s e)
      → ¬ LacksDesc program (ty.Node (node id) (desc_at draft id given)) → NamesDescribed program good (ty.Node (node id) (desc_at draft id given))
  described_at id ds given good at by_given by_own lacks =
      let made = structure_at draft planes program is id ds at in
      let union : made.0.is_union ≡ ds.is_union = ap (λ (s : Structure). s.is_union) made.2.same in
      let desc : made.0.desc ≡ own_desc draft ds = ap (λ (s : Structure). s.desc) made.2.same in
      let used : desc_at draft id given ≡ used_desc draft ds given = ap (λ (o : Option DraftStructure). option_map_or (λ s. used_desc draft s given) o None) at in (
        made.0,
        made.1,
        subst (λ (d : Option Expr). HasDesc made.0 d (good (node id) made.0)) (sym used)
            (by_kind made.0 given made.0.desc ds.is_union (own_desc draft ds) made.1 union desc refl
            (λ e u is. by_given made.0 e made.1 u is) (λ e u is. by_own made.0 e made.1 u is)
            (λ u none. lacks (subst (λ (d : Option Expr). LacksDesc program (ty.Node (node id) d)) (sym (used ∙ none)) (made.0, made.1, u)))),
      )
    where
      by_kind : (s : Structure) (given own : Option Expr) (union : Bool) (drafted : Option Expr) → HasStructure program (node id) s → s.is_union ≡ union → s.desc ≡ drafted → s.desc ≡ own
          → ((e : Expr) → s.is_union ≡ true → given ≡ Some e → good (node id) s e) → ((e : Expr) → s.is_union ≡ true → s.desc ≡ Some e → good (node id) s e)
          → (s.is_union ≡ true → (if union then first_some given drafted else None) ≡ None → ⊥)
          → HasDesc s (if union then first_some given drafted else None) (good (node id) s)
      by_kind s given own false drafted there u d o by_given by_own lacks = u
      by_kind s (Some e) own true drafted there u d o by_given by_own lacks = (u, by_given e u refl)
      by_kind s None own true (Some e) there u d o by_given by_own lacks = (u, by_own e u d)
      by_kind s None own true None there u d o by_given by_own lacks = absurd (lacks u refl)
