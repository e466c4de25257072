-- A step by a name in a structure that fits leads to one part, which fits, or has one refusal.
use Rattle.std.proofs.Common.{◌≡◌, ℕ, true, false, IsTrue, List, [], ◌∷◌, refl, ap, sym, subst, ◌∙◌, Option, Some, None, inl, inr}
use Rattle.std.specs.Prelude.{◌≢◌, cond, Contains, slice_get}
use Rattle.std.specs.Str.{bytes_eq}
use Rattle.gt_types.specs.declared.expressions.Expr.{Expr}
use Rattle.gt_types.specs.declared.types.TypeId.{TypeId}
use Rattle.gt_types.specs.declared.types.Ty.{Ty}
use Rattle.gt_types.specs.declared.types.Ty.TheVariants as ty
use Rattle.gt_types.specs.declared.types.Ty.TheVariants.{outs-Node}
use Rattle.gt_types.specs.declared.program.Field.{Field}
use Rattle.gt_types.specs.declared.program.Structure.{Structure}
use Rattle.gt_types.specs.declared.program.Program.{Program}
use Rattle.gt_types.specs.Contains.{HasStructure, itself}
use Rattle.gt_types.specs.Unions.{IsCommon, BeginsWith, may_be_active}
use Rattle.gt_types.specs.Settled.{Settled}
use Rattle.std.proofs.lemmas.Option.{slice_get_within, get_or_from_slice_get}
use Rattle.gt_script.specs.declared.command.Hop.{Hop}
use Rattle.gt_script.specs.declared.command.Hop.TheVariants.{Name}
use Rattle.gt_tree.specs.Trees.{Tree, Rec, Alt, Trees, End}
use Rattle.gt_tree.specs.Blocks.{Blocks}
use Rattle.gt_tree.specs.Scopes.{Scope, inside, Typed, typed, ◌then◌}
use Rattle.gt_tree.specs.Fits.{Fits, AllFit, desc_value, types_of}
use Rattle.gt_tree.proofs.Commons.{one-common}
use Rattle.gt_tree.proofs.FixedParts.{is-struct}
use Rattle.gt_tree.proofs.PathBits.{some-same}
use Rattle.gt_tree.proofs.PathParts.{All-at, get-map}
use Rattle.gt_tree.proofs.PathBegins.{same-number}
use Rattle.gt_graph.specs.Objects.{Graph, blocks_of}
use Rattle.gt_next.specs.declared.answer.Why.TheVariants.{NoField, Inactive}
use Rattle.gt_next.specs.Spots.{typed_part, type_of_part}
use Rattle.gt_next.specs.Paths.{place_of, IsCommonMember, StepsIn, RefusesIn}
use Rattle.gt_determined.proofs.Decisions.{Known, known-same}
use Rattle.gt_determined.proofs.Commons.{known-common}
use Rattle.gt_determined.proofs.Outcomes.{Ends}
use Rattle.gt_determined.proofs.Parts.{FitsIn, part-one, part-there, field-fits}
use Rattle.gt_determined.proofs.Actives.{active-may, found-at}
use Rattle.gt_determined.proofs.Ways.{has-way}
use Rattle.gt_determined.proofs.Hops as hops

-- places lead from a value to a part, which fits
abbrev pub LeadsOn : Program → Graph → Typed → List ℕ → Type 0
LeadsOn program g t path = (next : Typed) × (typed_part program t.type t.value path ≡ Some next) × FitsIn program g next

-- a step in a value leads to one part, which fits, or has one refusal
abbrev pub EndsIn : Program → Graph → Typed → Hop → Type 0
EndsIn program g t hop = Ends (StepsIn program t hop) (RefusesIn program t hop) (LeadsOn program g t)

Contains-at : {X : Type 0} (xs : List X) (i : ℕ) (x : X) → slice_get xs i ≡ Some x → Contains xs x
Contains-at xs i x e = (i, slice_get_within xs i x e, get_or_from_slice_get xs i x x e)

-- whether the member at a place is of the type of the common structure
known-member : (program : Program) (s : Structure) (place : ℕ) → Settled program → (f : Field) → slice_get s.fields place ≡ Some f → Known ((common : TypeId) × IsCommonMember program s place common)
known-member program s place settled f got = by-type f.ty refl
  where
    by-type : (type : Ty) → f.ty ≡ type → Known ((common : TypeId) × IsCommonMember program s place common)
    by-type (ty.Node common desc) e = go (known-common program s common settled f desc (Contains-at s.fields place f got) e)
      where
        go : Known (IsCommon program s common) → Known ((other : TypeId) × IsCommonMember program s place other)
        go (inl c) = inl (common, (f, desc, got, e, c))
        go (inr none) = inr (λ m.
            let same : m.1.0 ≡ f = some-same (slice_get s.fields place) m.1.0 f m.1.2 got in
            let types : ty.Node m.0 m.1.1 ≡ ty.Node common desc = sym m.1.3 ∙ ap (λ x. x.ty) same ∙ e in
            let nodes = ap itself types in
            let equal : m.0 ≡ common = cc in
            none (subst (λ n. IsCommon program s n) equal m.1.4))
    by-type type e = inr (λ m.
        let same : m.1.0 ≡ f = some-same (slice_get s.fields place) m.1.0 f m.1.2 got in
        let types : ty.Node m.0 m.1.1 ≡ type = sym m.1.3 ∙ ap (λ x. x.ty) same ∙ e in cc)

-- what fits a struct without a `desc` fits it with each
any-desc : {program : Program} {blocks : Blocks} {capacity : ℕ} {scope : Scope} (node : TypeId) (desc : Option Expr) (s : Structure) (tree : Tree) → HasStructure program node s → s.is_union ≡ false
    → Fits program blocks capacity scope (ty.Node node None) tree → Fits program blocks capacity scope (ty.Node node desc) tree
any-desc {program} {blocks} {capacity} {scope} node desc s tree has struct fits =
    let p = is-struct node None s tree has struct fits in
    subst (λ t. Fits program blocks capacity scope (ty.Node node desc) t) (sym p.1) (Fits.struct has struct p.2)

module _ (program : Program) (settled : Settled program) (g : Graph) (node : TypeId) (desc : Option Expr) (s : Structure) (has : HasStructure program node s) (name : List ℕ) where
  no-field : (tree : Tree) → place_of s name ≡ None → EndsIn program g (typed (ty.Node node desc) tree) (Name name)
  no-field tree none = Ends.stops NoField (RefusesIn.no_field has none) (λ why r. hops.no-field-refused program node desc s has name tree why none r) (λ path steps. hops.no-field-steps program node desc s has name tree path none steps)

  field-type : (place : ℕ) (f : Field) → slice_get s.fields place ≡ Some f → type_of_part program (ty.Node node desc) place ≡ Some f.ty
  field-type place f got = ap (λ o. o then (λ x. slice_get x.fields place then (λ y. Some y.ty))) has ∙ ap (λ o. o then (λ y. Some y.ty)) got

  module _ (capacity : ℕ) (scope : Scope) where
    -- ---- a struct

    struct-ends : (trees : Trees) → s.is_union ≡ false → AllFit program (blocks_of g.objects) capacity scope (types_of s.fields) trees → (found : Option ℕ) → place_of s name ≡ found
        → EndsIn program g (typed (ty.Node node desc) (Rec trees)) (Name name)
    struct-ends trees struct all None e = no-field (Rec trees) e
    struct-ends trees struct all (Some place) e =
        let at = found-at (λ f. bytes_eq f.name name) s.fields place e in
        let part = field-fits all place at.0.ty (get-map (λ f. f.ty) s.fields place at.0 at.1) in
        Ends.ends (place ∷ []) (StepsIn.to_field has struct e)
        (typed at.0.ty part.0, part-one program (ty.Node node desc) at.0.ty (Rec trees) part.0 place [] (field-type place at.0 at.1) (part-there trees place part.0 part.1), record { capacity = capacity; scope = scope; fits = part.2 })
        (λ path steps. hops.struct-steps program node desc s has name place e trees path steps) (λ why r. hops.struct-refused program node desc s has name place e trees why r)

    -- ---- a union

    module _ (union : s.is_union ≡ true) (place : ℕ) (e : place_of s name ≡ Some place) (f : Field) (got : slice_get s.fields place ≡ Some f) (tree : Tree) where
      active-ends : Fits program (blocks_of g.objects) capacity scope f.ty tree → EndsIn program g (typed (ty.Node node desc) (Alt (Some place) tree)) (Name name)
      active-ends fits = Ends.ends (place ∷ []) (StepsIn.to_active has union e)
          (typed f.ty tree, part-one program (ty.Node node desc) f.ty (Alt (Some place) tree) tree place [] (field-type place f got) (ap (λ b. cond b (Some tree) None) (same-number place)), record { capacity = capacity; scope = scope; fits = fits })
          (λ path steps. hops.active-steps program node desc s has name place e union tree path steps) (λ why r. hops.active-refused program node desc s has name place e union tree why r)

      inactive-ends : (active : Option ℕ) → active ≢ Some place → ((common : TypeId) → ¬ IsCommonMember program s place common) → EndsIn program g (typed (ty.Node node desc) (Alt active tree)) (Name name)
      inactive-ends active ne none = Ends.stops Inactive (RefusesIn.inactive has e ne none)
          (λ why r. hops.inactive-refused program node desc s has name place e union active tree why r) (λ path steps. hops.inactive-steps program node desc s has name place e union active tree path ne none steps)

      -- another member is active, and the common structure is its begin
      common-ends : (member : ℕ) (m : Field) (common : TypeId) → place ≢ member → slice_get s.fields member ≡ Some m → IsCommonMember program s place common → IsTrue (may_be_active m.active)
          → Fits program (blocks_of g.objects) capacity scope m.ty tree → EndsIn program g (typed (ty.Node node desc) (Alt (Some member) tree)) (Name name)
      common-ends member m common ne there c active fits =
          let begins = All-at (λ x. IsTrue (may_be_active x.active) → BeginsWith program x.ty common) s.fields member m there c.4.begun active in
          let w = has-way begins g capacity scope tree fits in
          Ends.ends (member ∷ w.way) (StepsIn.to_common has e ne c there w.found)
          (w.next, part-one program (ty.Node node desc) m.ty (Alt (Some member) tree) tree member w.way (field-type member m there) (ap (λ b. cond b (Some tree) None) (same-number member)) ∙ w.leads, w.fits)
          (λ path steps. hops.common-steps program node desc s has name place e union member common m tree w.way path ne c there w.found steps)
          (λ why r. hops.common-refused program node desc s has name place e union (Some member) common tree why c r)

      -- no member is active, and the common structure is all that is there
      kept-ends : (common : TypeId) → IsCommonMember program s place common → Fits program (blocks_of g.objects) capacity scope (ty.Node common None) tree → EndsIn program g (typed (ty.Node node desc) (Alt None tree)) (Name name)
      kept-ends common c fits =
          let same : c.0 ≡ f = some-same (slice_get s.fields place) c.0 f c.2 got in
          let type : f.ty ≡ ty.Node common c.1 = ap (λ x. x.ty) (sym same) ∙ c.3 in
          let plain = c.4.plain in
          Ends.ends (place ∷ []) (StepsIn.to_kept has e c) (
            typed f.ty tree,
            part-one program (ty.Node node desc) f.ty (Alt None tree) tree place [] (field-type place f got) refl,
            record { capacity = capacity; scope = scope; fits = subst (λ t. Fits program (blocks_of g.objects) capacity scope t tree) (sym type) (any-desc common c.1 plain.0 tree plain.1 plain.2 fits) },
          )
          (λ path steps. hops.kept-steps program node desc s has name place e union tree path steps)
          (λ why r. hops.common-refused program node desc s has name place e union None common tree why c r)

    module _ (union : s.is_union ≡ true) (tree : Tree) where
      member-ends : (member : ℕ) (m : Field) → slice_get s.fields member ≡ Some m → IsTrue (may_be_active m.active) → Fits program (blocks_of g.objects) capacity scope m.ty tree
          → (found : Option ℕ) → place_of s name ≡ found → EndsIn program g (typed (ty.Node node desc) (Alt (Some member) tree)) (Name name)
      member-ends member m there active fits None e = no-field (Alt (Some member) tree) e
      member-ends member m there active fits (Some place) e = go (known-same place member) (known-member program s place settled at.0 at.1)
        where
          at : (f : Field) × (slice_get s.fields place ≡ Some f)
          at = found-at (λ f. bytes_eq f.name name) s.fields place e

          go : Known (place ≡ member) → Known ((common : TypeId) × IsCommonMember program s place common) → EndsIn program g (typed (ty.Node node desc) (Alt (Some member) tree)) (Name name)
          go (inl same) known =
              subst (λ i. EndsIn program g (typed (ty.Node node desc) (Alt (Some i) tree)) (Name name)) same
              (active-ends union place e m (subst (λ i. slice_get s.fields i ≡ Some m) (sym same) there) tree fits)
          go (inr other) (inl (common, c)) = common-ends union place e at.0 at.1 tree member m common other there c active fits
          go (inr other) (inr none) = inactive-ends union place e at.0 at.1 tree (Some member) (λ h. other (sym (some-place h))) (λ common c. none (common, c))
            where
              some-place : Some member ≡ Some place → member ≡ place
              some-place h = cc

      none-ends : ((common : TypeId) → IsCommon program s common → Fits program (blocks_of g.objects) capacity scope (ty.Node common None) tree)
          → (found : Option ℕ) → place_of s name ≡ found → EndsIn program g (typed (ty.Node node desc) (Alt None tree)) (Name name)
      none-ends fits None e = no-field (Alt None tree) e
      none-ends fits (Some place) e = go (known-member program s place settled at.0 at.1)
        where
          at : (f : Field) × (slice_get s.fields place ≡ Some f)
          at = found-at (λ f. bytes_eq f.name name) s.fields place e

          go : Known ((common : TypeId) × IsCommonMember program s place common) → EndsIn program g (typed (ty.Node node desc) (Alt None tree)) (Name name)
          go (inl (common, c)) = kept-ends union place e at.0 at.1 tree common c (fits common c.4)
          go (inr none) = inactive-ends union place e at.0 at.1 tree None (λ h. cc) (λ common c. none (common, c))

-- a name in a value of a structure
pub name-ends : (program : Program) → Settled program → (g : Graph) (node : TypeId) (desc : Option Expr) (name : List ℕ) (capacity : ℕ) (scope : Scope) (tree : Tree)
    → Fits program (blocks_of g.objects) capacity scope (ty.Node node desc) tree → EndsIn program g (typed (ty.Node node desc) tree) (Name name)
name-ends program settled g node desc name capacity scope tree (Fits.null p) = absurd (cc)
name-ends program settled g node desc name capacity scope tree (Fits.to m) = absurd m
name-ends program settled g node desc name capacity scope tree (Fits.struct {s} {trees} has u all) = struct-ends program settled g node desc s has name capacity (inside scope node (Rec trees)) trees u all (place_of s name) refl
name-ends program settled g node desc name capacity scope tree (Fits.member {s} {place} {f} {tree = part} has u active got fits) =
    let scope_there = inside scope node (Alt (Some place) part) in
    member-ends program settled g node desc s has name capacity scope_there u part place f got (active-may (desc_value program scope_there desc) s.fields place f active got) fits (place_of s name) refl
name-ends program settled g node desc name capacity scope tree (Fits.common {common} {s} {tree = part} has u active c without fits) =
    none-ends program settled g node desc s has name capacity (inside scope node (Alt None part)) u part
    (λ other o. subst (λ n. Fits program (blocks_of g.objects) capacity (inside scope node (Alt None part)) (ty.Node n None) part) (one-common program node s common other settled has c o) fits) (place_of s name) refl
name-ends program settled g node desc name capacity scope tree (Fits.nothing {s} has u active none) =
    none-ends program settled g node desc s has name capacity (inside scope node (Alt None (Rec End))) u (Rec End) (λ other o. absurd (none other o)) (place_of s name) refl
name-ends program settled g node desc name capacity scope tree (Fits.array e c each) = let o = outs-Node node desc in absurd (cc)
name-ends program settled g node desc name capacity scope tree (Fits.tail e v le c each) = let o = outs-Node node desc in absurd (cc)
