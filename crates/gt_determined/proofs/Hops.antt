-- What one step in a value can be: steps and refusals by what the value is.
use Rattle.std.proofs.Common.{◌≡◌, ℕ, ◌<◌, true, false, List, [], ◌∷◌, refl, ap, sym, subst, ◌∙◌, Option, Some, None}
use Rattle.std.specs.Prelude.{◌≢◌, slice_get}
use Rattle.gt_types.specs.declared.expressions.Expr.{Expr}
use Rattle.gt_types.specs.declared.types.TypeId.{TypeId}
use Rattle.gt_types.specs.declared.types.Ty.{Ty}
use Rattle.gt_types.specs.declared.types.Ty.TheVariants as ty
use Rattle.gt_types.specs.declared.types.Ty.TheVariants.{outs-Node}
use Rattle.gt_types.specs.declared.program.Field.{Field}
use Rattle.gt_types.specs.declared.program.Structure.{Structure}
use Rattle.gt_types.specs.declared.program.Program.{Program}
use Rattle.gt_types.specs.Contains.{HasStructure, itself}
use Rattle.gt_script.specs.declared.command.Hop.{Hop}
use Rattle.gt_script.specs.declared.command.Hop.TheVariants.{Name, Index}
use Rattle.gt_tree.specs.Trees.{Tree, Rec, Alt, Row, Trees, count}
use Rattle.gt_tree.specs.Scopes.{Typed, typed}
use Rattle.gt_tree.proofs.PathBits.{some-same}
use Rattle.gt_next.specs.declared.answer.Why.{Why}
use Rattle.gt_next.specs.declared.answer.Why.TheVariants.{NoField, WrongType, BadIndex, Inactive}
use Rattle.gt_next.specs.Spots.{element_of}
use Rattle.gt_next.specs.Paths.{place_of, IsCommonMember, way_to, StepsIn, is_some_type, is_suited, RefusesIn}

-- ---- steps that suit the type

pub index-suited : (type : Ty) (place : ℕ) → is_suited type (Index place) ≡ is_some_type (element_of type)
index-suited (ty.Node node desc) place = refl
index-suited type place = refl

pub steps-suited : {program : Program} {t : Typed} {hop : Hop} {path : List ℕ} → StepsIn program t hop path → is_suited t.type hop ≡ true
steps-suited (StepsIn.to_field has struct at) = refl
steps-suited (StepsIn.to_active has union at) = refl
steps-suited (StepsIn.to_common has at ne member got way) = refl
steps-suited (StepsIn.to_kept has at member) = refl
steps-suited (StepsIn.to_element {type} {place = place} e lt) = index-suited type place ∙ ap is_some_type e

pub unsuited : {program : Program} {t : Typed} {hop : Hop} {why : Why} → is_suited t.type hop ≡ false → RefusesIn program t hop why → why ≡ WrongType
unsuited e (RefusesIn.no_field has none) = absurd (cc)
unsuited e (RefusesIn.inactive has at ne none) = absurd (cc)
unsuited e (RefusesIn.no_element {type} {place = place} elem lt) = let suited = index-suited type place ∙ ap is_some_type elem in absurd (cc)
unsuited e (RefusesIn.not_suited h) = refl

-- ---- elements

module _ {program : Program} where
  pub element-steps : (type : Ty) (trees : Trees) (place : ℕ) (path : List ℕ) → StepsIn program (typed type (Row trees)) (Index place) path → (path ≡ place ∷ []) × (place < count trees)
  element-steps type trees place path (StepsIn.to_element e lt) = (refl, lt)

  pub element-refused : (type : Ty) (elem : Ty) (trees : Trees) (place : ℕ) (why : Why) → element_of type ≡ Some elem → RefusesIn program (typed type (Row trees)) (Index place) why
      → (why ≡ BadIndex) × ¬ (place < count trees)
  element-refused type elem trees place why e (RefusesIn.no_element is lt) = (refl, lt)
  element-refused type elem trees place why e (RefusesIn.not_suited h) = let suited = index-suited type place ∙ ap is_some_type e in absurd (cc)

-- ---- fields by their names

module _ (program : Program) (node : TypeId) (desc : Option Expr) (s : Structure) (has : HasStructure program node s) (name : List ℕ) where
  same-structure : (other : Structure) → HasStructure program node other → other ≡ s
  same-structure other h = some-same (slice_get program.structures node.0) other s h has

  -- where the name is found in the structure
  found : (other : Structure) (place : Option ℕ) → HasStructure program node other → place_of other name ≡ place → place_of s name ≡ place
  found other place h e = subst (λ x. place_of x name ≡ place) (same-structure other h) e

  pub no-field-steps : (tree : Tree) (path : List ℕ) → place_of s name ≡ None → ¬ StepsIn program (typed (ty.Node node desc) tree) (Name name) path
  no-field-steps tree path none (StepsIn.to_field {s = t} {place} h u at) = let p = found t (Some place) h at in cc
  no-field-steps tree path none (StepsIn.to_active {s = t} {place} h u at) = let p = found t (Some place) h at in cc
  no-field-steps tree path none (StepsIn.to_common {s = t} {place} h at ne member got way) = let p = found t (Some place) h at in cc
  no-field-steps tree path none (StepsIn.to_kept {s = t} {place} h at member) = let p = found t (Some place) h at in cc

  pub no-field-refused : (tree : Tree) (why : Why) → place_of s name ≡ None → RefusesIn program (typed (ty.Node node desc) tree) (Name name) why → why ≡ NoField
  no-field-refused tree why none (RefusesIn.no_field h e) = refl
  no-field-refused tree why none (RefusesIn.inactive {s = t} {place} h at ne none_there) = let p = found t (Some place) h at in absurd (cc)
  no-field-refused tree why none (RefusesIn.not_suited e) = absurd (cc)

  module _ (place : ℕ) (at : place_of s name ≡ Some place) where
    same-place : (other : Structure) (i : ℕ) → HasStructure program node other → place_of other name ≡ Some i → i ≡ place
    same-place other i h e = some-same (place_of s name) i place (found other (Some i) h e) at

    -- ---- of a struct

    pub struct-steps : (trees : Trees) (path : List ℕ) → StepsIn program (typed (ty.Node node desc) (Rec trees)) (Name name) path → path ≡ place ∷ []
    struct-steps trees path (StepsIn.to_field {s = t} {place = i} h u e) = ap (λ j. j ∷ []) (same-place t i h e)

    pub struct-refused : (trees : Trees) (why : Why) → ¬ RefusesIn program (typed (ty.Node node desc) (Rec trees)) (Name name) why
    struct-refused trees why (RefusesIn.no_field {s = t} h none) = let p = found t None h none in cc
    struct-refused trees why (RefusesIn.not_suited e) = cc

    -- ---- of a union

    module _ (union : s.is_union ≡ true) where
      no-struct : (other : Structure) → HasStructure program node other → other.is_union ≡ false → ⊥
      no-struct other h u = let struct : s.is_union ≡ false = subst (λ x. x.is_union ≡ false) (same-structure other h) u in cc

      member-of : (other : Structure) (i : ℕ) (common : TypeId) → HasStructure program node other → place_of other name ≡ Some i → IsCommonMember program other i common → IsCommonMember program s place common
      member-of other i common h e m = subst (λ j. IsCommonMember program s j common) (same-place other i h e) (subst (λ x. IsCommonMember program x i common) (same-structure other h) m)

      none-of : (other : Structure) (i : ℕ) → HasStructure program node other → place_of other name ≡ Some i → ((common : TypeId) → ¬ IsCommonMember program other i common)
          → (common : TypeId) → ¬ IsCommonMember program s place common
      none-of other i h e none common m =
          none common (subst (λ j. IsCommonMember program other j common) (sym (same-place other i h e)) (subst (λ x. IsCommonMember program x place common) (sym (same-structure other h)) m))

      -- the active member
      pub active-steps : (tree : Tree) (path : List ℕ) → StepsIn program (typed (ty.Node node desc) (Alt (Some place) tree)) (Name name) path → path ≡ place ∷ []
      active-steps tree path (StepsIn.to_field {s = t} h u e) = absurd (no-struct t h u)
      active-steps tree path (StepsIn.to_active h u e) = refl
      active-steps tree path (StepsIn.to_common {s = t} {place = i} h e ne member got way) = absurd (ne (same-place t i h e))

      pub active-refused : (tree : Tree) (why : Why) → ¬ RefusesIn program (typed (ty.Node node desc) (Alt (Some place) tree)) (Name name) why
      active-refused tree why (RefusesIn.no_field {s = t} h none) = let p = found t None h none in cc
      active-refused tree why (RefusesIn.inactive {s = t} {place = i} h e ne none) = ne (ap Some (sym (same-place t i h e)))
      active-refused tree why (RefusesIn.not_suited e) = cc

      -- the common structure, where another member is active
      pub common-steps : (member : ℕ) (common : TypeId) (f : Field) (tree : Tree) (way path : List ℕ) → place ≢ member → IsCommonMember program s place common → slice_get s.fields member ≡ Some f
          → way_to program common (Some f.ty) tree ≡ Some way → StepsIn program (typed (ty.Node node desc) (Alt (Some member) tree)) (Name name) path → path ≡ member ∷ way
      common-steps member common f tree way path other m got leads (StepsIn.to_field {s = t} h u e) = absurd (no-struct t h u)
      common-steps member common f tree way path other m got leads (StepsIn.to_active {s = t} h u e) = absurd (other (sym (same-place t member h e)))
      common-steps member common f tree way path other m got leads (StepsIn.to_common {common = c} {s = t} {f = g} {way = w} {place = i} h e ne n there on) =
          let here : IsCommonMember program s place c = member-of t i c h e n in
          let field : m.0 ≡ here.0 = some-same (slice_get s.fields place) m.0 here.0 m.2 here.2 in
          let types : ty.Node common m.1 ≡ ty.Node c here.1 = sym m.3 ∙ ap (λ x. x.ty) field ∙ here.3 in
          let nodes = ap itself types in
          let node_same : c ≡ common = cc in
          let same : g ≡ f = some-same (slice_get s.fields member) g f (subst (λ x. slice_get x.fields member ≡ Some g) (same-structure t h) there) got in
          let ways : way_to program common (Some f.ty) tree ≡ Some w = subst (λ x. way_to program common (Some x.ty) tree ≡ Some w) same (subst (λ n. way_to program n (Some g.ty) tree ≡ Some w) node_same on) in
          ap (λ p. member ∷ p) (some-same (way_to program common (Some f.ty) tree) w way ways leads)

      pub common-refused : (active : Option ℕ) (common : TypeId) (tree : Tree) (why : Why) → IsCommonMember program s place common → ¬ RefusesIn program (typed (ty.Node node desc) (Alt active tree)) (Name name) why
      common-refused active common tree why m (RefusesIn.no_field {s = t} h none) = let p = found t None h none in cc
      common-refused active common tree why m (RefusesIn.inactive {s = t} {place = i} h e ne none) = none-of t i h e none common m
      common-refused active common tree why m (RefusesIn.not_suited e) = cc

      -- the common structure, where no member is active
      pub kept-steps : (tree : Tree) (path : List ℕ) → StepsIn program (typed (ty.Node node desc) (Alt None tree)) (Name name) path → path ≡ place ∷ []
      kept-steps tree path (StepsIn.to_field {s = t} h u e) = absurd (no-struct t h u)
      kept-steps tree path (StepsIn.to_kept {s = t} {place = i} h e member) = ap (λ j. j ∷ []) (same-place t i h e)

      -- a member that is not active
      pub inactive-steps : (active : Option ℕ) (tree : Tree) (path : List ℕ) → active ≢ Some place → ((common : TypeId) → ¬ IsCommonMember program s place common)
          → ¬ StepsIn program (typed (ty.Node node desc) (Alt active tree)) (Name name) path
      inactive-steps active tree path ne none (StepsIn.to_field {s = t} h u e) = no-struct t h u
      inactive-steps active tree path ne none (StepsIn.to_active {s = t} {place = i} h u e) = ne (ap Some (same-place t i h e))
      inactive-steps active tree path ne none (StepsIn.to_common {common = c} {s = t} {place = i} h e other m got way) = none c (member-of t i c h e m)
      inactive-steps active tree path ne none (StepsIn.to_kept {common = c} {s = t} {place = i} h e m) = none c (member-of t i c h e m)

      pub inactive-refused : (active : Option ℕ) (tree : Tree) (why : Why) → RefusesIn program (typed (ty.Node node desc) (Alt active tree)) (Name name) why → why ≡ Inactive
      inactive-refused active tree why (RefusesIn.no_field {s = t} h none) = let p = found t None h none in absurd (cc)
      inactive-refused active tree why (RefusesIn.inactive h e ne none) = refl
      inactive-refused active tree why (RefusesIn.not_suited e) = absurd (cc)
