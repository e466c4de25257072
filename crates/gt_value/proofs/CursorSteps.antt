-- Where the steps of a cursor lead.
use Rattle.std.proofs.Common.{◌≡◌, ℕ, zero, suc, ◌+◌, ◌-◌, ◌*◌, ◌^◌, ◌<◌, ◌≤◌, Bool, true, false, cond, List, [], ◌∷◌, length, drop, take, get_or, refl, ap, sym, subst, ◌∙◌, arith, Option, Some, None, inl, inr}
use Rattle.std.specs.Prelude.{◌==◌, slice_get, pos}
use Rattle.std.proofs.lemmas.List.{take_all}
use Rattle.gt_types.specs.declared.expressions.Expr.{Expr}
use Rattle.gt_types.specs.declared.types.TypeId.{TypeId}
use Rattle.gt_types.specs.declared.types.Ty.{Ty, out-Ty}
use Rattle.gt_types.specs.declared.types.Ty.TheOpen as part
use Rattle.gt_types.specs.declared.types.Ty.TheVariants as ty
use Rattle.gt_types.specs.declared.program.Field.{Field}
use Rattle.gt_types.specs.declared.program.Structure.{Structure}
use Rattle.gt_types.specs.Shapes.{is_unscanned, is_pointer, count_of}
use Rattle.gt_types.specs.Values.{value_of}
use Rattle.gt_types.specs.Contains.{HasStructure}
use Rattle.gt_types.specs.Unions.{IsCommon}
use Rattle.gt_layout.specs.declared.planes.Plane.{Plane}
use Rattle.gt_layout.specs.declared.planes.FieldSpot.{FieldSpot}
use Rattle.gt_layout.specs.Storages.{extent_of}
use Rattle.gt_layout.specs.Places.{begin_at}
use Rattle.gt_tree.specs.Trees.{Tree, Rec, Alt, Row, Trees, End, tree_at, part_at, is_word}
use Rattle.gt_tree.specs.Scopes.{Scope, inside, eval_in, ◌then◌}
use Rattle.gt_tree.specs.Fits.{active_member, types_of}
use Rattle.gt_tree.specs.Reshapes.{LeadsToLeaf}
use Rattle.gt_tree.proofs.FixedParts.{is-number, is-bits, is-opaque, is-pointer}
use Rattle.gt_tree.proofs.PathBegins.{one-number, same-number}
use Rattle.gt_tree.proofs.PathParts.{get-map}
use Rattle.gt_value.specs.declared.cursors.Cursor.{Cursor}
use Rattle.gt_value.specs.declared.cursors.Site.{Site}
use Rattle.gt_value.specs.declared.places.Holder.{Holder}
use Rattle.gt_value.specs.declared.places.Holder.TheVariants as lies_in
use Rattle.gt_value.specs.declared.sources.Around.{Around}
use Rattle.gt_value.specs.declared.sources.Source.{Source}
use Rattle.gt_value.specs.Reading.{Stands, EachStands, given_in, entered, without_pointers, path_worth, root_worth, worth_of}
use Rattle.gt_value.specs.Places.{Part, PartLies, length_there}
use Rattle.gt_value.specs.Finding.{StandsIn, EachStandIn, length_read}
use Rattle.gt_value.specs.Cursors.{IsMoved, IsStep, IsNoStep, StepAnswers, IsElementStep, ElementAnswers}
use Rattle.gt_value.proofs.CursorPaths.{part-below, lies-there}
use Rattle.gt_value.proofs.Origins.{count-read}
use Rattle.gt_value.proofs.PathWorths.{worth-is}
use Rattle.gt_value.proofs.StandingParts.{struct-in, struct-stands, member-in, member-read, common-in, nothing-read, array-stands, array-scope, tail-stands, tail-scope}
use Rattle.gt_value.proofs.FindingSteps.{part-there, part-none, field-at, no-field, element-at}

-- ---- what a step answers

abbrev pub site : Around → Holder → Site
site around holder = record { around = around; holder = holder }

abbrev pub part_there : ℕ → Ty → Site → Scope → Tree → Part
part_there bit type site scope tree = record { bit = bit; type = type; holder = site.holder; scope = scope; active = site.around.whole; tree = tree }

module _ (source : Source) (from : Site) (scope : Scope) (type : Ty) (at : ℕ) (tree : Tree) (place : ℕ) where
  -- a cursor was moved to a part
  pub step-made : (next : Cursor) (inner : Site) (kind : Ty) (bit : ℕ) (deeper : Scope) (part : Tree) → IsMoved next source inner kind bit → StandsIn source inner.around deeper kind bit part → part_at tree (place ∷ []) ≡ Some part
      → PartLies source.program.now source.layouts.now.structures scope from.holder from.around.whole at type tree (place ∷ []) (part_there bit kind inner deeper part) → IsStep source from scope type at tree place next
  step-made next inner kind bit deeper part moved stands there lies = record {
    p = part_there bit kind inner deeper part;
    lies = lies;
    there = there;
    is = record { type_is = moved.type_is; bit_is = moved.bit_is; holder_is = ap (λ s. s.holder) moved.site_is; active_is = ap (λ s. s.around.whole) moved.site_is };
    source_is = moved.source_is;
    stands = subst (λ s. StandsIn source s.around deeper next.ty.now next.at part) (sym moved.site_is)
        (subst (λ t. StandsIn source inner.around deeper t next.at part) (sym moved.type_is) (subst (λ k. StandsIn source inner.around deeper kind k part) (sym moved.bit_is) stands));
  }

  -- there is no part at the place
  pub no-step : part_at tree (place ∷ []) ≡ None → IsNoStep source from scope type at tree place
  no-step none = record {
    lies = λ rest p lies. let a = part-below tree place rest none in let b = lies-there lies in absurd (cc);
    leaf = λ rest leads. let a = part-below tree place rest none in let b = leads.1 in absurd (cc);
  }

pub answers-none : (source : Source) (from : Site) (type : Ty) (at place : ℕ) (result : Option Cursor) → result ≡ None → ((scope : Scope) (tree : Tree) → StandsIn source from.around scope type at tree → IsNoStep source from scope type at tree place)
    → StepAnswers source from type at place result
answers-none source from type at place result e h = subst (λ r. StepAnswers source from type at place r) (sym e) h

-- ---- structs

module _ (source : Source) (from : Site) (node : TypeId) (desc : Option Expr) (at : ℕ) (y : Structure) (has : HasStructure source.program.now node y) where
  abbrev around : Around
  around = from.around

  abbrev inner : Around
  inner = entered from.around node at

  pub struct-step : (plane : Plane) (i : ℕ) (f : Field) (spot : FieldSpot) (next : Cursor) → y.is_union ≡ false → slice_get source.layouts.now.structures node.0 ≡ Some plane → slice_get y.fields i ≡ Some f → slice_get plane.fields i ≡ Some spot
      → IsMoved next source (site inner (lies_in.Field node i)) f.ty (at + begin_at spot) → (scope : Scope) (value : Tree) → StandsIn source around scope (ty.Node node desc) at value → IsStep source from scope (ty.Node node desc) at value i next
  struct-step plane i f spot next struct laid got spot_of moved scope value s =
      let parts = struct-in source around node desc at y has scope plane value struct laid s in
      let deeper = inside scope node (Rec parts.trees) in
      let found = field-at source inner deeper (types_of y.fields) plane.fields at parts.trees i f.ty (get-map (λ (g : Field). g.ty) y.fields i f got) parts.stand in
      let spots : found.spot ≡ spot = let a = found.spot_of in cc in
      step-made source from scope (ty.Node node desc) at value i next (site inner (lies_in.Field node i)) f.ty (at + begin_at spot) deeper found.tree moved
      (subst (λ x. StandsIn source inner deeper f.ty (at + begin_at x) found.tree) spots found.stands)
      (ap (λ v. part_at v (i ∷ [])) parts.is ∙ part-there parts.trees i [] found.tree found.there)
      (subst (λ v. PartLies source.program.now source.layouts.now.structures scope from.holder around.whole at (ty.Node node desc) v (i ∷ []) (part_there (at + begin_at spot) f.ty (site inner (lies_in.Field node i)) deeper found.tree)) (sym parts.is)
      (PartLies.field has struct laid got spot_of found.there PartLies.whole))

  -- the field stands where the code looks for it
  pub struct-field : (plane : Plane) (i : ℕ) (f : Field) (spot : FieldSpot) → y.is_union ≡ false → slice_get source.layouts.now.structures node.0 ≡ Some plane → slice_get y.fields i ≡ Some f → slice_get plane.fields i ≡ Some spot
      → (value : Tree) → Stands source around (ty.Node node desc) at value → (tree : Tree) × Stands source inner f.ty (at + begin_at spot) tree
  struct-field plane i f spot struct laid got spot_of value s =
      let parts = struct-stands source around node desc at y has plane value struct laid s in
      let found = field-at source inner parts.stand.context.scope (types_of y.fields) plane.fields at parts.trees i f.ty (get-map (λ (g : Field). g.ty) y.fields i f got) (parts.stand, refl) in
      let spots : found.spot ≡ spot = let a = found.spot_of in cc in
      (found.tree, subst (λ x. Stands source inner f.ty (at + begin_at x) found.tree) spots found.stands.0)

  get-none : (fields : List Field) (i : ℕ) → slice_get fields i ≡ None → slice_get (types_of fields) i ≡ None
  get-none [] i e = refl
  get-none (f ∷ fs) zero e = absurd (cc)
  get-none (f ∷ fs) (suc i) e = get-none fs i e

  pub struct-spot : (plane : Plane) (i : ℕ) (f : Field) (value : Tree) → y.is_union ≡ false → slice_get source.layouts.now.structures node.0 ≡ Some plane → slice_get y.fields i ≡ Some f → slice_get plane.fields i ≡ None
      → Stands source around (ty.Node node desc) at value → ⊥
  struct-spot plane i f value struct laid got none s =
      let parts = struct-stands source around node desc at y has plane value struct laid s in
      let found = field-at source inner parts.stand.context.scope (types_of y.fields) plane.fields at parts.trees i f.ty (get-map (λ (g : Field). g.ty) y.fields i f got) (parts.stand, refl) in
      let a = found.spot_of in
      absurd (cc)

  pub struct-none : (plane : Plane) (i : ℕ) → y.is_union ≡ false → slice_get source.layouts.now.structures node.0 ≡ Some plane → slice_get y.fields i ≡ None
      → (scope : Scope) (value : Tree) → StandsIn source around scope (ty.Node node desc) at value → IsNoStep source from scope (ty.Node node desc) at value i
  struct-none plane i struct laid none scope value s =
      let parts = struct-stands source around node desc at y has plane value struct laid s.0 in
      let gone = no-field source inner (types_of y.fields) plane.fields at parts.trees i (get-none y.fields i none) parts.stand in
      no-step source from scope (ty.Node node desc) at value i (ap (λ v. part_at v (i ∷ [])) parts.is ∙ part-none parts.trees i [] gone)

  -- ---- unions

  module _ (union : y.is_union ≡ true) where
    pub member-step : (place : ℕ) (f : Field) (next : Cursor) → active_member (worth_of source inner desc) y.fields ≡ Some place → slice_get y.fields place ≡ Some f
        → IsMoved next source (site inner (lies_in.Field node place)) f.ty at → (scope : Scope) (value : Tree) → StandsIn source around scope (ty.Node node desc) at value → IsStep source from scope (ty.Node node desc) at value place next
    member-step place f next active got moved scope value s =
        let found = member-in source around node desc at y has union place f scope value active got s in
        let deeper = inside scope node (Alt (Some place) found.0) in
        step-made source from scope (ty.Node node desc) at value place next (site inner (lies_in.Field node place)) f.ty at deeper found.0 moved found.2
        (ap (λ v. part_at v (place ∷ [])) found.1 ∙ ap (λ b. cond b (Some found.0) None) (same-number place))
        (subst (λ v. PartLies source.program.now source.layouts.now.structures scope from.holder around.whole at (ty.Node node desc) v (place ∷ []) (part_there at f.ty (site inner (lies_in.Field node place)) deeper found.0)) (sym found.1)
        (PartLies.member has union got PartLies.whole))

    other-place : (place i : ℕ) (b : Bool) → (place == i) ≡ b → (place ≡ i → ⊥) → b ≡ false
    other-place place i true e differ = absurd (differ (one-number place i e))
    other-place place i false e differ = refl

    pub member-none : (place i : ℕ) (f : Field) → active_member (worth_of source inner desc) y.fields ≡ Some place → slice_get y.fields place ≡ Some f → (place ≡ i → ⊥)
        → (scope : Scope) (value : Tree) → StandsIn source around scope (ty.Node node desc) at value → IsNoStep source from scope (ty.Node node desc) at value i
    member-none place i f active got differ scope value s =
        let found = member-read source around node desc at y has union place f value active got s.0 in
        no-step source from scope (ty.Node node desc) at value i (ap (λ v. part_at v (i ∷ [])) found.1 ∙ ap (λ b. cond b (Some found.0) None) (other-place place i (place == i) refl differ))

    pub common-step : (common : TypeId) (i : ℕ) (next : Cursor) → active_member (worth_of source inner desc) y.fields ≡ None → IsCommon source.program.now y common
        → IsMoved next source (site (without_pointers inner) from.holder) (ty.Node common None) at → (scope : Scope) (value : Tree) → StandsIn source around scope (ty.Node node desc) at value
        → IsStep source from scope (ty.Node node desc) at value i next
    common-step common i next active c moved scope value s =
        let found = common-in source around node desc at y has union common scope value active c s in
        let deeper = inside scope node (Alt None found.0) in
        step-made source from scope (ty.Node node desc) at value i next (site (without_pointers inner) from.holder) (ty.Node common None) at deeper found.0 moved found.2
        (ap (λ v. part_at v (i ∷ [])) found.1)
        (subst (λ v. PartLies source.program.now source.layouts.now.structures scope from.holder around.whole at (ty.Node node desc) v (i ∷ []) (part_there at (ty.Node common None) (site (without_pointers inner) from.holder) deeper found.0)) (sym found.1)
        (PartLies.common has c PartLies.whole))

    nothing-path : (path : List ℕ) → ¬ LeadsToLeaf (Rec End) path
    nothing-path [] (leaf, there, word) = let same : Rec End ≡ leaf = cc in let w : is_word (Rec End) ≡ true = ap is_word same ∙ word in absurd (cc)
    nothing-path (j ∷ path) (leaf, there, word) = absurd (cc)

    no-common : (scope : Scope) (i : ℕ) (rest : List ℕ) (p : Part) → ((common : TypeId) → ¬ IsCommon source.program.now y common)
        → ¬ PartLies source.program.now source.layouts.now.structures scope from.holder around.whole at (ty.Node node desc) (Alt None (Rec End)) (i ∷ rest) p
    no-common scope i rest p none (PartLies.common {common} {s} has' c lies) =
        let same : s ≡ y = cc in
        absurd (none common (subst (λ x. IsCommon source.program.now x common) same c))

    pub nothing-none : (i : ℕ) → active_member (worth_of source inner desc) y.fields ≡ None → ((common : TypeId) → ¬ IsCommon source.program.now y common)
        → (scope : Scope) (value : Tree) → StandsIn source around scope (ty.Node node desc) at value → IsNoStep source from scope (ty.Node node desc) at value i
    nothing-none i active none scope value s =
        let is = nothing-read source around node desc at y has union value active none s.0 in
        record {
          lies = λ rest p lies. no-common scope i rest p none (subst (λ v. PartLies source.program.now source.layouts.now.structures scope from.holder around.whole at (ty.Node node desc) v (i ∷ rest) p) is lies);
          leaf = λ rest leads. nothing-path rest (leads.0, sym (ap (λ v. part_at v (i ∷ rest)) is) ∙ leads.1, leads.2);
        }

-- ---- elements

module _ (source : Source) (from : Site) (elem : Ty) (at n i : ℕ) where
  abbrev around_row : Around
  around_row = from.around

  abbrev begin : ℕ
  begin = at + i * (8 * (extent_of source.layouts.now.structures elem).size)

  pub element-moved : (next : Cursor) → i < n → IsMoved next source from elem begin → (scope : Scope) (values : Trees) → EachStandIn source around_row scope elem at n values → IsElementStep source from scope elem at values i next
  element-moved next lt moved scope values s =
      let e = element-at source around_row scope elem at n values i lt s in
      record { tree = e.tree; there = e.there; stands = e.stands; is = moved }

  row-step : (scope : Scope) (type : Ty) (value : Tree) (trees : Trees) (next : Cursor) → value ≡ Row trees
      → ((tree : Tree) (p : Part) → tree_at trees i ≡ Some tree → PartLies source.program.now source.layouts.now.structures scope from.holder around_row.whole begin elem tree [] p
      → PartLies source.program.now source.layouts.now.structures scope from.holder around_row.whole at type (Row trees) (i ∷ []) p)
      → IsElementStep source from scope elem at trees i next → IsStep source from scope type at value i next
  row-step scope type value trees next e up r =
      step-made source from scope type at value i next from elem begin scope r.tree r.is r.stands (ap (λ v. part_at v (i ∷ [])) e ∙ part-there trees i [] r.tree r.there)
      (subst (λ v. PartLies source.program.now source.layouts.now.structures scope from.holder around_row.whole at type v (i ∷ []) (part_there begin elem from scope r.tree)) (sym e)
      (up r.tree (part_there begin elem from scope r.tree) r.there PartLies.whole))

  no-row : (scope : Scope) (type : Ty) (value : Tree) (trees : Trees) → value ≡ Row trees → tree_at trees i ≡ None → IsNoStep source from scope type at value i
  no-row scope type value trees e none = no-step source from scope type at value i (ap (λ v. part_at v (i ∷ [])) e ∙ part-none trees i [] none)

  pub array-answers : (type : Ty) (result : Option Cursor) → out-Ty type ≡ part.Arr n elem → ElementAnswers source from elem at n i result → StepAnswers source from type at i result
  array-answers type None e h =
      λ scope value s.
      let row = array-stands source around_row type elem at n value e s.0 in
      no-row scope type value row.trees row.is (h row.trees row.stand)
  array-answers type (Some next) e h =
      λ scope value s.
      let row = array-stands source around_row type elem at n value e s.0 in
      row-step scope type value row.trees next row.is (λ tree p here lies. PartLies.array e here lies) (h scope row.trees (row.stand, array-scope source around_row type elem at n value e s.0 ∙ s.1))

  pub tail-answers : (type : Ty) (length : Expr) (result : Option Cursor) → out-Ty type ≡ part.Tail length elem
      → ((k : ℕ) → value_of (path_worth source around_row) (root_worth source) length ≡ Some (pos k) → k < 2 ^ 32 → n ≡ k)
      → ElementAnswers source from elem at n i result → StepAnswers source from type at i result
  tail-answers type len None e many h =
      λ scope value s.
      let t = tail-stands source around_row type elem at len value e s.0 in
      no-row scope type value t.row.trees t.row.is (h t.row.trees (subst (λ k. EachStands source around_row elem at k t.row.trees) (sym (many t.n t.worth t.few)) t.row.stand))
  tail-answers type len (Some next) e many h =
      λ scope value s.
      let t = tail-stands source around_row type elem at len value e s.0 in
      row-step scope type value t.row.trees next t.row.is (λ tree p here lies. PartLies.tail e here lies)
      (h scope t.row.trees (subst (λ k. EachStandIn source around_row scope elem at k t.row.trees) (sym (many t.n t.worth t.few)) (t.row.stand, tail-scope source around_row type elem at len value e s.0 ∙ s.1)))

-- ---- leaves

-- a leaf has no parts
pub unscanned-none : (source : Source) (from : Site) (type : Ty) (at i : ℕ) → is_unscanned type ≡ true → (scope : Scope) (value : Tree) → StandsIn source from.around scope type at value → IsNoStep source from scope type at value i
unscanned-none source from (ty.Num number) at i u scope value s =
    let found = is-number number value s.0.fits in
    no-step source from scope (ty.Num number) at value i (ap (λ v. part_at v (i ∷ [])) found.1)
unscanned-none source from (ty.Bits unit width) at i u scope value s =
    let found = is-bits unit width value s.0.fits in
    no-step source from scope (ty.Bits unit width) at value i (ap (λ v. part_at v (i ∷ [])) found.1)
unscanned-none source from (ty.Opaque size align) at i u scope value s =
    let found = is-opaque size align value s.0.fits in
    no-step source from scope (ty.Opaque size align) at value i (ap (λ v. part_at v (i ∷ [])) found.1)
unscanned-none source from type at i u scope value s = absurd (cc)

pub pointer-none : (source : Source) (from : Site) (type : Ty) (at i : ℕ) → is_pointer type ≡ true → (scope : Scope) (value : Tree) → StandsIn source from.around scope type at value → IsNoStep source from scope type at value i
pointer-none source from type at i p scope value s =
    elim (is-pointer type value p s.0.fits) [
      | inl e ↦ no-step source from scope type at value i (ap (λ v. part_at v (i ∷ [])) e)
      | inr x ↦ no-step source from scope type at value i (ap (λ v. part_at v (i ∷ [])) x.1)
    ]

-- a length that is read is that of the type in its scope
pub length-is : (source : Source) (around : Around) (type : Ty) (at : ℕ) (scope : Scope) (value : Tree) → StandsIn source around scope type at value → length_read source around type ≡ length_there source.program.now scope type
length-is source around type at scope value s = go (count_of type) refl ∙ ap (λ x. length_there source.program.now x type) s.1
  where
    go : (count : Option Expr) → count_of type ≡ count → (count then value_of (path_worth source around) (root_worth source)) ≡ (count then eval_in source.program.now s.0.context.scope)
    go None e = refl
    go (Some len) e = let x = s.0.context in worth-is source around x len (count-read source (given_in x) refl x.settled x.statics s.0.typed len e)

-- ---- as the code has them

pub split-path : (path : List ℕ) → 1 ≤ length path → path ≡ get_or path 0 0 ∷ take (length path - 1) (drop 1 path)
split-path [] h = absurd (omega arith)
split-path (x ∷ xs) h = ap (λ ys. x ∷ ys) (sym (take_all (length (x ∷ xs) - 1) xs (omega arith)))

pub empty-path : (path : List ℕ) → length path < 1 → path ≡ []
empty-path [] h = refl
empty-path (x ∷ xs) h = absurd (omega arith)
