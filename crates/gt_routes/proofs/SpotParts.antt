-- What stands at spots, and further on.
use Rattle.std.proofs.Common.{◌≡◌, ℕ, Bool, false, List, [], ◌∷◌, ◌++◌, refl, ap, sym, subst, ◌∙◌, Option, Some, None}
use Rattle.std.specs.Prelude.{option_map, not, ◌||◌, slice_get}
use Rattle.gt_types.specs.declared.types.Ty.{Ty}
use Rattle.gt_types.specs.declared.program.Program.{Program}
use Rattle.gt_types.specs.Settled.{Settled}
use Rattle.gt_layout.specs.declared.planes.Layouts.{Layouts}
use Rattle.gt_script.specs.declared.command.Hop.{Hop}
use Rattle.gt_tree.specs.Trees.{Tree, Rec, tree_at, part_at}
use Rattle.gt_tree.specs.Blocks.{element_type}
use Rattle.gt_tree.specs.Scopes.{Typed, typed, ◌then◌}
use Rattle.gt_value.specs.declared.cursors.Cursor.{Cursor}
use Rattle.gt_value.proofs.CursorPaths.{part-after, lies-after}
use Rattle.gt_value.proofs.FindingSteps.{part-there}
use Rattle.gt_graph.specs.Objects.{Graph, object_of}
use Rattle.gt_graph.specs.Changes.{Owner, Statics, Of}
use Rattle.gt_graph.specs.Good.{Heap}
use Rattle.gt_objects.specs.declared.objects.Objects.{Objects}
use Rattle.gt_next.specs.Spots.{Spot, further, type_of_part, typed_part, Whole, Value, in_object, standing_in, passes_none, value_of, is_in_none}
use Rattle.gt_routes.specs.Steps.{StepsTo}
use Rattle.gt_routes.specs.Reaching.{IsValueAt}
use Rattle.gt_routes.proofs.TypedParts.{typed-after}
use Rattle.gt_routes.proofs.Passes.{passes-after, active-is, still-active}

pub then-some : {X Y : Type 0} (o : Option X) (f : X → Option Y) (y : Y) → (o then f) ≡ Some y → (x : X) × (o ≡ Some x) × (f x ≡ Some y)
then-some None f y e = absurd (cc)
then-some (Some x) f y e = (x, refl, e)

pub map-some : {X Y : Type 0} (f : X → Y) (o : Option X) (y : Y) → option_map f o ≡ Some y → (x : X) × (o ≡ Some x) × (f x ≡ y)
map-some f None y e = absurd (cc)
map-some {X} {Y} f (Some x) y e = let same : f x ≡ y = cc in (x, refl, same)

pub value-same : (t u : Typed) → Value t ≡ Value u → t ≡ u
value-same t u e = cc

-- ---- parts

typed-part-at : (program : Program) (type : Ty) (tree : Tree) (path : List ℕ) (t : Typed) → typed_part program type tree path ≡ Some t → part_at tree path ≡ Some t.value
typed-part-at program type tree [] t e = let same : typed type tree ≡ t = cc in ap (λ u. Some u.value) same
typed-part-at program type tree (place ∷ path) t e =
    let inner = then-some (type_of_part program type place) (λ i. part_at tree (place ∷ []) then (λ p. typed_part program i p path)) t e in
    let part = then-some (part_at tree (place ∷ [])) (λ p. typed_part program inner.0 p path) t inner.2 in
    part-after tree (place ∷ []) path part.0 part.1 ∙ typed-part-at program inner.0 part.0 path t part.2

shown : (program : Program) (type : Ty) (tree : Tree) (path : List ℕ) (t : Typed) → option_map Value (typed_part program type tree path) ≡ Some (Value t) → typed_part program type tree path ≡ Some t
shown program type tree path t e = let found = map-some Value (typed_part program type tree path) (Value t) e in found.1 ∙ ap Some (value-same found.0 t found.2)

-- the value of what a spot leads into, and the part of it
abbrev pub IsPartThere : Graph → Owner → List ℕ → Tree → Type 0
IsPartThere g owner path part = (whole : Tree) × (value_of g owner ≡ Some whole) × (part_at whole path ≡ Some part)

pub standing-part : (program : Program) (g : Graph) (owner : Owner) (path : List ℕ) (t : Typed) → standing_in program g owner path ≡ Some (Value t) → IsPartThere g owner path t.value
standing-part program g Statics [] t e = absurd (cc)
standing-part program g Statics (place ∷ path) t e =
    let root = then-some (slice_get program.roots place) (λ r. tree_at g.statics place then (λ v. option_map Value (typed_part program r.ty v path))) (Value t) e in
    let value = then-some (tree_at g.statics place) (λ v. option_map Value (typed_part program root.0.ty v path)) (Value t) root.2 in
    (Rec g.statics, refl, part-there g.statics place path value.0 value.1 ∙ typed-part-at program root.0.ty value.0 path t (shown program root.0.ty value.0 path t value.2))
standing-part program g (Of id) [] t e = let o = then-some (object_of g.objects id) (λ o. Some (Whole o)) (Value t) e in absurd (cc)
standing-part program g (Of id) (place ∷ path) t e =
    let o = then-some (object_of g.objects id) (λ o. in_object program o (place ∷ path)) (Value t) e in
    let element = then-some (part_at o.0.value (place ∷ [])) (λ v. option_map Value (typed_part program (element_type program o.0.kind) v path)) (Value t) o.2 in (
      o.0.value,
      ap (option_map (λ x. x.value)) o.1,
      part-after o.0.value (place ∷ []) path element.0 element.1 ∙ typed-part-at program (element_type program o.0.kind) element.0 path t (shown program (element_type program o.0.kind) element.0 path t element.2),
    )

pub in-none : (g : Graph) (at : Spot) (whole : Tree) → value_of g at.owner ≡ Some whole → is_in_none g at ≡ passes_none whole at.path
in-none g at whole e = ap (λ o. elim o as (λ _. Bool) [ None ↦ false | Some tree ↦ passes_none tree at.path ]) e

-- ---- further from a value

module _ (program : Program) (g : Graph) (path : List ℕ) (t next : Typed) (leads : typed_part program t.type t.value path ≡ Some next) where
  on : (type : Ty) (tree : Tree) (places : List ℕ) → option_map Value (typed_part program type tree places) ≡ Some (Value t) → option_map Value (typed_part program type tree (places ++ path)) ≡ Some (Value next)
  on type tree places e = ap (option_map Value) (typed-after program type tree places path t (shown program type tree places t e) ∙ leads)

  further-in : (owner : Owner) (places : List ℕ) → standing_in program g owner places ≡ Some (Value t) → standing_in program g owner (places ++ path) ≡ Some (Value next)
  further-in Statics [] e = absurd (cc)
  further-in Statics (place ∷ places) e =
      let root = then-some (slice_get program.roots place) (λ r. tree_at g.statics place then (λ v. option_map Value (typed_part program r.ty v places))) (Value t) e in
      let value = then-some (tree_at g.statics place) (λ v. option_map Value (typed_part program root.0.ty v places)) (Value t) root.2 in
      ap (λ o. o then (λ r. tree_at g.statics place then (λ v. option_map Value (typed_part program r.ty v (places ++ path))))) root.1
      ∙ ap (λ o. o then (λ v. option_map Value (typed_part program root.0.ty v (places ++ path)))) value.1 ∙ on root.0.ty value.0 places value.2
  further-in (Of id) [] e = let o = then-some (object_of g.objects id) (λ o. Some (Whole o)) (Value t) e in absurd (cc)
  further-in (Of id) (place ∷ places) e =
      let o = then-some (object_of g.objects id) (λ o. in_object program o (place ∷ places)) (Value t) e in
      let element = then-some (part_at o.0.value (place ∷ [])) (λ v. option_map Value (typed_part program (element_type program o.0.kind) v places)) (Value t) o.2 in
      ap (λ x. x then (λ y. in_object program y (place ∷ (places ++ path)))) o.1
      ∙ ap (λ x. x then (λ v. option_map Value (typed_part program (element_type program o.0.kind) v (places ++ path)))) element.1 ∙ on (element_type program o.0.kind) element.0 places element.2

-- a step within a value leads from where a cursor stands to where another does
pub value-further : (program : Program) (layouts : Layouts) (objects : Objects) (heap : Heap) (at : Spot) (c next : Cursor) (hop : Hop) (places : List ℕ) → Settled program → (v : IsValueAt program layouts objects heap at c)
    → StepsTo v.frame v.value v.path c hop next places v.here → IsValueAt program layouts objects heap (further at places) next
value-further program layouts objects heap at c next hop places settled v s =
    let g = heap.graph in
    let p = v.here.here.p in
    let q = s.there.here.p in
    let frame_settled = subst Settled (sym v.program_is) settled in
    let lies = lies-after frame_settled v.here.here.lies places q s.there.here.lies in
    let leads_frame = sym (typed-after v.frame.program v.value.type v.value.tree v.path places (typed p.type p.tree) v.here.known) ∙ s.there.known in
    let leads = subst (λ x. typed_part x p.type p.tree places ≡ Some (typed q.type q.tree)) v.program_is leads_frame in
    let part = standing-part program g at.owner at.path (typed p.type p.tree) v.standing in
    let before : p.active ≡ not (passes_none part.0 at.path) = v.active ∙ ap not (in-none g at part.0 part.1) in
    let after : q.active ≡ not (passes_none part.0 at.path || passes_none p.tree places) = still-active p.active q.active (passes_none part.0 at.path) (passes_none p.tree places) before (active-is lies) in
    let both = passes-after part.0 at.path places p.tree part.2 in
    record {
      frame = v.frame;
      value = v.value;
      path = v.path ++ places;
      here = s.there;
      program_is = v.program_is;
      layouts_is = v.layouts_is;
      space_is = v.space_is;
      standing = further-in program g places (typed p.type p.tree) (typed q.type q.tree) leads at.owner at.path v.standing;
      active = after ∙ ap not (sym both) ∙ ap not (sym (in-none g (further at places) part.0 part.1));
    }
