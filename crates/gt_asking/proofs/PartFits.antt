-- What stands at the end of a path fits its type beside the objects of the heap.
use Rattle.std.proofs.Common.{◌≡◌, ℕ, zero, suc, Bool, true, false, cond, List, [], ◌∷◌, refl, ap, sym, subst, ◌∙◌, Option, Some, None, ◌⊎◌, inl, inr}
use Rattle.std.specs.Prelude.{◌==◌, option_map, slice_get, map}
use Rattle.std.proofs.lemmas.Bool.{eqb-true}
use Rattle.std.proofs.lemmas.Option.{slice_get-map}
use Rattle.gt_types.specs.declared.expressions.Expr.{Expr}
use Rattle.gt_types.specs.declared.types.TypeId.{TypeId}
use Rattle.gt_types.specs.declared.types.Ty.{Ty}
use Rattle.gt_types.specs.declared.types.Ty.TheVariants as ty
use Rattle.gt_types.specs.declared.types.Ty.TheVariants.{outs-Node}
use Rattle.gt_types.specs.declared.program.Field.{Field}
use Rattle.gt_types.specs.declared.program.Root.{Root as RootOf}
use Rattle.gt_types.specs.declared.program.Structure.{Structure}
use Rattle.gt_types.specs.declared.program.Program.{Program}
use Rattle.gt_types.specs.Contains.{HasStructure}
use Rattle.gt_layout.specs.declared.planes.Layouts.{Layouts}
use Rattle.gt_tree.specs.Trees.{Tree, Num, Null, To, Raw, Rec, Alt, Row, Trees, End, And, tree_at, part_at, part_of, without_pointers, all_without_pointers}
use Rattle.gt_tree.specs.Blocks.{Blocks, element_type}
use Rattle.gt_tree.specs.Scopes.{Scope, Typed, typed, inside, ◌then◌}
use Rattle.gt_tree.specs.Fits.{Fits, AllFit, EachFits, types_of}
use Rattle.gt_tree.proofs.PathBits.{some-same}
use Rattle.gt_value.specs.declared.cursors.Cursor.{Cursor}
use Rattle.gt_value.proofs.FindingSteps.{part-there}
use Rattle.gt_show.specs.Parts.{FitsSomewhere}
use Rattle.gt_graph.specs.Objects.{Graph, object_of, blocks_of}
use Rattle.gt_graph.specs.Changes.{Owner, Statics, Of}
use Rattle.gt_graph.specs.Good.{Heap, IsGraph}
use Rattle.gt_objects.specs.declared.objects.Objects.{Objects}
use Rattle.gt_next.specs.Spots.{Spot, type_of_part, element_at, element_of, typed_part, Whole, Value, in_object, standing_in}
use Rattle.gt_routes.specs.Reaching.{IsValueAt}
use Rattle.gt_routes.proofs.SpotParts.{then-some, value-same}
use Rattle.gt_routes.proofs.HeapSteps.{object-sound}

-- ---- values without pointers

-- a value without pointers fits beside any blocks
module _ {program : Program} {blocks : Blocks} (others : Blocks) {capacity : ℕ} where
  mutual
    bare-fits : {scope : Scope} {type : Ty} {tree : Tree} → Fits program blocks capacity scope type tree → without_pointers tree ≡ tree → Fits program others capacity scope type tree
    bare-fits (Fits.number room) e = Fits.number room
    bare-fits (Fits.bits room) e = Fits.bits room
    bare-fits (Fits.opaque long small) e = Fits.opaque long small
    bare-fits (Fits.null p) e = Fits.null p
    bare-fits (Fits.to m) e = absurd (cc)
    bare-fits (Fits.struct {trees} has struct all) e = let same : all_without_pointers trees ≡ trees = cc in Fits.struct has struct (bare-fields all same)
    bare-fits (Fits.member {tree} has union active get fits) e = let same : without_pointers tree ≡ tree = cc in Fits.member has union active get (bare-fits fits same)
    bare-fits (Fits.common has union active o plain fits) e = Fits.common has union active o plain (bare-fits fits plain)
    bare-fits (Fits.nothing has union active none) e = Fits.nothing has union active none
    bare-fits (Fits.array {trees} out many each) e = let same : all_without_pointers trees ≡ trees = cc in Fits.array out many (bare-each each same)
    bare-fits (Fits.tail {trees} out value le many each) e = let same : all_without_pointers trees ≡ trees = cc in Fits.tail out value le many (bare-each each same)

    bare-fields : {scope : Scope} {types : List Ty} {trees : Trees} → AllFit program blocks capacity scope types trees → all_without_pointers trees ≡ trees → AllFit program others capacity scope types trees
    bare-fields AllFit.none e = AllFit.none
    bare-fields (AllFit.more {tree} {trees} fits all) e =
        let first : without_pointers tree ≡ tree = cc in
        let rest : all_without_pointers trees ≡ trees = cc in
        AllFit.more (bare-fits fits first) (bare-fields all rest)

    bare-each : {scope : Scope} {type : Ty} {trees : Trees} → EachFits program blocks capacity scope type trees → all_without_pointers trees ≡ trees → EachFits program others capacity scope type trees
    bare-each EachFits.no_more e = EachFits.no_more
    bare-each (EachFits.one_more {tree} {trees} fits each) e =
        let first : without_pointers tree ≡ tree = cc in
        let rest : all_without_pointers trees ≡ trees = cc in
        EachFits.one_more (bare-fits fits first) (bare-each each rest)

bare-of : (trees : Trees) (place : ℕ) (part : Tree) → all_without_pointers trees ≡ trees → part_of trees place [] ≡ Some part → without_pointers part ≡ part
bare-of End place part e h = absurd (cc)
bare-of (And tree trees) zero part e h = let first : without_pointers tree ≡ tree = cc in let same : tree ≡ part = cc in subst (λ t. without_pointers t ≡ t) same first
bare-of (And tree trees) (suc place) part e h = let rest : all_without_pointers trees ≡ trees = cc in bare-of trees place part rest h

through : (b : Bool) (tree part : Tree) → cond b (Some tree) None ≡ Some part → (b ≡ true) × (tree ≡ part)
through true tree part e = let same : tree ≡ part = cc in (refl, same)
through false tree part e = absurd (cc)

bare-step : (tree : Tree) (place : ℕ) (part : Tree) → without_pointers tree ≡ tree → part_at tree (place ∷ []) ≡ Some part → without_pointers part ≡ part
bare-step (Rec trees) place part e h = let same : all_without_pointers trees ≡ trees = cc in bare-of trees place part same h
bare-step (Row trees) place part e h = let same : all_without_pointers trees ≡ trees = cc in bare-of trees place part same h
bare-step (Alt (Some member) tree) place part e h =
    let inner : without_pointers tree ≡ tree = cc in subst (λ t. without_pointers t ≡ t) (through (member == place) tree part h).1 inner
bare-step (Alt None tree) place part e h = let inner : without_pointers tree ≡ tree = cc in let same : tree ≡ part = cc in subst (λ t. without_pointers t ≡ t) same inner
bare-step (Num n) place part e h = absurd (cc)
bare-step Null place part e h = absurd (cc)
bare-step (To id) place part e h = absurd (cc)
bare-step (Raw bytes) place part e h = absurd (cc)

bare-part : (program : Program) (type : Ty) (tree : Tree) (path : List ℕ) (t : Typed) → without_pointers tree ≡ tree → typed_part program type tree path ≡ Some t → without_pointers t.value ≡ t.value
bare-part program type tree [] t bare e = let same : typed type tree ≡ t = cc in subst (λ u. without_pointers u.value ≡ u.value) same bare
bare-part program type tree (place ∷ path) t bare e =
    let inner = then-some (type_of_part program type place) (λ i. part_at tree (place ∷ []) then (λ p. typed_part program i p path)) t e in
    let next = then-some (part_at tree (place ∷ [])) (λ p. typed_part program inner.0 p path) t inner.2 in
    bare-part program inner.0 next.0 path t (bare-step tree place next.0 bare next.1) next.2

-- ---- parts of values that fit

all-at : {program : Program} {blocks : Blocks} {capacity : ℕ} {scope : Scope} {types : List Ty} {trees : Trees} → AllFit program blocks capacity scope types trees → (place : ℕ) (type : Ty) (part : Tree)
    → slice_get types place ≡ Some type → part_of trees place [] ≡ Some part → Fits program blocks capacity scope type part
all-at AllFit.none place type part e h = absurd (cc)
all-at {program} {blocks} {capacity} {scope} (AllFit.more {type = first} {tree} fits all) zero type part e h =
    let types : first ≡ type = cc in let same : tree ≡ part = cc in subst (Fits program blocks capacity scope type) same (subst (λ t. Fits program blocks capacity scope t tree) types fits)
all-at (AllFit.more fits all) (suc place) type part e h = all-at all place type part e h

each-at : {program : Program} {blocks : Blocks} {capacity : ℕ} {scope : Scope} {type : Ty} {trees : Trees} → EachFits program blocks capacity scope type trees → (place : ℕ) (part : Tree) → part_of trees place [] ≡ Some part
    → Fits program blocks capacity scope type part
each-at EachFits.no_more place part h = absurd (cc)
each-at {program} {blocks} {capacity} {scope} {type} (EachFits.one_more {tree} fits each) zero part h = let same : tree ≡ part = cc in subst (Fits program blocks capacity scope type) same fits
each-at (EachFits.one_more fits each) (suc place) part h = each-at each place part h

-- a value fits somewhere, or has no pointers
abbrev FitsOrBare : Program → Blocks → Ty → Tree → Type 0
FitsOrBare program blocks type tree = FitsSomewhere program blocks type tree ⊎ (without_pointers tree ≡ tree)

field-type : (program : Program) (node : TypeId) (desc : Option Expr) (s : Structure) (place : ℕ) (inner : Ty) → HasStructure program node s → type_of_part program (ty.Node node desc) place ≡ Some inner
    → (f : Field) × (slice_get s.fields place ≡ Some f) × (f.ty ≡ inner)
field-type program node desc s place inner has e =
    let there = then-some (slice_get program.structures node.0) (λ x. slice_get x.fields place then λ f. Some f.ty) inner e in
    let same : there.0 ≡ s = some-same (slice_get program.structures node.0) there.0 s there.1 has in
    let field = then-some (slice_get there.0.fields place) (λ (f : Field). Some f.ty) inner there.2 in
    let types : Some field.0.ty ≡ Some inner = field.2 in
    let is : field.0.ty ≡ inner = cc in
    (field.0, subst (λ x. slice_get x.fields place ≡ Some field.0) same field.1, is)

elem-type : (program : Program) (type inner elem : Ty) (place : ℕ) → element_of type ≡ Some elem → type_of_part program type place ≡ Some inner → elem ≡ inner
elem-type program (ty.Node node desc) inner elem place e h = let o = ap element_at (outs-Node node desc) in absurd (cc)
elem-type program type inner elem place e h = some-same (element_of type) elem inner e h

step-fits : (program : Program) (blocks : Blocks) (capacity : ℕ) (scope : Scope) (type : Ty) (tree : Tree) → Fits program blocks capacity scope type tree → (place : ℕ) (inner : Ty) (part : Tree)
    → type_of_part program type place ≡ Some inner → part_at tree (place ∷ []) ≡ Some part → FitsOrBare program blocks inner part
step-fits program blocks capacity scope type tree (Fits.number room) place inner part e h = absurd (cc)
step-fits program blocks capacity scope type tree (Fits.bits room) place inner part e h = absurd (cc)
step-fits program blocks capacity scope type tree (Fits.opaque long small) place inner part e h = absurd (cc)
step-fits program blocks capacity scope type tree (Fits.null p) place inner part e h = absurd (cc)
step-fits program blocks capacity scope type tree (Fits.to m) place inner part e h = absurd (cc)
step-fits program blocks capacity scope type tree (Fits.struct {node} {desc} {s} {trees} has struct all) place inner part e h =
    let field = field-type program node desc s place inner has e in
    let types : slice_get (types_of s.fields) place ≡ Some inner = slice_get-map (λ (f : Field). f.ty) s.fields place ∙ ap (option_map (λ (f : Field). f.ty)) field.1 ∙ ap Some field.2 in
    inl (_, capacity, all-at all place inner part types h)
step-fits program blocks capacity scope type tree (Fits.member {node} {desc} {s} {place = member} {f} {tree = held} has union active get fits) place inner part e h =
    let field = field-type program node desc s place inner has e in
    let at = through (member == place) held part h in
    let here : member ≡ place = eqb-true member place at.0 in
    let fields : f ≡ field.0 = some-same (slice_get s.fields place) f field.0 (subst (λ i. slice_get s.fields i ≡ Some f) here get) field.1 in
    let types : f.ty ≡ inner = ap (λ (x : Field). x.ty) fields ∙ field.2 in
    let own = inside scope node (Alt (Some member) held) in
    inl (own, capacity, subst (Fits program blocks capacity own inner) at.1 (subst (λ t. Fits program blocks capacity own t held) types fits))
step-fits program blocks capacity scope type tree (Fits.common {tree = held} has union active o plain fits) place inner part e h =
    let same : held ≡ part = cc in inr (subst (λ t. without_pointers t ≡ t) same plain)
step-fits program blocks capacity scope type tree (Fits.nothing has union active none) place inner part e h =
    let same : Rec End ≡ part = cc in inr (subst (λ t. without_pointers t ≡ t) same refl)
step-fits program blocks capacity scope type tree (Fits.array {elem} {trees} out many each) place inner part e h =
    let types = elem-type program type inner elem place (ap element_at out) e in inl (scope, capacity, subst (λ t. Fits program blocks capacity scope t part) types (each-at each place part h))
step-fits program blocks capacity scope type tree (Fits.tail {elem} {trees} out value le many each) place inner part e h =
    let types = elem-type program type inner elem place (ap element_at out) e in inl (scope, capacity, subst (λ t. Fits program blocks capacity scope t part) types (each-at each place part h))

part-fits : (program : Program) (blocks : Blocks) (path : List ℕ) (type : Ty) (tree : Tree) (t : Typed) → FitsOrBare program blocks type tree → typed_part program type tree path ≡ Some t → FitsOrBare program blocks t.type t.value
part-fits program blocks path type tree t (inr bare) e = inr (bare-part program type tree path t bare e)
part-fits program blocks [] type tree t (inl fits) e = let same : typed type tree ≡ t = cc in inl (subst (λ u. FitsSomewhere program blocks u.type u.value) same fits)
part-fits program blocks (place ∷ path) type tree t (inl (scope, capacity, fits)) e =
    let inner = then-some (type_of_part program type place) (λ i. part_at tree (place ∷ []) then (λ p. typed_part program i p path)) t e in
    let next = then-some (part_at tree (place ∷ [])) (λ p. typed_part program inner.0 p path) t inner.2 in
    part-fits program blocks path inner.0 next.0 t (step-fits program blocks capacity scope type tree fits place inner.0 next.0 inner.1 next.1) next.2

-- ---- at spots

map-typed : (o : Option Typed) (t : Typed) → option_map Value o ≡ Some (Value t) → o ≡ Some t
map-typed None t e = absurd (cc)
map-typed (Some u) t e = let inner : Value u ≡ Value t = cc in ap Some (value-same u t inner)

spot-fits : (program : Program) (g : Graph) (owner : Owner) (path : List ℕ) (t : Typed) → IsGraph program g → standing_in program g owner path ≡ Some (Value t) → FitsOrBare program (blocks_of g.objects) t.type t.value
spot-fits program g Statics [] t good e = absurd (cc)
spot-fits program g Statics (place ∷ path) t good e =
    let root = then-some (slice_get program.roots place) (λ r. tree_at g.statics place then (λ v. option_map Value (typed_part program r.ty v path))) (Value t) e in
    let value = then-some (tree_at g.statics place) (λ v. option_map Value (typed_part program root.0.ty v path)) (Value t) root.2 in
    let types : slice_get (map (λ (r : RootOf). r.ty) program.roots) place ≡ Some root.0.ty = slice_get-map (λ (r : RootOf). r.ty) program.roots place ∙ ap (option_map (λ (r : RootOf). r.ty)) root.1 in
    let fits = all-at good.statics place root.0.ty value.0 types (part-there g.statics place [] value.0 value.1) in
    part-fits program (blocks_of g.objects) path root.0.ty value.0 t (inl (_, 0, fits)) (map-typed (typed_part program root.0.ty value.0 path) t value.2)
spot-fits program g (Of id) [] t good e = let o = then-some (object_of g.objects id) (λ o. Some (Whole o)) (Value t) e in absurd (cc)
spot-fits program g (Of id) (place ∷ path) t good e =
    let o = then-some (object_of g.objects id) (λ o. in_object program o (place ∷ path)) (Value t) e in
    let element = then-some (part_at o.0.value (place ∷ [])) (λ v. option_map Value (typed_part program (element_type program o.0.kind) v path)) (Value t) o.2 in
    let block = (object-sound program g id o.0 good o.1).fits in
    let fits = each-at block.each place element.0 (ap (λ v. part_at v (place ∷ [])) (sym block.row) ∙ element.1) in
    part-fits program (blocks_of g.objects) path (element_type program o.0.kind) element.0 t (inl (_, o.0.capacity, fits)) (map-typed (typed_part program (element_type program o.0.kind) element.0 path) t element.2)

either-fits : (program : Program) (blocks others : Blocks) (type : Ty) (tree : Tree) (capacity : ℕ) (scope : Scope) → Fits program others capacity scope type tree → FitsOrBare program blocks type tree → FitsSomewhere program blocks type tree
either-fits program blocks others type tree capacity scope fits (inl here) = here
either-fits program blocks others type tree capacity scope fits (inr bare) = (scope, capacity, bare-fits blocks fits bare)

-- the value at which a cursor stands fits its type beside the objects
pub value-fits : (program : Program) (layouts : Layouts) (objects : Objects) (heap : Heap) (at : Spot) (c : Cursor) → IsGraph program heap.graph → (v : IsValueAt program layouts objects heap at c)
    → FitsSomewhere program (blocks_of heap.graph.objects) v.here.here.p.type v.here.here.p.tree
value-fits program layouts objects heap at c good v =
    let here = v.here.here in
    let p = here.p in
    let s = here.stands.0 in
    let typed-so = subst (λ x. Fits x s.context.blocks s.context.capacity s.context.scope c.ty.now p.tree) (here.read.program ∙ v.program_is) s.fits in
    let fits = subst (λ x. Fits program s.context.blocks s.context.capacity s.context.scope x p.tree) here.is.type_is typed-so in
    either-fits program (blocks_of heap.graph.objects) s.context.blocks p.type p.tree s.context.capacity s.context.scope fits (spot-fits program heap.graph at.owner at.path (typed p.type p.tree) good v.standing)
