-- The pointer to which a chain's path leads in a value lies at the byte to which the path leads in the layout.
use Rattle.std.proofs.Common.{◌≡◌, ◌∙◌, ℕ, ◌+◌, ◌*◌, Bool, true, false, List, [], ◌∷◌, Option, Some, None, refl, sym, ap, subst, arith}
use Rattle.std.specs.Prelude.{Contains, slice_get}
use Rattle.std.proofs.lemmas.Bool.{eqb-true}
use Rattle.std.proofs.lemmas.Option.{none-some}
use Rattle.gt_types.specs.declared.expressions.Expr.{Expr}
use Rattle.gt_types.specs.declared.types.TypeId.{TypeId}
use Rattle.gt_types.specs.declared.types.Ty.{Ty}
use Rattle.gt_types.specs.declared.types.Ty.TheVariants as ty
use Rattle.gt_types.specs.declared.program.Field.{Field}
use Rattle.gt_types.specs.declared.program.Structure.{Structure}
use Rattle.gt_types.specs.declared.program.Program.{Program}
use Rattle.gt_types.specs.Contains.{HasStructure}
use Rattle.gt_layout.specs.declared.planes.Plane.{Plane}
use Rattle.gt_layout.specs.declared.planes.FieldSpot.{FieldSpot}
use Rattle.gt_layout.specs.declared.storages.Storage.TheVariants.{Bytes}
use Rattle.gt_layout.specs.Places.{Follow, Lie, Overlap, begin_at}
use Rattle.gt_layout.specs.Planes.{AreLaidOut}
use Rattle.gt_layout.specs.Storages.{extent_of, storage_of, storages_of}
use Rattle.gt_tree.specs.Trees.{Tree, To, Rec, Alt, Trees, End, And, tree_at, edges}
use Rattle.gt_tree.specs.Blocks.{Blocks}
use Rattle.gt_tree.specs.Scopes.{Scope, Typed, inside, beginning, first_field_type, first_type_of, is_of_node, type_of_field, type_there}
use Rattle.gt_tree.specs.Fits.{Fits, AllFit, types_of}
use Rattle.gt_tree.specs.Leaves.{Leaf, leaf, Pointer, HasLeaves}
use Rattle.gt_tree.proofs.Fitting.{fits-member, fits-struct}
use Rattle.gt_tree.proofs.FixedParts.{is-plain}
use Rattle.gt_tree.proofs.Structures.{get-as_long}
use Rattle.gt_store.proofs.Forms.{member-leaves, member-there, rec-struct, rec-typed, struct-leaves, to-leaves}
use Rattle.gt_graph.specs.Rounds.{chain_part}
use Rattle.gt_edges.specs.Notes.{offset_to}
use Rattle.gt_objects.proofs.Items.{first_there, none_there}
use Rattle.gt_tracing.proofs.Elements.{some_same}
use Rattle.gt_tracing.proofs.Fields.{FieldHas, field_has, field_byte, first_byte, mapped, member_byte}
use Rattle.gt_tracing.proofs.ChainSteps.{Steps, bare_edges, beginning_cases, begin_edges, chain_edge, first_step, leaf_begins}

-- where a path leads in the layout, the leaf of a pointer lies
pub record PathLeaf (program : Program) (planes : List Plane) (path : List ℕ) (type : Ty) (at id : ℕ) (leaves : List Leaf) : Type 0 where
  pub offset : ℕ
  pub leads : offset_to program planes type path ≡ Some offset
  pub there : Contains leaves (leaf (at + 8 * offset) 64 (Pointer (Some id)))

-- the structure with which a value begins, and its leaves, which are some of those of the value
record Begins (program : Program) (planes : List Plane) (blocks : Blocks) (capacity : ℕ) (node : TypeId) (part : Tree) (at : ℕ) (all : List Leaf) : Type 0 where
  desc : Option Expr
  first : List Leaf
  scope : Scope
  fits : Fits program blocks capacity scope (ty.Node node desc) part
  has : HasLeaves program planes at (ty.Node node desc) part first
  inner : (l : Leaf) → Contains first l → Contains all l

-- a type is a structure
node_is : (node : TypeId) (type : Ty) → is_of_node node (Some type) ≡ true → (desc : Option Expr) × (type ≡ ty.Node node desc)
node_is node (ty.Node other desc) e = let same : other ≡ node = one_node other node (sym (eqb-true node.0 other.0 e)) in (desc, ap (λ n. ty.Node n desc) same)
  where
    one_node : (a b : TypeId) → a.0 ≡ b.0 → a ≡ b
    one_node a b e = ap (λ n. let node : TypeId = record { 0 = n } in node) e
node_is node type e = absurd (cc)

-- the `desc` of a type does not change where a path leads
pub same_part : (program : Program) (path : List ℕ) (node : TypeId) (desc other : Option Expr) (tree : Tree) → chain_part program path (ty.Node node desc) tree ≡ chain_part program path (ty.Node node other) tree
same_part program [] node desc other tree = refl
same_part program (place ∷ places) node desc other tree = refl

pub same_offset : (program : Program) (planes : List Plane) (path : List ℕ) (node : TypeId) (desc other : Option Expr) → offset_to program planes (ty.Node node desc) path ≡ offset_to program planes (ty.Node node other) path
same_offset program planes [] node desc other = refl
same_offset program planes (place ∷ places) node desc other = refl

-- the offset of a path, by that of its first field and the rest
offset_step : (program : Program) (planes : List Plane) (node : TypeId) (desc : Option Expr) (s : Structure) (plane : Plane) (place : ℕ) (places : List ℕ) (f : Field) (spot : FieldSpot) (rest : ℕ) → HasStructure program node s
    → slice_get planes node.0 ≡ Some plane → slice_get s.fields place ≡ Some f → slice_get plane.fields place ≡ Some spot → offset_to program planes f.ty places ≡ Some rest
    → offset_to program planes (ty.Node node desc) (place ∷ places) ≡ Some (spot.offset + rest)
offset_step program planes node desc s plane place places f spot rest has got at there leads = rw (has, got, at, there, leads) refl

-- a leaf is there, wherever it is said to begin
leaf_there : (leaves : List Leaf) (id at other : ℕ) → at ≡ other → Contains leaves (leaf at 64 (Pointer (Some id))) → Contains leaves (leaf other 64 (Pointer (Some id)))
leaf_there leaves id at other same has = subst (λ n. Contains leaves (leaf n 64 (Pointer (Some id)))) same has

module _ (program : Program) (planes : List Plane) (laid : AreLaidOut program planes) (blocks : Blocks) (capacity : ℕ) where
  follows : (node : TypeId) (s : Structure) (plane : Plane) → HasStructure program node s → s.is_union ≡ false → slice_get planes node.0 ≡ Some plane → Follow 0 (storages_of planes s.fields) plane.fields
  follows node s plane has struct got = subst (λ u. Lie u (storages_of planes s.fields) plane.fields) struct (laid.each node.0 s plane has got).places

  overlaps : (node : TypeId) (s : Structure) (plane : Plane) → HasStructure program node s → s.is_union ≡ true → slice_get planes node.0 ≡ Some plane → Overlap (storages_of planes s.fields) plane.fields
  overlaps node s plane has union got = subst (λ u. Lie u (storages_of planes s.fields) plane.fields) union (laid.each node.0 s plane has got).places

  plane_of : (node : TypeId) (s : Structure) → HasStructure program node s → (plane : Plane) × (slice_get planes node.0 ≡ Some plane)
  plane_of node s has = get-as_long planes program.structures node.0 s laid.all has

  first_field : {scope : Scope} (fields : List Field) (tree : Tree) (trees : Trees) → AllFit program blocks capacity scope (types_of fields) (And tree trees) → (f : Field) × (slice_get fields 0 ≡ Some f)
  first_field [] tree trees fit = elim fit [ ]
  first_field (f ∷ fs) tree trees fit = (f, refl)

  -- ---- with what a value begins

  begin_bytes : (node : TypeId) (type : Ty) (tree part : Tree) (at : ℕ) (leaves : List Leaf) → HasLeaves program planes at type tree leaves → beginning program node (Some type) tree ≡ Some part
      → storage_of planes type ≡ Bytes (extent_of planes type)
  begin_bytes node (ty.Bits unit width) (Rec trees) part at leaves has e = absurd (let typed = (rec-typed (ty.Bits unit width) trees leaves has).2 in cc)
  begin_bytes node (ty.Bits unit width) tree part at leaves has e = absurd (none-some part e)
  begin_bytes node type tree part at leaves has e = refl

  itself_begins : (node : TypeId) (type : Ty) (tree part : Tree) (at : ℕ) (leaves : List Leaf) (scope : Scope) → HasLeaves program planes at type tree leaves → Fits program blocks capacity scope type tree
      → is_of_node node (Some type) ≡ true → tree ≡ part → Begins program planes blocks capacity node part at leaves
  itself_begins node type tree part at leaves scope has fits e same =
      let is = node_is node type e in
      record {
        desc = is.0;
        first = leaves;
        scope = scope;
        fits = subst (λ t. Fits program blocks capacity scope (ty.Node node is.0) t) same (subst (λ y. Fits program blocks capacity scope y tree) is.1 fits);
        has = subst (λ t. HasLeaves program planes at (ty.Node node is.0) t leaves) same (subst (λ y. HasLeaves program planes at y tree leaves) is.1 has);
        inner = λ l there. there;
      }

  -- what follows for the first field
  abbrev GoesOn : TypeId → Tree → Tree → Type 0
  GoesOn node tree part = (type : Ty) (at : ℕ) (leaves : List Leaf) (scope : Scope) → HasLeaves program planes at type tree leaves → Fits program blocks capacity scope type tree
      → beginning program node (Some type) tree ≡ Some part → Begins program planes blocks capacity node part at leaves

  first_begins : (node outer : TypeId) (desc : Option Expr) (tree : Tree) (trees : Trees) (part : Tree) (at : ℕ) (leaves : List Leaf) (scope : Scope) → HasLeaves program planes at (ty.Node outer desc) (Rec (And tree trees)) leaves
      → Fits program blocks capacity scope (ty.Node outer desc) (Rec (And tree trees)) → GoesOn node tree part → beginning program node (first_type_of program (Some (ty.Node outer desc))) tree ≡ Some part
      → Begins program planes blocks capacity node part at leaves
  first_begins node outer desc tree trees part at leaves scope has fits onward e =
      let r = rec-struct outer desc (And tree trees) fits in
      let plane = plane_of outer r.0 r.1 in
      let f = first_field r.0.fields tree trees r.3 in
      let one = field_has blocks capacity (inside scope outer (Rec (And tree trees))) (struct-leaves outer desc r.0 plane.0 (And tree trees) leaves r.1 plane.1 has) r.3 0 f.0.ty tree (mapped (λ f. f.ty) r.0.fields 0 f.0 f.1) refl in
      let begins : beginning program node (Some f.0.ty) tree ≡ Some part = ap (λ t. beginning program node t tree) (sym (ap first_field_type r.1 ∙ ap type_of_field f.1)) ∙ e in
      let bytes = begin_bytes node f.0.ty tree part (at + begin_at one.spot) one.leaves one.has begins in
      let none = first_byte planes r.0.fields plane.0.fields (follows outer r.0 plane.0 r.1 r.2 plane.1) f.0 one.spot f.1 one.there (extent_of planes f.0.ty) bytes in
      let here : at + begin_at one.spot ≡ at = omega (arith, none) in
      let found = onward f.0.ty at one.leaves (inside scope outer (Rec (And tree trees))) (subst (λ n. HasLeaves program planes n f.0.ty tree one.leaves) here one.has) one.fits begins in
      record { desc = found.desc; first = found.first; scope = found.scope; fits = found.fits; has = found.has; inner = λ l there. one.inside l (found.inner l there) }

  end_begins : (node : TypeId) (part : Tree) (type : Ty) (at : ℕ) (leaves : List Leaf) (scope : Scope) → HasLeaves program planes at type (Rec End) leaves → Fits program blocks capacity scope type (Rec End)
      → beginning program node (Some type) (Rec End) ≡ Some part → (b : Bool) → is_of_node node (Some type) ≡ b → Begins program planes blocks capacity node part at leaves
  end_begins node part type at leaves scope has fits e true is =
      itself_begins node type (Rec End) part at leaves scope has fits is (some_same (Rec End) part (beginning_cases program node (Some type) End part e true is))
  end_begins node part type at leaves scope has fits e false is = absurd (none-some part (beginning_cases program node (Some type) End part e false is))

  and_begins : (node : TypeId) (tree : Tree) (trees : Trees) (part : Tree) (type : Ty) (at : ℕ) (leaves : List Leaf) (scope : Scope) → HasLeaves program planes at type (Rec (And tree trees)) leaves
      → Fits program blocks capacity scope type (Rec (And tree trees)) → beginning program node (Some type) (Rec (And tree trees)) ≡ Some part → GoesOn node tree part → (b : Bool) → is_of_node node (Some type) ≡ b
      → Begins program planes blocks capacity node part at leaves
  and_begins node tree trees part type at leaves scope has fits e onward true is =
      itself_begins node type (Rec (And tree trees)) part at leaves scope has fits is (some_same (Rec (And tree trees)) part (beginning_cases program node (Some type) (And tree trees) part e true is))
  and_begins node tree trees part type at leaves scope has fits e onward false is =
      let shape = rec-typed type (And tree trees) leaves has in
      first_begins node shape.0 shape.1 tree trees part at leaves scope
      (subst (λ y. HasLeaves program planes at y (Rec (And tree trees)) leaves) shape.2 has)
      (subst (λ y. Fits program blocks capacity scope y (Rec (And tree trees))) shape.2 fits) onward
      (ap (λ y. beginning program node (first_type_of program (Some y)) tree) (sym shape.2) ∙ beginning_cases program node (Some type) (And tree trees) part e false is)

  begun : (node : TypeId) (tree part : Tree) → GoesOn node tree part
  begun node (Rec End) part type at leaves scope has fits e = end_begins node part type at leaves scope has fits e (is_of_node node (Some type)) refl
  begun node (Rec (And tree trees)) part type at leaves scope has fits e = and_begins node tree trees part type at leaves scope has fits e (begun node tree part) (is_of_node node (Some type)) refl
  begun node tree part type at leaves scope has fits e =
      let both = leaf_begins (is_of_node node (Some type)) tree part e in
      itself_begins node type tree part at leaves scope has fits both.0 both.1

  -- ---- one step

  -- a pointer to which a path leads is no part of a bit-field
  chain_bytes : (path : List ℕ) (type : Ty) (tree : Tree) (id at : ℕ) (leaves : List Leaf) → HasLeaves program planes at type tree leaves → chain_part program path type tree ≡ Some (To id) → storage_of planes type ≡ Bytes (extent_of planes type)
  chain_bytes [] (ty.Bits unit width) tree id at leaves has e =
      let is = some_same tree (To id) e in
      absurd (let pointer = (to-leaves (ty.Bits unit width) id leaves (subst (λ t. HasLeaves program planes at (ty.Bits unit width) t leaves) is has)).1 in cc)
  chain_bytes (place ∷ places) (ty.Bits unit width) tree id at leaves has e = absurd (none-some (To id) e)
  chain_bytes path type tree id at leaves has e = refl

  abbrev Onward : List ℕ → ℕ → Type 0
  Onward places id = (type : Ty) (tree : Tree) (at : ℕ) (leaves : List Leaf) (scope : Scope) → HasLeaves program planes at type tree leaves → Fits program blocks capacity scope type tree
      → chain_part program places type tree ≡ Some (To id) → PathLeaf program planes places type at id leaves

  module _ (place : ℕ) (places : List ℕ) (id : ℕ) (onward : Onward places id) (node : TypeId) (desc : Option Expr) (s : Structure) (has : HasStructure program node s) (f : Field) (at_place : slice_get s.fields place ≡ Some f)
      (at : ℕ) (leaves : List Leaf) (scope : Scope) where
    abbrev plane : Plane
    plane = (plane_of node s has).0

    laid_out : slice_get planes node.0 ≡ Some plane
    laid_out = (plane_of node s has).1

    field_leaf : s.is_union ≡ false → (trees : Trees) (tree : Tree) → FieldHas program planes blocks capacity (inside scope node (Rec trees)) at place plane.fields f.ty tree leaves
        → chain_part program places f.ty tree ≡ Some (To id) → PathLeaf program planes (place ∷ places) (ty.Node node desc) at id leaves
    field_leaf struct trees tree one chain =
        let rest = onward f.ty tree (at + begin_at one.spot) one.leaves (inside scope node (Rec trees)) one.has one.fits chain in
        let bytes = chain_bytes places f.ty tree id (at + begin_at one.spot) one.leaves one.has chain in
        let begins = field_byte planes s.fields plane.fields 0 (follows node s plane has struct laid_out) place f one.spot at_place one.there (extent_of planes f.ty) bytes in
        record {
          offset = one.spot.offset + rest.offset;
          leads = offset_step program planes node desc s plane place places f one.spot rest.offset has laid_out at_place one.there rest.leads;
          there = leaf_there leaves id ((at + begin_at one.spot) + 8 * rest.offset) (at + 8 * (one.spot.offset + rest.offset)) (omega (arith, begins))
              (one.inside (leaf ((at + begin_at one.spot) + 8 * rest.offset) 64 (Pointer (Some id))) rest.there);
        }

    struct_leaf : s.is_union ≡ false → (trees : Trees) (tree : Tree) → tree_at trees place ≡ Some tree → HasLeaves program planes at (ty.Node node desc) (Rec trees) leaves
        → Fits program blocks capacity scope (ty.Node node desc) (Rec trees) → chain_part program places f.ty tree ≡ Some (To id) → PathLeaf program planes (place ∷ places) (ty.Node node desc) at id leaves
    struct_leaf struct trees tree there leaf_of fits chain =
        field_leaf struct trees tree
        (field_has blocks capacity (inside scope node (Rec trees)) (struct-leaves node desc s plane trees leaves has laid_out leaf_of) (fits-struct node desc s trees has fits) place f.ty tree
        (mapped (λ f. f.ty) s.fields place f at_place) there) chain

    -- in a union the structure is there with which the active member begins
    begun_leaf : s.is_union ≡ true → (common : TypeId) (own : Option Expr) → f.ty ≡ ty.Node common own → (part : Tree) → Begins program planes blocks capacity common part at leaves
        → chain_part program places (ty.Node common own) part ≡ Some (To id) → PathLeaf program planes (place ∷ places) (ty.Node node desc) at id leaves
    begun_leaf union common own is part inner chain =
        let rest = onward (ty.Node common inner.desc) part at inner.first inner.scope inner.has inner.fits (same_part program places common inner.desc own part ∙ chain) in
        let spot = member_byte planes s.fields plane.fields (overlaps node s plane has union laid_out) place f at_place in
        let none = spot.2 in
        record {
          offset = spot.0.offset + rest.offset;
          leads = offset_step program planes node desc s plane place places f spot.0 rest.offset has laid_out at_place spot.1
              (ap (λ t. offset_to program planes t places) is ∙ same_offset program planes places common own inner.desc ∙ rest.leads);
          there = leaf_there leaves id (at + 8 * rest.offset) (at + 8 * (spot.0.offset + rest.offset)) (omega (arith, none)) (inner.inner (leaf (at + 8 * rest.offset) 64 (Pointer (Some id))) rest.there);
        }

    member_leaf : s.is_union ≡ true → (common : TypeId) (own : Option Expr) → f.ty ≡ ty.Node common own → (member : ℕ) (tree part : Tree) → beginning program common (type_there s common (Some member)) tree ≡ Some part
        → HasLeaves program planes at (ty.Node node desc) (Alt (Some member) tree) leaves → Fits program blocks capacity scope (ty.Node node desc) (Alt (Some member) tree)
        → chain_part program places (ty.Node common own) part ≡ Some (To id) → PathLeaf program planes (place ∷ places) (ty.Node node desc) at id leaves
    member_leaf union common own is member tree part begins leaf_of fits chain =
        let g = member-there node desc s member tree has fits in
        begun_leaf union common own is part
        (begun common tree part g.0.ty at leaves (inside scope node (Alt (Some member) tree)) (member-leaves node desc s member g.0 tree leaves has g.1 leaf_of) (fits-member node desc s member g.0 tree has g.1 fits)
        (ap (λ o. beginning program common (type_of_field o) tree) (sym g.1) ∙ begins)) chain

    -- where no member is active, no pointer names a block
    no_leaf : (common : TypeId) (type : Option Ty) (own : Option Expr) (tree part : Tree) → beginning program common type tree ≡ Some part → Fits program blocks capacity scope (ty.Node node desc) (Alt None tree)
        → chain_part program places (ty.Node common own) part ≡ Some (To id) → PathLeaf program planes (place ∷ places) (ty.Node node desc) at id leaves
    no_leaf common type own tree part begins fits chain =
        let edge = begin_edges program common type tree part id begins (chain_edge program places (ty.Node common own) part id chain) in
        let bare : edges tree ≡ [] = sym (ap edges (is-plain node desc tree fits)) ∙ bare_edges tree in
        none_there id (subst (λ xs. Contains xs id) bare edge)

  step_leaf : (place : ℕ) (places : List ℕ) (id : ℕ) → Onward places id → {type : Ty} {tree : Tree} {next : Typed} → Steps program place type tree next → (at : ℕ) (leaves : List Leaf) (scope : Scope)
      → HasLeaves program planes at type tree leaves → Fits program blocks capacity scope type tree → chain_part program places next.type next.value ≡ Some (To id) → PathLeaf program planes (place ∷ places) type at id leaves
  step_leaf place places id onward (Steps.in_struct {node} {desc} {s} {f} {trees} {tree} has struct at_place there) at leaves scope leaf_of fits chain =
      struct_leaf place places id onward node desc s has f at_place at leaves scope struct trees tree there leaf_of fits chain
  step_leaf place places id onward (Steps.in_union {node} {common} {desc} {own} {s} {f} {member = Some member} {tree} {part} has union at_place is begins) at leaves scope leaf_of fits chain =
      member_leaf place places id onward node desc s has f at_place at leaves scope union common own is member tree part begins leaf_of fits chain
  step_leaf place places id onward (Steps.in_union {node} {common} {desc} {own} {s} {f} {member = None} {tree} {part} has union at_place is begins) at leaves scope leaf_of fits chain =
      no_leaf place places id onward node desc s has f at_place at leaves scope common (type_there s common None) own tree part begins fits chain

  -- the pointer to which a path leads lies where the path leads in the layout
  pub chain_leaf : (path : List ℕ) (id : ℕ) → Onward path id
  chain_leaf [] id type tree at leaves scope has fits e =
      let is = some_same tree (To id) e in
      let one = (to-leaves type id leaves (subst (λ t. HasLeaves program planes at type t leaves) is has)).0 in
      record {
        offset = 0;
        leads = refl;
        there = subst (λ ls. Contains ls (leaf (at + 8 * 0) 64 (Pointer (Some id)))) (sym one)
            (leaf_there (leaf at 64 (Pointer (Some id)) ∷ []) id at (at + 8 * 0) (omega arith) (first_there (leaf at 64 (Pointer (Some id))) []));
      }
  chain_leaf (place ∷ places) id type tree at leaves scope has fits e =
      let found = first_step program place places type tree (To id) e in
      step_leaf place places id (chain_leaf places id) found.1 at leaves scope has fits found.2
