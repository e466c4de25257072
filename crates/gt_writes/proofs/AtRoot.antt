-- What is known where a leaf of the static record is written.
use Rattle.std.proofs.Common.{Bool, ◌≡◌, ℕ, List, refl, ap, sym, subst, ◌∙◌, Option, Some, None, option_map, inl, inr}
use Rattle.std.specs.Prelude.{[], ◌∷◌, true, slice_get}
use Rattle.std.proofs.lemmas.Bool.{false≢true}
use Rattle.gt_types.specs.declared.program.Root.{Root}
use Rattle.gt_types.specs.declared.program.Program.{Program}
use Rattle.gt_types.specs.Settled.{Settled}
use Rattle.gt_layout.specs.declared.planes.Layouts.{Layouts}
use Rattle.gt_layout.specs.Planes.{IsLaidOut}
use Rattle.gt_layout.specs.Excess.{IsWithin}
use Rattle.gt_space.specs.Range.{IsSpace}
use Rattle.gt_tree.specs.Trees.{Tree, Rec, Trees, tree_at, with_part, with_part_of}
use Rattle.gt_tree.specs.Scopes.{Typed, ◌then◌}
use Rattle.gt_tree.specs.Fits.{StaticsFit, root_types}
use Rattle.gt_tree.proofs.PathBits.{some-same}
use Rattle.gt_tree.proofs.PathParts.{get-map}
use Rattle.gt_value.specs.declared.places.LeafContent.{LeafContent}
use Rattle.gt_value.specs.declared.places.Place.{Place}
use Rattle.gt_value.specs.Places.{IsContentOf, StaticPartLies, Part}
use Rattle.gt_store.specs.Leaf.{IsLeafWritten}
use Rattle.gt_store.proofs.LeafParts.{all-fit-at}
use Rattle.gt_leaf.specs.Writing.{is_number_leaf}
use Rattle.gt_graph.specs.Objects.{Graph, blocks_of}
use Rattle.gt_graph.specs.Changes.{Statics, Writes}
use Rattle.gt_graph.specs.Good.{Heap}
use Rattle.gt_objects.specs.declared.objects.Objects.{Objects}
use Rattle.gt_objects.specs.Holding.{IsHeapOf}
use Rattle.gt_objects.proofs.Naming.{mapped_some}
use Rattle.gt_elements.specs.InHeap.{IsWrittenInHeap}
use Rattle.gt_next.specs.Leaves.{is_word_type}
use Rattle.gt_next.specs.Spots.{Value, spot, standing_at, in_statics, typed_part}
use Rattle.gt_writes.specs.SpotWrites.{SpotTakes, IsTreeOf, IsWrittenAt, MisfitsAt}
use Rattle.gt_writes.specs.Rewriting.{MayPutRoot, IsInActive, StaticsMisfit, AreStaticsRewritten}
use Rattle.gt_writes.specs.Typing.{type_along, type_in_statics, is_some_word}
use Rattle.gt_writes.proofs.SpotTypes.{along-typed, leaf-fits, FitsAs}
use Rattle.gt_writes.proofs.LeafForms.{form_by, tree_means, one_tree}
use Rattle.gt_writes.proofs.StaticsReplaced.{root_in_heap, statics_in_heap}
use Rattle.gt_writes.proofs.AtElement.{value_same}

module _ (program : Program) (g : Graph) where
  -- a walk from a root on
  walk_from : (t : Typed) (place : ℕ) (rest : List ℕ) (root : Root) (value : Tree) → slice_get program.roots place ≡ Some root → tree_at g.statics place ≡ Some value → in_statics program g.statics (place ∷ rest) ≡ Some (Value t)
      → typed_part program root.ty value rest ≡ Some t
  walk_from t place rest root value got there standing =
      let on = sym (ap (λ x. x then λ r. tree_at g.statics place then λ v. option_map Value (typed_part program r.ty v rest)) got ∙ ap (λ x. x then λ v. option_map Value (typed_part program root.ty v rest)) there) ∙ standing in
      let found = mapped_some Value (typed_part program root.ty value rest) (Value t) on in
      found.1 ∙ ap (λ x. Some x) (value_same found.0 t found.2)

  -- the type of what stands at a spot is that along its places
  pub type_there : (t : Typed) (path : List ℕ) → in_statics program g.statics path ≡ Some (Value t) → type_in_statics program path ≡ Some t.type
  type_there t [] standing = absurd (cc)
  type_there t (place ∷ rest) standing = go (slice_get program.roots place) refl (tree_at g.statics place) refl
    where
      go : (root : Option Root) → slice_get program.roots place ≡ root → (value : Option Tree) → tree_at g.statics place ≡ value → type_in_statics program (place ∷ rest) ≡ Some t.type
      go None got value there = let none = sym (ap (λ x. x then λ r. tree_at g.statics place then λ v. option_map Value (typed_part program r.ty v rest)) got) ∙ standing in absurd (cc)
      go (Some root) got None there =
          let none = sym (ap (λ x. x then λ r. tree_at g.statics place then λ v. option_map Value (typed_part program r.ty v rest)) got ∙ ap (λ x. x then λ v. option_map Value (typed_part program root.ty v rest)) there) ∙ standing in
          absurd (cc)
      go (Some root) got (Some value) there =
          ap (λ x. type_along program (x then λ r. Some r.ty) rest) got ∙ along-typed program root.ty value rest t (walk_from t place rest root value got there standing)

  pub root_word : (t : Typed) (path : List ℕ) → in_statics program g.statics path ≡ Some (Value t) → (is_word : Bool) → is_word ≡ is_some_word (type_in_statics program path) → is_word ≡ is_word_type t.type
  root_word t path standing is_word e = e ∙ ap is_some_word (type_there t path standing)

-- the leaf that is written fits the type to which a walk leads
root_leaf_fits : (program : Program) (layouts : Layouts) (g : Graph) (path : List ℕ) (p : Part) → (l : StaticPartLies program layouts.structures layouts.statics.fields g.statics path p) → p.active ≡ true → (leaf : Tree) (others : Trees)
    → with_part (Rec g.statics) path leaf ≡ Rec others → StaticsFit program (blocks_of g.objects) others → (t : Typed) → in_statics program g.statics path ≡ Some (Value t) → FitsAs program (blocks_of g.objects) 0 t.type leaf
root_leaf_fits program layouts g path p l on leaf others replaced fit t standing =
    let rows : Rec (with_part_of g.statics l.i l.rest leaf) ≡ Rec others = sym (ap (λ w. with_part (Rec g.statics) w leaf) l.path_is) ∙ replaced in
    let same : others ≡ with_part_of g.statics l.i l.rest leaf = cc in
    let all = subst (λ ts. StaticsFit program (blocks_of g.objects) ts) same fit in
    let walk = walk_from program g t l.i l.rest l.r l.tree l.root l.there (subst (λ w. in_statics program g.statics w ≡ Some (Value t)) l.path_is standing) in
    leaf-fits l.lies on _ leaf (all-fit-at (root_types program) g.statics l.i l.rest leaf l.r.ty l.tree (get-map (λ (r : Root). r.ty) program.roots l.i l.r l.root) l.there all) t walk

-- a write of the heap is one of the static record
no_write : (program : Program) (heap : Heap) (path : List ℕ) (leaf : Tree) (g : Graph) → StaticsMisfit program heap path leaf → Writes program heap.graph Statics path leaf g → ⊥
no_write program heap path leaf g misfit (Writes.in_statics {statics} assigns) = misfit statics assigns

-- a leaf that fits with no values of the roots fits with none of the heap
pub root_misfit_all : (program : Program) (heap : Heap) (path : List ℕ) (leaf : LeafContent) → ((tree : Tree) → IsContentOf leaf tree → StaticsMisfit program heap path tree) → MisfitsAt program heap Statics path leaf
root_misfit_all program heap path leaf misfits t tree g standing tree_is writes = no_write program heap path tree g (misfits tree (tree_means t.type leaf tree tree_is)) writes

pub root_misfit_one : (program : Program) (heap : Heap) (path : List ℕ) (leaf : LeafContent) (t : Typed) → standing_at program heap.graph (spot Statics path) ≡ Some (Value t) → (tree : Tree) → IsTreeOf t.type leaf tree → StaticsMisfit program heap path tree
    → MisfitsAt program heap Statics path leaf
root_misfit_one program heap path leaf t standing tree tree_is misfits other also g its is_tree writes =
    let one : other ≡ t = value_same other t (some-same (standing_at program heap.graph (spot Statics path)) (Value other) (Value t) its standing) in
    let same_tree : also ≡ tree = one_tree t.type leaf also tree (subst (λ x. IsTreeOf x.type leaf also) one is_tree) tree_is in
    no_write program heap path tree g misfits (subst (λ x. Writes program heap.graph Statics path x g) same_tree writes)

module _ (program : Program) (layouts : Layouts) (settled : Settled program) (laid : IsLaidOut program layouts) (within : IsWithin program layouts) (objects : Objects) (heap : Heap) (is : IsHeapOf program layouts objects heap) (space : IsSpace objects.space)
    (path : List ℕ) (leaf : LeafContent) (takes : SpotTakes program heap.graph (spot Statics path) leaf) where
  -- a leaf that was written in place is written at the spot
  pub root_put_at : (at : Place) → MayPutRoot program layouts heap path leaf objects.space at → IsInActive at leaf → (new : Objects) → new ≡ record objects { space = new.space } → IsLeafWritten at leaf objects.space new.space
      → IsWrittenAt program layouts heap Statics path leaf new
  root_put_at at may active new others written =
      let done = may.writes new.space written in
      let fits = λ (number : is_number_leaf leaf ≡ true). root_leaf_fits program layouts heap.graph path may.at.p may.at.lies (sym may.at.is.active_is ∙ is_active number) done.tree done.others done.replaced done.assigns.fits takes.t takes.standing in
      record {
        t = takes.t;
        standing = takes.standing;
        tree = done.tree;
        is = form_by takes.t.type leaf done.tree done.means fits;
        written = subst (IsWrittenInHeap program layouts heap Statics path done.tree) (sym others) (root_in_heap program layouts settled laid within objects heap is space path leaf new.space done);
      }
    where
      is_active : is_number_leaf leaf ≡ true → at.active ≡ true
      is_active number = elim active [ inl on ↦ on | inr other ↦ absurd (false≢true (sym other ∙ number)) ]

  -- so is one with which the static record was stored anew
  pub root_anew_at : (tree : Tree) → IsTreeOf takes.t.type leaf tree → (new : Objects) → new ≡ record objects { space = new.space } → AreStaticsRewritten program layouts heap path tree objects.space new.space → IsWrittenAt program layouts heap Statics path leaf new
  root_anew_at tree tree_is new others done = record {
    t = takes.t;
    standing = takes.standing;
    tree = tree;
    is = tree_is;
    written = subst (IsWrittenInHeap program layouts heap Statics path tree) (sym others) (statics_in_heap program layouts settled laid within objects heap is space path tree done.news new.space done.assigns done.stored);
  }
