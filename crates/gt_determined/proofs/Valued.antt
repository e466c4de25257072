-- A row with one other element, and objects of which one has another value.
use Rattle.std.proofs.Common.{◌≡◌, ℕ, zero, suc, Bool, true, false, cond, List, [], ◌∷◌, map, refl, ap, sym, subst, ◌∙◌, arith, Some}
use Rattle.std.specs.Prelude.{◌≢◌, ◌==◌, AllPairs, option_map}
use Rattle.std.proofs.lemmas.Bool.{eqb-true}
use Rattle.std.proofs.lemmas.List.Elements.{All-contains}
use Rattle.std.proofs.lemmas.List.Kept.{AllPairs-cons}
use Rattle.gt_types.specs.declared.types.Ty.{Ty}
use Rattle.gt_types.specs.declared.program.Program.{Program}
use Rattle.gt_types.specs.Settled.{Settled}
use Rattle.gt_layout.specs.declared.planes.Layouts.{Layouts}
use Rattle.gt_tree.specs.Trees.{Tree, Trees, End, And, count, with_part_of}
use Rattle.gt_tree.specs.Blocks.{Kind, Chars, Block, Blocks, element_type}
use Rattle.gt_tree.specs.Scopes.{Scope, outside}
use Rattle.gt_tree.specs.Fits.{Fits, EachFits, EndsAs}
use Rattle.gt_tree.proofs.PathBits.{some-same}
use Rattle.gt_tree.proofs.Fitting.{fits-one}
use Rattle.gt_value.proofs.Refit.{refit-block}
use Rattle.gt_graph.specs.Objects.{Object, object_of, block_of, blocks_of, chars_in}
use Rattle.gt_graph.specs.Places.{Places, ArePlacesOf, IsSizeFor}
use Rattle.gt_graph.specs.Changes.{valued, with_value}
use Rattle.gt_objects.proofs.Growing.{AreAmong}
use Rattle.gt_objects.proofs.Items.{all_by, pairs_head, pairs_tail, find_is, there_mapped}
use Rattle.gt_determined.proofs.Standings.{map-some}
use Rattle.gt_determined.proofs.Graphs.{HasOtherId}

-- ---- one value of a row

pub each-set : {program : Program} {blocks : Blocks} {capacity : ℕ} {scope : Scope} (type : Ty) (trees : Trees) (place : ℕ) (x : Tree) → EachFits program blocks capacity scope type trees
    → Fits program blocks capacity scope type x → EachFits program blocks capacity scope type (with_part_of trees place [] x)
each-set type End place x each fits = each
each-set type (And t ts) zero x each fits = EachFits.one_more fits (fits-one type t ts each).1
each-set type (And t ts) (suc place) x each fits = let p = fits-one type t ts each in EachFits.one_more p.0 (each-set type ts place x p.1 fits)

pub count-set : (trees : Trees) (place : ℕ) (x : Tree) → count (with_part_of trees place [] x) ≡ count trees
count-set End place x = refl
count-set (And t ts) zero x = refl
count-set (And t ts) (suc place) x = ap suc (count-set ts place x)

pub ends-any : (kind : Kind) (trees : Trees) → kind ≢ Chars → EndsAs kind trees
ends-any Chars trees n = absurd (n refl)
ends-any kind trees n = tt

chars-none : (kind : Kind) (value : Tree) → kind ≢ Chars → chars_in kind value ≡ []
chars-none Chars value n = absurd (n refl)
chars-none kind value n = refl

pub each-refit : (program : Program) → Settled program → (blocks : Blocks) (capacity : ℕ) (kind : Kind) (a b : Trees) (trees : Trees) → EachFits program blocks capacity (outside a) (element_type program kind) trees
    → EachFits program blocks capacity (outside b) (element_type program kind) trees
each-refit program settled blocks capacity kind a b End each = EachFits.no_more
each-refit program settled blocks capacity kind a b (And t ts) each =
    let p = fits-one (element_type program kind) t ts each in EachFits.one_more (refit-block program settled blocks capacity kind a b t p.0) (each-refit program settled blocks capacity kind a b ts p.1)

-- ---- another value of one object

module _ (id : ℕ) (value : Tree) where
  -- what does not speak of the value
  valued-keeps : {A : Type 0} (f : Object → A) → ((o : Object) → f (record o { value = value }) ≡ f o) → (o : Object) → f (valued id value o) ≡ f o
  valued-keeps f same o = go (o.id == id)
    where
      go : (b : Bool) → f (cond b (record o { value = value }) o) ≡ f o
      go true = same o
      go false = refl

  valued-id : (o : Object) → (valued id value o).id ≡ o.id
  valued-id = valued-keeps (λ o. o.id) (λ o. refl)

  pub object-valued : (objects : List Object) (j : ℕ) → object_of (with_value objects id value) j ≡ option_map (valued id value) (object_of objects j)
  object-valued [] j = refl
  object-valued (x ∷ xs) j = ap (λ i. cond (i == j) (Some (valued id value x)) (object_of (with_value xs id value) j)) (valued-id x) ∙ go (x.id == j) (object-valued xs j)
    where
      go : (b : Bool) → object_of (with_value xs id value) j ≡ option_map (valued id value) (object_of xs j)
          → cond b (Some (valued id value x)) (object_of (with_value xs id value) j) ≡ option_map (valued id value) (cond b (Some x) (object_of xs j))
      go true rest = refl
      go false rest = rest

  ids-same : (objects : List Object) → map (λ o. o.id) (with_value objects id value) ≡ map (λ o. o.id) objects
  ids-same [] = refl
  ids-same (x ∷ xs) = ap (λ i. i ∷ map (λ o. o.id) (with_value xs id value)) (valued-id x) ∙ ap (λ is. x.id ∷ is) (ids-same xs)

  pub distinct-valued : (objects : List Object) → AllPairs HasOtherId objects → AllPairs HasOtherId (with_value objects id value)
  distinct-valued [] h = λ i j d lt within. absurd (omega (arith, within))
  distinct-valued (x ∷ xs) h =
      AllPairs-cons HasOtherId (valued id value x) (with_value xs id value)
      (all_by (HasOtherId (valued id value x)) (with_value xs id value) (λ z there.
      let found = there_mapped (valued id value) xs z there in
      λ same. All-contains (HasOtherId x) xs found.0 (pairs_head HasOtherId x xs h) found.1 (sym (valued-id x) ∙ same ∙ ap (λ o. o.id) (sym found.2) ∙ valued-id found.0)))
      (distinct-valued xs (pairs_tail HasOtherId x xs h))

  sizes-valued : (program : Program) (layouts : Layouts) (o : Object) (size : ℕ) → IsSizeFor program layouts o size → IsSizeFor program layouts (valued id value o) size
  sizes-valued program layouts o size is = go (o.id == id)
    where
      go : (b : Bool) → IsSizeFor program layouts (cond b (record o { value = value }) o) size
      go true = is
      go false = is

  pub places-valued : (program : Program) (layouts : Layouts) (objects : List Object) (places : Places) → ArePlacesOf program layouts objects places → ArePlacesOf program layouts (with_value objects id value) places
  places-valued program layouts objects places laid = record {
    names = laid.names ∙ sym (ids-same objects);
    by_address = laid.by_address;
    rising = laid.rising;
    sound = laid.sound;
    sizes = λ o p there placed same.
        let found = there_mapped (valued id value) objects o there in
        subst (λ x. IsSizeFor program layouts x p.block.size) found.2
        (sizes-valued program layouts found.0 p.block.size (laid.sizes found.0 p found.1 placed (same ∙ ap (λ x. x.id) (sym found.2) ∙ valued-id found.0)));
  }

  module _ (objects : List Object) (o : Object) (there : object_of objects id ≡ Some o) (plain : o.kind ≢ Chars) where
    block-same : (x : Object) (j : ℕ) → object_of objects j ≡ Some x → block_of (valued id value x) ≡ block_of x
    block-same x j e = go (x.id == id) refl
      where
        go : (b : Bool) → (x.id == id) ≡ b → block_of (cond b (record x { value = value }) x) ≡ block_of x
        go false is = refl
        go true is =
            let named : x.id ≡ j = eqb-true x.id j (find_is (λ y. y.id == j) objects x e).1 in
            let here : x.id ≡ id = eqb-true x.id id is in
            let same : x ≡ o = some-same (object_of objects id) x o (subst (λ i. object_of objects i ≡ Some x) (sym named ∙ here) e) there in
            let n : x.kind ≢ Chars = subst (λ y. y.kind ≢ Chars) (sym same) plain in
            ap (λ c. let b : Block = record { kind = x.kind; count = x.count; chars = c } in b) (chars-none x.kind value n ∙ sym (chars-none x.kind x.value n))

    pub valued-more : AreAmong (blocks_of objects) (blocks_of (with_value objects id value))
    valued-more j b e =
        let found = map-some block_of (object_of objects j) b e in
        ap (option_map block_of) (object-valued objects j ∙ ap (option_map (valued id value)) found.1) ∙ ap Some (block-same found.0 j found.1 ∙ found.2)
