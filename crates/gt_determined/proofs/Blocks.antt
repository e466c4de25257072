-- A good state stays good where a block is made and bound.
use Rattle.std.proofs.Common.{◌≡◌, ℕ, suc, ◌<◌, false, List, [], ◌∷◌, length, refl, ap, sym, subst, ◌∙◌, Option, Some}
use Rattle.std.specs.Prelude.{◌≢◌, ◌≤◌, ◌==◌, ℤ, All, option_map}
use Rattle.std.proofs.lemmas.Bool.{eqb-true, eq-eqb, ne_eqb, lt-ltb}
use Rattle.std.proofs.lemmas.List.Elements.{All-contains, All-head, All-tail, All-weaker}
use Rattle.gt_types.specs.declared.types.TypeId.{TypeId}
use Rattle.gt_types.specs.declared.program.Program.{Program}
use Rattle.gt_layout.specs.declared.planes.Layouts.{Layouts}
use Rattle.gt_space.specs.declared.TheConstants.{MIN_PAGES, MAX_PAGES}
use Rattle.gt_script.specs.declared.command.TypeName.{TypeName}
use Rattle.gt_tree.specs.Trees.{Tree, count}
use Rattle.gt_tree.specs.Blocks.{Kind, Nodes, Chars, Raw, element_type}
use Rattle.gt_tree.specs.Scopes.{outside}
use Rattle.gt_tree.specs.Fits.{Fits, EachFits, EndsInZero, BlockFits}
use Rattle.gt_tree.specs.FixedLaws.{MayHold}
use Rattle.gt_graph.specs.Objects.{Object, Graph, object_of, block_of, blocks_of}
use Rattle.gt_graph.specs.Places.{Placed}
use Rattle.gt_graph.specs.Changes.{Makes, characters}
use Rattle.gt_graph.specs.Good.{IsOfTails, IsObject, IsGraph}
use Rattle.gt_objects.proofs.Growing.{AreAmong, block_more, fields_more}
use Rattle.gt_objects.proofs.Inserted.{new_there, all_inserted, find_inserted, pairs_inserted}
use Rattle.gt_objects.proofs.Items.{find_is, find_some}
use Rattle.gt_next.specs.declared.answer.Answer.{Answer}
use Rattle.gt_next.specs.States.{State, with_variable, IsFullOfVariables, IsGoodState}
use Rattle.gt_next.specs.Making.{Wanted, wanted, Contents, zeros, text, Binds, HasCapacity, NextNew, NextArray, NextText, NextBlock}
use Rattle.gt_determined.proofs.Standings.{map-some}
use Rattle.gt_determined.proofs.Arrays.{kind-may}
use Rattle.gt_determined.proofs.Bound.{bound-one, bound-few}
use Rattle.gt_determined.proofs.Graphs.{HasOtherId, graph-more}

-- an object may be in a graph: it may stand there, and its value fits
pub record MayBe (program : Program) (g : Graph) (kind : Kind) (n capacity : ℕ) (value : Tree) : Type 0 where
  pub may_hold : MayHold program kind
  pub single_tail : IsOfTails program kind → n ≡ 1
  pub no_room : ¬ IsOfTails program kind → capacity ≡ 0
  pub fits : BlockFits program (blocks_of g.objects) g.statics kind n capacity value

module _ (program : Program) (layouts : Layouts) (s : State) (good : IsGoodState program layouts s) (var : List ℕ) where
  module _ (o : Object) (p : Placed) (t : State) (m : Makes program layouts s.heap o p t.heap) where
    -- the objects of before are there
    object-more : (j : ℕ) (x : Object) → object_of s.heap.graph.objects j ≡ Some x → object_of t.heap.graph.objects j ≡ Some x
    object-more j x e =
        let found = find_is (λ y. y.id == j) s.heap.graph.objects x e in
        let other = All-contains (λ y. y.id ≢ o.id) s.heap.graph.objects x m.new_name found.0 in
        let fails : (o.id == j) ≡ false = ne_eqb o.id j (λ h. other (eqb-true x.id j found.1 ∙ sym h)) in
        find_inserted o s.heap.graph.objects t.heap.graph.objects m.objects (λ y. y.id == j) fails ∙ e

    more : AreAmong (blocks_of s.heap.graph.objects) (blocks_of t.heap.graph.objects)
    more j b e = let x = map-some block_of (object_of s.heap.graph.objects j) b e in ap (option_map block_of) (object-more j x.0 x.1) ∙ ap Some x.2

    abbrev after : Graph
    after = record s.heap.graph { objects = t.heap.graph.objects }

    grown : (x : Object) → IsObject program s.heap.graph x → IsObject program after x
    grown x is = record {
      may_hold = is.may_hold;
      single_tail = is.single_tail;
      no_room = is.no_room;
      fits = block_more (blocks_of s.heap.graph.objects) (blocks_of t.heap.graph.objects) more program s.heap.graph.statics x.kind x.count x.capacity x.value is.fits;
    }

    made-good : MayBe program s.heap.graph o.kind o.count o.capacity o.value → ¬ IsFullOfVariables s.variables var → t ≡ record s { heap = t.heap; variables = with_variable s.variables var o.id } → IsGoodState program layouts t
    made-good may free e =
        let old = s.heap.graph in
        let there = find_some (λ y. y.id == o.id) t.heap.graph.objects o (new_there o old.objects t.heap.graph.objects m.objects) (eq-eqb o.id o.id refl) in
        let pages : t.heap.places.pages ≡ s.heap.places.pages = ap (λ x. x.pages) m.rest in
        let graph : IsGraph program after = graph-more program old t.heap.graph.objects old.statics good.heap.graph more
        (pairs_inserted HasOtherId o old.objects t.heap.graph.objects m.objects (λ y n h. n (sym h)) (λ y c h. All-contains (λ z. z.id ≢ o.id) old.objects y m.new_name c (sym h)) good.heap.graph.distinct)
        (all_inserted o old.objects t.heap.graph.objects m.objects (IsObject program after)
        (grown o (record { may_hold = may.may_hold; single_tail = may.single_tail; no_room = may.no_room; fits = may.fits }))
        (All-weaker (IsObject program old) (IsObject program after) (λ x is. grown x is) old.objects good.heap.graph.objects))
        (fields_more (blocks_of old.objects) (blocks_of t.heap.graph.objects) more good.heap.graph.statics) in
        subst (λ x. IsGoodState program layouts x) (sym e)
        (record {
          heap = record { graph = subst (λ x. IsGraph program x) (sym m.graph) graph; places = m.laid };
          variables = bound-one t.heap.graph.objects s.variables var o.id there.0 there.1 (λ name j is. let x = good.variables name j is in (x.0, object-more j x.0 x.1));
          few_variables = bound-few s.variables var o.id good.few_variables free;
          pages = subst (λ n. (MIN_PAGES ≤ n) × (n ≤ MAX_PAGES)) (sym pages) good.pages;
          min_expand = good.min_expand;
          min_heapsize = good.min_heapsize;
          last = good.last;
        })

  binds-good : (w : Wanted) (contents : Contents) → ((v : Tree) → contents v → MayBe program s.heap.graph w.kind w.count w.capacity v) → (a : Answer) (t : State) → Binds program layouts s var w contents a t → IsGoodState program layouts t
  binds-good w contents may a t (Binds.too_many full) = good
  binds-good w contents may a t (Binds.full free needs round none) = good
  binds-good w contents may a t (Binds.made {o} {placed} {t = u} free k n c v m e) =
      made-good o placed u m
      (subst (λ x. MayBe program s.heap.graph x o.count o.capacity o.value) (sym k)
      (subst (λ x. MayBe program s.heap.graph w.kind x o.capacity o.value) (sym n) (subst (λ x. MayBe program s.heap.graph w.kind w.count x o.value) (sym c) (may o.value v))))
      free e

  -- ---- new and array

  capacity-none : (node : TypeId) (n : Option ℤ) (c : ℕ) → HasCapacity program node n c → ¬ IsOfTails program (Nodes node) → c ≡ 0
  capacity-none node n c (HasCapacity.given tail) plain = absurd (plain (node, refl, tail))
  capacity-none node n c HasCapacity.none_given plain = refl
  capacity-none node n c (HasCapacity.no_tail none) plain = refl

  pub new-good : (type : TypeName) (n : Option ℤ) (a : Answer) (t : State) → NextNew program layouts s var type n a t → IsGoodState program layouts t
  new-good type n a t (NextNew.no_type none) = good
  new-good type n a t (NextNew.negative names is less) = good
  new-good type n a t (NextNew.too_large names whole room large) = good
  new-good type n a t (NextNew.shape names whole room small shape) = good
  new-good type n a t (NextNew.binds {node} {capacity} {answer} {t = u} names whole room small well makes) =
      binds-good (wanted (Nodes node) 1 capacity) (zeros program s (wanted (Nodes node) 1 capacity))
      (λ v z. record { may_hold = kind-may names; single_tail = λ _. refl; no_room = capacity-none node n capacity room; fits = z.fits }) answer u makes

  pub array-good : (type : TypeName) (n : ℤ) (a : Answer) (t : State) → NextArray program layouts s var type n a t → IsGoodState program layouts t
  array-good type n a t (NextArray.no_type none) = good
  array-good type n a t (NextArray.negative k less) = good
  array-good type n a t (NextArray.tails k whole tails) = good
  array-good type n a t (NextArray.too_large k is plain large) = good
  array-good type n a t (NextArray.binds {kind} {count} {answer} {t = u} k is plain small makes) =
      binds-good (wanted kind count 0) (zeros program s (wanted kind count 0)) (λ v z. record { may_hold = kind-may k; single_tail = λ tails. absurd (plain tails); no_room = λ _. refl; fits = z.fits }) answer u makes

  -- ---- string and block

  characters-fit : (bytes : List ℕ) → All (λ byte. byte < 256) bytes → EachFits program (blocks_of s.heap.graph.objects) 0 (outside s.heap.graph.statics) (element_type program Chars) (characters bytes)
  characters-fit [] small = EachFits.one_more (Fits.number refl) EachFits.no_more
  characters-fit (byte ∷ bytes) small = EachFits.one_more (Fits.number (lt-ltb byte 256 (All-head (λ b. b < 256) byte bytes small))) (characters-fit bytes (All-tail (λ b. b < 256) byte bytes small))

  as-many : (bytes : List ℕ) → count (characters bytes) ≡ suc (length bytes)
  as-many [] = refl
  as-many (byte ∷ bytes) = ap suc (as-many bytes)

  ends-zero : (bytes : List ℕ) → EndsInZero (characters bytes)
  ends-zero [] = refl
  ends-zero (byte ∷ []) = refl
  ends-zero (byte ∷ next ∷ bytes) = ends-zero (next ∷ bytes)

  pub text-good : (bytes : List ℕ) → All (λ byte. byte < 256) bytes → (a : Answer) (t : State) → NextText program layouts s var bytes a t → IsGoodState program layouts t
  text-good bytes small a t (NextText.too_large large) = good
  text-good bytes small a t (NextText.binds {answer} {t = u} fits makes) =
      binds-good (wanted Chars (suc (length bytes)) 0) (text bytes)
      (λ v e. record {
        may_hold = tt;
        single_tail = λ tails. let is = tails.1 in absurd (cc);
        no_room = λ _. refl;
        fits = record { trees = characters bytes; row = e; as_many = as-many bytes; each = characters-fit bytes small; ends = ends-zero bytes };
      })
      answer u makes

  pub block-good : (n : ℤ) (a : Answer) (t : State) → NextBlock program layouts s var n a t → IsGoodState program layouts t
  block-good n a t (NextBlock.negative less) = good
  block-good n a t (NextBlock.too_large is large) = good
  block-good n a t (NextBlock.binds {count} {answer} {t = u} is small makes) =
      binds-good (wanted Raw count 0) (zeros program s (wanted Raw count 0)) (λ v z. record { may_hold = tt; single_tail = λ tails. let e = tails.1 in absurd (cc); no_room = λ _. refl; fits = z.fits }) answer u makes
