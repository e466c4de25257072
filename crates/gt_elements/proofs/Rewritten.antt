-- The graph in which one object has another value.
use Rattle.std.proofs.Common.{◌≡◌, ◌≢◌, ℕ, ◌==◌, Bool, true, false, cond, if◌then◌else◌, List, [], ◌∷◌, Option, Some, None, option_map, map, get_or, refl, ap, sym, subst, ◌∙◌, inl, inr}
use Rattle.std.specs.Prelude.{AllPairs, Contains, find}
use Rattle.std.proofs.Math.Path.{fun_ext}
use Rattle.std.proofs.lemmas.Bool.{cases_Bool, eqb-true}
use Rattle.std.proofs.lemmas.List.Elements.{All-contains_itself, All-map, All-weaker}
use Rattle.std.proofs.lemmas.List.Kept.{AllPairs-cons}
use Rattle.gt_types.specs.declared.program.Program.{Program}
use Rattle.gt_tree.specs.Trees.{Tree}
use Rattle.gt_tree.specs.Blocks.{Kind, Nodes, Pointers, Strings, Chars, Raw, Block}
use Rattle.gt_tree.specs.Fits.{BlockFits, StaticsFit}
use Rattle.gt_graph.specs.Objects.{Object, Graph, object_of, block_of, blocks_of, chars_in}
use Rattle.gt_graph.specs.Changes.{valued, with_value}
use Rattle.gt_graph.specs.Good.{IsGraph, IsObject}
use Rattle.gt_objects.proofs.Added.{pairs_stay}
use Rattle.gt_objects.proofs.Items.{pairs_head, pairs_tail}
use Rattle.gt_objects.proofs.Naming.{object_is}

find_map : {X : Type 0} (f : X → X) (test : X → Bool) → ((x : X) → test (f x) ≡ test x) → (xs : List X) → find test (map f xs) ≡ option_map f (find test xs)
find_map f test same [] = refl
find_map f test same (x ∷ xs) =
    ap (λ b. cond b (Some (f x)) (find test (map f xs))) (same x)
    ∙ ap (λ found. cond (test x) (Some (f x)) found) (find_map f test same xs)
    ∙ into (test x)
  where
    into : (b : Bool) → cond b (Some (f x)) (option_map f (find test xs)) ≡ option_map f (cond b (Some x) (find test xs))
    into true = refl
    into false = refl

module _ (id : ℕ) (value : Tree) where
  -- what does not hang on the value is as before
  kept : {X : Type 0} (f : Object → X) → ((o : Object) → f (record o { value = value }) ≡ f o) → (o : Object) → f (valued id value o) ≡ f o
  kept f same o = elim (cases_Bool (o.id == id)) [
    | inl here ↦ ap (λ b. f (if b then record o { value = value } else o)) here ∙ same o
    | inr other ↦ ap (λ b. f (if b then record o { value = value } else o)) other
  ]

  pub valued_id : (o : Object) → (valued id value o).id ≡ o.id
  valued_id = kept (λ o. o.id) (λ o. refl)

  pub valued_names : (objects : List Object) → map (λ o. o.id) (with_value objects id value) ≡ map (λ o. o.id) objects
  valued_names [] = refl
  valued_names (o ∷ objects) = ap (λ n. n ∷ map (λ o. o.id) (with_value objects id value)) (valued_id o) ∙ ap (λ ns. o.id ∷ ns) (valued_names objects)

  distinct_still : (objects : List Object) → AllPairs (λ o p. o.id ≢ p.id) objects → AllPairs (λ o p. o.id ≢ p.id) (with_value objects id value)
  distinct_still [] pairs = pairs
  distinct_still (o ∷ objects) pairs =
      AllPairs-cons (λ o p. o.id ≢ p.id) (valued id value o) (with_value objects id value)
      (All-map (λ p. (valued id value o).id ≢ p.id) (valued id value) objects
      (All-weaker (λ p. o.id ≢ p.id) (λ p. (valued id value o).id ≢ (valued id value p).id) (λ p differ same. differ (sym (valued_id o) ∙ same ∙ valued_id p)) objects (pairs_head (λ o p. o.id ≢ p.id) o objects pairs)))
      (distinct_still objects (pairs_tail (λ o p. o.id ≢ p.id) o objects pairs))

  module _ (objects : List Object) (plain : (o : Object) → Contains objects o → o.id ≡ id → o.kind ≢ Chars) where
    pub valued_found : (name : ℕ) → object_of (with_value objects id value) name ≡ option_map (valued id value) (object_of objects name)
    valued_found name = find_map (valued id value) (λ o. o.id == name) (λ o. ap (λ n. n == name) (valued_id o)) objects

    no_chars : (kind : Kind) (other : Tree) → kind ≢ Chars → chars_in kind value ≡ chars_in kind other
    no_chars (Nodes node) other differs = refl
    no_chars (Pointers node) other differs = refl
    no_chars Strings other differs = refl
    no_chars Chars other differs = absurd (differs refl)
    no_chars Raw other differs = refl

    same_block : (o : Object) → Contains objects o → block_of (valued id value o) ≡ block_of o
    same_block o there = elim (cases_Bool (o.id == id)) [
      | inl here ↦
          ap (λ b. block_of (if b then record o { value = value } else o)) here
          ∙ ap (λ cs. let x : Block = record { kind = o.kind; count = o.count; chars = cs } in x) (no_chars o.kind o.value (plain o there (eqb-true o.id id here)))
      | inr other ↦ ap (λ b. block_of (if b then record o { value = value } else o)) other
    ]

    block_at : (name : ℕ) → blocks_of (with_value objects id value) name ≡ blocks_of objects name
    block_at name = ap (option_map block_of) (valued_found name) ∙ found (object_of objects name) refl
      where
        found : (o : Option Object) → object_of objects name ≡ o → option_map block_of (option_map (valued id value) o) ≡ option_map block_of o
        found None e = refl
        found (Some o) e = ap (λ b. Some b) (same_block o (object_is objects name o e).0)

    -- pointers see the same blocks
    pub valued_blocks : blocks_of (with_value objects id value) ≡ blocks_of objects
    valued_blocks = fun_ext block_at

module _ (program : Program) (g : Graph) (is : IsGraph program g) (id : ℕ) (value : Tree) (plain : (o : Object) → Contains g.objects o → o.id ≡ id → o.kind ≢ Chars)
    (fits : (o : Object) → Contains g.objects o → o.id ≡ id → BlockFits program (blocks_of g.objects) g.statics o.kind o.count o.capacity value) where
  abbrev after : Graph
  after = record g { objects = with_value g.objects id value }

  same : blocks_of after.objects ≡ blocks_of g.objects
  same = valued_blocks id value g.objects plain

  object_by : (o : Object) → IsObject program g o → (other : Tree) → BlockFits program (blocks_of g.objects) g.statics o.kind o.count o.capacity other → IsObject program after (record o { value = other })
  object_by o was other fit = record {
    may_hold = was.may_hold;
    single_tail = was.single_tail;
    no_room = was.no_room;
    fits = subst (λ bs. BlockFits program bs g.statics o.kind o.count o.capacity other) (sym same) fit;
  }

  object_after : (o : Object) → IsObject program g o → Contains g.objects o → IsObject program after (valued id value o)
  object_after o was there = elim (cases_Bool (o.id == id)) [
    | inl here ↦
        subst (IsObject program after) (sym (ap (λ b. if b then record o { value = value } else o) here)) (object_by o was value (fits o there (eqb-true o.id id here)))
    | inr other ↦ subst (IsObject program after) (sym (ap (λ b. if b then record o { value = value } else o) other)) (object_by o was o.value was.fits)
  ]

  -- the graph is good still
  pub graph_after : IsGraph program after
  graph_after = record {
    distinct = distinct_still id value g.objects is.distinct;
    objects = All-map (IsObject program after) (valued id value) g.objects
        (λ k d low. object_after (get_or g.objects k d) (is.objects k d low) (All-contains_itself g.objects k d low));
    statics = subst (λ bs. StaticsFit program bs g.statics) (sym same) is.statics;
    pairs = pairs_stay g.objects after.objects (λ name b e. ap (λ bs. bs name) same ∙ e) program.caches g.pairs is.pairs;
    few_pairs = is.few_pairs;
  }
