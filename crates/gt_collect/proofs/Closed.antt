-- What the marks of a collection leave marked leads to marked objects alone, once deletable roots are null; and what a sweep leaves then.
use Rattle.std.proofs.Common.{◌≡◌, ◌≢◌, ℕ, ◌+◌, cond, List, [], ◌∷◌, Some, length, refl, ap, sym, subst, ◌∙◌, inl, inr, arith}
use Rattle.std.specs.Prelude.{IsTrue, All, AllPairs, Contains}
use Rattle.std.specs.List.{AllZip}
use Rattle.std.proofs.lemmas.Bool.{eq-eqb, ne_eqb}
use Rattle.std.proofs.lemmas.List.Elements.{All-contains, All-weaker}
use Rattle.gt_types.specs.declared.program.Program.{Program}
use Rattle.gt_layout.specs.declared.planes.Layouts.{Layouts}
use Rattle.gt_tree.specs.Trees.{edges, all_edges}
use Rattle.gt_tree.specs.Blocks.{Block}
use Rattle.gt_graph.specs.Objects.{Object, Graph, object_of, blocks_of, pairs_in}
use Rattle.gt_graph.specs.Good.{ArePairsOf, Heap, IsObject}
use Rattle.gt_graph.specs.Kept.{PointsTo, ReachedFrom, ReachedWith, without_deletable}
use Rattle.gt_graph.specs.Rounds.{IsOnlyFrom}
use Rattle.gt_objects.specs.declared.objects.Objects.{Objects}
use Rattle.gt_objects.specs.Holding.{IsHeapOf}
use Rattle.gt_objects.specs.Marks.{IsClosed, is_marked, marked_in, swept}
use Rattle.gt_objects.proofs.Items.{all_by, none_there, pairs_head, pairs_tail, there_cases}
use Rattle.gt_objects.proofs.Naming.{object_of_block}
use Rattle.gt_caches.specs.Pairs.{Entries, staying, with_pairs}
use Rattle.gt_reach.specs.Marking.{IsKept}
use Rattle.gt_collect.specs.Collecting.{AreCounted, IsCollected, cleared_heap}
use Rattle.gt_collect.specs.Finishing.{CanFinish, finished_heap}
use Rattle.gt_collect.proofs.Cleared.{cleared_edges, each_named, static_named}
use Rattle.gt_collect.proofs.Staying.{are_pairs, caches_lead, pairs_marked}

-- one pointer further
reached_on : {g : Graph} {from through to : ℕ} → ReachedFrom g from through → PointsTo g through to → ReachedFrom g from to
reached_on ReachedFrom.itself points = ReachedFrom.onward points ReachedFrom.itself
reached_on (ReachedFrom.onward first rest) points = ReachedFrom.onward first (reached_on rest points)

-- by its name an object is found itself
found_itself : (objects : List Object) (o : Object) → AllPairs (λ p q. p.id ≢ q.id) objects → Contains objects o → object_of objects o.id ≡ Some o
found_itself [] o pairs there = none_there o there
found_itself (p ∷ objects) o pairs there = elim (there_cases p objects o there) as (λ _. object_of (p ∷ objects) o.id ≡ Some o) [
  | inl same ↦ ap (λ b. cond b (Some p) (object_of objects o.id)) (eq-eqb p.id o.id (ap (λ x. x.id) same)) ∙ ap (λ x. Some x) same
  | inr later ↦
      ap (λ b. cond b (Some p) (object_of objects o.id)) (ne_eqb p.id o.id (All-contains (λ q. p.id ≢ q.id) objects o (pairs_head (λ p q. p.id ≢ q.id) p objects pairs) later))
      ∙ found_itself objects o (pairs_tail (λ p q. p.id ≢ q.id) p objects pairs) later
]

-- ---- the marks of a collection

module _ (program : Program) (layouts : Layouts) (objects : Objects) (heap : Heap) (is : IsHeapOf program layouts objects heap) (caches : Entries) (rounds : ℕ)
    (is_kept : IsKept program objects caches heap rounds) where
  -- a block that is reached is marked
  reached_marked : (id : ℕ) (b : Block) → blocks_of heap.graph.objects id ≡ Some b → ReachedWith program heap.graph is_kept.values id → IsTrue (is_marked objects id)
  reached_marked id b e reached =
      let o = object_of_block heap.graph.objects id b e in
      subst (λ n. IsTrue (is_marked objects n)) o.3 ((is_kept.marked.exact o.0 o.2).1 (subst (ReachedWith program heap.graph is_kept.values) (sym o.3) reached))

  pub can_finish : CanFinish program objects caches heap
  can_finish = record {
    values = is_kept.values;
    stay = is_kept.stay;
    kept = λ o there reached. (is_kept.marked.exact o there).1 reached;
    lead = λ o there stays. all_by (λ id. IsTrue (is_marked objects id)) (edges o.value) (λ id leads.
        let is_object = All-contains (IsObject program heap.graph) heap.graph.objects o is.good.graph.objects there in
        let reached = (is_kept.marked.exact o there).0 stays in
        let its = each_named is_object.fits.each id (subst (λ t. Contains (edges t) id) is_object.fits.row leads) in
        reached_marked id its.0 its.1 (reached.0, reached.1, reached_on reached.2 (o, found_itself heap.graph.objects o is.good.graph.distinct there, leads)));
  }

  still_only : (from : Object) (ids : List ℕ) → All (IsOnlyFrom program heap.graph (finished_heap program objects caches heap).graph is_kept.values from) ids
      → All (IsOnlyFrom program heap.graph (record heap.graph { objects = marked_in objects heap.graph.objects }) is_kept.values from) ids
  still_only from ids only =
      All-weaker (IsOnlyFrom program heap.graph (finished_heap program objects caches heap).graph is_kept.values from)
      (IsOnlyFrom program heap.graph (record heap.graph { objects = marked_in objects heap.graph.objects }) is_kept.values from)
      (λ id is. record { leads = is.leads; no_root = is.no_root; no_value = is.no_value; no_other = is.no_other }) ids only

  pub collected : (kept freed dropped : ℕ) → AreCounted heap (finished_heap program objects caches heap) kept freed dropped → IsCollected program heap (finished_heap program objects caches heap) kept freed dropped rounds
  collected kept freed dropped counts = record {
    after = record {
      values = is_kept.values;
      stay = is_kept.stay;
      kept = is_marked objects;
      exact = is_kept.marked.exact;
      objects = refl;
      statics = refl;
      places = refl;
    };
    counts = counts;
    rounds = record {
      at_least = is_kept.marked.rounds.at_least;
      at_most = is_kept.marked.rounds.at_most;
      one = is_kept.marked.rounds.one;
      more = λ from ids there distinct many only. is_kept.marked.rounds.more from ids there distinct many (still_only from ids only);
    };
  }

-- ---- what the end of a collection leaves

module _ (program : Program) (layouts : Layouts) (before objects : Objects) (same : objects.pages ≡ before.pages) (heap : Heap) (is : IsHeapOf program layouts before heap) (caches : Entries)
    (can : CanFinish program before caches heap) where
  -- the heap that is swept: deletable roots are null in it, and dropped pairs are gone
  abbrev pub settled_heap : Heap
  settled_heap = with_pairs (cleared_heap program heap) (staying caches)

  -- the pairs that stay are pairs of their caches
  pub pairs_are : AllZip (ArePairsOf heap.graph.objects) program.caches (staying caches)
  pairs_are = are_pairs program heap.graph heap.graph.objects program.caches can.stay is.good.graph.pairs

  -- a block that is reached is marked
  named_marked : (id : ℕ) (b : Block) → blocks_of heap.graph.objects id ≡ Some b → ReachedWith program heap.graph can.values id → IsTrue (is_marked before id)
  named_marked id b e reached =
      let o = object_of_block heap.graph.objects id b e in
      subst (λ n. IsTrue (is_marked before n)) o.3 (can.kept o.0 o.2 (subst (ReachedWith program heap.graph can.values) (sym o.3) reached))

  closed_before : IsClosed before settled_heap.graph
  closed_before = record {
    objects_lead = can.lead;
    roots_lead = all_by (λ id. IsTrue (is_marked before id)) (all_edges (without_deletable program.roots heap.graph.statics)) (λ id leads.
        let root = cleared_edges program.roots heap.graph.statics is.good.graph.statics id leads in
        let its = static_named program.roots heap.graph.statics is.good.graph.statics id root in
        named_marked id its.0 its.1 (id, inl root, ReachedFrom.itself));
    pairs_lead =
        pairs_marked program heap.graph (is_marked before) can.values heap.graph.objects named_marked program.caches (staying caches) pairs_are
        (caches_lead program heap.graph can.stay can.values (λ id has. has));
  }

  -- the marks are those of the pages, which are the same
  same_mark : (id : ℕ) → is_marked objects id ≡ is_marked before id
  same_mark id = ap (λ p. is_marked (record before { pages = p }) id) same

  abbrev Marked : Objects → ℕ → Type 0
  Marked holder id = IsTrue (is_marked holder id)

  still : (ids : List ℕ) → All (Marked before) ids → All (Marked objects) ids
  still ids all = All-weaker (Marked before) (Marked objects) (λ id marked. subst IsTrue (sym (same_mark id)) marked) ids all

  abbrev Both : Objects → ℕ × ℕ → Type 0
  Both holder pair = IsTrue (is_marked holder pair.0) × IsTrue (is_marked holder pair.1)

  still_pairs : (pairs : List (ℕ × ℕ)) → All (Both before) pairs → All (Both objects) pairs
  still_pairs pairs all = All-weaker (Both before) (Both objects) (λ pair marked. (subst IsTrue (sym (same_mark pair.0)) marked.0, subst IsTrue (sym (same_mark pair.1)) marked.1)) pairs all

  pub closed : IsClosed objects settled_heap.graph
  closed = record {
    objects_lead = λ o there stays. still (edges o.value) (closed_before.objects_lead o there (subst IsTrue (same_mark o.id) stays));
    roots_lead = still (all_edges (without_deletable program.roots heap.graph.statics)) closed_before.roots_lead;
    pairs_lead = All-weaker (λ pairs. All (Both before) pairs) (λ pairs. All (Both objects) pairs) still_pairs (staying caches) closed_before.pairs_lead;
  }

  pub same_swept : swept objects settled_heap ≡ finished_heap program before caches heap
  same_swept = ap (λ p. swept (record before { pages = p }) settled_heap) same

  pub counted : (kept freed dropped : ℕ) → kept ≡ length (swept objects settled_heap).graph.objects → freed + length (marked_in objects settled_heap.graph.objects) ≡ length heap.graph.objects
      → pairs_in (staying caches) + dropped ≡ pairs_in heap.graph.pairs → AreCounted heap (finished_heap program before caches heap) kept freed dropped
  counted kept freed dropped many rest gone = record {
    kept_count = many ∙ ap (λ h. length h.graph.objects) same_swept;
    freed_count = omega (arith, many, rest);
    dropped_count = gone;
  }
