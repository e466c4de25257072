-- How far marking has come: from the roots, and from one more value.
use Rattle.std.proofs.Common.{◌≡◌, ◌∙◌, ◌≤◌, ◌+◌, ◌-◌, ◌⊎◌, ◌↔◌, ℕ, true, false, List, [], ◌∷◌, ◌++◌, map, min, Some, inl, inr, refl, sym, ap, subst, arith}
use Rattle.std.specs.Prelude.{Contains, All, IfSome, IsTrue}
use Rattle.std.proofs.lemmas.Bool.{false≢true}
use Rattle.std.proofs.lemmas.List.Elements.{All-contains, Contains-append_left, Contains-append_right, Contains-append_cases}
use Rattle.gt_types.specs.declared.types.TypeId.{TypeId}
use Rattle.gt_types.specs.declared.program.Program.{Program}
use Rattle.gt_space.specs.Range.{Range}
use Rattle.gt_pages.specs.Slots.{Slot}
use Rattle.gt_pages.specs.Contents.{Contents}
use Rattle.gt_tree.specs.Blocks.{Nodes}
use Rattle.gt_tree.specs.Fits.{static_edges}
use Rattle.gt_graph.specs.Objects.{Object, Graph, object_of, block_of}
use Rattle.gt_graph.specs.Good.{Heap, IsSingle}
use Rattle.gt_objects.specs.declared.objects.Objects.{Objects}
use Rattle.gt_objects.specs.declared.objects.Known.{Known}
use Rattle.gt_objects.specs.Knowing.{IsKnownAt}
use Rattle.gt_graph.specs.Kept.{ReachedWith}
use Rattle.gt_objects.specs.Marks.{is_marked}
use Rattle.gt_objects.proofs.Naming.{object_is, object_of_block}
use Rattle.gt_value.specs.declared.names.BlockKind.{BlockKind}
use Rattle.gt_value.specs.declared.names.BlockKind.TheVariants as told
use Rattle.gt_value.specs.Names.{kind_of}
use Rattle.gt_walk.specs.declared.tables.Tables.{Tables}
use Rattle.gt_mark.specs.Reached.{CanMark, IsOwn, NamesBlock, root_edges, root_targets}
use Rattle.gt_mark.proofs.Further.{can_go_on, marks_both, rounds_both}
use Rattle.gt_mark.specs.Marks.{Marks}
use Rattle.gt_mark.specs.Rounds.{AreRounds}
use Rattle.gt_mark.proofs.Remarked.{contains_cases, contains_head, contains_map_from, contains_none}
use Rattle.gt_edges.specs.Numbers.{walk_of, walked}
use Rattle.gt_tracing.specs.Walked.{by_walk, walked_of, walks_in}
use Rattle.gt_tracing.specs.Traces.{Traces}
use Rattle.gt_tracing.specs.Laws.{AreObjects, NoneIsMarked, StartAt}
use Rattle.gt_tracing.proofs.Blocks.{object_at}
use Rattle.gt_tracing.proofs.Starting.{can_mark}
use Rattle.gt_tracing.proofs.Reaching.{marks_are_reached}
use Rattle.gt_tracing.proofs.Rounds.{rounds_agree}
use Rattle.gt_reach.specs.Following.{IsTraced}
use Rattle.gt_reach.specs.Marking.{AreMarked}

-- ---- the roots

module _ (program : Program) (tables : Tables) (space : Range) (slots : List Slot) (g : Graph) (t : Traces program tables space slots g) where
  -- the roots name objects
  pub roots_named : AreObjects g.objects (root_targets tables space)
  roots_named id has =
      let e = contains_map_from (λ x. x.target) (root_edges tables space) id has in
      let named = All-contains (NamesBlock slots (walks_in program g.objects)) (root_edges tables space) e.0 t.root_names e.1 in
      let o = object_at program tables space slots g t e.0.target named.starts in
      (o.0, o.1, o.2 ∙ e.2)

  pub roots_start : StartAt program g [] (root_targets tables space)
  roots_start id = (
    λ has. inl (subst (λ l. Contains l id) t.roots has),
    λ from. elim from [ inl root ↦ subst (λ l. Contains l id) (sym t.roots) root | inr value ↦ contains_none id value ],
  )

-- marking from the roots is the first step
pub roots_traced : (program : Program) (tables : Tables) (heap : Heap) (before : Contents) (objects : Objects) (space : Range) (times : ℕ) → objects.space ≡ space → NoneIsMarked before.slots
    → Traces program tables space before.slots heap.graph → Marks tables space (walks_in program heap.graph.objects) (root_targets tables space) before objects.pages
    → AreRounds tables space (walks_in program heap.graph.objects) (root_targets tables space) before.slots objects.pages.slots times → IsTraced program tables heap [] objects times
roots_traced program tables heap before objects space times same none t m r = record {
  before = before;
  starts = root_targets tables space;
  unmarked = none;
  traces = subst (λ x. Traces program tables x before.slots heap.graph) (sym same) t;
  start = roots_start program tables space before.slots heap.graph t;
  named = roots_named program tables space before.slots heap.graph t;
  marks = subst (λ x. Marks tables x (walks_in program heap.graph.objects) (root_targets tables space) before objects.pages) (sym same) m;
  rounds = subst (λ x. AreRounds tables x (walks_in program heap.graph.objects) (root_targets tables space) before.slots objects.pages.slots times) (sym same) r;
}

-- ---- one more value

-- a single structure is an object of its kind
pub single_object : (objects : List Object) (id : ℕ) (node : TypeId) → IsSingle objects id node → (o : Object) × (object_of objects id ≡ Some o) × Contains objects o × (o.id ≡ id) × (o.kind ≡ Nodes node) × (o.count ≡ 1)
single_object objects id node single =
    let o = object_of_block objects id single.0 single.1 in
    (o.0, o.1, o.2, o.3, ap (λ b. b.kind) o.4 ∙ single.2, ap (λ b. b.count) o.4 ∙ single.3)

pub single_named : (objects : List Object) (id : ℕ) (node : TypeId) → IsSingle objects id node → AreObjects objects (id ∷ [])
single_named objects id node single other has = elim (contains_cases id other [] has) [
  | inl same ↦ let o = single_object objects id node single in (o.0, o.2, o.3 ∙ same)
  | inr none ↦ contains_none other none
]

-- it is walked by the walk of its structure
pub single_walked : (program : Program) (objects : List Object) (id : ℕ) (node : TypeId) (o : Object) (count : ℕ) → object_of objects id ≡ Some o → o.kind ≡ Nodes node → o.count ≡ count
    → walks_in program objects id ≡ by_walk node.0 count
single_walked program objects id node o count found kind many =
    ap (λ x. Rattle.std.specs.Option.option_map_or (walked_of program) x (by_walk (walk_of program Rattle.gt_tree.specs.Blocks.Chars) 0)) found
    ∙ ap (λ k. by_walk (walk_of program k) (walked k o.count)) kind ∙ ap (by_walk node.0) many

module _ (program : Program) (g : Graph) (values starts : List ℕ) (id : ℕ) where
  -- the starts with one more value
  pub start_more : StartAt program g values starts → StartAt program g (id ∷ values) (starts ++ id ∷ [])
  start_more start other = (
    λ has. elim (Contains-append_cases starts (id ∷ []) other has) [
      | inl before ↦ elim ((start other).0 before) [
        | inl root ↦ inl root
        | inr value ↦ inr (Rattle.gt_mark.proofs.Remarked.contains_tail id other values value)
      ]
      | inr last ↦ elim (contains_cases id other [] last) [
        | inl same ↦ inr (subst (Contains (id ∷ values)) same (contains_head id values))
        | inr none ↦ contains_none other none
      ]
    ],
    λ from. elim from [
      | inl root ↦ Contains-append_left starts (id ∷ []) other ((start other).1 (inl root))
      | inr value ↦ elim (contains_cases id other values value) [
        | inl same ↦ Contains-append_right starts (id ∷ []) other (subst (Contains (id ∷ [])) same (contains_head id []))
        | inr later ↦ Contains-append_left starts (id ∷ []) other ((start other).1 (inr later))
      ]
    ],
  )

pub named_more : (objects : List Object) (starts more : List ℕ) → AreObjects objects starts → AreObjects objects more → AreObjects objects (starts ++ more)
named_more objects starts more first second id has = elim (Contains-append_cases starts more id has) [ inl before ↦ first id before | inr after ↦ second id after ]

-- rounds that are cut off at the end of their type are rounds too
pub cut_rounds : (tables : Tables) (space : Range) (walks : Rattle.gt_mark.specs.Reached.Walks) (starts : List ℕ) (old new : List Slot) (times kept : ℕ) → kept ≡ min times 4294967295
    → AreRounds tables space walks starts old new times → AreRounds tables space walks starts old new kept
cut_rounds tables space walks starts old new times kept is r = record {
  at_least = let least = r.at_least in omega (arith, least, is);
  at_most = let most = r.at_most in omega (arith, most, is);
  one = λ blocks few covers. let single = r.one blocks few covers in omega (arith, single, is);
  more = λ from blocks newly distinct many only. let several = r.more from blocks newly distinct many only in omega (arith, several, is);
}

-- what is known of a single structure
pub known_walked : (program : Program) (objects : List Object) (id : ℕ) (known : Known) (node : TypeId) → IsKnownAt objects id (Some known) → known.kind ≡ told.Nodes node → walks_in program objects id ≡ by_walk node.0 known.count
known_walked program objects id known node at is = single_walked program objects id node at.0 known.count at.1 (at.2.kind ∙ ap kind_of is) at.2.count

kind_not : (k : BlockKind) (node : TypeId) → ((x : TypeId) → k ≡ told.Nodes x → ⊥) → kind_of k ≡ Nodes node → ⊥
kind_not (told.Nodes x) node not e = not x refl
kind_not (told.Pointers x) node not e = cc
kind_not told.Strings node not e = cc
kind_not told.Chars node not e = cc
kind_not told.Raw node not e = cc

some_same : (o p : Object) → Some o ≡ Some p → o ≡ p
some_same o p e = cc

pub known_nodes : (objects : List Object) (id : ℕ) (known : Known) (node : TypeId) → IsKnownAt objects id (Some known) → IsSingle objects id node → ((x : TypeId) → known.kind ≡ told.Nodes x → ⊥) → ⊥
known_nodes objects id known node at single not =
    let o = single_object objects id node single in
    kind_not known.kind node not (sym at.2.kind ∙ ap (λ x. x.kind) (some_same at.0 o.0 (sym at.1 ∙ o.1)) ∙ o.4)

module _ (program : Program) (tables : Tables) (heap : Heap) (values : List ℕ) (old : Objects) (times : ℕ) (t : IsTraced program tables heap values old times) (id : ℕ) (node : TypeId)
    (single : IsSingle heap.graph.objects id node) where
  abbrev starts_can : (starts : List ℕ) → AreObjects heap.graph.objects starts → CanMark tables old.space (walks_in program heap.graph.objects) t.before.slots starts
  starts_can starts objects = can_mark program tables old.space t.before.slots heap.graph t.traces starts t.unmarked objects

  -- marking can go on from one more value
  pub value_can : CanMark tables old.space (walks_in program heap.graph.objects) old.pages.slots (id ∷ [])
  value_can =
      can_go_on tables old.space (walks_in program heap.graph.objects) t.starts (id ∷ []) t.before old.pages (starts_can t.starts t.named)
      (starts_can (id ∷ []) (single_named heap.graph.objects id node single)) t.marks

  pub value_traced : (new : Objects) (more total : ℕ) → new.space ≡ old.space → Marks tables old.space (walks_in program heap.graph.objects) (id ∷ []) old.pages new.pages
      → AreRounds tables old.space (walks_in program heap.graph.objects) (id ∷ []) old.pages.slots new.pages.slots more → total ≡ min (times + (more - 1)) 4294967295
      → IsTraced program tables heap (id ∷ values) new total
  value_traced new more total same last turns is =
      let m = marks_both tables old.space (walks_in program heap.graph.objects) t.starts (id ∷ []) t.before old.pages new.pages t.marks last in
      let r = rounds_both tables old.space (walks_in program heap.graph.objects) t.starts (id ∷ []) t.before old.pages new.pages times more (starts_can t.starts t.named) t.marks last t.rounds turns in
      let some = turns.at_least in record {
        before = t.before;
        starts = t.starts ++ id ∷ [];
        unmarked = t.unmarked;
        traces = subst (λ x. Traces program tables x t.before.slots heap.graph) (sym same) t.traces;
        start = start_more program heap.graph values t.starts id t.start;
        named = named_more heap.graph.objects t.starts (id ∷ []) t.named (single_named heap.graph.objects id node single);
        marks = subst (λ x. Marks tables x (walks_in program heap.graph.objects) (t.starts ++ id ∷ []) t.before new.pages) (sym same) m;
        rounds =
            let sum : times + more - 1 ≡ times + (more - 1) = omega (arith, some) in
            subst (λ x. AreRounds tables x (walks_in program heap.graph.objects) (t.starts ++ id ∷ []) t.before.slots new.pages.slots total) (sym same)
            (cut_rounds tables old.space (walks_in program heap.graph.objects) (t.starts ++ id ∷ []) t.before.slots new.pages.slots (times + more - 1) total (is ∙ ap (λ n. min n 4294967295) (sym sum)) r);
      }

-- ---- what is marked then

module _ (program : Program) (tables : Tables) (heap : Heap) (values : List ℕ) (objects : Objects) (times : ℕ) (t : IsTraced program tables heap values objects times) where
  pub traced_exact : (o : Object) → Contains heap.graph.objects o → IsTrue (is_marked objects o.id) ↔ ReachedWith program heap.graph values o.id
  traced_exact o has = marks_are_reached program tables objects.space heap.graph values t.starts t.before objects.pages o t.traces t.unmarked t.start t.marks has

  -- no block is named
  none_named : AreObjects heap.graph.objects []
  none_named id has = contains_none id has

  -- each mark is its block's own, since marking could go on
  traced_own : (s : Slot) → Contains objects.pages.slots s → IfSome s.mark (IsOwn (walks_in program heap.graph.objects) s.address)
  traced_own =
      let walks = walks_in program heap.graph.objects in
      let from_starts = can_mark program tables objects.space t.before.slots heap.graph t.traces t.starts t.unmarked t.named in
      let from_none = can_mark program tables objects.space t.before.slots heap.graph t.traces [] t.unmarked none_named in
      let on = can_go_on tables objects.space walks t.starts [] t.before objects.pages from_starts from_none t.marks in
      on.marks

  -- exactly what is reached is marked, and the rounds are those that a collection may take
  pub traced_marked : AreMarked program objects heap values times
  traced_marked = record {
    exact = traced_exact;
    own = traced_own;
    rounds = rounds_agree program tables objects.space heap.graph values t.starts t.before objects.pages times t.traces t.unmarked t.start t.marks t.rounds;
  }

  -- the key of a pair is reached where it is marked
  pub key_reached : (key : ℕ) (node : TypeId) → IsSingle heap.graph.objects key node → is_marked objects key ≡ true → ReachedWith program heap.graph values key
  key_reached key node single marked =
      let o = single_object heap.graph.objects key node single in
      subst (ReachedWith program heap.graph values) o.3 ((traced_exact o.0 o.2).0 (ap (is_marked objects) o.3 ∙ marked))

  pub key_unreached : (key : ℕ) (node : TypeId) → IsSingle heap.graph.objects key node → is_marked objects key ≡ false → ¬ ReachedWith program heap.graph values key
  key_unreached key node single unmarked reached =
      let o = single_object heap.graph.objects key node single in
      false≢true (sym unmarked ∙ sym (ap (is_marked objects) o.3) ∙ (traced_exact o.0 o.2).1 (subst (ReachedWith program heap.graph values) (sym o.3) reached))
