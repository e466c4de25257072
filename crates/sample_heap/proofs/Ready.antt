-- What a heap that has passed its tests meets.
use Rattle.std.proofs.Common.{◌≡◌, ℕ, zero, suc, ◌<◌, ◌≤◌, true, false, List, [], ◌∷◌, length, get_or, flat_map, Option, Some, None, is_none, is_some, refl, sym, ap, subst, ◌∙◌, inl, inr, arith}
use Rattle.std.specs.Prelude.{All, Contains, IfSome}
use Rattle.std.proofs.lemmas.Bool.{false≢true}
use Rattle.std.proofs.lemmas.List.Elements.{All-contains, All-cons, All-nil}
use Rattle.gt_space.specs.Range.{Range}
use Rattle.gt_entries.specs.declared.marks.Mark.{Mark}
use Rattle.gt_pages.specs.Slots.{Slot, StartsSome, mark_at}
use Rattle.gt_pages.specs.Contents.{Contents, Rises}
use Rattle.gt_walk.specs.declared.tables.Tables.{Tables}
use Rattle.gt_walk.specs.Rows.{Edge, edges_of}
use Rattle.gt_walk.specs.Sinks.{Took}
use Rattle.gt_mark.specs.Reached.{CanMark, IsMarkedAt, IsOwn, LeadsTo, NamesBlock, Reaches, itself, onward, block_edges, root_edges, root_targets}
use Rattle.gt_mark.specs.Marks.{Marks}
use Rattle.gt_mark.proofs.Remarked.{contains_cases, contains_map_from, contains_none, mark_of_slot, marked_slot, slot_marked}
use Rattle.gt_mark.proofs.Going.{all_from}
use Rattle.gt_mark.proofs.Further.{can_go_on}
use Rattle.gt_mark.proofs.Roots.{flat_from}
use Rattle.sample_heap.specs.declared.edges.EdgeTest.{EdgeTest}
use Rattle.sample_heap.specs.Named.{AllKnown, AllName, CanMarkEach, HasMark, IsReady, NamesMarked, Tests, walked_in, walks_of}

-- ---- the tests of edges

pub all_tested : (known slots : List Slot) (es : List Edge) (m n : EdgeTest) → m.known.now.slots ≡ known → m.pages.now.slots ≡ slots → Took Tests m es n → n.holds ≡ true → (m.holds ≡ true) × AllName known slots es
all_tested known slots [] m n is same took holds = (ap (λ t. t.holds) (sym took) ∙ holds, All-nil (λ e. NamesMarked known slots e.target e.walk e.count))
all_tested known slots (e ∷ es) m n is same took holds =
    let rest = all_tested known slots es took.0 n (ap (λ p. p.slots) took.1.known ∙ is) (ap (λ p. p.slots) took.1.pages ∙ same) took.2 holds in (
      took.1.held rest.0,
      All-cons (λ e. NamesMarked known slots e.target e.walk e.count) e es
          (subst (λ l. NamesMarked l slots e.target e.walk e.count) is (subst (λ l. NamesMarked m.known.now.slots l e.target e.walk e.count) same (took.1.names rest.0))) rest.1,
    )

-- ---- what can be marked

some_mark : (o : Option Mark) → is_some o ≡ true → (m : Mark) × (o ≡ Some m)
some_mark None some = absurd (false≢true some)
some_mark (Some m) some = (m, refl)

module _ (tables : Tables) (space : Range) (known slots : List Slot) (rises : Rises slots) (ready : IsReady tables space known slots) where
  edges_at : (a : ℕ) (k : Mark) → mark_at known a ≡ Some k → block_edges tables space (walks_of known) a ≡ edges_of tables k.walk k.count space a
  edges_at a k is = ap (λ o. edges_of tables (walked_in o).walk (walked_in o).count space a) is

  names_block : (e : Edge) → NamesMarked known slots e.target e.walk e.count → NamesBlock slots (walks_of known) e
  names_block e names = record {
    starts = names.starts;
    walk = sym (ap (λ o. (walked_in o).walk) names.marked.has.is ∙ names.marked.same_walk);
    count = sym (ap (λ o. (walked_in o).count) names.marked.has.is ∙ names.marked.same_count);
  }

  -- the edges of a block with a mark in the second heap
  known_edges : (a : ℕ) → is_some (mark_at known a) ≡ true → AllName known slots (block_edges tables space (walks_of known) a)
  known_edges a some =
      let k = some_mark (mark_at known a) some in
      subst (AllName known slots) (sym (edges_at a k.0 k.1)) (ready.are_named a k.0 k.1)

  reaches_known : (from to : ℕ) → is_some (mark_at known from) ≡ true → Reaches tables space (walks_of known) from to → is_some (mark_at known to) ≡ true
  reaches_known from to some itself = some
  reaches_known from to some (onward {through = through} leads rest) =
      let e : Edge = leads.0 in
      let names = All-contains (λ e. NamesMarked known slots e.target e.walk e.count) (block_edges tables space (walks_of known) from) e (known_edges from some) leads.1 in
      reaches_known through to (ap (λ a. is_some (mark_at known a)) (sym leads.2) ∙ ap is_some names.marked.has.is) rest

  own_marks : (s : Slot) → Contains slots s → (mark : Option Mark) → s.mark ≡ mark → IfSome mark (IsOwn (walks_of known) s.address)
  own_marks s there None is = tt
  own_marks s there (Some m) is =
      let k = ready.are_known s.address m (mark_of_slot slots rises s there ∙ is) in
      record {
        walk = sym (ap (λ o. (walked_in o).walk) k.has.is ∙ k.same_walk);
        count = sym (ap (λ o. (walked_in o).count) k.has.is ∙ k.same_count);
      }

  closed_marks : (from to : ℕ) → IsMarkedAt slots from → LeadsTo tables space (walks_of known) from to → IsMarkedAt slots to
  closed_marks from to at leads =
      let m = some_mark (mark_at slots from) (slot_marked slots rises from at) in
      let k = ready.are_known from m.0 m.1 in
      let same : block_edges tables space (walks_of known) from ≡ edges_of tables m.0.walk m.0.count space from =
      edges_at from k.mark k.has.is ∙ ap (λ w. edges_of tables w k.mark.count space from) k.same_walk ∙ ap (λ n. edges_of tables m.0.walk n space from) k.same_count in
      let names = All-contains (λ e. NamesMarked slots slots e.target e.walk e.count) (edges_of tables m.0.walk m.0.count space from) leads.0 (ready.are_closed from m.0 m.1) (subst (λ l. Contains l leads.0) same leads.1) in
      marked_slot slots to (ap (λ a. is_some (mark_at slots a)) (sym leads.2) ∙ ap is_some names.marked.has.is)

  pub can_from : (starts : List ℕ) → ((a : ℕ) → Contains starts a → StartsSome slots a) → ((a : ℕ) → Contains starts a → is_some (mark_at known a) ≡ true) → CanMark tables space (walks_of known) slots starts
  can_from starts begin known_starts = record {
    marks = λ s there. own_marks s there s.mark refl;
    closed = closed_marks;
    starts_block = all_from (StartsSome slots) starts begin;
    edges = λ a reached _. all_from (NamesBlock slots (walks_of known)) (block_edges tables space (walks_of known) a) (λ e there.
        names_block e (All-contains (λ e. NamesMarked known slots e.target e.walk e.count) (block_edges tables space (walks_of known) a) e
        (known_edges a (reaches_known reached.0 a (known_starts reached.0 reached.1) reached.2)) there));
  }

  module _ (named : AllName known slots (root_edges tables space)) where
    root_names : (a : ℕ) → Contains (root_targets tables space) a → (e : Edge) × NamesMarked known slots e.target e.walk e.count × (e.target ≡ a)
    root_names a there =
        let e = contains_map_from (λ e. e.target) (root_edges tables space) a there in
        (e.0, All-contains (λ e. NamesMarked known slots e.target e.walk e.count) (root_edges tables space) e.0 named e.1, e.2)

    pub can_roots : CanMark tables space (walks_of known) slots (root_targets tables space)
    can_roots = can_from (root_targets tables space)
        (λ a there. let n = root_names a there in subst (StartsSome slots) n.2 n.1.starts)
        (λ a there. let n = root_names a there in ap (λ x. is_some (mark_at known x)) (sym n.2) ∙ ap is_some n.1.marked.has.is)

    pub roots_name : All (NamesBlock slots (walks_of known)) (root_edges tables space)
    roots_name = all_from (NamesBlock slots (walks_of known)) (root_edges tables space) (λ e there.
        names_block e (All-contains (λ e. NamesMarked known slots e.target e.walk e.count) (root_edges tables space) e named there))

-- ---- blocks and roots, one after another

pub known_some : (slots : List Slot) (a : ℕ) (o : Option Mark) → IfSome o (HasMark slots a) → is_none o ≡ false → is_some (mark_at slots a) ≡ true
known_some slots a None has some = absurd (false≢true (sym some))
known_some slots a (Some m) has some = ap is_some has.is

get_or_same : (xs : List ℕ) (i a b : ℕ) → i < length xs → get_or xs i a ≡ get_or xs i b
get_or_same [] i a b low = absurd (let no : 1 ≤ 0 = omega (arith, low) in omega (arith, no))
get_or_same (x ∷ xs) zero a b low = refl
get_or_same (x ∷ xs) (suc i) a b low = get_or_same xs i a b (omega (arith, low))

pub each_known : (known slots : List Slot) (items : List ℕ) → ((i : ℕ) → i < length items → StartsSome slots (get_or items i 0) × (is_some (mark_at known (get_or items i 0)) ≡ true)) → AllKnown known slots items
each_known known slots items each a there =
    let at = each there.0 there.1 in
    let same : get_or items there.0 0 ≡ a = get_or_same items there.0 0 a there.1 ∙ there.2 in
    (subst (StartsSome slots) same at.0, ap (λ x. is_some (mark_at known x)) (sym same) ∙ at.1)

pub all_roots : (tables : Tables) (space : Range) (known slots : List Slot) (items : List ℕ) → items ≡ tables.roots → ((i : ℕ) → i < length items → AllName known slots (edges_of tables (get_or items i 0) 1 space 0)) → AllName known slots (root_edges tables space)
all_roots tables space known slots items is each =
    subst (λ l. AllName known slots (flat_map (λ walk. edges_of tables walk 1 space 0) l)) is
    (all_from (λ e. NamesMarked known slots e.target e.walk e.count) (flat_map (λ walk. edges_of tables walk 1 space 0) items) (λ e there.
    let at = flat_from (λ walk. edges_of tables walk 1 space 0) items e 0 there in
    All-contains (λ e. NamesMarked known slots e.target e.walk e.count) (edges_of tables (get_or items at.0 0) 1 space 0) e (each at.0 at.1) at.2))

pub can_each : (tables : Tables) (space : Range) (known slots : List Slot) (items : List ℕ) → Rises slots → AllKnown known slots items → IsReady tables space known slots → CanMarkEach tables space known slots items
can_each tables space known slots items rises all ready a there =
    let at = all a there in
    can_from tables space known slots rises ready (a ∷ [])
    (λ b in-b. elim (contains_cases a b [] in-b) [ inl is ↦ subst (StartsSome slots) is at.0 | inr no-one ↦ contains_none b no-one ])
    (λ b in-b. elim (contains_cases a b [] in-b) [ inl is ↦ ap (λ x. is_some (mark_at known x)) (sym is) ∙ at.1 | inr no-one ↦ contains_none b no-one ])

-- a block can be marked from after another
pub can_still : (tables : Tables) (space : Range) (known : List Slot) (items : List ℕ) (start : ℕ) (old new : Contents) → CanMarkEach tables space known old.slots items → CanMark tables space (walks_of known) old.slots (start ∷ []) → Marks tables space (walks_of known) (start ∷ []) old new → CanMarkEach tables space known new.slots items
can_still tables space known items start old new can from marks a there = can_go_on tables space (walks_of known) (start ∷ []) (a ∷ []) old new from (can a there) marks
