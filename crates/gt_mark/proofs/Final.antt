-- How marking begins, and what it leaves at the end.
use Rattle.std.proofs.Common.{◌≡◌, ℕ, suc, ◌+◌, ◌<◌, ◌≤◌, Bool, true, false, cond, List, [], ◌∷◌, length, map, count_by, Option, Some, None, is_some, is_none, refl, sym, ap, subst, ◌∙◌, inl, inr, arith}
use Rattle.std.specs.Prelude.{All, Contains, option_map, nat_eq}
use Rattle.std.specs.List.{IsDistinct}
use Rattle.std.proofs.lemmas.Bool.{cases_Bool, false≢true}
use Rattle.std.proofs.lemmas.List.Elements.{All-nil, All-cons, All-head, All-contains}
use Rattle.gt_space.specs.Range.{Range}
use Rattle.gt_space.specs.declared.TheConstants.{HEAP_START}
use Rattle.gt_entries.specs.declared.marks.Mark.{Mark}
use Rattle.gt_entries.specs.Cells.{has_pending}
use Rattle.gt_pages.specs.Ledger.{page_address}
use Rattle.gt_pages.specs.Slots.{Slot, StartsSome, block_of, is_marked, is_pending, is_unmarked, mark_at, walked, with_mark}
use Rattle.gt_pages.specs.Contents.{Contents, AreLaidOut, ledger_of, with_slots}
use Rattle.gt_walk.specs.declared.tables.Tables.{Tables}
use Rattle.gt_walk.specs.Rows.{Edge}
use Rattle.gt_walk.specs.Sinks.{Took}
use Rattle.gt_mark.specs.declared.marker.Marker.{Marker}
use Rattle.gt_mark.specs.declared.spans.Span.{Span}
use Rattle.gt_mark.specs.declared.stack.Block.{Block}
use Rattle.gt_mark.specs.Reached.{Walks, CanMark, IsReached, Reaches, itself, onward, block_edges}
use Rattle.gt_mark.specs.Marks.{Marks, mark_after, own_mark}
use Rattle.gt_mark.specs.Rounds.{AreRounds, IsNamedAside, IsNewlyMarked, IsOnlyFrom}
use Rattle.gt_mark.specs.Steps.{State, Task, Ends, Fits, Goes, Holds, IsLeft, Leaves, Lessens, Suits, TakesEdge, Waits, known, next, pushed, lost, marked_pages, one_if, place_of, postponed_pages, remarked, start_state, state_of, with_targets}
use Rattle.gt_mark.proofs.Remarked.{contains_head, contains_map, contains_none, contains_tail, count_cons, mark_of_slot, remarked_same}
use Rattle.gt_mark.proofs.Losing.{loses}
use Rattle.gt_mark.proofs.Going.{closed_before, marked_before, none_from, own_as, own_of, reaches_on, some_still, suits_named, suits_on, walked_done}
use Rattle.gt_mark.proofs.Blocks.{taken_all, took_reference, took_states}
use Rattle.gt_mark.proofs.Steps.{no_place}
use Rattle.gt_mark.proofs.Decide.{settle_from}

abbrev addr_of : Option Block → Option ℕ
addr_of o = option_map (λ b. b.addr) o

-- ---- the task

pub above_zero : (before : Contents) → AreLaidOut before → (s : Slot) → Contains before.slots s → 0 < s.address
above_zero before laid s there =
    let in-space = All-contains (λ b. (HEAP_START ≤ b.address) × (b.address + b.size ≤ page_address (ledger_of before).pages)) (ledger_of before).blocks (block_of s) laid.sound.in_space (contains_map block_of before.slots s there) in
    omega (arith, in-space.0)

abbrev pub task_of : (tables : Tables) (space : Range) (walks : Walks) (starts : List ℕ) (before : Contents) → CanMark tables space walks before.slots starts → AreLaidOut before → Task tables space
task_of tables space walks starts before can laid = record {
  walks = walks;
  starts = starts;
  before = before;
  can = can;
  rises = laid.rising;
  positive = above_zero before laid;
}

-- ---- how many rounds there are

-- there are two at least where one block leads to more than the stack and its chain pointer can take
abbrev pub HasMoreRounds : {tables : Tables} {space : Range} → Task tables space → List Slot → ℕ → Type 0
HasMoreRounds {tables} {space} t slots rounds =
    (from : ℕ) (blocks : List ℕ) → IsNewlyMarked t.before.slots slots from → IsDistinct nat_eq blocks → 66 ≤ length blocks
    → All (IsOnlyFrom tables space t.walks t.starts t.before.slots slots from) blocks → 2 ≤ rounds

-- there is one alone where few blocks are named aside
abbrev pub HasOneRound : {tables : Tables} {space : Range} → Task tables space → List Slot → ℕ → Type 0
HasOneRound {tables} {space} t slots rounds =
    (blocks : List ℕ) → length blocks ≤ 64
    → ((address : ℕ) → IsNewlyMarked t.before.slots slots address → IsNamedAside tables space t.walks t.starts t.before.slots slots address → Contains blocks address) → rounds ≡ 1

-- ---- unmarked and marked blocks

both_one : (o : Option Mark) → cond {A = ℕ} (is_none o) 1 0 + cond (is_some o) 1 0 ≡ 1
both_one None = refl
both_one (Some m) = refl

both_counts : (xs : List Slot) → count_by is_unmarked xs + count_by is_marked xs ≡ length xs
both_counts [] = refl
both_counts (x ∷ xs) =
    let a = count_cons is_unmarked x xs in
    let b = count_cons is_marked x xs in
    let one = both_one x.mark in
    let rest = both_counts xs in
    omega (arith, a, b, one, rest)

length_remarked : (marks : ℕ → Option Mark) (xs : List Slot) → length (map (remarked marks) xs) ≡ length xs
length_remarked marks [] = refl
length_remarked marks (x ∷ xs) = ap suc (length_remarked marks xs)

module _ {tables : Tables} {space : Range} (t : Task tables space) where
  -- ---- the beginning

  pub start_holds : Holds t [] None (start_state t.before)
  start_holds = record {
    good = record {
      marks = mark_at t.before.slots;
      pages = ap (with_slots t.before) (remarked_same (mark_at t.before.slots) t.before.slots (mark_of_slot t.before.slots t.rises));
      status = λ a. inl (inl refl);
      closed = λ a e off rests own there. marked_before t e.target (closed_before t a e (ap is_some own) there);
      put_off = λ a start free pending. absurd (false≢true (sym (ap has_pending free) ∙ pending));
      fit = All-nil (Fits t);
      next = tt;
      began = λ a there. contains_none a there;
    };
    idle = refl;
    unchained = refl;
    fits = tt;
  }

  -- ---- edges that are taken with no block in hand

  idle_step : (old new : State) (e : Edge) → TakesEdge old e new → old.next ≡ None → old.chain ≡ None → (new.next ≡ None) × (new.chain ≡ None)
  idle_step old new e (known some same) idle unchained = (ap (λ s. s.next) same ∙ idle, ap (λ s. s.chain) same ∙ unchained)
  idle_step old new e (next none is) idle unchained = absurd (false≢true (ap is_some (sym unchained ∙ is.place)))
  idle_step old new e (pushed none is) idle unchained = (ap (λ s. s.next) is.result ∙ idle, ap (λ s. s.chain) is.result ∙ unchained)
  idle_step old new e (lost none is) idle unchained =
      let l = loses (record old { pages = postponed_pages (marked_pages old.pages e) e.target }) e.target in
      let same = is.result ∙ l.rest in
      (ap (λ s. s.next) same ∙ idle, ap (λ s. s.chain) same ∙ unchained)

  idle_all : (es : List Edge) (m n : Marker) → Took Leaves m es n → m.next ≡ None → m.chain ≡ None → (n.next ≡ None) × (n.chain ≡ None)
  idle_all [] m n took idle unchained = (ap (λ s. s.next) took ∙ idle, ap (λ s. s.chain) took ∙ unchained)
  idle_all (e ∷ es) m n took idle unchained =
      let one = idle_step (state_of m) (state_of took.0) e took.1.step idle unchained in
      idle_all es took.0 n took.2 one.0 one.1

  pub root_took : (begun : List ℕ) (es : List Edge) (m n : Marker) → Holds t begun None (state_of m) → All (Suits t) es → Took Leaves m es n
      → Goes t (with_targets es begun) None (state_of m) (state_of n)
  root_took begun es m n h fits took =
      let all = taken_all t None es begun (state_of m) (state_of n) fits h.good (took_states es m n took) in
      let idle = idle_all es m n took h.idle h.unchained in
      let none : one_if (is_some m.next) ≡ 0 = ap (λ x. one_if (is_some x)) h.idle in
      let load = all.eases.load in
      let lost = all.eases.lost in
      record {
        holds = record { good = all.good; idle = idle.0; unchained = idle.1; fits = tt };
        lessens = record { left = omega (arith, load, none); lost = omega (arith, lost) };
        stands = all.eases.stands;
      }

  pub root_same : (begun : List ℕ) (es : List Edge) (m n : Marker) → Holds t begun None (state_of m) → All (Suits t) es → Took Leaves m es n → n.pages.ghost_name ≡ m.pages.ghost_name
  root_same begun es m n h fits took = took_reference es m n took

  -- ---- the end

  module _ (begun : List ℕ) (st : State) (h : Holds t begun None st) (empty : st.stack ≡ []) (room : st.lost ≡ None) (idle : place_of st ≡ None) (all : (a : ℕ) → Contains t.starts a → Contains begun a) where
    no_left : (o : Option Span) (a : ℕ) → o ≡ None → IsLeft o a → ⊥
    no_left None a none left = left
    no_left (Some x) a none left = false≢true (sym (ap is_some none))

    pub none_waits : (a : ℕ) → Waits st a → ⊥
    none_waits a waits = elim waits [
      | inl on ↦ contains_none on.0 (subst (λ l. Contains l on.0) empty on.1)
      | inr there ↦ false≢true (sym (ap (λ o. is_some (addr_of o)) h.idle) ∙ ap is_some there)
    ]

    none_left : (a : ℕ) → StartsSome t.before.slots a → mark_at t.before.slots a ≡ None → has_pending (h.good.marks a) ≡ false
    none_left a start free = elim (cases_Bool (has_pending (h.good.marks a))) [
      | inl pending ↦ elim (h.good.put_off a start free pending) [
        | inl left ↦ absurd (no_left st.lost a room left)
        | inr above ↦ absurd (no_place t begun st.pass a idle above)
      ]
      | inr not ↦ not
    ]

    -- a newly marked block has its own mark
    pub own_now : (a : ℕ) → StartsSome t.before.slots a → mark_at t.before.slots a ≡ None → is_some (h.good.marks a) ≡ true → h.good.marks a ≡ Some (own_mark t.walks a)
    own_now a start free some =
        let own = own_of t a start (h.good.marks a) (h.good.status a) some in
        own.1 ∙ ap (λ p. Some (own_as t.walks a p)) (sym (ap has_pending own.1) ∙ none_left a start free)

    -- what a marked block that is reached leads to is marked
    next_now : (a : ℕ) (e : Edge) → StartsSome t.before.slots a → is_some (h.good.marks a) ≡ true → Contains (block_edges tables space t.walks a) e → is_some (h.good.marks e.target) ≡ true
    next_now a e start some there = elim (cases_Bool (is_some (mark_at t.before.slots a))) [
      | inl before ↦ some_still t e.target (h.good.marks e.target) (h.good.status e.target) (marked_before t e.target (closed_before t a e before there))
      | inr free ↦ h.good.closed a e (λ no-one. false≢true (ap is_some no-one)) (none_waits a) (own_now a start (none_from (mark_at t.before.slots a) free) some) there
    ]

    -- what is closed under edges, and holds of the starts, holds of all that is reached
    module _ (P : ℕ → Type 0) (next : (a : ℕ) (e : Edge) → StartsSome t.before.slots a → P a → Contains (block_edges tables space t.walks a) e → StartsSome t.before.slots e.target → P e.target) where
      reached_on : (from to : ℕ) → IsReached tables space t.walks t.starts from → StartsSome t.before.slots from → P from → Reaches tables space t.walks from to → P to
      reached_on from to reached start holds itself = holds
      reached_on from to reached start holds (onward {through = through} leads rest) =
          let e : Edge = leads.0 in
          let suits = suits_on t from e (inr reached) leads.1 in
          reached_on through to (reached.0, reached.1, reaches_on t reached.0 from through reached.2 leads) (subst (StartsSome t.before.slots) leads.2 suits.starts)
          (subst P leads.2 (next from e start holds leads.1 suits.starts)) rest

      reached_all : ((a : ℕ) → Contains t.starts a → P a) → (a : ℕ) → IsReached tables space t.walks t.starts a → P a
      reached_all first a reached =
          let starts = All-contains (StartsSome t.before.slots) t.starts reached.0 t.can.starts_block reached.1 in
          reached_on reached.0 a (reached.0, reached.1, itself) starts (first reached.0 reached.1) reached.2

    pub reached_now : (a : ℕ) → IsReached tables space t.walks t.starts a → is_some (h.good.marks a) ≡ true
    reached_now = reached_all (λ a. is_some (h.good.marks a) ≡ true) (λ a e start some there _. next_now a e start some there) (λ a there. h.good.began a (all a there))

    complete : (test : ℕ → Bool) → ((x : ℕ) → Contains t.starts x → test x ≡ true)
        → ((s : Slot) (e : Edge) → Contains t.before.slots s → test s.address ≡ true → Contains (block_edges tables space t.walks s.address) e → StartsSome t.before.slots e.target → test e.target ≡ true)
        → (a : ℕ) → IsReached tables space t.walks t.starts a → test a ≡ true
    complete test begins closed = reached_all (λ a. test a ≡ true)
        (λ a e start passes there starts. closed start.0 e start.1 (ap test start.2 ∙ passes) (subst (λ x. Contains (block_edges tables space t.walks x) e) (sym start.2) there) starts) begins

    -- the mark of each block, by whether it is reached
    mark_now : (reached : Bool) (s : Slot) (mark : Option Mark) → mark_at t.before.slots s.address ≡ mark → Contains t.before.slots s → (reached ≡ true → IsReached tables space t.walks t.starts s.address) → (IsReached tables space t.walks t.starts s.address → reached ≡ true)
        → h.good.marks s.address ≡ mark_after reached (has_pending (h.good.marks s.address)) (own_mark t.walks s.address) mark
    mark_now reached s (Some m) is there sound all-reached = elim (h.good.status s.address) [
      | inl old ↦ elim old [
        | inl same ↦ same ∙ is ∙ ap (λ p. Some (record { walk = m.walk; count = m.count; pending = p })) (sym (ap has_pending (same ∙ is)))
        | inr done ↦
            let now = done ∙ ap walked is in
            now ∙ ap (λ p. Some (record { walk = m.walk; count = m.count; pending = p })) (sym (ap has_pending now))
      ]
      | inr new ↦ absurd (false≢true (ap is_some (sym new.unmarked ∙ is)))
    ]
    mark_now true s None is there sound all-reached = own_now s.address (s, there, refl) is (reached_now s.address (sound refl))
    mark_now false s None is there sound all-reached = elim (h.good.status s.address) [
      | inl old ↦ elim old [
        | inl same ↦ same ∙ is
        | inr done ↦ done ∙ ap walked is
      ]
      | inr new ↦ absurd (false≢true (all-reached new.reached))
    ]

    slot_now : (reached : ℕ → Bool) (s : Slot) → Contains t.before.slots s → (reached s.address ≡ true → IsReached tables space t.walks t.starts s.address) → (IsReached tables space t.walks t.starts s.address → reached s.address ≡ true)
        → remarked h.good.marks s ≡ with_mark (mark_after (reached s.address) (has_pending (h.good.marks s.address)) (own_mark t.walks s.address) s.mark) s
    slot_now reached s there sound complete =
        ap (λ mark. with_mark mark s) (mark_now (reached s.address) s s.mark (mark_of_slot t.before.slots t.rises s there) there sound complete)

    -- what is left to a pass was before
    left_now : (s : Slot) → Contains t.before.slots s → has_pending (h.good.marks s.address) ≡ true → is_pending s ≡ true
    left_now s there pending =
        let is = mark_of_slot t.before.slots t.rises s there in
        elim (cases_Bool (is_some s.mark)) [
          | inl some ↦ elim (h.good.status s.address) [
            | inl old ↦ elim old [
              | inl same ↦ sym (ap has_pending (same ∙ is)) ∙ pending
              | inr done ↦ absurd (false≢true (sym (ap has_pending done ∙ walked_done (mark_at t.before.slots s.address)) ∙ pending))
            ]
            | inr new ↦ absurd (false≢true (sym (ap is_some (sym is ∙ new.unmarked)) ∙ some))
          ]
          | inr free ↦ absurd (false≢true (sym (none_left s.address (s, there, refl) (is ∙ none_from s.mark free)) ∙ pending))
        ]

    map_now : (f g : Slot → Slot) (xs : List Slot) → ((s : Slot) → Contains xs s → f s ≡ g s) → map f xs ≡ map g xs
    map_now f g [] same = refl
    map_now f g (x ∷ xs) same = ap (λ y. y ∷ map f xs) (same x (contains_head x xs)) ∙ ap (λ ys. g x ∷ ys) (map_now f g xs (λ s there. same s (contains_tail x s xs there)))

    pub marks_all : Marks tables space t.walks t.starts t.before st.pages
    marks_all =
        let q = settle_from (block_edges tables space t.walks) (IsReached tables space t.walks t.starts)
        (λ a e reached there. (reached.0, reached.1, reaches_on t reached.0 a e.target reached.2 (e, there, refl)))
        t.before.slots t.starts (λ a there. (a, there, itself)) in
        record {
          reached = q.0.test;
          exact = λ s there. (q.0.sound s.address, complete q.0.test q.1 q.0.closed s.address);
          pending = λ a. has_pending (h.good.marks a);
          left = left_now;
          marked = h.good.pages ∙ ap (with_slots t.before) (map_now (remarked h.good.marks) _ t.before.slots
              (λ s there. slot_now q.0.test s there (q.0.sound s.address) (complete q.0.test q.1 q.0.closed s.address)));
        }

  pub marks_as : (begun : List ℕ) (st : State) (new : Contents) → Holds t begun None st → st.stack ≡ [] → st.lost ≡ None → place_of st ≡ None → ((a : ℕ) → Contains t.starts a → Contains begun a) → st.pages ≡ new → Marks tables space t.walks t.starts t.before new
  marks_as begun st new h empty room idle all same = subst (Marks tables space t.walks t.starts t.before) same (marks_all begun st h empty room idle all)

  pub at_most_now : (begun more : List ℕ) (rounds : ℕ) (mid new : State) → new.lost ≡ None → Lessens (start_state t.before) mid 0 → Ends t more rounds mid new
      → rounds + count_by is_marked t.before.slots ≤ 1 + count_by is_marked new.pages.slots
  at_most_now begun more rounds mid new room less ends =
      let was = both_counts t.before.slots in
      let now = both_counts new.pages.slots in
      let long : length new.pages.slots ≡ length t.before.slots = ap (λ p. length p.slots) ends.holds.good.pages ∙ length_remarked ends.holds.good.marks t.before.slots in
      let none : one_if (is_some new.lost) ≡ 0 = ap (λ o. one_if (is_some o)) room in
      let lost = less.lost in
      let bound = ends.rounds_are in
      omega (arith, was, now, long, none, lost, bound)

  pub at_most_as : (begun more : List ℕ) (rounds : ℕ) (mid st : State) (slots : List Slot) → st.lost ≡ None → Lessens (start_state t.before) mid 0 → Ends t more rounds mid st → st.pages.slots ≡ slots
      → rounds + count_by is_marked t.before.slots ≤ 1 + count_by is_marked slots
  at_most_as begun more rounds mid st slots room less ends same =
      subst (λ l. rounds + count_by is_marked t.before.slots ≤ 1 + count_by is_marked l) same (at_most_now begun more rounds mid st room less ends)

  pub rounds_as : (begun more : List ℕ) (rounds : ℕ) (mid st : State) (slots : List Slot) → st.lost ≡ None → Lessens (start_state t.before) mid 0 → Ends t more rounds mid st → 1 ≤ rounds
      → HasOneRound t slots rounds → HasMoreRounds t slots rounds → st.pages.slots ≡ slots → AreRounds tables space t.walks t.starts t.before.slots slots rounds
  rounds_as begun more rounds mid st slots room less ends least single many same = record {
    at_least = least;
    at_most = at_most_as begun more rounds mid st slots room less ends same;
    one = single;
    more = many;
  }

  -- ---- the first edge

  pub edge_fits : (e : Edge) (starts : List ℕ) → t.starts ≡ e.target ∷ [] → t.walks e.target ≡ record { walk = e.walk; count = e.count } → Suits t e
  edge_fits e starts is own = suits_named t e (e.target, subst (λ l. Contains l e.target) (sym is) (contains_head e.target []), itself) (record {
    starts = All-head (StartsSome t.before.slots) e.target [] (subst (All (StartsSome t.before.slots)) is t.can.starts_block);
    walk = sym (ap (λ w. w.walk) own);
    count = sym (ap (λ w. w.count) own);
  })

  pub first_took : (m n : Marker) (e : Edge) → state_of m ≡ start_state t.before → Suits t e → Leaves m e n → Goes t (e.target ∷ []) None (start_state t.before) (state_of n)
  first_took m n e is fits leaves =
      subst (λ s. Goes t (e.target ∷ []) None s (state_of n)) is
      (root_took [] (e ∷ []) m n (subst (Holds t [] None) (sym is) start_holds) (All-cons (Suits t) e [] fits (All-nil (Suits t))) (n, leaves, refl))
