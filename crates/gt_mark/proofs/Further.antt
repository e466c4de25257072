-- Marking from some blocks, and then from others.
use Rattle.std.proofs.Common.{◌≡◌, ℕ, ◌+◌, ◌-◌, ◌≤◌, ◌⊎◌, ◌==◌, Bool, true, false, List, [], ◌∷◌, ◌++◌, length, map, Option, Some, None, is_some, refl, sym, ap, subst, ◌∙◌, inl, inr, arith}
use Rattle.std.specs.Prelude.{◌||◌, All, Contains, IfSome, nat_eq}
use Rattle.std.specs.List.{IsDistinct}
use Rattle.std.proofs.lemmas.Bool.{cases_Bool, eqb-true, eq-eqb, false≢true}
use Rattle.std.proofs.lemmas.List.Elements.{All-contains, Contains-append_left, Contains-append_right, Contains-append_cases}
use Rattle.gt_space.specs.Range.{Range}
use Rattle.gt_entries.specs.declared.marks.Mark.{Mark}
use Rattle.gt_entries.specs.Cells.{has_pending}
use Rattle.gt_pages.specs.Slots.{Slot, StartsSome, is_marked, with_mark}
use Rattle.gt_pages.specs.Contents.{Contents, with_slots}
use Rattle.gt_walk.specs.declared.tables.Tables.{Tables}
use Rattle.gt_walk.specs.Rows.{Edge}
use Rattle.gt_mark.specs.Reached.{Walks, CanMark, IsMarkedAt, IsOwn, IsReached, LeadsTo, NamesBlock, Reaches, itself, onward, block_edges}
use Rattle.gt_mark.specs.Marks.{Marks, mark_after, own_mark}
use Rattle.gt_mark.specs.Rounds.{AreRounds, IsNamedAside, IsNewlyMarked, IsOnlyFrom}
use Rattle.gt_mark.specs.Further.{CanGoOn, MarksBoth, NamesStay, RoundsBoth}
use Rattle.gt_mark.proofs.Remarked.{contains_cases, contains_head, contains_map, contains_map_from, contains_none, contains_tail}
use Rattle.gt_mark.proofs.Going.{all_from}

-- ---- marks afterwards

after_own : (walks : Walks) (a : ℕ) (reached pending : Bool) (mark : Option Mark) → IfSome mark (IsOwn walks a) → IfSome (mark_after reached pending (own_mark walks a) mark) (IsOwn walks a)
after_own walks a reached pending (Some m) own = record { walk = own.walk; count = own.count }
after_own walks a true pending None own = record { walk = refl; count = refl }
after_own walks a false pending None own = tt

after_some : (pending : Bool) (own : Mark) (reached : Bool) (mark : Option Mark) → is_some mark ≡ true → is_some (mark_after reached pending own mark) ≡ true
after_some pending own reached (Some m) some = refl
after_some pending own reached None some = absurd (false≢true some)

after_reached : (pending : Bool) (own : Mark) (reached : Bool) (mark : Option Mark) → reached ≡ true → is_some (mark_after reached pending own mark) ≡ true
after_reached pending own reached (Some m) is = refl
after_reached pending own true None is = refl
after_reached pending own false None is = absurd (false≢true is)

-- a block that is marked afterwards was, or is reached
after_from : (pending : Bool) (own : Mark) (reached : Bool) (mark : Option Mark) → is_some (mark_after reached pending own mark) ≡ true → (is_some mark ≡ true) ⊎ (reached ≡ true)
after_from pending own reached (Some m) some = inl refl
after_from pending own true None some = inr refl
after_from pending own false None some = absurd (false≢true some)

-- ---- marked blocks

marked_or_not : (slots : List Slot) (a : ℕ) → IsMarkedAt slots a ⊎ (IsMarkedAt slots a → ⊥)
marked_or_not [] a = inr (λ at. contains_none at.0 at.1)
marked_or_not (s ∷ slots) a = elim (marked_or_not slots a) [
  | inl at ↦ inl (at.0, contains_tail s at.0 slots at.1, at.2, at.3)
  | inr none ↦ elim (cases_Bool (s.address == a)) [
    | inl here ↦ elim (cases_Bool (is_marked s)) [
      | inl marked ↦ inl (s, contains_head s slots, eqb-true s.address a here, marked)
      | inr not ↦ inr (λ at. elim (contains_cases s at.0 slots at.1) [
        | inl is ↦ false≢true (sym not ∙ ap is_marked is ∙ at.3)
        | inr later ↦ none (at.0, later, at.2, at.3)
      ])
    ]
    | inr other ↦ inr (λ at. elim (contains_cases s at.0 slots at.1) [
      | inl is ↦ false≢true (sym other ∙ eq-eqb s.address a (ap (λ x. x.address) is ∙ at.2))
      | inr later ↦ none (at.0, later, at.2, at.3)
    ])
  ]
]

reaches_more : {tables : Tables} {space : Range} {walks : Walks} (a b c : ℕ) → Reaches tables space walks a b → LeadsTo tables space walks b c → Reaches tables space walks a c
reaches_more a b c itself leads = onward leads itself
reaches_more a b c (onward first rest) leads = onward first (reaches_more _ b c rest leads)

module _ (tables : Tables) (space : Range) (walks : Walks) (starts : List ℕ) (old new : Contents) (m : Marks tables space walks starts old new) where
  abbrev after : Slot → Slot
  after s = with_mark (mark_after (m.reached s.address) (m.pending s.address) (own_mark walks s.address) s.mark) s

  slots_are : new.slots ≡ map after old.slots
  slots_are = ap (λ c. c.slots) m.marked

  slot_after : (s : Slot) → Contains old.slots s → Contains new.slots (after s)
  slot_after s there = subst (λ l. Contains l (after s)) (sym slots_are) (contains_map after old.slots s there)

  slot_from : (s : Slot) → Contains new.slots s → (x : Slot) × Contains old.slots x × (after x ≡ s)
  slot_from s there = contains_map_from after old.slots s (subst (λ l. Contains l s) slots_are there)

  starts_after : (a : ℕ) → StartsSome old.slots a → StartsSome new.slots a
  starts_after a start = (after start.0, slot_after start.0 start.1, start.2)

  marked_after : (a : ℕ) → IsMarkedAt old.slots a → IsMarkedAt new.slots a
  marked_after a at = (after at.0, slot_after at.0 at.1, at.2, after_some (m.pending at.0.address) (own_mark walks at.0.address) (m.reached at.0.address) at.0.mark at.3)

  names_after : (e : Edge) → NamesBlock old.slots walks e → NamesBlock new.slots walks e
  names_after e names = record { starts = starts_after e.target names.starts; walk = names.walk; count = names.count }

  -- what is reached is marked
  reached_after : (a : ℕ) → StartsSome old.slots a → IsReached tables space walks starts a → IsMarkedAt new.slots a
  reached_after a start reached =
      let s : Slot = start.0 in
      let is : m.reached s.address ≡ true = (m.exact s start.1).1 (subst (IsReached tables space walks starts) (sym start.2) reached) in
      (after s, slot_after s start.1, start.2, after_reached (m.pending s.address) (own_mark walks s.address) (m.reached s.address) s.mark is)

  -- what is marked now and was not before is reached
  reached_from : (a : ℕ) → IsMarkedAt new.slots a → (IsMarkedAt old.slots a → ⊥) → IsReached tables space walks starts a
  reached_from a at fresh =
      let x = slot_from at.0 at.1 in
      let here : x.0.address ≡ a = ap (λ s. s.address) x.2 ∙ at.2 in
      let some : is_some (mark_after (m.reached x.0.address) (m.pending x.0.address) (own_mark walks x.0.address) x.0.mark) ≡ true = ap is_marked x.2 ∙ at.3 in
      elim (after_from (m.pending x.0.address) (own_mark walks x.0.address) (m.reached x.0.address) x.0.mark some) [
        | inl was ↦ absurd (fresh (x.0, x.1, here, was))
        | inr is ↦ subst (IsReached tables space walks starts) here ((m.exact x.0 x.1).0 is)
      ]

  closed_after : CanMark tables space walks old.slots starts → (from to : ℕ) → IsMarkedAt new.slots from → LeadsTo tables space walks from to → IsMarkedAt new.slots to
  closed_after can from to at leads = elim (marked_or_not old.slots from) [
    | inl before ↦ marked_after to (can.closed from to before leads)
    | inr fresh ↦
        let reached = reached_from from at fresh in
        let names = All-contains (NamesBlock old.slots walks) (block_edges tables space walks from) leads.0 (can.edges from reached fresh) leads.1 in
        reached_after to (subst (StartsSome old.slots) leads.2 names.starts) (reached.0, reached.1, reaches_more reached.0 from to reached.2 leads)
  ]

pub names_stay : NamesStay
names_stay tables space walks starts old new e m names = names_after tables space walks starts old new m e names

pub can_go_on : CanGoOn
can_go_on tables space walks starts more old new can further m = record {
  marks = λ s there.
      let x = slot_from tables space walks starts old new m s there in
      subst (λ y. IfSome y.mark (IsOwn walks y.address)) x.2 (after_own walks x.0.address (m.reached x.0.address) (m.pending x.0.address) x.0.mark (can.marks x.0 x.1));
  closed = closed_after tables space walks starts old new m can;
  starts_block = all_from (StartsSome new.slots) more (λ a there. starts_after tables space walks starts old new m a (All-contains (StartsSome old.slots) more a further.starts_block there));
  edges = λ a reached fresh. all_from (NamesBlock new.slots walks) (block_edges tables space walks a) (λ e there.
      names_after tables space walks starts old new m e
      (All-contains (NamesBlock old.slots walks) (block_edges tables space walks a) e (further.edges a reached (λ at. fresh (marked_after tables space walks starts old new m a at))) there));
}

-- ---- one call after another

or_left : (b c : Bool) → b ≡ true → (b || c) ≡ true
or_left true c h = refl
or_left false c h = absurd (false≢true h)

or_right : (b c : Bool) → c ≡ true → (b || c) ≡ true
or_right true c h = refl
or_right false c h = h

or_from : (b c : Bool) → (b || c) ≡ true → (b ≡ true) ⊎ (c ≡ true)
or_from true c h = inl refl
or_from false c h = inr h

-- marked twice is marked once, where what is left afterwards was left between
after_twice : (own : Mark) (r p s q : Bool) (mark : Option Mark) → own.pending ≡ false → (q ≡ true → has_pending (mark_after r p own mark) ≡ true)
    → mark_after s q own (mark_after r p own mark) ≡ mark_after (r || s) q own mark
after_twice own r p s q (Some m) done left = refl
after_twice own true p s false None done left = ap (λ b. Some (record { walk = own.walk; count = own.count; pending = b })) (sym done)
after_twice own true p s true None done left = absurd (false≢true (sym done ∙ left refl))
after_twice own false p s q None done left = refl

-- what is left was before
after_left : (own : Mark) (r p : Bool) (mark : Option Mark) → own.pending ≡ false → (p ≡ true → has_pending mark ≡ true) → has_pending (mark_after r p own mark) ≡ true → has_pending mark ≡ true
after_left own r p (Some m) done left pending = left pending
after_left own true p None done left pending = absurd (false≢true (sym done ∙ pending))
after_left own false p None done left pending = pending

map_twice : (f g h : Slot → Slot) (xs : List Slot) → ((s : Slot) → Contains xs s → g (f s) ≡ h s) → map g (map f xs) ≡ map h xs
map_twice f g h [] same = refl
map_twice f g h (x ∷ xs) same = ap (λ y. y ∷ map g (map f xs)) (same x (contains_head x xs)) ∙ ap (λ ys. h x ∷ ys) (map_twice f g h xs (λ s there. same s (contains_tail x s xs there)))

pub marks_both : MarksBoth
marks_both tables space walks starts more old between new m n =
    let f : Slot → Slot = after tables space walks starts old between m in
    let g : Slot → Slot = after tables space walks more between new n in
    record {
      reached = λ a. m.reached a || n.reached a;
      exact = λ s there. (
        (λ is. elim (or_from (m.reached s.address) (n.reached s.address) is) [
          | inl first ↦ let r = (m.exact s there).0 first in (r.0, Contains-append_left starts more r.0 r.1, r.2)
          | inr second ↦ let r = (n.exact (f s) (slot_after tables space walks starts old between m s there)).0 second in (r.0, Contains-append_right starts more r.0 r.1, r.2)
        ]),
        (λ r. elim (Contains-append_cases starts more r.0 r.1) [
          | inl first ↦ or_left (m.reached s.address) (n.reached s.address) ((m.exact s there).1 (r.0, first, r.2))
          | inr second ↦ or_right (m.reached s.address) (n.reached s.address) ((n.exact (f s) (slot_after tables space walks starts old between m s there)).1 (r.0, second, r.2))
        ]),
      );
      pending = n.pending;
      left = λ s there is.
          after_left (own_mark walks s.address) (m.reached s.address) (m.pending s.address) s.mark refl (m.left s there) (n.left (f s) (slot_after tables space walks starts old between m s there) is);
      marked =
          n.marked
          ∙ ap (λ c. with_slots c (map g c.slots)) m.marked
          ∙ ap (with_slots old) (map_twice f g _ old.slots (λ s there.
          ap (λ mark. with_mark mark s)
          (after_twice (own_mark walks s.address) (m.reached s.address) (m.pending s.address) (n.reached s.address) (n.pending s.address) s.mark refl
          (n.left (f s) (slot_after tables space walks starts old between m s there)))));
    }

-- ---- the rounds of one call after another

-- a block that is reached from another is that one, or an edge leads there from one that is reached
last_step : {tables : Tables} {space : Range} {walks : Walks} (a b : ℕ) → Reaches tables space walks a b
    → (a ≡ b) ⊎ ((c : ℕ) × Reaches tables space walks a c × LeadsTo tables space walks c b)
last_step a b itself = inl refl
last_step {tables} {space} {walks} a b (onward {through = c} leads rest) = elim (last_step c b rest) [
  | inl same ↦ inr (a, itself, subst (LeadsTo tables space walks a) same leads)
  | inr step ↦ inr (step.0, onward leads step.1, step.2)
]

-- what is reached is a block
reached_starts : {tables : Tables} {space : Range} {walks : Walks} (starts : List ℕ) (slots : List Slot) → CanMark tables space walks slots starts
    → (start a b : ℕ) → Contains starts start → Reaches tables space walks start a → StartsSome slots a → Reaches tables space walks a b → StartsSome slots b
reached_starts starts slots can start a b there path here itself = here
reached_starts {tables} {space} {walks} starts slots can start a b there path here (onward {through = c} leads rest) =
    reached_starts starts slots can start c b there (reaches_more start a c path leads) next rest
  where
    next : StartsSome slots c
    next = elim (marked_or_not slots a) [
      | inl at ↦ let to = can.closed a c at leads in (to.0, to.1, to.2)
      | inr fresh ↦
          let names = All-contains (NamesBlock slots walks) (block_edges tables space walks a) leads.0 (can.edges a (start, there, path) fresh) leads.1 in
          subst (StartsSome slots) leads.2 names.starts
    ]

module _ (tables : Tables) (space : Range) (walks : Walks) (starts more : List ℕ) (old between new : Contents) (can : CanMark tables space walks old.slots starts)
    (m : Marks tables space walks starts old between) (n : Marks tables space walks more between new) where
  stays : (a : ℕ) → IsMarkedAt between.slots a → IsMarkedAt new.slots a
  stays a at = marked_after tables space walks more between new n a at

  newly_first : (a : ℕ) → IsNewlyMarked old.slots between.slots a → IsNewlyMarked old.slots new.slots a
  newly_first a is = record { now = stays a is.now; not_before = is.not_before }

  newly_second : (a : ℕ) → IsNewlyMarked between.slots new.slots a → IsNewlyMarked old.slots new.slots a
  newly_second a is = record { now = is.now; not_before = λ at. is.not_before (marked_after tables space walks starts old between m a at) }

  aside_first : (a : ℕ) → IsNamedAside tables space walks starts old.slots between.slots a → IsNamedAside tables space walks (starts ++ more) old.slots new.slots a
  aside_first a is = elim is [
    | inl start ↦ inl (Contains-append_left starts more a start)
    | inr edge ↦ inr (edge.0, edge.1, newly_first edge.0 edge.2, edge.3, edge.4, edge.5)
  ]

  aside_second : (a : ℕ) → IsNamedAside tables space walks more between.slots new.slots a → IsNamedAside tables space walks (starts ++ more) old.slots new.slots a
  aside_second a is = elim is [
    | inl start ↦ inl (Contains-append_right starts more a start)
    | inr edge ↦ inr (edge.0, edge.1, newly_second edge.0 edge.2, edge.3, edge.4, edge.5)
  ]

  module _ (from : ℕ) where
    only_first : (a : ℕ) → IsOnlyFrom tables space walks (starts ++ more) old.slots new.slots from a → IsOnlyFrom tables space walks starts old.slots between.slots from a
    only_first a is = record {
      leads = is.leads;
      unmarked = is.unmarked;
      no_start = λ there. is.no_start (Contains-append_left starts more a there);
      no_other = λ other apart at. is.no_other other apart (stays other at);
    }

    -- the first call did not come to the block, which would have led to the other one
    not_between : (IsMarkedAt between.slots from → ⊥) → (a : ℕ) → IsOnlyFrom tables space walks (starts ++ more) old.slots new.slots from a → IsMarkedAt between.slots a → ⊥
    not_between fresh a is at =
        let reached = reached_from tables space walks starts old between m a at is.unmarked in
        elim (last_step reached.0 a reached.2) [
          | inl same ↦ is.no_start (Contains-append_left starts more a (subst (Contains starts) same reached.1))
          | inr step ↦
              let start = All-contains (StartsSome old.slots) starts reached.0 can.starts_block reached.1 in
              let block = reached_starts starts old.slots can reached.0 reached.0 step.0 reached.1 itself start step.1 in
              let marked = reached_after tables space walks starts old between m step.0 block (reached.0, reached.1, step.1) in
              is.no_other step.0 (λ same. fresh (subst (IsMarkedAt between.slots) same marked)) (stays step.0 marked) step.2
        ]

    only_second : (IsMarkedAt between.slots from → ⊥) → (a : ℕ) → IsOnlyFrom tables space walks (starts ++ more) old.slots new.slots from a
        → IsOnlyFrom tables space walks more between.slots new.slots from a
    only_second fresh a is = record {
      leads = is.leads;
      unmarked = not_between fresh a is;
      no_start = λ there. is.no_start (Contains-append_right starts more a there);
      no_other = is.no_other;
    }

  two_rounds : (first second from : ℕ) (blocks : List ℕ) → AreRounds tables space walks starts old.slots between.slots first
      → AreRounds tables space walks more between.slots new.slots second → IsNewlyMarked old.slots new.slots from → IsDistinct nat_eq blocks → 66 ≤ length blocks
      → All (IsOnlyFrom tables space walks (starts ++ more) old.slots new.slots from) blocks → 2 ≤ first + second - 1
  two_rounds first second from blocks r s newly distinct many each = elim (marked_or_not between.slots from) [
    | inl at ↦
        let two =
        r.more from blocks (record { now = at; not_before = newly.not_before }) distinct many
        (all_from (IsOnlyFrom tables space walks starts old.slots between.slots from) blocks (λ a there. only_first from a (only a there))) in
        let one = s.at_least in
        omega (arith, two, one)
    | inr fresh ↦
        let two =
        s.more from blocks (record { now = newly.now; not_before = fresh }) distinct many
        (all_from (IsOnlyFrom tables space walks more between.slots new.slots from) blocks (λ a there. only_second from fresh a (only a there))) in
        let one = r.at_least in
        omega (arith, two, one)
  ]
    where
      only : (a : ℕ) → Contains blocks a → IsOnlyFrom tables space walks (starts ++ more) old.slots new.slots from a
      only a there = All-contains (IsOnlyFrom tables space walks (starts ++ more) old.slots new.slots from) blocks a each there

pub rounds_both : RoundsBoth
rounds_both tables space walks starts more old between new first second can m n r s = record {
  at_least = let a = r.at_least in let b = s.at_least in omega (arith, a, b);
  at_most = let a = r.at_most in let b = s.at_most in let c = r.at_least in omega (arith, a, b, c);
  one = λ blocks few each.
      let a = r.one blocks few (λ x newly aside. each x (newly_first tables space walks starts more old between new can m n x newly) (aside_first tables space walks starts more old between new can m n x aside)) in
      let b = s.one blocks few (λ x newly aside. each x (newly_second tables space walks starts more old between new can m n x newly) (aside_second tables space walks starts more old between new can m n x aside)) in
      omega (arith, a, b);
  more = λ from blocks newly distinct many each. two_rounds tables space walks starts more old between new can m n first second from blocks r s newly distinct many each;
}
