-- What edges keep of what holds while the marker works.
use Rattle.std.proofs.Common.{◌≡◌, ◌≢◌, ℕ, ◌+◌, ◌*◌, ◌≤◌, ◌⊎◌, ◌==◌, Bool, true, false, cond, List, [], ◌∷◌, ◌++◌, length, count_by, Option, Some, None, is_some, is_none, refl, sym, ap, subst, ◌∙◌, inl, inr, arith}
use Rattle.std.specs.Prelude.{All, Contains, IfSome, option_map}
use Rattle.std.proofs.lemmas.Bool.{cases_Bool, cases_eq, true≢false, false≢true}
use Rattle.std.proofs.lemmas.List.{length_push}
use Rattle.std.proofs.lemmas.List.Elements.{All-nil, All-cons, All-push, All-contains, Contains-append_left, Contains-push}
use Rattle.gt_space.specs.Range.{Range}
use Rattle.gt_entries.specs.declared.marks.Mark.{Mark}
use Rattle.gt_entries.specs.Cells.{has_pending}
use Rattle.gt_pages.specs.Slots.{Slot, StartsSome, is_unmarked, mark_at, walked}
use Rattle.gt_pages.specs.Contents.{with_slots}
use Rattle.gt_walk.specs.declared.tables.Tables.{Tables}
use Rattle.gt_walk.specs.Rows.{Edge, edges_of}
use Rattle.gt_mark.specs.declared.stack.Block.{Block}
use Rattle.gt_mark.specs.Reached.{Walks, IsMarkedAt, IsOwn, IsReached, LeadsTo, NamesBlock, Reaches, itself, onward, block_edges}
use Rattle.gt_mark.specs.Marks.{own_mark}
use Rattle.gt_mark.specs.Steps.{State, Task, Good, Fits, IsOld, IsNew, Suits, Waits, IsPutOff, TakesEdge, known, next, pushed, lost, block_in, marked_pages, one_if, passes, place_of, postponed_pages}
use Rattle.gt_mark.proofs.Losing.{Loses, loses, mark_as, marked_as, postponed_marked}
use Rattle.gt_mark.proofs.Remarked.{contains_cases, contains_head, contains_tail, count_lt, count_remarked, is_free, mark_at_remarked, mark_of_slot, marked_slot, put, put_other, put_same, slot_marked, starts_remarked, with_mark_remarked}

pub all_from : {X : Type 0} (P : X → Type 0) (xs : List X) → ((x : X) → Contains xs x → P x) → All P xs
all_from P [] each = All-nil P
all_from P (x ∷ xs) each = All-cons P x xs (each x (contains_head x xs)) (all_from P xs (λ y there. each y (contains_tail x y xs there)))

-- ---- marks

cond_some : (b : Bool) (m : Mark) (o : Option Mark) → is_some o ≡ true → is_some (cond b (Some m) o) ≡ true
cond_some true m o h = refl
cond_some false m o h = h

pub put_some : (marks : ℕ → Option Mark) (a : ℕ) (m : Mark) (b : ℕ) → is_some (marks b) ≡ true → is_some (put marks a (Some m) b) ≡ true
put_some marks a m b h = cond_some (b == a) m (marks b) h

cond_none : (b : Bool) (m : Mark) (o : Option Mark) → is_none (cond b (Some m) o) ≡ true → is_none o ≡ true
cond_none true m o h = absurd (false≢true h)
cond_none false m o h = h

pub walked_some : (o : Option Mark) → is_some (walked o) ≡ is_some o
walked_some None = refl
walked_some (Some m) = refl

pub walked_none : (o : Option Mark) → is_none (walked o) ≡ is_none o
walked_none None = refl
walked_none (Some m) = refl

pub walked_done : (o : Option Mark) → has_pending (walked o) ≡ false
walked_done None = refl
walked_done (Some m) = refl

pub none_from : (o : Option Mark) → is_some o ≡ false → o ≡ None
none_from None h = refl
none_from (Some m) h = absurd (true≢false h)

-- a block's own mark, which says whether it is left to a pass
abbrev pub own_as : Walks → ℕ → Bool → Mark
own_as walks a pending = record { walk = (walks a).walk; count = (walks a).count; pending = pending }

some_from : (o : Option Mark) → o ≢ None → is_some o ≡ true
some_from None h = absurd (h refl)
some_from (Some m) h = refl

-- what is at the address and elsewhere
pub put_cases : (P : ℕ → Option Mark → Type 0) (marks : ℕ → Option Mark) (a : ℕ) (mark : Option Mark) → P a mark → ((b : ℕ) → b ≢ a → P b (marks b)) → (b : ℕ) → P b (put marks a mark b)
put_cases P marks a mark here there b = elim (cases_eq b a) [
  | inl same ↦ subst (λ x. P x (put marks a mark x)) (sym same) (subst (P a) (sym (put_same marks a mark)) here)
  | inr apart ↦ subst (P b) (sym (put_other marks a b mark apart)) (there b apart)
]

-- ---- how much is left

abbrev pub load : State → ℕ
load st = 2 * count_by is_unmarked st.pages.slots + length st.stack + one_if (is_some st.next)

pub record Eases (old new : State) : Type 0 where
  pub load : load new ≤ load old
  pub lost : passes new ≤ passes old
  pub stands : place_of new ≡ place_of old

pub eases_same : (st : State) → Eases st st
eases_same st = record { load = omega arith; lost = omega arith; stands = refl }

pub eases_on : (a b c : State) → Eases a b → Eases b c → Eases a c
eases_on a b c e f = let el = e.load in let fl = f.load in let eo = e.lost in let fo = f.lost in
    record { load = omega (arith, el, fl); lost = omega (arith, eo, fo); stands = f.stands ∙ e.stands }

one_if_le : (b : Bool) → one_if b ≤ 1
one_if_le true = omega arith
one_if_le false = omega arith

module _ {tables : Tables} {space : Range} (t : Task tables space) where
  -- ---- what is reached

  pub reaches_on : (a b c : ℕ) → Reaches tables space t.walks a b → LeadsTo tables space t.walks b c → Reaches tables space t.walks a c
  reaches_on a b c itself leads = onward leads itself
  reaches_on a b c (onward first rest) leads = onward first (reaches_on _ b c rest leads)

  -- ---- blocks that were marked before

  pub marked_before : (a : ℕ) → IsMarkedAt t.before.slots a → is_some (mark_at t.before.slots a) ≡ true
  marked_before a at = slot_marked t.before.slots t.rises a at

  pub closed_before : (a : ℕ) (e : Edge) → is_some (mark_at t.before.slots a) ≡ true → Contains (block_edges tables space t.walks a) e → IsMarkedAt t.before.slots e.target
  closed_before a e some there = t.can.closed a e.target (marked_slot t.before.slots a some) (e, there, refl)

  before_own : (s : Slot) (mark : Option Mark) → IfSome mark (IsOwn t.walks s.address) → (mark ≡ None) ⊎ ((p : Bool) × (mark ≡ Some (own_as t.walks s.address p)))
  before_own s None h = inl refl
  before_own s (Some m) h = inr (
    m.pending,
    ap (λ w. Some (record { walk = w; count = m.count; pending = m.pending })) h.walk ∙ ap (λ n. Some (record { walk = (t.walks s.address).walk; count = n; pending = m.pending })) h.count,
  )

  pub own_before : (a : ℕ) → StartsSome t.before.slots a → (mark_at t.before.slots a ≡ None) ⊎ ((p : Bool) × (mark_at t.before.slots a ≡ Some (own_as t.walks a p)))
  own_before a start =
      let s : Slot = start.0 in
      let is : mark_at t.before.slots a ≡ s.mark = ap (mark_at t.before.slots) (sym start.2) ∙ mark_of_slot t.before.slots t.rises s start.1 in
      elim (before_own s s.mark (t.can.marks s start.1)) [
        | inl none ↦ inl (is ∙ none)
        | inr own ↦ inr (own.0, is ∙ own.1 ∙ ap (λ b. Some (own_as t.walks b own.0)) start.2)
      ]

  -- a mark is the block's own
  pub own_of : (a : ℕ) → StartsSome t.before.slots a → (mark : Option Mark) → IsOld t a mark ⊎ IsNew t a mark → is_some mark ≡ true → (p : Bool) × (mark ≡ Some (own_as t.walks a p))
  own_of a start mark status some = elim status [
    | inl old ↦ elim (own_before a start) [
      | inl none ↦ absurd (false≢true (sym (ap is_some (elim old [ inl same ↦ same ∙ none | inr done ↦ done ∙ ap walked none ])) ∙ some))
      | inr own ↦ elim old [
        | inl same ↦ (own.0, same ∙ own.1)
        | inr done ↦ (false, done ∙ ap walked own.1)
      ]
    ]
    | inr new ↦ (new.pending, new.is)
  ]

  -- a block that is not marked was not
  pub none_before : (a : ℕ) (mark : Option Mark) → IsOld t a mark ⊎ IsNew t a mark → mark ≡ None → mark_at t.before.slots a ≡ None
  none_before a mark status none = elim status [
    | inl old ↦ elim old [
      | inl same ↦ sym same ∙ none
      | inr done ↦ none_from (mark_at t.before.slots a) (sym (walked_some (mark_at t.before.slots a)) ∙ ap is_some (sym done ∙ none))
    ]
    | inr new ↦ new.unmarked
  ]

  -- a block that was marked is
  pub some_still : (a : ℕ) (mark : Option Mark) → IsOld t a mark ⊎ IsNew t a mark → is_some (mark_at t.before.slots a) ≡ true → is_some mark ≡ true
  some_still a mark status some = elim status [
    | inl old ↦ elim old [
      | inl same ↦ ap is_some same ∙ some
      | inr done ↦ ap is_some done ∙ walked_some (mark_at t.before.slots a) ∙ some
    ]
    | inr new ↦ absurd (false≢true (sym (ap is_some new.unmarked) ∙ some))
  ]

  -- ---- edges of blocks that fit

  pub suits_named : (e : Edge) → IsReached tables space t.walks t.starts e.target → NamesBlock t.before.slots t.walks e → Suits t e
  suits_named e reached names = record {
    starts = names.starts;
    fits = λ _. record { starts = names.starts; met = inr reached; walk = names.walk; count = names.count };
  }

  pub suits_marked : (e : Edge) → IsMarkedAt t.before.slots e.target → Suits t e
  suits_marked e at = record {
    starts = (at.0, at.1, at.2);
    fits = λ none. absurd (false≢true (sym (ap is_some none) ∙ marked_before e.target at));
  }

  -- the edges of a block that is reached
  pub suits_on : (a : ℕ) (e : Edge) → is_some (mark_at t.before.slots a) ≡ true ⊎ IsReached tables space t.walks t.starts a → Contains (block_edges tables space t.walks a) e → Suits t e
  suits_on a e met there = elim (cases_Bool (is_some (mark_at t.before.slots a))) [
    | inl some ↦ suits_marked e (closed_before a e some there)
    | inr not ↦ elim met [
      | inl some ↦ absurd (false≢true (sym not ∙ some))
      | inr reached ↦ suits_named e (reached.0, reached.1, reaches_on reached.0 a e.target reached.2 (e, there, refl))
          (All-contains (NamesBlock t.before.slots t.walks) (block_edges tables space t.walks a) e (t.can.edges a reached (λ at. false≢true (sym not ∙ marked_before a at))) there)
    ]
  ]

  pub same_edges : (b : Block) → Fits t b → edges_of tables b.walk b.count space b.addr ≡ block_edges tables space t.walks b.addr
  same_edges b f = ap (λ w. edges_of tables w b.count space b.addr) f.walk ∙ ap (λ n. edges_of tables (t.walks b.addr).walk n space b.addr) f.count

  pub block_fits : (b : Block) → Fits t b → All (Suits t) (edges_of tables b.walk b.count space b.addr)
  block_fits b f = subst (All (Suits t)) (sym (same_edges b f)) (all_from (Suits t) (block_edges tables space t.walks b.addr) (λ e there. suits_on b.addr e f.met there))

  -- ---- one more block is marked

  module _ (begun : List ℕ) (hand : Option ℕ) (old : State) (g : Good t begun hand old) where
    pub is_at : (a : ℕ) → StartsSome t.before.slots a → mark_at old.pages.slots a ≡ g.marks a
    is_at a start = ap (λ p. mark_at p.slots a) g.pages ∙ mark_at_remarked g.marks t.before.slots a start

    pub unmarked_is : count_by is_unmarked old.pages.slots ≡ count_by (is_free g.marks) t.before.slots
    unmarked_is = ap (λ p. count_by is_unmarked p.slots) g.pages ∙ count_remarked g.marks t.before.slots

    pub starts_now : (a : ℕ) → StartsSome t.before.slots a → StartsSome old.pages.slots a
    starts_now a start = subst (λ p. StartsSome p.slots a) (sym g.pages) (starts_remarked g.marks t.before.slots a start)

    module _ (e : Edge) (s : Suits t e) (none : mark_at old.pages.slots e.target ≡ None) where
      was_none : g.marks e.target ≡ None
      was_none = sym (is_at e.target s.starts) ∙ none

      unmarked : mark_at t.before.slots e.target ≡ None
      unmarked = none_before e.target (g.marks e.target) (g.status e.target) was_none

      f : Fits t (block_in e)
      f = s.fits unmarked

      mark_is : (p : Bool) → Some (mark_as e p) ≡ Some (own_as t.walks e.target p)
      mark_is p = ap (λ w. Some (record { walk = w; count = e.count; pending = p })) f.walk ∙ ap (λ n. Some (record { walk = (t.walks e.target).walk; count = n; pending = p })) f.count

      -- the target waits, or it is left to a pass
      good_marked : (p : Bool) (new : State) → new.pages ≡ marked_as old.pages e p → ((a : ℕ) → Waits old a → Waits new a) → ((a : ℕ) → IsPutOff old a → IsPutOff new a)
          → (p ≡ false → Waits new e.target) → (p ≡ true → IsPutOff new e.target) → All (Fits t) new.stack → IfSome new.next (Fits t) → Good t (e.target ∷ begun) hand new
      good_marked p new pages more further waits later fit following = record {
        marks = put g.marks e.target (Some (mark_as e p));
        pages = pages ∙ ap (λ c. marked_as c e p) g.pages ∙ ap (with_slots t.before) (with_mark_remarked g.marks t.before.slots e.target (Some (mark_as e p)));
        status = put_cases (λ a mark. IsOld t a mark ⊎ IsNew t a mark) g.marks e.target (Some (mark_as e p))
            (inr (record {
              unmarked = unmarked;
              reached = elim f.met [ inl some ↦ absurd (false≢true (sym (ap is_some unmarked) ∙ some)) | inr reached ↦ reached ];
              pending = p;
              is = mark_is p;
            }))
            (λ a _. g.status a);
        closed = λ a x off rests own there. put_some g.marks e.target (mark_as e p) x.target
            (put_cases (λ b mark. hand ≢ Some b → (Waits new b → ⊥) → mark ≡ Some (own_mark t.walks b) → Contains (block_edges tables space t.walks b) x → is_some (g.marks x.target) ≡ true) g.marks e.target (Some (mark_as e p))
            (λ _ rests same _. absurd (rests (waits (ap has_pending same))))
            (λ b _ off rests same in-b. g.closed b x off (λ w. rests (more b w)) same in-b) a off rests own there);
        put_off = λ a start free pending. put_cases (λ b mark. StartsSome t.before.slots b → mark_at t.before.slots b ≡ None → has_pending mark ≡ true → IsPutOff new b) g.marks e.target (Some (mark_as e p))
            (λ _ _ is. later is)
            (λ b _ from none h. further b (g.put_off b from none h)) a start free pending;
        fit = fit;
        next = following;
        began = λ a there. elim (contains_cases e.target a begun there) [
          | inl is ↦ subst (λ b. is_some (put g.marks e.target (Some (mark_as e p)) b) ≡ true) is (ap is_some (put_same g.marks e.target (Some (mark_as e p))))
          | inr after ↦ put_some g.marks e.target (mark_as e p) a (g.began a after)
        ];
      }

      fewer : (p : Bool) → count_by is_unmarked (marked_as old.pages e p).slots + 1 ≤ count_by is_unmarked old.pages.slots
      fewer p =
          let x : Slot = s.starts.0 in
          let at : x.address ≡ e.target = s.starts.2 in
          let after : count_by is_unmarked (marked_as old.pages e p).slots ≡ count_by (is_free (put g.marks e.target (Some (mark_as e p)))) t.before.slots =
          ap (λ c. count_by is_unmarked (marked_as c e p).slots) g.pages
          ∙ ap (count_by is_unmarked) (with_mark_remarked g.marks t.before.slots e.target (Some (mark_as e p)))
          ∙ count_remarked (put g.marks e.target (Some (mark_as e p))) t.before.slots in
          let less = count_lt (is_free g.marks) (is_free (put g.marks e.target (Some (mark_as e p)))) t.before.slots x
          (λ y h. cond_none (y.address == e.target) (mark_as e p) (g.marks y.address) h)
          s.starts.1
          (ap (λ b. is_none (put g.marks e.target (Some (mark_as e p)) b)) at ∙ ap is_none (put_same g.marks e.target (Some (mark_as e p))))
          (ap (λ b. is_none (g.marks b)) at ∙ ap is_none was_none) in
          let before = unmarked_is in
          omega (arith, after, less, before)

    good_known : (e : Edge) → Suits t e → mark_at old.pages.slots e.target ≢ None → Good t (e.target ∷ begun) hand old
    good_known e f some = record {
      marks = g.marks;
      pages = g.pages;
      status = g.status;
      closed = g.closed;
      put_off = g.put_off;
      fit = g.fit;
      next = g.next;
      began = λ a there. elim (contains_cases e.target a begun there) [
        | inl is ↦ subst (λ b. is_some (g.marks b) ≡ true) is (some_from (g.marks e.target) (λ h. some (is_at e.target f.starts ∙ h)))
        | inr later ↦ g.began a later
      ];
    }

    pub record Stepped (e : Edge) (new : State) : Type 0 where
      pub good : Good t (e.target ∷ begun) hand new
      pub eases : Eases old new

    pub stepped : (e : Edge) (new : State) → Suits t e → TakesEdge old e new → Stepped e new
    stepped e new s (known some same) = subst (Stepped e) (sym same) (record { good = good_known e s some; eases = eases_same old })
    stepped e new s (next none is) =
        let less = fewer e s none false in
        let idle : one_if (is_some old.next) ≡ 0 = ap (λ n. one_if (is_some n)) is.free in
        subst (Stepped e) (sym is.result) (record {
          good = good_marked e s none false (record old { pages = marked_pages old.pages e; next = Some (block_in e) }) refl
              (λ a w. elim w [
                | inl on ↦ inl on
                | inr there ↦ absurd (false≢true (ap (λ n. is_some (option_map (λ b. b.addr) n)) (sym is.free) ∙ ap is_some there))
              ])
              (λ a later. later) (λ _. inr refl) (λ not. absurd (false≢true not)) g.fit (f e s none);
          eases = record { load = omega (arith, less, idle); lost = omega (arith, less); stands = refl };
        })
    stepped e new s (pushed none is) =
        let less = fewer e s none false in
        let long = length_push old.stack (block_in e) in
        subst (Stepped e) (sym is.result) (record {
          good = good_marked e s none false (record old { pages = marked_pages old.pages e; stack = old.stack ++ block_in e ∷ [] }) refl
              (λ a w. elim w [
                | inl on ↦ inl (on.0, Contains-append_left old.stack (block_in e ∷ []) on.0 on.1, on.2)
                | inr there ↦ inr there
              ])
              (λ a later. later) (λ _. inl (block_in e, Contains-push old.stack (block_in e), refl)) (λ not. absurd (false≢true not))
              (All-push (Fits t) old.stack (block_in e) g.fit (f e s none)) g.next;
          eases = record { load = omega (arith, less, long); lost = omega (arith, less); stands = refl };
        })
    stepped e new s (lost none is) =
        let pages = postponed_marked old.pages e (starts_now e.target s.starts) in
        let same : count_by is_unmarked (postponed_pages (marked_pages old.pages e) e.target).slots ≡ count_by is_unmarked (marked_as old.pages e true).slots = ap (λ c. count_by is_unmarked c.slots) pages in
        let less = fewer e s none true in
        let one = one_if_le (is_some new.lost) in
        let mid : State = record old { pages = postponed_pages (marked_pages old.pages e) e.target } in
        let l : Loses mid e.target new = subst (Loses mid e.target) (sym is.result) (loses mid e.target) in
        subst (Stepped e) (sym l.rest) (record {
          good = good_marked e s none true (record mid { lost = new.lost; pass = new.pass }) pages (λ a w. w)
              (λ a later. elim later [ inl left ↦ inl (l.keeps_left a left) | inr above ↦ inr (l.keeps_ahead a above) ])
              (λ not. absurd (true≢false not)) (λ _. l.there) g.fit g.next;
          eases = record { load = omega (arith, same, less); lost = omega (arith, same, less, one); stands = l.stands };
        })
