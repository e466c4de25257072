-- How the steps of the marker follow one another.
use Rattle.std.proofs.Common.{◌≡◌, ◌≢◌, ℕ, ◌+◌, ◌≤◌, ◌<◌, ◌⊎◌, suc, true, false, List, [], ◌∷◌, ◌++◌, length, map, count_by, Option, Some, None, is_some, is_none, refl, ap, subst, sym, ◌∙◌, inl, inr, arith}
use Rattle.std.specs.Prelude.{All, Contains, nat_lt, option_map}
use Rattle.std.proofs.lemmas.Bool.{cases_Bool, false≢true}
use Rattle.std.proofs.lemmas.List.{length_push}
use Rattle.std.proofs.lemmas.List.Elements.{All-pop, Contains-push_cases}
use Rattle.gt_space.specs.Range.{Range}
use Rattle.gt_entries.specs.declared.marks.Mark.{Mark}
use Rattle.gt_entries.specs.Cells.{has_pending}
use Rattle.gt_pages.specs.Slots.{StartsSome, is_pending, is_unmarked, mark_at, next_slot, told_of, walked, with_mark_at}
use Rattle.gt_pages.specs.Contents.{Contents, with_slots}
use Rattle.gt_walk.specs.declared.tables.Tables.{Tables}
use Rattle.gt_mark.specs.declared.spans.Pass.{Pass}
use Rattle.gt_mark.specs.declared.spans.Span.{Span}
use Rattle.gt_mark.specs.declared.stack.Block.{Block}
use Rattle.gt_mark.specs.Reached.{block_edges}
use Rattle.gt_mark.specs.Marks.{own_mark}
use Rattle.gt_mark.specs.Steps.{State, Task, Ends, Fits, Goes, Good, Holds, IsAhead, IsLeft, IsNew, IsOld, Lessens, PassesOver, Waits, ahead, ahead_in, begun_state, left, one_if, pass_over, passes, place_of, remarked}
use Rattle.gt_mark.proofs.Remarked.{IsFound, count_above, count_above_less, count_le, count_remarked, found_next, is_free, none_next, put, with_mark_remarked}
use Rattle.gt_mark.proofs.Going.{is_at, own_of, put_cases, starts_now, unmarked_is, walked_done, walked_none, walked_some}

abbrev walk_in : Option Mark → ℕ
walk_in (Some m) = m.walk
walk_in None = 0

abbrev count_in : Option Mark → ℕ
count_in (Some m) = m.count
count_in None = 0

-- a block is in hand, after others
pub record WentOn {tables : Tables} {space : Range} (t : Task tables space) (begun : List ℕ) (b : Block) (old new : State) : Type 0 where
  pub holds : Holds t begun (Some b) new
  pub lessens : Lessens old new 0
  pub stands : place_of new ≡ place_of old

pub lessens_same : (st : State) → Lessens st st 0
lessens_same st = record { left = omega arith; lost = omega arith }

pub lessens_on : (a b c : State) (n : ℕ) → Lessens a b 0 → Lessens b c n → Lessens a c n
lessens_on a b c n e f =
    let el = e.left in let fl = f.left in let eo = e.lost in let fo = f.lost in
    record { left = omega (arith, el, fl); lost = omega (arith, eo, fo) }

pub lessens_less : (a b : State) (n : ℕ) → Lessens a b n → Lessens a b 0
lessens_less a b n e = let el = e.left in let eo = e.lost in record { left = omega (arith, el); lost = omega (arith, eo) }

-- where a pass stands changes neither
pub lessens_pass : (st : State) (pass : Option Pass) → Lessens st (record st { pass = pass }) 0
lessens_pass st pass = record { left = omega arith; lost = omega arith }

module _ {tables : Tables} {space : Range} (t : Task tables space) (begun : List ℕ) where
  pub went_start : (b : Block) (st : State) → Holds t begun (Some b) st → WentOn t begun b st st
  went_start b st h = record { holds = h; lessens = lessens_same st; stands = refl }

  pub went_next : (b c : Block) (hand : Option Block) (first old new : State) → WentOn t begun b first old → (Holds t begun (Some b) old → Goes t begun hand old new) → hand ≡ Some c → WentOn t begun c first new
  went_next b c hand first old new w goes is =
      let g = goes w.holds in
      record {
        holds = subst (λ o. Holds t begun o new) is g.holds;
        lessens = lessens_on first old new 0 w.lessens (lessens_less old new (one_if (is_some hand)) g.lessens);
        stands = g.stands ∙ w.stands;
      }

  pub went_end : (b : Block) (hand : Option Block) (first old new : State) → WentOn t begun b first old → (Holds t begun (Some b) old → Goes t begun hand old new) → hand ≡ None → Goes t begun None first new
  went_end b hand first old new w goes is =
      let g = goes w.holds in
      record {
        holds = subst (λ o. Holds t begun o new) is g.holds;
        lessens = lessens_on first old new 0 w.lessens (lessens_less old new (one_if (is_some hand)) g.lessens);
        stands = g.stands ∙ w.stands;
      }

  pub went_last : (b : Block) (hand : Option Block) (first old new : State) → WentOn t begun b first old → (Holds t begun (Some b) old → Goes t begun hand old new) → Goes t begun hand first new
  went_last b hand first old new w goes =
      let g = goes w.holds in
      record {
        holds = g.holds;
        lessens = lessens_on first old new (one_if (is_some hand)) w.lessens g.lessens;
        stands = g.stands ∙ w.stands;
      }

  -- ---- the stack

  pub good_popped : (rest : List Block) (b : Block) (st : State) → st.stack ≡ rest ++ b ∷ [] → Holds t begun None st → Holds t begun (Some b) (record st { stack = rest })
  good_popped rest b st is h =
      let g = h.good in
      let all : All (Fits t) (rest ++ b ∷ []) = subst (All (Fits t)) is g.fit in
      let parts = All-pop (Fits t) (rest ++ b ∷ []) rest (Some b) refl all in
      record {
        good = record {
          marks = g.marks;
          pages = g.pages;
          status = g.status;
          closed = λ a e off rests own there. g.closed a e (λ no-one. false≢true (ap is_some no-one)) (λ w. elim w [
            | inl on ↦ elim (Contains-push_cases rest b on.0 (subst (λ l. Contains l on.0) is on.1)) [
              | inl before ↦ rests (inl (on.0, before, on.2))
              | inr top ↦ off (ap Some (ap (λ x. x.addr) top ∙ on.2))
            ]
            | inr next ↦ rests (inr next)
          ]) own there;
          put_off = g.put_off;
          fit = parts.0;
          next = g.next;
          began = g.began;
        };
        idle = h.idle;
        unchained = h.unchained;
        fits = parts.1;
      }

  pub went_popped : (rest : List Block) (b : Block) (first old new : State) → old.stack ≡ rest ++ b ∷ [] → Goes t begun None first old
      → (Holds t begun (Some b) (record old { stack = rest }) → Goes t begun None (record old { stack = rest }) new) → Goes t begun None first new
  went_popped rest b first old new is w goes =
      let g = goes (good_popped rest b old is w.holds) in
      let long : length old.stack ≡ length rest + 1 = ap length is ∙ length_push rest b in
      let wl = w.lessens.left in
      let gl = g.lessens.left in
      let wo = w.lessens.lost in
      let go = g.lessens.lost in
      record { holds = g.holds; lessens = record { left = omega (arith, long, wl, gl); lost = omega (arith, wo, go) }; stands = g.stands ∙ w.stands }

  pub popped_less : (rest : List Block) (b : Block) (old new : State) → old.stack ≡ rest ++ b ∷ [] → Lessens (record old { stack = rest }) new 0 → left new < left old
  popped_less rest b old new is l =
      let long : length old.stack ≡ length rest + 1 = ap length is ∙ length_push rest b in
      let less = l.left in
      omega (arith, long, less)

pub goes_same : {tables : Tables} {space : Range} (t : Task tables space) (begun : List ℕ) (hand : Option Block) (st : State) → Holds t begun None st → Goes t begun None st st
goes_same t begun hand st h = record { holds = h; lessens = lessens_same st; stands = refl }

-- ---- a pass

-- what holds does not speak of where a pass stands but by what is left to it
with_pass : {tables : Tables} {space : Range} (t : Task tables space) (begun : List ℕ) (pass : Option Pass) (st : State) (h : Holds t begun None st)
    → ((a : ℕ) → StartsSome t.before.slots a → has_pending (h.good.marks a) ≡ true → IsAhead st.pass a → IsAhead pass a) → Holds t begun None (record st { pass = pass })
with_pass t begun pass st h later =
    let g = h.good in
    record {
      good = record {
        marks = g.marks;
        pages = g.pages;
        status = g.status;
        closed = g.closed;
        put_off = λ a start free pending. elim (g.put_off a start free pending) [
          | inl over ↦ inl over
          | inr above ↦ inr (later a start pending above)
        ];
        fit = g.fit;
        next = g.next;
        began = g.began;
      };
      idle = h.idle;
      unchained = h.unchained;
      fits = tt;
    }

walked_twice : (o : Option Mark) → walked (walked o) ≡ walked o
walked_twice None = refl
walked_twice (Some m) = refl

-- the pages with the block at this address left to no pass
abbrev walked_pages : Contents → ℕ → Contents
walked_pages pages addr = with_slots pages (with_mark_at pages.slots addr (walked (mark_at pages.slots addr)))

-- a pass takes a block
module _ {tables : Tables} {space : Range} (t : Task tables space) (begun : List ℕ) (st : State) (g : Good t begun None st) (addr : ℕ) (start : StartsSome t.before.slots addr) where
  abbrev taken : ℕ → Option Mark
  taken = put g.marks addr (walked (g.marks addr))

  still : (a : ℕ) → is_some (taken a) ≡ is_some (g.marks a)
  still = put_cases (λ a mark. is_some mark ≡ is_some (g.marks a)) g.marks addr (walked (g.marks addr)) (walked_some (g.marks addr)) (λ a _. refl)

  still_none : (a : ℕ) → is_none (taken a) ≡ is_none (g.marks a)
  still_none = put_cases (λ a mark. is_none mark ≡ is_none (g.marks a)) g.marks addr (walked (g.marks addr)) (walked_none (g.marks addr)) (λ a _. refl)

  taken_pages : walked_pages st.pages addr ≡ with_slots t.before (map (remarked taken) t.before.slots)
  taken_pages =
      ap (λ m. with_slots st.pages (with_mark_at st.pages.slots addr (walked m))) (is_at t begun None st g addr start)
      ∙ ap (λ p. with_slots p (with_mark_at p.slots addr (walked (g.marks addr)))) g.pages
      ∙ ap (with_slots t.before) (with_mark_remarked g.marks t.before.slots addr (walked (g.marks addr)))

  good_taken : (pass : Option Pass) → ((a : ℕ) → StartsSome t.before.slots a → a ≢ addr → has_pending (g.marks a) ≡ true → IsAhead st.pass a → IsAhead pass a)
      → Good t begun (Some addr) (record st { pages = walked_pages st.pages addr; pass = pass })
  good_taken pass later = record {
    marks = taken;
    pages = taken_pages;
    status = put_cases (λ a mark. IsOld t a mark ⊎ IsNew t a mark) g.marks addr (walked (g.marks addr))
        (elim (g.status addr) [
          | inl old ↦ inl (inr (elim old [ inl same ↦ ap walked same | inr done ↦ ap walked done ∙ walked_twice (mark_at t.before.slots addr) ]))
          | inr new ↦ inr (record { unmarked = new.unmarked; reached = new.reached; pending = false; is = ap walked new.is })
        ])
        (λ a _. g.status a);
    closed = λ a e off rests own there. still e.target
        ∙ put_cases (λ x mark. (Some addr ≢ Some x) → (Waits st x → ⊥) → mark ≡ Some (own_mark t.walks x) → Contains (block_edges tables space t.walks x) e → is_some (g.marks e.target) ≡ true) g.marks addr (walked (g.marks addr))
        (λ off _ _ _. absurd (off refl))
        (λ x _ _ rests is in-x. g.closed x e (λ no-one. false≢true (ap is_some no-one)) rests is in-x) a off rests own there;
    put_off = λ a starts free pending. put_cases (λ x mark. StartsSome t.before.slots x → mark_at t.before.slots x ≡ None → has_pending mark ≡ true → IsLeft st.lost x ⊎ IsAhead pass x) g.marks addr (walked (g.marks addr))
        (λ _ _ p. absurd (false≢true (sym (walked_done (g.marks addr)) ∙ p)))
        (λ x apart from none p. elim (g.put_off x from none p) [
          | inl over ↦ inl over
          | inr above ↦ inr (later x from apart p above)
        ]) a starts free pending;
    fit = g.fit;
    next = g.next;
    began = λ a there. still a ∙ g.began a there;
  }

  taken_same : count_by is_unmarked (walked_pages st.pages addr).slots ≤ count_by is_unmarked st.pages.slots
  taken_same =
      let before = unmarked_is t begun None st g in
      let after : count_by is_unmarked (walked_pages st.pages addr).slots ≡ count_by (is_free taken) t.before.slots =
      ap (λ p. count_by is_unmarked p.slots) taken_pages ∙ count_remarked taken t.before.slots in
      let less = count_le (is_free g.marks) (is_free taken) t.before.slots (λ s h. sym (still_none s.address) ∙ h) in
      omega (arith, before, after, less)

  counted_now : (at : ℕ) → count_by (λ s. nat_lt at s.address) (walked_pages st.pages addr).slots ≡ count_by (λ s. nat_lt at s.address) t.before.slots
  counted_now at = ap (λ c. count_by (λ s. nat_lt at s.address) c.slots) taken_pages ∙ count_above taken t.before.slots at

module _ {tables : Tables} {space : Range} (t : Task tables space) (begun : List ℕ) where
  pub goes_on : (a b c : State) → Goes t begun None a b → Goes t begun None b c → Goes t begun None a c
  goes_on a b c v w = record { holds = w.holds; lessens = lessens_on a b c 0 v.lessens w.lessens; stands = w.stands ∙ v.stands }

  own_pending : (a walk count : ℕ) (mark : Option Mark) → StartsSome t.before.slots a → IsOld t a mark ⊎ IsNew t a mark
      → mark ≡ Some (record { walk = walk; count = count; pending = true }) → Fits t (record { addr = a; walk = walk; count = count })
  own_pending a walk count mark start status is =
      let own = own_of t a start mark status (ap is_some is) in
      record {
        starts = start;
        met = elim (cases_Bool (is_some (mark_at t.before.slots a))) [
          | inl some ↦ inl some
          | inr not ↦ elim status [
            | inl old ↦ absurd (false≢true (sym (elim old [ inl same ↦ ap is_some same | inr done ↦ ap is_some done ∙ walked_some (mark_at t.before.slots a) ] ∙ not) ∙ ap is_some is))
            | inr new ↦ inr new.reached
          ]
        ];
        walk = ap walk_in (sym is ∙ own.1);
        count = ap count_in (sym is ∙ own.1);
      }

  module _ (st : State) (p : Pass) (at : st.pass ≡ Some p) (h : Holds t begun None st) where
    -- the next block above the place of the pass
    pub found_in : (addr walk count : ℕ) → Some (addr, walk, count) ≡ told_of (next_slot is_pending st.pages.slots p.at) → IsFound h.good.marks t.before.slots p.at addr walk count
    found_in addr walk count is = found_next h.good.marks t.before.slots p.at addr walk count t.rises (is ∙ ap (λ c. told_of (next_slot is_pending c.slots p.at)) h.good.pages)

    -- the marker once the pass has taken this block
    abbrev found_state : ℕ → State
    found_state addr = record st { pages = walked_pages st.pages addr; pass = Some (record { at = addr; last = p.last }) }

    pub holds_found : (addr walk count : ℕ) → Some (addr, walk, count) ≡ told_of (next_slot is_pending st.pages.slots p.at)
        → Holds t begun (Some (record { addr = addr; walk = walk; count = count })) (found_state addr)
    holds_found addr walk count is =
        let found = found_in addr walk count is in
        record {
          good = good_taken t begun st h.good addr found.starts (Some (record { at = addr; last = p.last })) (λ a start apart pending above.
              let in-p = subst (λ o. IsAhead o a) at above in
              elim (found.first a start in-p.0 pending) [
                | inl same ↦ absurd (apart (sym same))
                | inr later ↦ (later, in-p.1)
              ]);
          idle = h.idle;
          unchained = h.unchained;
          fits = own_pending addr walk count (h.good.marks addr) found.starts (h.good.status addr) found.mark;
        }

    pub lessens_found : (addr walk count : ℕ) → Some (addr, walk, count) ≡ told_of (next_slot is_pending st.pages.slots p.at) → Lessens st (found_state addr) 0
    lessens_found addr walk count is =
        let less = taken_same t begun st h.good addr (found_in addr walk count is).starts in
        record { left = omega (arith, less); lost = omega (arith, less) }

    pub starts_found : (addr walk count : ℕ) → Some (addr, walk, count) ≡ told_of (next_slot is_pending st.pages.slots p.at) → StartsSome st.pages.slots addr
    starts_found addr walk count is = starts_now t begun None st h.good addr (found_in addr walk count is).starts

    pub holds_done : None ≡ told_of (next_slot is_pending st.pages.slots p.at) → Holds t begun None (record st { pass = None })
    holds_done is =
        let none = none_next h.good.marks t.before.slots p.at t.rises (is ∙ ap (λ c. told_of (next_slot is_pending c.slots p.at)) h.good.pages) in
        with_pass t begun None st h (λ a start pending above. absurd (none a start (subst (λ o. IsAhead o a) at above).0 pending))

    pub holds_past : p.last ≤ p.at → Holds t begun None (record st { pass = None })
    holds_past past =
        with_pass t begun None st h (λ a start pending above.
        let in-p = subst (λ o. IsAhead o a) at above in
        let low = in-p.0 in let high = in-p.1 in
        absurd (let no : 1 ≤ 0 = omega (arith, past, low, high) in omega (arith, no)))

    pub ahead_found : (addr walk count : ℕ) → Some (addr, walk, count) ≡ told_of (next_slot is_pending st.pages.slots p.at) → ahead (found_state addr) < ahead st
    ahead_found addr walk count is =
        let found = found_in addr walk count is in
        let less = count_above_less t.before.slots p.at addr found.above found.starts in
        let was : ahead st ≡ suc (count_by (λ s. nat_lt p.at s.address) st.pages.slots) = ap (λ o. ahead_in (option_map (λ q. q.at) o) st.pages.slots) at in
        let old : count_by (λ s. nat_lt p.at s.address) st.pages.slots ≡ count_by (λ s. nat_lt p.at s.address) t.before.slots =
        ap (λ c. count_by (λ s. nat_lt p.at s.address) c.slots) h.good.pages ∙ count_above h.good.marks t.before.slots p.at in
        let new = counted_now t begun st h.good addr found.starts addr in
        omega (arith, less, was, old, new)

  pub holds_no_pass : (st : State) → st.pass ≡ None → Holds t begun None st → Holds t begun None (record st { pass = None })
  holds_no_pass st none h = with_pass t begun None st h (λ a start pending above. subst (λ o. IsAhead o a) none above)

  ahead_before : (o held : Option ℕ) (st : State) → Good t begun held st → ahead_in o st.pages.slots ≡ ahead_in o t.before.slots
  ahead_before None held st g = refl
  ahead_before (Some at) held st g = ap suc (ap (λ c. count_by (λ s. nat_lt at s.address) c.slots) g.pages ∙ count_above g.marks t.before.slots at)

  pub ahead_same : (a b : State) (held kept : Option ℕ) → Good t begun held a → Good t begun kept b → place_of b ≡ place_of a → ahead b ≡ ahead a
  ahead_same a b held kept g k same = ap (λ o. ahead_in o b.pages.slots) same ∙ ahead_before (place_of a) kept b k ∙ sym (ahead_before (place_of a) held a g)

  -- a pass begins
  left_ahead : (o : Option Span) (a : ℕ) → 0 < a → IsLeft o a → IsAhead (option_map pass_over o) a
  left_ahead None a some left = absurd left
  left_ahead (Some s) a some left = let low = left.0 in (omega (arith, some, low), left.1)

  pub no_place : (o : Option Pass) (a : ℕ) → option_map (λ p. p.at) o ≡ None → IsAhead o a → ⊥
  no_place None a none above = above
  no_place (Some p) a none above = false≢true (sym (ap is_some none))

  pub holds_begun : (st : State) → place_of st ≡ None → Holds t begun None st → Holds t begun None (begun_state st)
  holds_begun st none h =
      let g = h.good in
      record {
        good = record {
          marks = g.marks;
          pages = g.pages;
          status = g.status;
          closed = g.closed;
          put_off = λ a start free pending. elim (g.put_off a start free pending) [
            | inl left ↦ inr (left_ahead st.lost a (subst (λ x. 0 < x) start.2 (t.positive start.0 start.1)) left)
            | inr above ↦ absurd (no_place st.pass a none above)
          ];
          fit = g.fit;
          next = g.next;
          began = g.began;
        };
        idle = h.idle;
        unchained = h.unchained;
        fits = tt;
      }

  pub ends_start : (st : State) → Holds t begun None st → Ends t begun 1 st st
  ends_start st h = record { holds = h; rounds_are = omega arith }

  pub ends_more : (rounds more : ℕ) (first old new : State) → is_some old.lost ≡ true → place_of old ≡ None → more ≤ rounds + 1 → Ends t begun rounds first old
      → (Holds t begun None (begun_state old) → PassesOver t begun (begun_state old) new) → Ends t begun more first new
  ends_more rounds more first old new lost idle bound e goes =
      let g = goes (holds_begun old idle e.holds) in
      let one : one_if (is_some old.lost) ≡ 1 = ap one_if lost in
      let less = g.lessens.lost in
      let was = e.rounds_are in
      record { holds = g.holds; rounds_are = omega (arith, one, bound, less, was) }

  pub ends_less : (old new : State) → is_some old.lost ≡ true → PassesOver t begun (begun_state old) new → passes new < passes old
  ends_less old new lost g =
      let one : one_if (is_some old.lost) ≡ 1 = ap one_if lost in
      let less = g.lessens.lost in
      omega (arith, one, less)
