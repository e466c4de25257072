-- What walking keeps of why blocks are marked.
use Rattle.std.proofs.Common.{◌≡◌, ◌≢◌, ℕ, ◌+◌, ◌^◌, ◌<◌, ◌≤◌, ◌⊎◌, ◌==◌, Bool, true, false, cond, List, [], ◌∷◌, ◌++◌, length, map, count_by, Option, Some, None, is_some, refl, sym, ap, subst, ◌∙◌, inl, inr, arith}
use Rattle.std.specs.Prelude.{All, Contains, IfSome, nat_eq, option_map}
use Rattle.std.specs.List.{IsDistinct}
use Rattle.std.proofs.lemmas.Bool.{cases_Bool, cases_eq, eq-eqb, false≢true, ne_eqb}
use Rattle.std.proofs.lemmas.List.{length_push}
use Rattle.std.proofs.lemmas.List.Elements.{All-contains, All-head, All-tail, Contains-append_left, Contains-push, Contains-push_cases}
use Rattle.gt_space.specs.Range.{Range}
use Rattle.gt_pages.specs.Slots.{StartsSome, mark_at, new_mark}
use Rattle.gt_pages.specs.Contents.{Contents}
use Rattle.gt_walk.specs.declared.tables.Tables.{Tables}
use Rattle.gt_walk.specs.Rows.{Edge, edges_of, rows_of, word_at}
use Rattle.gt_walk.specs.Sinks.{Took}
use Rattle.gt_mark.specs.declared.stack.Block.{Block}
use Rattle.gt_mark.specs.declared.marker.Marker.{Marker}
use Rattle.gt_mark.specs.Chains.{chain_place}
use Rattle.gt_mark.specs.Steps.{State, Task, Good, Holds, Leaves, Suits, Takes, TakesEdge, Waits, known, next, pushed, lost, block_in, marked_pages, one_if, postponed_pages, state_of, with_targets}
use Rattle.gt_mark.specs.Wide.{IsCrowd, IsGained, IsOnly, Opened, Origin, KeepsAside, Wide}
use Rattle.gt_mark.proofs.Remarked.{contains_tail, contains_head, count_cons}
use Rattle.gt_mark.proofs.Going.{block_fits, is_at, same_edges, starts_now, stepped}
use Rattle.gt_mark.proofs.Losing.{Loses, loses, mark_as, postponed_marked}
use Rattle.gt_mark.proofs.Blocks.{good_chained, taken_all, takes_block, targets_have}
use Rattle.gt_mark.proofs.Crowds.{Grows, count_one, fewer_only, grows_marked}
use Rattle.gt_mark.proofs.Apart.{Sides, aside_now, before_none, chain_same, distinct_popped, number_in, sides_block, stacked_lost, stacked_next, stacked_pushed}

if_some_on : (o : Option Block) (P Q : Block → Type 0) → ((b : Block) → P b → Q b) → IfSome o P → IfSome o Q
if_some_on None P Q f h = tt
if_some_on (Some b) P Q f h = f b h

module _ {tables : Tables} {space : Range} (t : Task tables space) (walked : ℕ → Bool) (opened held : Option ℕ) where
  -- what one edge does, and what several do
  pub record Widens (old new : State) : Type 0 where
    pub now : Opened t new walked opened held
    pub grow : (a : ℕ) → is_some (mark_at old.pages.slots a) ≡ true → is_some (mark_at new.pages.slots a) ≡ true
    pub over : is_some old.lost ≡ true → is_some new.lost ≡ true
    pub counts : (blocks : List ℕ) → IsDistinct nat_eq blocks
        → (count_by (λ a. is_some (mark_at new.pages.slots a)) blocks + (length old.stack + one_if (is_some old.next)) ≤ count_by (λ a. is_some (mark_at old.pages.slots a)) blocks + (length new.stack + one_if (is_some new.next))) ⊎ (is_some new.lost ≡ true)

  module _ (old new : State) (o : Opened t old walked opened held) (e : Edge) (source : Origin t walked e.target) (g : Grows old.pages.slots new.pages.slots e.target) where
    origin_now : (a : ℕ) → is_some (mark_at new.pages.slots a) ≡ true → (is_some (mark_at t.before.slots a) ≡ true) ⊎ Origin t walked a
    origin_now a h = elim (g.more a h) [
      | inl is ↦ inr (subst (Origin t walked) (sym is) source)
      | inr was ↦ o.origin a was
    ]

    seen_now : ((a : ℕ) → Waits old a → Waits new a) → (is_some old.lost ≡ true → is_some new.lost ≡ true) → Waits new e.target ⊎ (is_some new.lost ≡ true)
        → (a : ℕ) → mark_at t.before.slots a ≡ None → is_some (mark_at new.pages.slots a) ≡ true → (walked a ≡ true) ⊎ (held ≡ Some a) ⊎ Waits new a ⊎ (is_some new.lost ≡ true)
    seen_now more over target a free h = elim (g.more a h) [
      | inl is ↦ inr (inr (elim target [ inl waits ↦ inl (subst (Waits new) (sym is) waits) | inr out ↦ inr out ]))
      | inr was ↦ elim (o.seen a free was) [
        | inl done ↦ inl done
        | inr rest ↦ elim rest [
          | inl hand ↦ inr (inl hand)
          | inr later ↦ elim later [ inl waits ↦ inr (inr (inl (more a waits))) | inr out ↦ inr (inr (inr (over out))) ]
        ]
      ]
    ]

    pub widens : new.pass ≡ None → KeepsAside t new → length new.stack ≤ 64 → ((b : Block) → Contains new.stack b → is_some (mark_at new.pages.slots b.addr) ≡ true) → IfSome new.next (λ b. is_some (mark_at new.pages.slots b.addr) ≡ true)
        → ((a : ℕ) → Waits old a → Waits new a) → (is_some old.lost ≡ true → is_some new.lost ≡ true) → Waits new e.target ⊎ (is_some new.lost ≡ true)
        → (length old.stack + one_if (is_some old.next) + 1 ≤ length new.stack + one_if (is_some new.next)) ⊎ (is_some new.lost ≡ true) → Widens old new
    widens no_pass keeps short stacked followed more over target filled = record {
      now = record {
        no_pass = no_pass;
        keeps = keeps;
        short = short;
        stacked = stacked;
        followed = followed;
        marked = λ a done. g.grow a (o.marked a done);
        origin = origin_now;
        seen = seen_now more over target;
        wide = λ from blocks off crowd done. over (o.wide from blocks off (fewer_only t old new from blocks g.grow crowd) done);
      };
      grow = g.grow;
      over = over;
      counts = λ blocks distinct. elim filled [
        | inl fuller ↦
            let one = count_one (λ a. is_some (mark_at old.pages.slots a)) (λ a. is_some (mark_at new.pages.slots a)) e.target blocks g.more distinct in
            inl (omega (arith, fuller, one))
        | inr out ↦ inr out
      ];
    }

  widens_same : (st : State) → Opened t st walked opened held → Widens st st
  widens_same st o = record { now = o; grow = λ a h. h; over = λ h. h; counts = λ blocks distinct. inl (omega arith) }

  pub widens_on : (a b c : State) → Widens a b → Widens b c → Widens a c
  widens_on a b c v w = record {
    now = w.now;
    grow = λ x h. w.grow x (v.grow x h);
    over = λ h. w.over (v.over h);
    counts = λ blocks distinct. elim (v.counts blocks distinct) [
      | inl one ↦ elim (w.counts blocks distinct) [ inl two ↦ inl (omega (arith, one, two)) | inr out ↦ inr out ]
      | inr out ↦ inr (w.over out)
    ];
  }

  widen_step : (old new : State) (e : Edge) → Opened t old walked opened held → StartsSome old.pages.slots e.target → Origin t walked e.target → Sides t old.chain e → e.place < 2 ^ 64 → (mark_at old.pages.slots e.target ≡ None → IsGained t e.target)
      → TakesEdge old e new → Widens old new
  widen_step old new e o start source sides small gained (known some same) = subst (Widens old) (sym same) (widens_same old o)
  widen_step old new e o start source sides small gained (next none is) =
      let grows = grows_marked old.pages.slots e.target (new_mark e.walk e.count) start in
      let idle : one_if (is_some old.next) ≡ 0 = ap (λ n. one_if (is_some n)) is.free in
      subst (Widens old) (sym is.result)
      (widens old _ o e source grows o.no_pass (stacked_next t old o.keeps e none is.place (sides.read is.place)) o.short (λ b there. grows.grow b.addr (o.stacked b there)) grows.there
      (λ a w. elim w [
        | inl on ↦ inl on
        | inr there ↦ absurd (false≢true (ap (λ n. is_some (option_map (λ b. b.addr) n)) (sym is.free) ∙ ap is_some there))
      ])
      (λ h. h) (inl (inr refl)) (inl (omega (arith, idle))))
  widen_step old new e o start source sides small gained (pushed none is) =
      let grows = grows_marked old.pages.slots e.target (new_mark e.walk e.count) start in
      let long = length_push old.stack (block_in e) in
      let room = is.room in
      subst (Widens old) (sym is.result)
      (widens old _ o e source grows o.no_pass (stacked_pushed t old o.keeps e none o.stacked (aside_now t old o.keeps e none o.followed sides small is.aside (gained none))) (omega (arith, long, room))
      (λ b there. elim (Contains-push_cases old.stack (block_in e) b there) [
        | inl before ↦ grows.grow b.addr (o.stacked b before)
        | inr top ↦ ap (λ x. is_some (mark_at (marked_pages old.pages e).slots x.addr)) (sym top) ∙ grows.there
      ])
      (if_some_on old.next _ _ (λ b h. grows.grow b.addr h) o.followed)
      (λ a w. elim w [
        | inl on ↦ inl (on.0, Contains-append_left old.stack (block_in e ∷ []) on.0 on.1, on.2)
        | inr there ↦ inr there
      ])
      (λ h. h) (inl (inl (block_in e, Contains-push old.stack (block_in e), refl))) (inl (omega (arith, long))))
  widen_step old new e o start source sides small gained (lost none is) =
      let pages : Contents = postponed_pages (marked_pages old.pages e) e.target in
      let grows : Grows old.pages.slots pages.slots e.target = subst (λ c. Grows old.pages.slots c.slots e.target) (sym (postponed_marked old.pages e start)) (grows_marked old.pages.slots e.target (mark_as e true) start) in
      let l : Loses (record old { pages = pages }) e.target new = subst (Loses (record old { pages = pages }) e.target) (sym is.result) (loses (record old { pages = pages }) e.target) in
      let first = l.first o.no_pass in
      subst (Widens old) (sym l.rest)
      (widens old _ o e source grows first.0 (stacked_lost t old o.keeps e none o.stacked pages new.lost new.pass is.full (aside_now t old o.keeps e none o.followed sides small is.aside (gained none))) o.short (λ b there. grows.grow b.addr (o.stacked b there)) (if_some_on old.next _ _ (λ b h. grows.grow b.addr h) o.followed)
      (λ a w. w) (λ _. first.1) (inr first.1) (inr first.1))

  pub widen_all : (hand : Option ℕ) (es : List Edge) (begun : List ℕ) (old new : State) → All (Suits t) es → Good t begun hand old → Opened t old walked opened held
      → ((e : Edge) → Contains es e → Origin t walked e.target) → ((e : Edge) → Contains es e → Sides t old.chain e) → Takes old es new → Widens old new
  widen_all hand [] begun old new fits g o source sides takes = subst (Widens old) (sym takes) (widens_same old o)
  widen_all hand (e ∷ es) begun old new fits g o source sides takes =
      let first = All-head (Suits t) e es fits in
      let step = takes.2 in
      let good = stepped t begun hand old g e takes.0 first step in
      let one = widen_step old takes.0 e o (starts_now t begun hand old g e.target first.starts) (source e (contains_head e es)) (sides e (contains_head e es)) takes.1
      (λ none. let free = before_none t begun hand old g e.target first.starts none in
      record {
        starts = first.starts;
        reached = elim (first.fits free).met [ inl some ↦ absurd (false≢true (sym (ap is_some free) ∙ some)) | inr reached ↦ reached ];
        unmarked = free;
      }) step in
      let rest = widen_all hand es (e.target ∷ begun) takes.0 new (All-tail (Suits t) e es fits) good.good one.now
      (λ x there. source x (contains_tail e x es there))
      (λ x there. subst (λ c. Sides t c x) (sym (chain_same t old takes.0 e step)) (sides x (contains_tail e x es there))) takes.3 in
      widens_on old takes.0 new one rest

-- ---- a block that is walked

-- one more block
abbrev with_one : (ℕ → Bool) → ℕ → ℕ → Bool
with_one walked x a = cond (a == x) true (walked a)

with_it : (walked : ℕ → Bool) (x a : ℕ) → a ≡ x → with_one walked x a ≡ true
with_it walked x a same = ap (λ b. cond b true (walked a)) (eq-eqb a x same)

with_others : (walked : ℕ → Bool) (x a : ℕ) → walked a ≡ true → with_one walked x a ≡ true
with_others walked x a done = either (a == x) (walked a) done
  where
    either : (b c : Bool) → c ≡ true → cond b true c ≡ true
    either true c h = refl
    either false c h = h

with_apart : (walked : ℕ → Bool) (x a : ℕ) → a ≢ x → with_one walked x a ≡ true → walked a ≡ true
with_apart walked x a apart h = sym (ap (λ b. cond b true (walked a)) (ne_eqb a x apart)) ∙ h

module _ {tables : Tables} {space : Range} (t : Task tables space) where
  module _ (begun : List ℕ) (b : Block) (m : State) (h : Holds t begun (Some b) m) (w : Wide t m (Some b)) where
    abbrev pub walked_n : ℕ → Bool
    walked_n = with_one w.walked b.addr

    origin_n : (a : ℕ) → Origin t w.walked a → Origin t walked_n a
    origin_n a since = elim since [ inl start ↦ inl start | inr led ↦ inr (led.0, with_others w.walked b.addr led.0 led.1, led.2) ]

    pub opened_n : (chain : Option ℕ) → Opened t (record m { chain = chain }) walked_n (Some b.addr) None
    opened_n chain = record {
      no_pass = w.opened.no_pass;
      keeps = record {
        distinct = w.opened.keeps.distinct;
        aside = w.opened.keeps.aside;
        over = w.opened.keeps.over;
        chained = subst (λ o. IfSome o (λ c. (place : ℕ) × (chain ≡ Some place) × (word_at space place ≡ Some c.addr))) (sym h.idle) tt;
      };
      short = w.opened.short;
      stacked = w.opened.stacked;
      followed = w.opened.followed;
      marked = λ a done. elim (cases_eq a b.addr) [
        | inl is ↦ ap (λ x. is_some (mark_at m.pages.slots x)) is ∙ w.handed
        | inr apart ↦ w.opened.marked a (with_apart w.walked b.addr a apart done)
      ];
      origin = λ a some. elim (w.opened.origin a some) [ inl before ↦ inl before | inr since ↦ inr (origin_n a since) ];
      seen = λ a free some. elim (w.opened.seen a free some) [
        | inl done ↦ inl (with_others w.walked b.addr a done)
        | inr rest ↦ elim rest [
          | inl hand ↦ inl (with_it w.walked b.addr a (ap number_in (sym hand)))
          | inr later ↦ inr (inr later)
        ]
      ];
      wide = λ from blocks off crowd done.
          w.opened.wide from blocks (λ no-one. false≢true (ap is_some no-one)) (fewer_only t m _ from blocks (λ a some. some) crowd)
          (with_apart w.walked b.addr from (λ is. off (ap Some (sym is))) done);
    }

    pub source_n : (e : Edge) → Contains (edges_of tables b.walk b.count space b.addr) e → Origin t walked_n e.target
    source_n e there = inr (b.addr, with_it w.walked b.addr b.addr refl, (e, subst (λ l. Contains l e) (same_edges t b h.fits) there, refl))

    -- after its edges
    none_marked : (p : ℕ → Bool) (xs : List ℕ) → ((a : ℕ) → Contains xs a → p a ≡ false) → count_by p xs ≡ 0
    none_marked p [] none = refl
    none_marked p (x ∷ xs) none =
        let here : cond {A = ℕ} (p x) 1 0 ≡ 0 = ap (λ c. cond {A = ℕ} c 1 0) (none x (contains_head x xs)) in
        let rest = none_marked p xs (λ a there. none a (contains_tail x a xs there)) in
        let a = count_cons p x xs in
        omega (arith, here, rest, a)

    all_marked : (p : ℕ → Bool) (xs : List ℕ) → ((a : ℕ) → Contains xs a → p a ≡ true) → count_by p xs ≡ length xs
    all_marked p [] every = refl
    all_marked p (x ∷ xs) every =
        let here : cond {A = ℕ} (p x) 1 0 ≡ 1 = ap (λ c. cond {A = ℕ} c 1 0) (every x (contains_head x xs)) in
        let rest = all_marked p xs (λ a there. every a (contains_tail x a xs there)) in
        let a = count_cons p x xs in
        omega (arith, here, rest, a)

    one_most : (c : Bool) → one_if c ≤ 1
    one_most true = omega arith
    one_most false = omega arith

    module _ (chain : Option ℕ) (o : State) (v : Widens t walked_n (Some b.addr) None (record m { chain = chain }) o)
        (all : (e : Edge) → Contains (edges_of tables b.walk b.count space b.addr) e → is_some (mark_at o.pages.slots e.target) ≡ true) where
      not_yet : w.walked b.addr ≡ false → (a : ℕ) → IsOnly t o b.addr a → is_some (mark_at m.pages.slots a) ≡ false
      not_yet fresh a only = elim (cases_Bool (is_some (mark_at m.pages.slots a))) [
        | inl some ↦ elim (w.opened.origin a some) [
          | inl before ↦ absurd (false≢true (sym (ap is_some only.unmarked) ∙ before))
          | inr since ↦ elim since [
            | inl start ↦ absurd (only.no_start start)
            | inr led ↦ elim (cases_eq led.0 b.addr) [
              | inl is ↦ absurd (false≢true (sym fresh ∙ ap w.walked (sym is) ∙ led.1))
              | inr apart ↦ absurd (only.no_other led.0 apart (v.grow led.0 (w.opened.marked led.0 led.1)) led.2)
            ]
          ]
        ]
        | inr none ↦ none
      ]

      crowded : (blocks : List ℕ) → IsCrowd t o b.addr blocks → is_some o.lost ≡ true
      crowded blocks crowd = elim (cases_Bool (w.walked b.addr)) [
        | inl done ↦ v.over (w.opened.wide b.addr blocks (λ no-one. false≢true (ap is_some no-one)) (fewer_only t m o b.addr blocks v.grow crowd) done)
        | inr fresh ↦
            let none = none_marked (λ a. is_some (mark_at m.pages.slots a)) blocks (λ a there. not_yet fresh a (crowd.only a there)) in
            let every = all_marked (λ a. is_some (mark_at o.pages.slots a)) blocks (λ a there.
            let leads = (crowd.only a there).leads in
            ap (λ x. is_some (mark_at o.pages.slots x)) (sym leads.2) ∙ all leads.0 (subst (λ l. Contains l leads.0) (sym (same_edges t b h.fits)) leads.1)) in
            let short = v.now.short in
            let one = one_most (is_some o.next) in
            let many = crowd.many in
            elim (v.counts blocks crowd.distinct) [
              | inl counts ↦ absurd (let no : 1 ≤ 0 = omega (arith, none, every, short, one, many, counts) in omega (arith, no))
              | inr over ↦ over
            ]
      ]

      pub wide_done : Wide t (record o { chain = None; next = None }) o.next
      wide_done = record {
        walked = walked_n;
        opened = record {
          no_pass = v.now.no_pass;
          keeps = record { distinct = v.now.keeps.distinct; aside = v.now.keeps.aside; over = v.now.keeps.over; chained = tt };
          short = v.now.short;
          stacked = v.now.stacked;
          followed = tt;
          marked = v.now.marked;
          origin = v.now.origin;
          seen = λ a free some. elim (v.now.seen a free some) [
            | inl done ↦ inl done
            | inr rest ↦ elim rest [
              | inl no-one ↦ absurd (false≢true (ap is_some no-one))
              | inr later ↦ elim later [
                | inl waits ↦ elim waits [ inl on ↦ inr (inr (inl (inl on))) | inr follows ↦ inr (inl follows) ]
                | inr out ↦ inr (inr (inr out))
              ]
            ]
          ];
          wide = λ from blocks off crowd done. elim (cases_eq from b.addr) [
            | inl is ↦ crowded blocks (subst (λ x. IsCrowd t o x blocks) is (fewer_only t o _ from blocks (λ a some. some) crowd))
            | inr apart ↦ v.now.wide from blocks (λ same. apart (sym (ap number_in same))) (fewer_only t o _ from blocks (λ a some. some) crowd) done
          ];
        };
        handed = v.now.followed;
      }

-- ---- walking a block

-- its edges, in any order
pub wide_taken : {tables : Tables} {space : Range} (t : Task tables space) (begun : List ℕ) (b : Block) (st : State) (h : Holds t begun (Some b) st) → Wide t st (Some b)
    → (chain : Option ℕ) → chain ≡ chain_place (rows_of tables b.walk) b → (es : List Edge) → All (Suits t) es
    → ((e : Edge) → Contains (edges_of tables b.walk b.count space b.addr) e → Contains es e) → ((e : Edge) → Contains es e → Contains (edges_of tables b.walk b.count space b.addr) e)
    → (new : State) → Takes (record st { chain = chain }) es new → Wide t (record new { chain = None; next = None }) new.next
wide_taken {tables} {space} t begun b st h w chain placed es fits every only new takes =
    let good = good_chained t begun b h.fits st chain h.good in
    let walked : ℕ → Bool = walked_n t begun b st h w in
    let v = widen_all t walked (Some b.addr) None (Some b.addr) es begun (record st { chain = chain }) new fits good (opened_n t begun b st h w chain)
    (λ e there. source_n t begun b st h w e (only e there))
    (λ e there. subst (λ c. Sides t c e) (sym placed) (sides_block t b h.fits e (only e there))) takes in
    let all = taken_all t (Some b.addr) es begun (record st { chain = chain }) new fits good takes in
    wide_done t begun b st h w chain new v
    (λ e there. ap is_some (is_at t (with_targets es begun) (Some b.addr) new all.good e.target (All-contains (Suits t) es e fits (every e there)).starts) ∙ all.good.began e.target (targets_have es begun e (every e there)))

pub wide_block : {tables : Tables} {space : Range} (t : Task tables space) (begun : List ℕ) (b : Block) (m : Marker) (h : Holds t begun (Some b) (state_of m)) → Wide t (state_of m) (Some b)
    → (n : Marker) (chain : Option ℕ) → state_of n ≡ record (state_of m) { chain = chain } → (o : Marker) → chain ≡ chain_place (rows_of tables b.walk) b → Took Leaves n (edges_of tables b.walk b.count space b.addr) o
    → Wide t (record (state_of o) { chain = None; next = None }) (state_of o).next
wide_block {tables} {space} t begun b m h w n chain is o placed took =
    wide_taken t begun b (state_of m) h w chain placed (edges_of tables b.walk b.count space b.addr) (block_fits t b h.fits) (λ e there. there) (λ e there. there) (state_of o)
    (takes_block t begun b m h n chain is o took)

pub wide_popped : {tables : Tables} {space : Range} (t : Task tables space) (rest : List Block) (b : Block) (st : State) → st.stack ≡ rest ++ b ∷ [] → Wide t st None → Wide t (record st { stack = rest }) (Some b)
wide_popped t rest b st is w =
    let long : length st.stack ≡ length rest + 1 = ap length is ∙ length_push rest b in
    let short = w.opened.short in
    record {
      walked = w.walked;
      opened = record {
        no_pass = w.opened.no_pass;
        keeps = record {
          distinct = distinct_popped rest b (subst (λ l. IsDistinct nat_eq (map (λ x. x.addr) l)) is w.opened.keeps.distinct);
          aside = λ c there. w.opened.keeps.aside c (subst (λ l. Contains l c) (sym is) (Contains-append_left rest (b ∷ []) c there));
          over = w.opened.keeps.over;
          chained = w.opened.keeps.chained;
        };
        short = omega (arith, long, short);
        stacked = λ c there. w.opened.stacked c (subst (λ l. Contains l c) (sym is) (Contains-append_left rest (b ∷ []) c there));
        followed = w.opened.followed;
        marked = w.opened.marked;
        origin = w.opened.origin;
        seen = λ a free some. elim (w.opened.seen a free some) [
          | inl done ↦ inl done
          | inr others ↦ elim others [
            | inl no-one ↦ absurd (false≢true (ap is_some no-one))
            | inr later ↦ elim later [
              | inl waits ↦ elim waits [
                | inl on ↦ elim (Contains-push_cases rest b on.0 (subst (λ l. Contains l on.0) is on.1)) [
                  | inl before ↦ inr (inr (inl (inl (on.0, before, on.2))))
                  | inr top ↦ inr (inl (ap Some (ap (λ x. x.addr) top ∙ on.2)))
                ]
                | inr follows ↦ inr (inr (inl (inr follows)))
              ]
              | inr out ↦ inr (inr (inr out))
            ]
          ]
        ];
        wide = λ from blocks off crowd own. w.opened.wide from blocks off (fewer_only t st (record st { stack = rest }) from blocks (λ a some. some) crowd) own;
      };
      handed = w.opened.stacked b (subst (λ l. Contains l b) (sym is) (Contains-push rest b));
    }
