-- An entry that is swept.
use Rattle.std.proofs.Common.{◌≡◌, ◌≢◌, ℕ, zero, suc, ◌+◌, ◌*◌, ◌<◌, ◌≤◌, ◌⊎◌, Bool, true, false, cond, List, [], ◌∷◌, length, get_or, map, filter, count_by, flat_map, Option, Some, None, is_none, is_some, refl, sym, ap, subst, ◌∙◌, inl, inr, arith}
use Rattle.std.specs.Prelude.{Contains, slice_get, ◌↔◌}
use Rattle.std.proofs.Math.Nat.{mul-le-mul_right}
use Rattle.std.proofs.lemmas.Bool.{cases_eq, cases_lt, false≢true}
use Rattle.std.proofs.lemmas.Option.{slice_get_within, get_or_from_slice_get}
use Rattle.std.proofs.lemmas.List.{get_or-set_same, get_or-set_other, length-map, length-set}
use Rattle.std.proofs.lemmas.List.Sums.{count_by-le-length, sum_by-append, sum_by-cons}
use Rattle.std.specs.List.{range_with_len}
use Rattle.gt_bits.specs.Sets.{has}
use Rattle.gt_links.specs.Lists.{Lists, Holds, nodes_of, with_nodes, without}
use Rattle.gt_entries.specs.declared.marks.Mark.{Mark}
use Rattle.gt_entries.specs.Cells as cells
use Rattle.gt_entries.specs.Cells.{Cell, Free, Used, cell_at, is_free, is_lost, swept}
use Rattle.gt_pages.specs.declared.pages.TheConstants.{CACHED}
use Rattle.gt_pages.specs.declared.store.Entry.{Entry}
use Rattle.gt_pages.specs.Ledger.{PageRange, page_address, pages_of, sizes}
use Rattle.gt_pages.specs.Slots.{Slot, is_marked, is_unmarked}
use Rattle.gt_pages.specs.Changes.{Closes, Sweeps, swept_entry, with_entry, with_first}
use Rattle.gt_pages.specs.Parts.{AreListed, IsInUse, IsKept, IsListed, IsOfImage, Parts, contents_of, entry_at, entry_pages, free_places, page_slots, slots_in}
use Rattle.gt_pages.proofs.SlotLemmas.{flat_filter_slots, slots_swept}
use Rattle.gt_pages.proofs.WhereLemmas.{entry_some}
use Rattle.gt_pages.proofs.CachedLemmas.{contains_cases, contains_later, contains_without, nodes_other, nodes_same, number_size}
use Rattle.gt_pages.proofs.CloseLemmas.{contains_from_without, held_in, kept_closed, list_cached, same_order}
use Rattle.gt_pages.proofs.NextLemmas.{entry_ends}

-- ---- the places of one entry

one_swept : (c : Cell) → cond {A = ℕ} (is_free (swept c)) 1 0 ≡ cond {A = ℕ} (is_free c) 1 0 + cond {A = ℕ} (is_lost c) 1 0
one_swept Free = refl
one_swept (Used None) = refl
one_swept (Used (Some m)) = refl

-- the places of blocks that go become free
pub free_swept : (xs : List Cell) → count_by is_free (map swept xs) ≡ count_by is_free xs + count_by is_lost xs
free_swept [] = refl
free_swept (c ∷ xs) =
    let new = sum_by-cons (λ x. cond (is_free x) 1 0) (swept c) (map swept xs) in
    let old = sum_by-cons (λ x. cond (is_free x) 1 0) c xs in
    let lost = sum_by-cons (λ x. cond (is_lost x) 1 0) c xs in
    omega (arith, new, old, lost, one_swept c, free_swept xs)

-- an entry of which all places become free has no marked block
all_free : (xs : List Cell) → length xs ≤ count_by is_free (map swept xs) → (k : ℕ) → cells.is_marked (cell_at xs k) ≡ false
all_free [] most k = refl
all_free (c ∷ xs) most k = by_place c k (free_head c (omega (arith, new, most, fewer, len))) (λ j. all_free xs (omega (arith, new, most, one (swept c))) j)
  where
    new : count_by is_free (swept c ∷ map swept xs) ≡ cond {A = ℕ} (is_free (swept c)) 1 0 + count_by is_free (map swept xs)
    new = let is = sum_by-cons (λ x. cond (is_free x) 1 0) (swept c) (map swept xs) in omega (arith, is)

    fewer : count_by is_free (map swept xs) ≤ length (map swept xs)
    fewer = count_by-le-length is_free (map swept xs)

    len : length (map swept xs) ≡ length xs
    len = length-map xs swept

    one : (d : Cell) → cond {A = ℕ} (is_free d) 1 0 ≤ 1
    one Free = omega arith
    one (Used m) = omega arith

    free_head : (d : Cell) → 1 ≤ cond {A = ℕ} (is_free (swept d)) 1 0 → cells.is_marked d ≡ false
    free_head Free some = refl
    free_head (Used None) some = refl
    free_head (Used (Some m)) some = absurd (omega (arith, some))

    by_place : (d : Cell) (k : ℕ) → cells.is_marked d ≡ false → ((j : ℕ) → cells.is_marked (cell_at xs j) ≡ false) → cells.is_marked (cell_at (d ∷ xs) k) ≡ false
    by_place d zero first rest = first
    by_place d (suc k) first rest = rest k

pub some_used : (xs : List Cell) → ¬ ((k : ℕ) → cells.is_marked (cell_at xs k) ≡ false) → count_by is_free (map swept xs) < length (map swept xs)
some_used xs marked = elim (cases_lt (count_by is_free (map swept xs)) (length (map swept xs))) [
  | inl fewer ↦ fewer
  | inr most ↦ absurd (marked (all_free xs (let len = length-map xs swept in omega (arith, most, len))))
]

-- the blocks that go
pub lost_slots : (start size : ℕ) (xs : List Cell) → count_by is_unmarked (slots_in start size xs) ≡ count_by is_lost xs
lost_slots start size [] = refl
lost_slots start size (Free ∷ xs) =
    let lost = sum_by-cons (λ x. cond (is_lost x) 1 0) Free xs in
    omega (arith, lost, lost_slots (start + size) size xs)
lost_slots start size (Used None ∷ xs) =
    let s : Slot = record { address = start; size = size; mark = None } in
    let lost = sum_by-cons (λ x. cond (is_lost x) 1 0) (Used None) xs in
    let slots = sum_by-cons (λ x. cond (is_unmarked x) 1 0) s (slots_in (start + size) size xs) in
    omega (arith, lost, slots, lost_slots (start + size) size xs)
lost_slots start size (Used (Some m) ∷ xs) =
    let s : Slot = record { address = start; size = size; mark = Some m } in
    let lost = sum_by-cons (λ x. cond (is_lost x) 1 0) (Used (Some m)) xs in
    let slots = sum_by-cons (λ x. cond (is_unmarked x) 1 0) s (slots_in (start + size) size xs) in
    omega (arith, lost, slots, lost_slots (start + size) size xs)

none_left : (start size : ℕ) (xs : List Cell) → ((k : ℕ) → cells.is_marked (cell_at xs k) ≡ false) → filter is_marked (slots_in start size xs) ≡ []
none_left start size [] none = refl
none_left start size (Free ∷ xs) none = none_left (start + size) size xs (λ k. none (suc k))
none_left start size (Used None ∷ xs) none = none_left (start + size) size xs (λ k. none (suc k))
none_left start size (Used (Some m) ∷ xs) none = absurd (false≢true (sym (none 0)))

-- ---- the blocks of all entries

module _ (p : Parts) (page : ℕ) where
  abbrev old_entry : Entry
  old_entry = entry_at p.entries page

  abbrev new_entry : Entry
  new_entry = swept_entry old_entry

  abbrev after : Parts
  after = with_entry p page new_entry

  entry_here : page < length p.entries → entry_at after.entries page ≡ new_entry
  entry_here low = get_or-set_same p.entries page new_entry _ low

  entry_other : (j : ℕ) → j ≢ page → entry_at after.entries j ≡ entry_at p.entries j
  entry_other j apart = get_or-set_other p.entries page j new_entry _ apart

  pub sweeps_entry : page < length p.entries → has p.starts page ≡ true → Sweeps p page after
  sweeps_entry low starts = record {
    pages = refl;
    image = refl;
    swept =
        ap (λ b. cond b (slots_in (page_address page) (entry_at after.entries page).size (entry_at after.entries page).places) []) starts
        ∙ ap (λ e. slots_in (page_address page) e.size e.places) (entry_here low)
        ∙ slots_swept (page_address page) old_entry.size old_entry.places
        ∙ sym (ap (λ b. filter is_marked (cond b (slots_in (page_address page) old_entry.size old_entry.places) [])) starts);
    others = λ j apart. ap (λ e. cond (has p.starts j) (slots_in (page_address j) e.size e.places) []) (entry_other j apart);
    cached = λ j. (
      λ held. inl held,
      λ is. elim is [
        | inl held ↦ held
        | inr closed ↦ absurd (false≢true (sym closed.gone ∙ starts))
      ],
    );
    starts = λ j apart. refl;
  }

  pub sweeps_front : (i : ℕ) → i < CACHED → Sweeps p page after → Sweeps p page (with_first after i page)
  sweeps_front i low is = record {
    pages = is.pages;
    image = is.image;
    swept = is.swept;
    others = is.others;
    cached = λ j. (
      λ held. elim ((is.cached j).0 (subst (λ ns. Contains ns j) same held)) [
        | inl old ↦ inl old
        | inr closed ↦ inr (record { same = closed.same; outside = closed.outside; gone = closed.gone })
      ],
      λ was. subst (λ ns. Contains ns j) (sym same) ((is.cached j).1 (elim was [
        | inl old ↦ inl old
        | inr closed ↦ inr (record { same = closed.same; outside = closed.outside; gone = closed.gone })
      ])),
    );
    starts = is.starts;
  }
    where
      same : nodes_of (with_first after i page).lists CACHED ≡ nodes_of after.lists CACHED
      same = nodes_other after.lists i CACHED (page ∷ without page (nodes_of after.lists i)) (λ is. omega (arith, is, low))

  -- ---- how the parts fit one another after

  module _ (kept : IsKept p) (low : page < length p.entries)
      (used : has p.starts page ≡ true → ¬ (IsOfImage p page) → count_by is_free new_entry.places < length new_entry.places) where
    pages_here : entry_pages new_entry ≡ entry_pages old_entry
    pages_here = ap (λ n. pages_of (old_entry.size * n)) (length-map old_entry.places swept)

    pages_same : (j : ℕ) → entry_pages (entry_at after.entries j) ≡ entry_pages (entry_at p.entries j)
    pages_same j = elim (cases_eq j page) [
      | inl same ↦
          subst (λ i. entry_pages (entry_at after.entries i) ≡ entry_pages (entry_at p.entries i)) (sym same) (ap entry_pages (entry_here low) ∙ pages_here)
      | inr apart ↦ ap entry_pages (entry_other j apart)
    ]

    size_same : (j : ℕ) → (entry_at after.entries j).size ≡ (entry_at p.entries j).size
    size_same j = elim (cases_eq j page) [
      | inl same ↦ subst (λ i. (entry_at after.entries i).size ≡ (entry_at p.entries i).size) (sym same) (ap (λ e. e.size) (entry_here low))
      | inr apart ↦ ap (λ e. e.size) (entry_other j apart)
    ]

    free_more : (j : ℕ) → free_places p j ≤ free_places after j
    free_more j = elim (cases_eq j page) [
      | inl same ↦
          subst (λ i. free_places p i ≤ free_places after i) (sym same)
          (let more = free_swept old_entry.places in let is = ap (λ e. count_by is_free e.places) (entry_here low) in omega (arith, more, is))
      | inr apart ↦ let is = ap (λ e. count_by is_free e.places) (entry_other j apart) in omega (arith, is)
    ]

    free_other : (j : ℕ) → j ≢ page → free_places after j ≡ free_places p j
    free_other j apart = ap (λ e. count_by is_free e.places) (entry_other j apart)

    free_here : free_places after page ≡ count_by is_free new_entry.places
    free_here = ap (λ e. count_by is_free e.places) (entry_here low)

    in_use_here : has p.starts page ≡ true → IsInUse after page new_entry
    in_use_here starts =
        let is = kept.in_use page starts in
        let len = length-map old_entry.places swept in
        record {
          listed = is.listed;
          some = omega (arith, is.some, len);
          in_space = omega (arith, is.in_space, pages_here);
          table = λ q from to. is.table q from (omega (arith, to, pages_here));
          inside = λ of. let in' = is.inside of in omega (arith, in', pages_here);
          before = λ low some. let be = is.before low some in omega (arith, be, pages_here);
          count = λ out. len ∙ is.count out;
          used = λ out. used starts out;
        }

    in_use_after : (j : ℕ) → has p.starts j ≡ true → IsInUse after j (entry_at after.entries j)
    in_use_after j starts = elim (cases_eq j page) [
      | inl same ↦
          subst (λ i. IsInUse after i (entry_at after.entries i)) (sym same)
          (subst (λ e. IsInUse after page e) (sym (entry_here low)) (in_use_here (subst (λ i. has p.starts i ≡ true) same starts)))
      | inr apart ↦
          let is = kept.in_use j starts in
          subst (λ e. IsInUse after j e) (sym (entry_other j apart))
          (record {
            listed = is.listed;
            some = is.some;
            in_space = is.in_space;
            table = is.table;
            inside = is.inside;
            before = is.before;
            count = is.count;
            used = is.used;
          })
    ]

    kept_with : (lists : Lists) → AreListed (record after { lists = lists }) → IsKept (record after { lists = lists })
    kept_with lists listed = record {
      at_least = kept.at_least;
      at_most = kept.at_most;
      entries = length-set p.entries page new_entry ∙ kept.entries;
      start_words = kept.start_words;
      free_words = kept.free_words;
      table = kept.table;
      image = kept.image;
      starts = kept.starts;
      in_use = λ j starts. let is = in_use_after j starts in record {
        listed = is.listed;
        some = is.some;
        in_space = is.in_space;
        table = is.table;
        inside = is.inside;
        before = is.before;
        count = is.count;
        used = is.used;
      };
      leads = λ j first leads.
          let is = kept.leads j first leads in
          let pages = pages_same first in
          (is.0, is.1, omega (arith, is.2, pages));
      free = kept.free;
      taken = kept.taken;
      lists = listed;
    }

    listed_of : (i y k : ℕ) → i < CACHED → slice_get (nodes_of p.lists i) k ≡ Some y → IsListed p (get_or sizes i 0) y
    listed_of i y k below at =
        (kept.lists.each i (get_or sizes i 0) y (number_size i below)).0
        (k, slice_get_within (nodes_of p.lists i) k y at, get_or_from_slice_get (nodes_of p.lists i) k y y at)

    listed_before : (size j : ℕ) → IsListed after size j → IsListed p size j
    listed_before size j is = record { starts = is.starts; outside = is.outside; sized = sym (size_same j) ∙ is.sized }

    listed_after : (size j : ℕ) → IsListed p size j → IsListed after size j
    listed_after size j is = record { starts = is.starts; outside = is.outside; sized = size_same j ∙ is.sized }

    -- the entry keeps its place in its list, where it had a free place before if it has one after
    pub kept_stays : (has p.starts page ≡ true → ¬ (IsOfImage p page) → 0 < count_by is_free new_entry.places → 0 < count_by is_free old_entry.places) → IsKept after
    kept_stays grew = kept_with p.lists (record {
      count = kept.lists.count;
      nodes = kept.lists.nodes;
      each = λ i size j is. (
        λ held. let l = listed_after size j ((kept.lists.each i size j is).0 held) in record { starts = l.starts; outside = l.outside; sized = l.sized },
        λ listed. (kept.lists.each i size j is).1 (listed_before size j (record { starts = listed.starts; outside = listed.outside; sized = listed.sized })),
      );
      order = λ i j k x y below before at-x at-y some.
          let first = kept.lists.order i j k x y below before at-x at-y (some_before y (listed_of i y k below at-y).starts (listed_of i y k below at-y).outside some) in
          omega (arith, first, free_more x);
      cached = kept.lists.cached;
    })
      where
        some_before : (y : ℕ) → has p.starts y ≡ true → ¬ (IsOfImage p y) → 0 < free_places after y → 0 < free_places p y
        some_before y starts outside some = elim (cases_eq y page) [
          | inl same ↦
              subst (λ i. 0 < free_places p i) (sym same)
              (grew (subst (λ i. has p.starts i ≡ true) same starts) (subst (λ i. ¬ (IsOfImage p i)) same outside)
              (let is = subst (λ i. 0 < free_places after i) same some in omega (arith, is, free_here)))
          | inr apart ↦ omega (arith, some, free_other y apart)
        ]

    -- the entry goes to the front of its list, and has a free place
    module _ (l : ℕ) (below-l : l < CACHED) (held : Holds p.lists l page) (some : 0 < count_by is_free new_entry.places)
        (alone : (i : ℕ) → ¬ (Holds (with_nodes p.lists l (without page (nodes_of p.lists l))) i page)) where
      abbrev rest : List ℕ
      rest = without page (nodes_of p.lists l)

      abbrev fronted : Lists
      fronted = with_nodes p.lists l (page ∷ rest)

      front_same : nodes_of fronted l ≡ page ∷ rest
      front_same = nodes_same p.lists l (page ∷ rest) (let n = kept.lists.count in omega (arith, n, below-l))

      front_other : (i : ℕ) → i ≢ l → nodes_of fronted i ≡ nodes_of p.lists i
      front_other i apart = nodes_other p.lists l i (page ∷ rest) apart

      held_old : (i j : ℕ) → Holds fronted i j → Holds p.lists i j
      held_old i j there = elim (cases_eq i l) [
        | inl same ↦
            subst (λ n. Holds p.lists n j) (sym same)
            (elim (contains_cases page rest j (subst (λ ns. Contains ns j) front_same (subst (λ n. Holds fronted n j) same there))) [
              | inl is ↦ subst (λ x. Contains (nodes_of p.lists l) x) is held
              | inr later ↦ (contains_without page (nodes_of p.lists l) j later).0
            ])
        | inr apart ↦ subst (λ ns. Contains ns j) (front_other i apart) there
      ]

      held_new : (i j : ℕ) → Holds p.lists i j → Holds fronted i j
      held_new i j there = elim (cases_eq i l) [
        | inl same ↦
            subst (λ n. Holds fronted n j) (sym same)
            (subst (λ ns. Contains ns j) (sym front_same)
            (elim (cases_eq j page) [
              | inl is ↦ (0, omega arith, sym is)
              | inr other ↦ contains_later page rest j (contains_from_without page (nodes_of p.lists l) j other (subst (λ n. Holds p.lists n j) same there))
            ]))
        | inr apart ↦ subst (λ ns. Contains ns j) (sym (front_other i apart)) there
      ]

      -- where the entry is not the one that moved
      order_rest : (j k x y : ℕ) → j < k → slice_get rest j ≡ Some x → slice_get rest k ≡ Some y → 0 < free_places after y → 0 < free_places after x
      order_rest j k x y before at-x at-y free =
          let is = same_order page (nodes_of p.lists l) j k x y before at-x at-y in
          let first = kept.lists.order l is.first is.second x y below-l is.before is.at_first is.at_second (omega (arith, free, free_other y (not_moved k y at-y))) in
          omega (arith, first, free_more x)
        where
          not_moved : (k y : ℕ) → slice_get rest k ≡ Some y → y ≢ page
          not_moved k y at = (contains_without page (nodes_of p.lists l) y (k, slice_get_within rest k y at, get_or_from_slice_get rest k y y at)).1

      order_front : (j k x y : ℕ) → j < k → slice_get (page ∷ rest) j ≡ Some x → slice_get (page ∷ rest) k ≡ Some y → 0 < free_places after y → 0 < free_places after x
      order_front zero k x y before at-x at-y free =
          let same : page ≡ x = some_same page x at-x in
          subst (λ i. 0 < free_places after i) same (omega (arith, some, free_here))
        where
          some_same : (a b : ℕ) → Some a ≡ Some b → a ≡ b
          some_same a b e = ap (λ o. get_or (items o) 0 0) e
            where
              items : Option ℕ → List ℕ
              items None = []
              items (Some n) = n ∷ []
      order_front (suc j) zero x y before at-x at-y free = absurd (let no : 1 ≤ 0 = omega (arith, before) in omega (arith, no))
      order_front (suc j) (suc k) x y before at-x at-y free = order_rest j k x y (omega (arith, before)) at-x at-y free

      other_before : (y i k : ℕ) → i ≢ l → slice_get (nodes_of p.lists i) k ≡ Some y → y ≢ page
      other_before y i k apart at same =
          let there : Holds p.lists i y = (k, slice_get_within (nodes_of p.lists i) k y at, get_or_from_slice_get (nodes_of p.lists i) k y y at) in
          alone i
          (subst (λ ns. Contains ns page) (sym (nodes_other p.lists l i rest apart)) (subst (λ n. Holds p.lists i n) same there))

      order_fronted : (i j k x y : ℕ) → i < CACHED → j < k → slice_get (nodes_of fronted i) j ≡ Some x → slice_get (nodes_of fronted i) k ≡ Some y
          → 0 < free_places after y → 0 < free_places after x
      order_fronted i j k x y below before at-x at-y free = elim (cases_eq i l) [
        | inl same ↦
            order_front j k x y before
            (subst (λ ns. slice_get ns j ≡ Some x) front_same (subst (λ n. slice_get (nodes_of fronted n) j ≡ Some x) same at-x))
            (subst (λ ns. slice_get ns k ≡ Some y) front_same (subst (λ n. slice_get (nodes_of fronted n) k ≡ Some y) same at-y)) free
        | inr apart ↦
            let old-x = subst (λ ns. slice_get ns j ≡ Some x) (front_other i apart) at-x in
            let old-y = subst (λ ns. slice_get ns k ≡ Some y) (front_other i apart) at-y in
            let first = kept.lists.order i j k x y below before old-x old-y (omega (arith, free, free_other y (other_before y i k apart old-y))) in
            omega (arith, first, free_more x)
      ]

      pub kept_front : IsKept (with_first after l page)
      kept_front = kept_with fronted (record {
        count = length-set p.lists.lists l (page ∷ rest) ∙ kept.lists.count;
        nodes = kept.lists.nodes;
        each = λ i size j is. (
          λ there. let o = listed_after size j ((kept.lists.each i size j is).0 (held_old i j there)) in record { starts = o.starts; outside = o.outside; sized = o.sized },
          λ listed. held_new i j ((kept.lists.each i size j is).1 (listed_before size j (record { starts = listed.starts; outside = listed.outside; sized = listed.sized }))),
        );
        order = order_fronted;
        cached = λ j there. kept.lists.cached j (held_old CACHED j there);
      })

-- an entry without marked blocks, that was closed
pub sweeps_closed : (p q : Parts) (page : ℕ) → IsKept p → page < length p.entries → has p.starts page ≡ true → ¬ (IsOfImage p page) → Closes p page q
    → ((k : ℕ) → cells.is_marked (cell_at (entry_at p.entries page).places k) ≡ false)
    → Sweeps p page (with_entry q page (swept_entry (entry_at q.entries page)))
sweeps_closed p q page kept low starts outside closes none = record {
  pages = ap (λ x. x.pages) closes.rest;
  image = ap (λ x. x.image) closes.rest;
  swept =
      ap (λ b. cond b (all (entry_at new.entries page) page) []) closes.gone
      ∙ sym (ap (λ b. filter is_marked (cond b (all (entry_at p.entries page) page) [])) starts
      ∙ none_left (page_address page) (entry_at p.entries page).size (entry_at p.entries page).places none);
  others = λ j apart.
      ap (λ b. cond b (all (entry_at new.entries j) j) []) (closes.starts j apart)
      ∙ ap (λ e. cond (has p.starts j) (all e j) [])
      (get_or-set_other q.entries page j _ _ apart ∙ ap (λ x. entry_at x.entries j) closes.rest);
  cached = λ j. (
    λ held. elim (contains_cases page (nodes_of p.lists CACHED) j (subst (λ ns. Contains ns j) listed held)) [
      | inl same ↦ inr (record { same = sym same; outside = outside; gone = closes.gone })
      | inr old ↦ inl old
    ],
    λ was. subst (λ ns. Contains ns j) (sym listed) (elim was [
      | inl old ↦ contains_later page (nodes_of p.lists CACHED) j old
      | inr closed ↦ (0, omega arith, sym closed.same)
    ]),
  );
  starts = λ j apart. closes.starts j apart;
}
  where
    listed : nodes_of q.lists CACHED ≡ page ∷ nodes_of p.lists CACHED
    listed = list_cached p q page kept starts outside closes

    new : Parts
    new = with_entry q page (swept_entry (entry_at q.entries page))

    all : Entry → ℕ → List Slot
    all e j = slots_in (page_address j) e.size e.places

-- an entry that moved to the front of its list
pub front_after : (p mid new : Parts) (page : ℕ) → IsKept p → has p.starts page ≡ true → ¬ (IsOfImage p page)
    → ¬ ((k : ℕ) → cells.is_marked (cell_at (entry_at p.entries page).places k) ≡ false)
    → 0 < count_by is_lost (entry_at p.entries page).places → mid ≡ with_entry p page (swept_entry (entry_at p.entries page))
    → ((i : ℕ) → Holds mid.lists i page → new ≡ with_first mid i page)
    → ((i j : ℕ) → Holds mid.lists i page → ¬ (Holds (with_nodes mid.lists i (without page (nodes_of mid.lists i))) j page))
    → IsKept new × Sweeps p page new
front_after p mid new page kept starts outside marked lost swept-is moved alone =
    let held = held_in p page kept starts outside in
    let low = let inside = kept.starts page starts in let len = kept.entries in page_low page inside len in
    let lists-same : mid.lists ≡ p.lists = ap (λ q. q.lists) swept-is in
    let held-mid : Holds mid.lists held.0 page = subst (λ s. Holds s held.0 page) (sym lists-same) held.2 in
    let is : new ≡ with_first (after p page) held.0 page = moved held.0 held-mid ∙ ap (λ q. with_first q held.0 page) swept-is in
    let more = free_swept (entry_at p.entries page).places in (
      subst (λ q. IsKept q) (sym is)
          (kept_front p page kept low (λ _ _. some_used (entry_at p.entries page).places marked) held.0 held.1 held.2 (omega (arith, more, lost))
          (λ j. subst (λ s. ¬ (Holds (with_nodes s held.0 (without page (nodes_of s held.0))) j page)) lists-same (alone held.0 j held-mid))),
      subst (λ q. Sweeps p page q) (sym is) (sweeps_front p page held.0 held.1 (sweeps_entry p page low starts)),
    )
  where
    page_low : (page : ℕ) → page < p.pages → length p.entries ≡ p.pages → page < length p.entries
    page_low page inside len = omega (arith, inside, len)

-- an entry without marked blocks that was closed, and then swept
pub closed_after : (p q new : Parts) (page : ℕ) → IsKept p → has p.starts page ≡ true → ¬ (IsOfImage p page)
    → ((k : ℕ) → cells.is_marked (cell_at (entry_at p.entries page).places k) ≡ false) → Closes p page q
    → new ≡ with_entry q page (swept_entry (entry_at q.entries page)) → IsKept new × Sweeps p page new
closed_after p q new page kept starts outside none closes is =
    let low : page < length p.entries = (let inside = kept.starts page starts in let len = kept.entries in omega (arith, inside, len)) in
    let kept-q = kept_closed p q page kept starts outside closes in
    let same = ap (λ x. length x.entries) closes.rest in (
      subst (λ x. IsKept x) (sym is)
          (kept_stays q page kept-q (omega (arith, low, same)) (λ started _. absurd (false≢true (sym closes.gone ∙ started)))
          (λ started _ _. absurd (false≢true (sym closes.gone ∙ started)))),
      subst (λ x. Sweeps p page x) (sym is) (sweeps_closed p q page kept low starts outside closes none),
    )

-- ---- all entries

-- at most so many blocks of an entry go
pub lost_few : (p : Parts) (page : ℕ) → IsKept p → has p.starts page ≡ true
    → count_by is_lost (entry_at p.entries page).places ≤ 4096 * entry_pages (entry_at p.entries page)
lost_few p page kept starts =
    let entry : Entry = entry_at p.entries page in
    let some = entry_some p page kept starts in
    let fewer = count_by-le-length is_lost entry.places in
    let more = mul-le-mul_right {m = 1} {n = entry.size} (length entry.places) some in
    omega (arith, fewer, more)

-- an entry outside the image is in use no more
pub record WasClosed (old now : Parts) (j : ℕ) : Type 0 where
  pub started : has old.starts j ≡ true
  pub outside : ¬ (IsOfImage old j)
  pub gone : has now.starts j ≡ false

-- the entries that start below a page are swept, and so many blocks are gone
pub record SweptTo (old : Parts) (from freed : ℕ) (now : Parts) : Type 0 where
  pub kept : IsKept now
  pub pages : now.pages ≡ old.pages
  pub image : now.image ≡ old.image
  pub before : (j : ℕ) → j < from → page_slots now j ≡ filter is_marked (page_slots old j)
  pub after : (j : ℕ) → from ≤ j → page_slots now j ≡ page_slots old j
  pub total : freed + count_by is_unmarked (contents_of now).slots ≡ count_by is_unmarked (contents_of old).slots
  pub few : (j : ℕ) → from ≤ j → (has now.starts j ≡ true) ⊎ (j ≡ now.pages) → freed ≤ 4096 * j
  pub starts : (j : ℕ) → has now.starts j ≡ true → has old.starts j ≡ true
  pub cached : (j : ℕ) → Holds now.lists CACHED j ↔ (Holds old.lists CACHED j ⊎ WasClosed old now j)

pub swept_none : (p : Parts) → IsKept p → SweptTo p 0 0 p
swept_none p kept = record {
  kept = kept;
  pages = refl;
  image = refl;
  before = λ j low. absurd (let no : 1 ≤ 0 = omega (arith, low) in omega (arith, no));
  after = λ j _. refl;
  total = omega arith;
  few = λ j _ _. omega arith;
  starts = λ j starts. starts;
  cached = λ j. (
    λ held. inl held,
    λ is. elim is [
      | inl held ↦ held
      | inr closed ↦ absurd (false≢true (sym closed.gone ∙ closed.started))
    ],
  );
}

count_mark : (t : Slot) (xs : List Slot) (m : Option Mark) → t.mark ≡ m → count_by is_unmarked (filter is_marked xs) ≡ 0
    → count_by is_unmarked (filter is_marked (t ∷ xs)) ≡ 0
count_mark t xs None is rest =
    ap (λ b. count_by is_unmarked (cond b (t ∷ filter is_marked xs) (filter is_marked xs))) (ap is_some is) ∙ rest
count_mark t xs (Some m) is rest =
    let sum = sum_by-cons (λ x. cond (is_unmarked x) 1 0) t (filter is_marked xs) in
    let one : cond {A = ℕ} (is_unmarked t) 1 0 ≡ 0 = ap (λ o. cond {A = ℕ} (is_none o) 1 0) is in
    let here = ap (λ b. count_by is_unmarked (cond b (t ∷ filter is_marked xs) (filter is_marked xs))) (ap is_some is) in
    omega (arith, sum, one, here, rest)

count_none : (xs : List Slot) → count_by is_unmarked (filter is_marked xs) ≡ 0
count_none [] = refl
count_none (s ∷ xs) = count_mark s xs s.mark refl (count_none xs)

-- one entry has fewer
module _ (test : Slot → Bool) (f g : ℕ → List Slot) (k d : ℕ) (here : count_by test (g k) + d ≡ count_by test (f k))
    (others : (j : ℕ) → j ≢ k → g j ≡ f j) where
  count_past : (a n : ℕ) → k < a → count_by test (flat_map g (range_with_len a n)) ≡ count_by test (flat_map f (range_with_len a n))
  count_past a zero past = refl
  count_past a (suc n) past =
      let new = sum_by-append (λ x. cond (test x) 1 0) (g a) (flat_map g (range_with_len (a + 1) n)) in
      let old = sum_by-append (λ x. cond (test x) 1 0) (f a) (flat_map f (range_with_len (a + 1) n)) in
      let same = ap (λ xs. count_by test xs) (others a (λ same. omega (arith, same, past))) in
      omega (arith, new, old, same, count_past (a + 1) n (omega (arith, past)))

  count_fewer : (a n : ℕ) → a ≤ k → k < a + n → count_by test (flat_map g (range_with_len a n)) + d ≡ count_by test (flat_map f (range_with_len a n))
  count_fewer a zero high low = absurd (let no : 1 ≤ 0 = omega (arith, high, low) in omega (arith, no))
  count_fewer a (suc n) high low =
      let new = sum_by-append (λ x. cond (test x) 1 0) (g a) (flat_map g (range_with_len (a + 1) n)) in
      let old = sum_by-append (λ x. cond (test x) 1 0) (f a) (flat_map f (range_with_len (a + 1) n)) in
      elim (cases_eq a k) [
        | inl same ↦
            let at = subst (λ i. count_by test (g i) + d ≡ count_by test (f i)) (sym same) here in
            omega (arith, new, old, at, count_past (a + 1) n (omega (arith, same)))
        | inr apart ↦
            let is = ap (λ xs. count_by test xs) (others a apart) in
            omega (arith, new, old, is, count_fewer (a + 1) n (omega (arith, high, apart)) (omega (arith, low)))
      ]

no_start : (p : Parts) (j : ℕ) → has p.starts j ≡ false → page_slots p j ≡ []
no_start p j none = ap (λ b. cond b (slots_in (page_address j) (entry_at p.entries j).size (entry_at p.entries j).places) []) none

pub swept_step : (old now new : Parts) (from freed page more : ℕ) → SweptTo old from freed now → Sweeps now page new → IsKept new
    → from ≤ page → has now.starts page ≡ true → ((j : ℕ) → from ≤ j → j < page → has now.starts j ≡ false)
    → more ≡ count_by is_lost (entry_at now.entries page).places
    → SweptTo old (page + 1) (freed + more) new
swept_step old now new from freed page more so-far sweeps kept high starts none is = record {
  kept = kept;
  pages = sweeps.pages ∙ so-far.pages;
  image = sweeps.image ∙ so-far.image;
  before = λ j low. elim (cases_eq j page) [
    | inl same ↦
        subst (λ i. page_slots new i ≡ filter is_marked (page_slots old i)) (sym same)
        (sweeps.swept ∙ ap (λ xs. filter is_marked xs) (so-far.after page high))
    | inr apart ↦ sweeps.others j apart ∙ elim (cases_lt j from) [
      | inl under ↦ so-far.before j under
      | inr over ↦
          let empty = no_start now j (none j over (omega (arith, low, apart))) in
          empty ∙ sym (ap (λ xs. filter is_marked xs) (sym (so-far.after j over) ∙ empty))
    ]
  ];
  after = λ j past. sweeps.others j (λ same. omega (arith, same, past)) ∙ so-far.after j (omega (arith, past, high));
  total = total_after;
  few = λ j past at.
      let ends = so-far.few page high (inl starts) in
      let lost = lost_few now page so-far.kept starts in
      let room : page + entry_pages (entry_at now.entries page) ≤ j = elim at [
        | inl started ↦
            entry_ends now page j so-far.kept starts (sym (sweeps.starts j (λ same. omega (arith, same, past))) ∙ started) (omega (arith, past))
        | inr end ↦ let inside = (so-far.kept.in_use page starts).in_space in let same = sweeps.pages in omega (arith, inside, same, end)
      ] in
      omega (arith, ends, lost, room, is);
  starts = λ j started. elim (cases_eq j page) [
    | inl same ↦ so-far.starts j (subst (λ i. has now.starts i ≡ true) (sym same) starts)
    | inr apart ↦ so-far.starts j (sym (sweeps.starts j apart) ∙ started)
  ];
  cached = λ j. (cached_from j, cached_to j);
}
  where
    cached_from : (j : ℕ) → Holds new.lists CACHED j → Holds old.lists CACHED j ⊎ WasClosed old new j
    cached_from j held = elim ((sweeps.cached j).0 held) [
      | inl before ↦ elim ((so-far.cached j).0 before) [
        | inl was ↦ inl was
        | inr closed ↦
            let apart : j ≢ page = λ same. false≢true (sym closed.gone ∙ subst (λ i. has now.starts i ≡ true) (sym same) starts) in
            inr (record { started = closed.started; outside = closed.outside; gone = sweeps.starts j apart ∙ closed.gone })
      ]
      | inr closed ↦ inr (record {
        started = so-far.starts j (subst (λ i. has now.starts i ≡ true) (sym closed.same) starts);
        outside =
            subst (λ i. ¬ (IsOfImage old i)) (sym closed.same)
            (subst (λ (r : PageRange). ¬ ((r.first ≤ page) × (page < r.first + r.count))) so-far.image closed.outside);
        gone = subst (λ i. has new.starts i ≡ false) (sym closed.same) closed.gone;
      })
    ]

    cached_to : (j : ℕ) → Holds old.lists CACHED j ⊎ WasClosed old new j → Holds new.lists CACHED j
    cached_to j is = elim is [
      | inl was ↦ (sweeps.cached j).1 (inl ((so-far.cached j).1 (inl was)))
      | inr closed ↦ elim (cases_eq j page) [
        | inl same ↦ (sweeps.cached j).1 (inr (record {
          same = same;
          outside =
              subst (λ (r : PageRange). ¬ ((r.first ≤ page) × (page < r.first + r.count))) (sym so-far.image)
              (subst (λ i. ¬ (IsOfImage old i)) same closed.outside);
          gone = subst (λ i. has new.starts i ≡ false) same closed.gone;
        }))
        | inr apart ↦
            (sweeps.cached j).1
            (inl ((so-far.cached j).1
            (inr (record { started = closed.started; outside = closed.outside; gone = sym (sweeps.starts j apart) ∙ closed.gone }))))
      ]
    ]

    total_after : freed + more + count_by is_unmarked (contents_of new).slots ≡ count_by is_unmarked (contents_of old).slots
    total_after =
        let entry : Entry = entry_at now.entries page in
        let low = so-far.kept.starts page starts in
        let gone : count_by is_unmarked (page_slots new page) ≡ 0 = ap (λ xs. count_by is_unmarked xs) sweeps.swept ∙ count_none (page_slots now page) in
        let was : count_by is_unmarked (page_slots now page) ≡ more =
        ap (λ b. count_by is_unmarked (cond b (slots_in (page_address page) entry.size entry.places) [])) starts
        ∙ lost_slots (page_address page) entry.size entry.places ∙ sym is in
        let fewer = count_fewer is_unmarked (page_slots now) (page_slots new) page more (omega (arith, gone, was)) sweeps.others 0 now.pages (omega arith) (omega (arith, low)) in
        let same : count_by is_unmarked (contents_of new).slots ≡ count_by is_unmarked (flat_map (page_slots new) (range_with_len 0 now.pages)) =
        ap (λ n. count_by is_unmarked (flat_map (page_slots new) (range_with_len 0 n))) sweeps.pages in
        let total = so-far.total in
        omega (arith, fewer, same, total)

-- no entry is left
module _ (old now : Parts) (from freed : ℕ) (so-far : SweptTo old from freed now) (none : (j : ℕ) → from ≤ j → has now.starts j ≡ false) where
  pub swept_slots : (contents_of now).slots ≡ filter is_marked (contents_of old).slots
  swept_slots =
      ap (λ n. flat_map (page_slots now) (range_with_len 0 n)) so-far.pages
      ∙ flat_filter_slots (page_slots old) (page_slots now) is_marked 0 old.pages (λ j _ _. each j)
    where
      each : (j : ℕ) → page_slots now j ≡ filter is_marked (page_slots old j)
      each j = elim (cases_lt j from) [
        | inl under ↦ so-far.before j under
        | inr over ↦
            let empty = no_start now j (none j over) in
            empty ∙ sym (ap (λ xs. filter is_marked xs) (sym (so-far.after j over) ∙ empty))
      ]

  pub swept_freed : freed ≡ count_by is_unmarked (contents_of old).slots
  swept_freed =
      let gone = ap (λ xs. count_by is_unmarked xs) swept_slots ∙ count_none (contents_of old).slots in
      let total = so-far.total in
      omega (arith, gone, total)
