-- What the lists say of the blocks.
use Rattle.std.proofs.Common.{◌≡◌, ◌≢◌, ℕ, zero, suc, ◌+◌, ◌*◌, ◌/◌, ◌<◌, ◌≤◌, ◌⊎◌, ◌==◌, Bool, true, false, cond, List, [], ◌∷◌, length, get_or, count_by, flat_map, refl, sym, ap, subst, ◌∙◌, inl, inr, arith}
use Rattle.std.specs.Prelude.{Contains, nat_eq}
use Rattle.std.specs.List.{IsDistinct, range_with_len}
use Rattle.std.proofs.lemmas.Bool.{cases_Bool, cases_eq, cases_lt, eq-eqb, false≢true, le-leb, ne_eqb, true≢false}
use Rattle.std.proofs.lemmas.Nat.{le-div}
use Rattle.std.proofs.lemmas.Option.{slice_get_within, get_or_from_slice_get}
use Rattle.std.proofs.lemmas.List.Elements.{All-contains}
use Rattle.std.proofs.lemmas.List.Sums.{sum_by-append, sum_by-cons}
use Rattle.std.proofs.Math.Nat.{mul-div-le, mul-le-mul_left}
use Rattle.gt_links.specs.Lists.{Holds, StandsAt, nodes_of}
use Rattle.gt_entries.specs.Cells.{Cell, Free, Used, cell_at, is_free}
use Rattle.gt_pages.specs.declared.pages.PageEntry.{PageEntry}
use Rattle.gt_pages.specs.declared.pages.TheConstants.{CACHED}
use Rattle.gt_pages.specs.declared.store.Entry.{Entry}
use Rattle.gt_pages.specs.Ledger.{HasFreePlace, page_address, page_of, sizes}
use Rattle.gt_pages.specs.Slots.{Slot, block_of}
use Rattle.gt_pages.specs.Contents.{HasLists, IsEntry, IsSize, StartsIn, ledger_of, places_of}
use Rattle.gt_pages.specs.Parts.{IsKept, IsListed, IsOfImage, Parts, contents_of, entry_at, free_places, page_slots, slots_in}
use Rattle.gt_pages.proofs.CachedLemmas.{number_size, size_number}
use Rattle.gt_pages.proofs.FreeLemmas.{Contains-map, has_slot, slot_there, some_used}
use Rattle.gt_pages.proofs.SlotLemmas.{flat_contains}
use Rattle.gt_pages.proofs.WhereLemmas.{entry_some}
use Rattle.gt_pages.proofs.RoomLemmas.{free_some, some_free}
use Rattle.gt_pages.proofs.ViewLemmas.{IsOfEntry, each_block, of_entry, off_other, outside_slot, started_slots, where_is}

-- ---- free places

-- two places of one size do not overlap
places_apart : (start size j k : ℕ) → j ≢ k → (start + size * j + size ≤ start + size * k) ⊎ (start + size * k + size ≤ start + size * j)
places_apart start size j k apart = elim (cases_lt j k) [
  | inl low ↦
      let more = mul-le-mul_left {m = suc j} {n = k} size (omega (arith, low)) in
      let next : size * suc j ≡ size * j + size = omega arith in inl (omega (arith, more, next))
  | inr high ↦
      let more = mul-le-mul_left {m = suc k} {n = j} size (omega (arith, high, apart)) in
      let next : size * suc k ≡ size * k + size = omega arith in inr (omega (arith, more, next))
]

-- a place that lies within a page is one of the page's
place_low : (size len k : ℕ) → 0 < size → len ≡ places_of size → size ≤ 4096 → size * k + size ≤ 4096 → k < len
place_low size len k some count small fits =
    let many : len ≡ 4096 / size = count ∙ ap (λ b. cond b (4096 / size) 1) (le-leb size 4096 small) in
    let next : suc k * size ≡ size * k + size = omega arith in
    let low = le-div (suc k) 4096 size some (omega (arith, fits, next)) in
    omega (arith, many, low)

places_fit : (size len k : ℕ) → len ≡ places_of size → k < len → size ≤ 4096 → size * k + size ≤ 4096
places_fit size len k count low small =
    let many : len ≡ 4096 / size = count ∙ ap (λ b. cond b (4096 / size) 1) (le-leb size 4096 small) in
    let fits = mul-div-le 4096 size in
    let more = mul-le-mul_left {m = suc k} {n = 4096 / size} size (omega (arith, low, many)) in
    let next : size * suc k ≡ size * k + size = omega arith in
    omega (arith, fits, more, next)

module _ (p : Parts) (kept : IsKept p) where
  -- a block of an entry outside the image
  pub some_slot : (size page : ℕ) → IsListed p size page → (s : Slot) × Contains (contents_of p).slots s × (s.size ≡ size) × (page_of s.address ≡ page)
  some_slot size page is =
      let entry : Entry = entry_at p.entries page in
      let used = some_used entry.places ((kept.in_use page is.starts).used is.outside) in
      let s : Slot = slot_there (page_address page) entry.size entry.places used.0 in
      let here : Contains (page_slots p page) s =
      subst (λ xs. Contains xs s) (sym (started_slots p page is.starts)) (has_slot (page_address page) entry.size entry.places used.0 used.1 used.2) in
      let low = kept.starts page is.starts in (
        s,
        flat_contains (page_slots p) 0 p.pages page s (omega arith) (omega (arith, low)) here,
        is.sized,
        (outside_slot p page s kept (of_entry p page s kept here) is.outside).first,
      )

  pub listed_start : (size page : ℕ) → IsListed p size page → StartsIn (contents_of p) size page
  listed_start size page is = record { outside = is.outside; slot = some_slot size page is }

  -- the entry of a block that starts in a page outside the image
  outside_entry : (s : Slot) (page j : ℕ) → page_of s.address ≡ page → ¬ (IsOfImage p page) → IsOfEntry p j s → ¬ (IsOfImage p j)
  outside_entry s page j at outside is of =
      let in' = (kept.in_use j is.starts).inside of in
      let first = of.0 in
      let from = is.from in
      let to = is.to in
      let some = is.some in
      outside (omega (arith, at, first, from), omega (arith, at, in', to, some, from))

  pub slot_entry : (s : Slot) (page : ℕ) → Contains (contents_of p).slots s → page_of s.address ≡ page → ¬ (IsOfImage p page) → IsOfEntry p page s
  slot_entry s page there at outside =
      let is = where_is p s kept there in
      let lies = outside_slot p is.0 s kept is.1 (outside_entry s page is.0 at outside is.1) in
      subst (λ j. IsOfEntry p j s) (sym lies.first ∙ at) is.1

  pub start_listed : (size page : ℕ) → StartsIn (contents_of p) size page → IsListed p size page
  start_listed size page is =
      let slot = is.slot in
      let of = slot_entry slot.0 page slot.1 slot.3 is.outside in
      record { starts = of.starts; outside = is.outside; sized = sym of.slot.sized ∙ slot.2 }

  -- a page has a free place where its entry has one
  pub has_free : (size page : ℕ) → IsListed p size page → HasFreePlace (ledger_of (contents_of p)) size page → 0 < free_places p page
  has_free size page is free =
      let entry : Entry = entry_at p.entries page in
      let k : ℕ = free.free.0 in
      let some : 0 < size = (let at = entry_some p page kept is.starts in let sized = is.sized in omega (arith, at, sized)) in
      let low = place_low size (length entry.places) k some ((kept.in_use page is.starts).count is.outside ∙ ap places_of is.sized) free.small free.free.1 in
      elim (cases_Bool (is_free (cell_at entry.places k))) [
        | inl empty ↦ some_free entry.places k low empty
        | inr used ↦
            let s : Slot = slot_there (page_address page) entry.size entry.places k in
            let here : Contains (page_slots p page) s =
            subst (λ xs. Contains xs s) (sym (started_slots p page is.starts)) (has_slot (page_address page) entry.size entry.places k low used) in
            let inside = kept.starts page is.starts in
            let there = flat_contains (page_slots p) 0 p.pages page s (omega arith) (omega (arith, inside)) here in
            let same : entry.size * k ≡ size * k = ap (λ n. n * k) is.sized in
            let sized = is.sized in
            elim (All-contains (λ b. (page_address page + size * k + size ≤ b.address) ⊎ (b.address + b.size ≤ page_address page + size * k)) (ledger_of (contents_of p)).blocks (block_of s) free.free.2
            (Contains-map block_of (contents_of p).slots s there)) [
              | inl before ↦ absurd (omega (arith, before, same, some))
              | inr after ↦ absurd (omega (arith, after, same, some, sized))
            ]
      ]

  pub free_has : (size page : ℕ) → IsListed p size page → size ≤ 4096 → 0 < free_places p page → HasFreePlace (ledger_of (contents_of p)) size page
  free_has size page is small some =
      let entry : Entry = entry_at p.entries page in
      let free = free_some entry.places some in
      let k : ℕ = free.0 in
      let fits = places_fit size (length entry.places) k ((kept.in_use page is.starts).count is.outside ∙ ap places_of is.sized) free.1 small in
      let slot = some_slot size page is in
      record {
        small = small;
        in_space = kept.starts page is.starts;
        outside = is.outside;
        holds = (block_of slot.0, Contains-map block_of (contents_of p).slots slot.0 slot.1, slot.2, slot.3);
        free = (
          k,
          fits,
          each_block p kept (λ b. (page_address page + size * k + size ≤ b.address) ⊎ (b.address + b.size ≤ page_address page + size * k))
              (λ c there. off_place c (where_is p c kept there) k fits (ap is_free free.2)),
        );
      }
    where
      off_here : (c : Slot) → IsOfEntry p page c → (k : ℕ) → is_free (cell_at (entry_at p.entries page).places k) ≡ true
          → (page_address page + size * k + size ≤ c.address) ⊎ (c.address + c.size ≤ page_address page + size * k)
      off_here c of k free =
          let entry : Entry = entry_at p.entries page in
          let j : ℕ = of.slot.place in
          let apart : j ≢ k = λ same. true≢false (sym free ∙ ap (λ i. is_free (cell_at entry.places i)) (sym same) ∙ ap is_free of.slot.cell) in
          let same : entry.size * j ≡ size * j = ap (λ n. n * j) is.sized in
          let at = of.slot.address in
          let sized = of.slot.sized in
          let size-is = is.sized in
          elim (places_apart (page_address page) size j k apart) [
            | inl low ↦ inr (omega (arith, low, same, at, sized, size-is))
            | inr high ↦ inl (omega (arith, high, same, at))
          ]

      off_place : (c : Slot) → (j : ℕ) × IsOfEntry p j c → (k : ℕ) → size * k + size ≤ 4096 → is_free (cell_at (entry_at p.entries page).places k) ≡ true
          → (page_address page + size * k + size ≤ c.address) ⊎ (c.address + c.size ≤ page_address page + size * k)
      off_place c at k fits free = elim (cases_eq at.0 page) [
        | inl same ↦ off_here c (subst (λ j. IsOfEntry p j c) same at.1) k free
        | inr apart ↦ elim (off_other p kept page at.0 c is.starts at.1 apart) [
          | inl before ↦ inr (omega (arith, before))
          | inr after ↦ inl (omega (arith, after, fits))
        ]
      ]

  listed_at : (i size k x : ℕ) → IsSize i size → StandsAt p.lists i k x → IsListed p size x
  listed_at i size k x is at =
      (kept.lists.each i size x is).0
      (k, slice_get_within (nodes_of p.lists i) k x at, get_or_from_slice_get (nodes_of p.lists i) k x x at)

  pub has_lists : ((i : ℕ) → IsDistinct nat_eq (nodes_of p.lists i)) → HasLists (contents_of p)
  has_lists once = record {
    count = kept.lists.count;
    nodes = kept.lists.nodes;
    each = λ i size page is. (
      λ held. listed_start size page ((kept.lists.each i size page is).0 held),
      λ starts. (kept.lists.each i size page is).1 (start_listed size page starts),
    );
    once = once;
    order = λ i size j k x y is before at-x at-y free.
        free_has size x (listed_at i size j x is at-x) free.small
        (kept.lists.order i j k x y (size_number i size is) before at-x at-y (has_free size y (listed_at i size k y is at-y) free));
    cached = λ page held size starts. false≢true (sym (kept.lists.cached page held) ∙ (start_listed size page starts).starts);
  }

-- ---- an entry

-- the size of an entry of one of the lists
pub listed_node : (p : Parts) → IsKept p → (page : ℕ) → (i : ℕ) × (i < CACHED) × Holds p.lists i page → (size : ℕ) × IsListed p size page
listed_node p kept page held =
    let size : ℕ = get_or sizes held.0 0 in (size, (kept.lists.each held.0 size page (number_size held.0 held.1)).0 held.2)

-- where all but one have no block that passes
module _ (test : Slot → Bool) (f : ℕ → List Slot) (k : ℕ) (others : (j : ℕ) → j ≢ k → count_by test (f j) ≡ 0) where
  count_past : (a n : ℕ) → k < a → count_by test (flat_map f (range_with_len a n)) ≡ 0
  count_past a zero past = refl
  count_past a (suc n) past =
      let sum = sum_by-append (λ x. cond (test x) 1 0) (f a) (flat_map f (range_with_len (a + 1) n)) in
      let none = others a (λ same. omega (arith, same, past)) in
      omega (arith, sum, none, count_past (a + 1) n (omega (arith, past)))

  count_one : (a n : ℕ) → a ≤ k → k < a + n → count_by test (flat_map f (range_with_len a n)) ≡ count_by test (f k)
  count_one a zero high low = absurd (let no : 1 ≤ 0 = omega (arith, high, low) in omega (arith, no))
  count_one a (suc n) high low =
      let sum = sum_by-append (λ x. cond (test x) 1 0) (f a) (flat_map f (range_with_len (a + 1) n)) in
      elim (cases_eq a k) [
        | inl same ↦
            let here = ap (λ i. count_by test (f i)) same in
            omega (arith, sum, here, count_past (a + 1) n (omega (arith, same)))
        | inr apart ↦
            let none = others a apart in
            omega (arith, sum, none, count_one (a + 1) n (omega (arith, high, apart)) (omega (arith, low)))
      ]

count_no : (test : Slot → Bool) (xs : List Slot) → ((s : Slot) → Contains xs s → test s ≡ false) → count_by test xs ≡ 0
count_no test [] none = refl
count_no test (x ∷ xs) none =
    let sum = sum_by-cons (λ y. cond (test y) 1 0) x xs in
    let here : cond {A = ℕ} (test x) 1 0 ≡ 0 = ap (λ b. cond {A = ℕ} b 1 0) (none x (0, omega arith, refl)) in
    let rest = count_no test xs (λ s there. none s (suc there.0, omega (arith, there.1), there.2)) in
    omega (arith, sum, here, rest)

count_all : (test : Slot → Bool) (xs : List Slot) → ((s : Slot) → Contains xs s → test s ≡ true) → count_by test xs ≡ length xs
count_all test [] all = refl
count_all test (x ∷ xs) all =
    let sum = sum_by-cons (λ y. cond (test y) 1 0) x xs in
    let here : cond {A = ℕ} (test x) 1 0 ≡ 1 = ap (λ b. cond {A = ℕ} b 1 0) (all x (0, omega arith, refl)) in
    let rest = count_all test xs (λ s there. all s (suc there.0, omega (arith, there.1), there.2)) in
    omega (arith, sum, here, rest)

slots_length : (start size : ℕ) (cells : List Cell) → length (slots_in start size cells) + count_by is_free cells ≡ length cells
slots_length start size [] = refl
slots_length start size (Free ∷ cells) =
    let sum = sum_by-cons (λ x. cond (is_free x) 1 0) Free cells in
    omega (arith, sum, slots_length (start + size) size cells)
slots_length start size (Used m ∷ cells) =
    let sum = sum_by-cons (λ x. cond (is_free x) 1 0) (Used m) cells in
    omega (arith, sum, slots_length (start + size) size cells)

module _ (p : Parts) (kept : IsKept p) (size page : ℕ) (is : IsListed p size page) where
  abbrev is_here : Slot → Bool
  is_here s = page_of s.address == page

  count_here : count_by is_here (contents_of p).slots + free_places p page ≡ places_of size
  count_here =
      let entry : Entry = entry_at p.entries page in
      let low = kept.starts page is.starts in
      let one = count_one is_here (page_slots p) page none_other 0 p.pages (omega arith) (omega (arith, low)) in
      let here = count_all is_here (page_slots p page) all_here in
      let slots = ap (λ xs. length xs) (started_slots p page is.starts) in
      let sum = slots_length (page_address page) entry.size entry.places in
      let count = (kept.in_use page is.starts).count is.outside ∙ ap places_of is.sized in
      omega (arith, one, here, slots, sum, count)
    where
      all_here : (s : Slot) → Contains (page_slots p page) s → is_here s ≡ true
      all_here s there = eq-eqb (page_of s.address) page (outside_slot p page s kept (of_entry p page s kept there) is.outside).first

      none_other : (j : ℕ) → j ≢ page → count_by is_here (page_slots p j) ≡ 0
      none_other j apart =
          count_no is_here (page_slots p j)
          (λ s there.
          ne_eqb (page_of s.address) page
          (λ at.
          let of = of_entry p j s kept there in
          let lies = outside_slot p j s kept of (outside_entry p kept s page j at is.outside of) in
          apart (sym lies.first ∙ at)))

  pub is_entry : (entry : PageEntry) → entry.page ≡ page → entry.size ≡ size → entry.free ≡ free_places p page → IsEntry (contents_of p) page entry
  is_entry entry first sized free = record {
    first = first;
    size = subst (λ n. StartsIn (contents_of p) n page) (sym sized) (listed_start p kept size page is);
    free = (let count = count_here in let same = ap places_of sized in omega (arith, count, same, free));
  }
