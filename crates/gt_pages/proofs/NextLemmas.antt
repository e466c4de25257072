-- The next block that passes a test.
use Rattle.std.proofs.Common.{◌≡◌, ℕ, zero, suc, ◌+◌, ◌-◌, ◌*◌, ◌/◌, ◌<◌, ◌≤◌, ◌⊎◌, ◌&&◌, Bool, true, false, cond, List, [], ◌∷◌, ◌++◌, length, flat_map, Option, Some, None, is_some, refl, sym, ap, subst, ◌∙◌, inl, inr, arith}
use Rattle.std.specs.Prelude.{IfNone, IfSome, find, nat_lt}
use Rattle.std.proofs.lemmas.Bool.{cases_eq, cases_lt, cases_Bool, and_left, and_right, and_from, le-ltb, lt-ltb, false≢true, true≢false}
use Rattle.std.proofs.Math.Nat.{mul-div-le, mul-le-mul_left}
use Rattle.std.specs.List.{range_with_len}
use Rattle.gt_space.specs.declared.TheConstants.{HEAP_START}
use Rattle.gt_bits.specs.Sets.{has}
use Rattle.gt_entries.specs.declared.marks.Mark.{Mark}
use Rattle.gt_entries.specs.Cells.{Cell, Free, Used, cell_at, is_free, mark_in}
use Rattle.gt_pages.specs.declared.store.Entry.{Entry}
use Rattle.gt_pages.specs.declared.parts.EntryPlace.{EntryPlace}
use Rattle.gt_pages.specs.Ledger.{page_address, page_of}
use Rattle.gt_pages.specs.Slots.{Slot, next_slot, told_of}
use Rattle.gt_pages.specs.Spots.{HasNoneAbove, IsAbove, IsFirstIn, IsNextSpot, IsNowhere, IsSpot, place_at, marked_at}
use Rattle.gt_pages.specs.Parts.{IsKept, Parts, contents_of, entry_at, entry_pages, page_slots, slots_in}
use Rattle.gt_pages.proofs.WhereLemmas.{entry_some, find_append, find_flat_none, find_none, page_slot, place_ends, same_some}

-- ---- entries lie apart

pub entry_ends : (p : Parts) (page other : ℕ) → IsKept p → has p.starts page ≡ true → has p.starts other ≡ true → page < other
    → page + entry_pages (entry_at p.entries page) ≤ other
entry_ends p page other kept starts other-starts before = elim (cases_lt other (page + entry_pages (entry_at p.entries page))) [
  | inl inside ↦
      let here = (kept.in_use page starts).table other (omega (arith, before)) inside in
      let entry : Entry = entry_at p.entries other in
      let in-use = kept.in_use other other-starts in
      let some = entry_some p other kept other-starts in
      let many = mul-le-mul_left {m = 1} {n = length entry.places} entry.size in-use.some in
      let there = in-use.table other (omega arith) (omega (arith, many, some)) in
      let same = same_some page other (sym here ∙ there) in
      omega (arith, same, before)
  | inr past ↦ past
]

-- a place ends within its entry's pages
place_end : (p : Parts) (page k : ℕ) → k < length (entry_at p.entries page).places
    → place_at p page k + (entry_at p.entries page).size ≤ page_address (page + entry_pages (entry_at p.entries page))
place_end p page k low =
    let entry : Entry = entry_at p.entries page in
    let ends = place_ends entry.size (length entry.places) k low in
    omega (arith, ends)

-- ---- the places above an address

module _ (p : Parts) (after : ℕ) (kept : IsKept p) where
  pub above_spot : (spot : EntryPlace) → IsSpot p after spot → IsAbove p after (record { page = spot.page; place = spot.place + 1 })
  above_spot spot is = record {
    starts = is.starts;
    below = λ page k before starts low.
        let apart = entry_ends p page spot.page kept starts is.starts before in
        let end = place_end p page k low in
        omega (arith, apart, end, is.above);
    before = λ k low.
        let size : ℕ = (entry_at p.entries spot.page).size in
        let least = mul-div-le (after - page_address spot.page) size in
        let at : size * spot.place ≡ size * ((after - page_address spot.page) / size) = ap (λ n. size * n) is.place in
        let more = mul-le-mul_left {m = k} {n = spot.place} size (omega (arith, low)) in
        omega (arith, least, at, more, is.above);
    from = λ k high.
        let size : ℕ = (entry_at p.entries spot.page).size in
        let most = lt_next (after - page_address spot.page) size (entry_some p spot.page kept is.starts) in
        let at : size * (spot.place + 1) ≡ size * ((after - page_address spot.page) / size + 1) = ap (λ n. size * (n + 1)) is.place in
        let more = mul-le-mul_left {m = spot.place + 1} {n = k} size high in
        omega (arith, most, at, more, is.above);
    above = λ page k before starts.
        let apart = entry_ends p spot.page page kept is.starts starts before in
        let leads = (kept.leads (page_of after) spot.page is.leads).2 in
        above_page page k (omega (arith, apart, leads));
  }
    where
      lt_next : (n d : ℕ) → 0 < d → n < d * (n / d + 1)
      lt_next n d some = omega (arith, some)

      above_page : (page k : ℕ) → page_of after < page → after < place_at p page k
      above_page page k before = omega (arith, before)

  module _ (nowhere : IsNowhere p after) (page : ℕ) (from : (after < HEAP_START) × (page ≡ 0) ⊎ (HEAP_START ≤ after) × (page ≡ page_of after + 1)) where
    not_above : (j k : ℕ) → has p.starts j ≡ true → k < length (entry_at p.entries j).places → j < page → place_at p j k ≤ after
    not_above j k starts low before = elim from [
      | inl below ↦ let none = below.1 in omega (arith, before, none)
      | inr high ↦
          let is = high.1 in
          let in-use = kept.in_use j starts in
          let end = place_end p j k low in
          let past : j + entry_pages (entry_at p.entries j) ≤ page_of after = elim nowhere [
            | inl below ↦ let heap = high.0 in omega (arith, below, heap)
            | inr more ↦ elim more [
              | inl past ↦ omega (arith, past, in-use.in_space)
              | inr none ↦ elim (cases_lt (page_of after) (j + entry_pages (entry_at p.entries j))) [
                | inl inside ↦
                    let leads = in-use.table (page_of after) (omega (arith, before, is)) inside in
                    absurd (false≢true (ap is_some (sym none ∙ leads)))
                | inr past ↦ past
              ]
            ]
          ] in
          let heap = high.0 in
          omega (arith, past, end, heap)
    ]

    is_above : (j k : ℕ) → page ≤ j → after < place_at p j k
    is_above j k high = elim from [
      | inl below ↦ let low = below.0 in omega (arith, low)
      | inr past ↦ let is = past.1 in omega (arith, is, high)
    ]

    pub above_next : (result : Option EntryPlace) → IsNextSpot p page result → IfSome result (IsAbove p after) × IfNone result (HasNoneAbove p after)
    above_next None next = (
      tt,
      λ j k starts low. elim (cases_lt j page) [
        | inl before ↦ not_above j k starts low before
        | inr past ↦ absurd (false≢true (sym (next.none j past) ∙ starts))
      ],
    )
    above_next (Some spot) next = (
      record {
        starts = next.starts;
        below = λ j k before starts low. elim (cases_lt j page) [
          | inl under ↦ not_above j k starts low under
          | inr past ↦ absurd (false≢true (sym (next.between j past before) ∙ starts))
        ];
        before = λ k low. omega (arith, low, next.place);
        from = λ k high. is_above spot.page k next.reached;
        above = λ j k before starts. is_above j k (omega (arith, before, next.reached));
      },
      tt,
    )

    pub none_past : p.pages ≤ page → HasNoneAbove p after
    none_past past j k starts low = let inside = kept.starts j starts in not_above j k starts low (omega (arith, inside, past))

-- ---- the first block that passes

find_keeps : (t : Slot → Bool) (xs ys : List Slot) (s : Slot) → find t xs ≡ Some s → find t (xs ++ ys) ≡ Some s
find_keeps t [] ys s is = absurd (false≢true (ap is_some is))
find_keeps t (x ∷ xs) ys s is = elim (cases_Bool (t x)) [
  | inl here ↦
      ap (λ b. cond b (Some x) (find t (xs ++ ys))) here ∙ sym (ap (λ b. cond b (Some x) (find t xs)) here) ∙ is
  | inr not_here ↦
      ap (λ b. cond b (Some x) (find t (xs ++ ys))) not_here
      ∙ find_keeps t xs ys s (sym (ap (λ b. cond b (Some x) (find t xs)) not_here) ∙ is)
]

-- of many entries, where those before one have none
module _ (t : Slot → Bool) (f : ℕ → List Slot) where
  find_pages : (a n k : ℕ) (s : Slot) → a ≤ k → k < a + n → ((j : ℕ) → a ≤ j → j < k → find t (f j) ≡ None) → find t (f k) ≡ Some s
      → find t (flat_map f (range_with_len a n)) ≡ Some s
  find_pages a zero k s high low none is = absurd (let no : 1 ≤ 0 = omega (arith, high, low) in omega (arith, no))
  find_pages a (suc n) k s high low none is = elim (cases_eq a k) [
    | inl same ↦ find_keeps t (f a) _ s (ap (λ i. find t (f i)) same ∙ is)
    | inr apart ↦
        find_append t (f a) _ (none a (omega arith) (omega (arith, high, apart)))
        ∙ find_pages (a + 1) n k s (omega (arith, high, apart)) (omega (arith, low)) (λ j from to. none j (omega (arith, from)) to) is
  ]

-- the block at a place
abbrev slot_in : (start size : ℕ) → List Cell → ℕ → Slot
slot_in start size cells k = record { address = start + size * k; size = size; mark = mark_in (cell_at cells k) }

slot_next : (start size k : ℕ) (c : Cell) (cells : List Cell) → slot_in (start + size) size cells k ≡ slot_in start size (c ∷ cells) (suc k)
slot_next start size k c cells =
    let next : start + size + size * k ≡ start + size * suc k = omega arith in
    ap (λ a. slot_from (record { address = a; size = size; mark = mark_in (cell_at cells k) })) next
  where
    slot_from : Slot → Slot
    slot_from s = s

first_slot : (start size : ℕ) (m : Option Mark) → ◌≡◌ {A = Slot} (record { address = start; size = size; mark = m }) (record { address = start + size * 0; size = size; mark = m })
first_slot start size m = let none : start ≡ start + size * 0 = omega arith in ap (λ a. slot_of_address a) none
  where
    slot_of_address : ℕ → Slot
    slot_of_address a = record { address = a; size = size; mark = m }

-- of one entry
find_cell : (t : Slot → Bool) (start size : ℕ) (cells : List Cell) (k : ℕ) → k < length cells → is_free (cell_at cells k) ≡ false
    → t (slot_in start size cells k) ≡ true
    → ((j : ℕ) → j < k → is_free (cell_at cells j) ≡ false → t (slot_in start size cells j) ≡ false)
    → find t (slots_in start size cells) ≡ Some (slot_in start size cells k)
find_cell t start size [] k low used passes before = absurd (let no : 1 ≤ 0 = omega (arith, low) in omega (arith, no))
find_cell t start size (Free ∷ cells) zero low used passes before = absurd (true≢false used)
find_cell t start size (Used m ∷ cells) zero low used passes before =
    let s : Slot = record { address = start; size = size; mark = m } in
    let same : s ≡ slot_in start size (Used m ∷ cells) 0 = first_slot start size m in
    ap (λ b. cond b (Some s) (find t (slots_in (start + size) size cells))) (ap t same ∙ passes)
    ∙ ap (λ x. Some x) same
find_cell t start size (Free ∷ cells) (suc k) low used passes before =
    find_cell t (start + size) size cells k (omega (arith, low)) used (ap t (slot_next start size k Free cells) ∙ passes)
    (λ j low used. ap t (slot_next start size j Free cells) ∙ before (suc j) (omega (arith, low)) used)
    ∙ ap (λ x. Some x) (slot_next start size k Free cells)
find_cell t start size (Used m ∷ cells) (suc k) low used passes before =
    let s : Slot = record { address = start; size = size; mark = m } in
    let same : s ≡ slot_in start size (Used m ∷ cells) 0 = first_slot start size m in
    ap (λ b. cond b (Some s) (find t (slots_in (start + size) size cells))) (ap t same ∙ before 0 (omega arith) refl)
    ∙ find_cell t (start + size) size cells k (omega (arith, low)) used (ap t (slot_next start size k (Used m) cells) ∙ passes)
    (λ j low used. ap t (slot_next start size j (Used m) cells) ∙ before (suc j) (omega (arith, low)) used)
    ∙ ap (λ x. Some x) (slot_next start size k (Used m) cells)

-- a marked place has a block
pub marked_used : (c : Cell) (m : Mark) → mark_in c ≡ Some m → is_free c ≡ false
marked_used Free m is = absurd (false≢true (ap is_some is))
marked_used (Used mark) m is = refl

-- the places from a spot on start above an address, and no place before it is above and passes
pub record Skips (test : Cell → Bool) (p : Parts) (after : ℕ) (spot : EntryPlace) : Type 0 where
  pub starts : has p.starts spot.page ≡ true
  pub below : (page k : ℕ) → page < spot.page → has p.starts page ≡ true → k < length (entry_at p.entries page).places
      → (place_at p page k ≤ after) ⊎ (test (cell_at (entry_at p.entries page).places k) ≡ false)
  pub before : (k : ℕ) → k < spot.place → (place_at p spot.page k ≤ after) ⊎ (test (cell_at (entry_at p.entries spot.page).places k) ≡ false)
  pub from : (k : ℕ) → spot.place ≤ k → after < place_at p spot.page k
  pub above : (page k : ℕ) → spot.page < page → has p.starts page ≡ true → after < place_at p page k

pub skips_first : (test : Cell → Bool) (p : Parts) (after : ℕ) (spot : EntryPlace) → IsAbove p after spot → Skips test p after spot
skips_first test p after spot is = record {
  starts = is.starts;
  below = λ page k before starts low. inl (is.below page k before starts low);
  before = λ k low. inl (is.before k low);
  from = is.from;
  above = is.above;
}

-- one entry further
pub skips_step : (test : Cell → Bool) (p : Parts) (after : ℕ) (spot next : EntryPlace) → Skips test p after spot
    → IsFirstIn test p spot None → IsNextSpot p (spot.page + 1) (Some next) → Skips test p after next
skips_step test p after spot next is none reached = record {
  starts = reached.starts;
  below = λ page k before starts low. elim (cases_lt page spot.page) [
    | inl under ↦ is.below page k under starts low
    | inr over ↦ elim (cases_eq page spot.page) [
      | inl same ↦
          subst (λ i. (place_at p i k ≤ after) ⊎ (test (cell_at (entry_at p.entries i).places k) ≡ false)) (sym same)
          (elim (cases_lt k spot.place) [ inl low ↦ is.before k low | inr high ↦ inr (none.none k high) ])
      | inr apart ↦ absurd (false≢true (sym (reached.between page (omega (arith, over, apart)) before) ∙ starts))
    ]
  ];
  before = λ k low. absurd (let no : 1 ≤ 0 = omega (arith, low, reached.place) in omega (arith, no));
  from = λ k high. is.above next.page k (omega (arith, reached.reached)) reached.starts;
  above = λ page k before starts. is.above page k (omega (arith, reached.reached, before)) starts;
}

module _ (stest : Slot → Bool) (test : Cell → Bool) (agree : (s : Slot) → stest s ≡ test (Used s.mark)) (free : test Free ≡ false)
    (p : Parts) (after : ℕ) (kept : IsKept p) where
  abbrev wanted : Slot → Bool
  wanted s = nat_lt after s.address && stest s

  not_wanted : (s : Slot) (address : ℕ) (c : Cell) → s.address ≡ address → c ≡ Used s.mark → (address ≤ after) ⊎ (test c ≡ false) → wanted s ≡ false
  not_wanted s address c at is out = elim out [
    | inl low ↦ and_left (nat_lt after s.address) (stest s) (le-ltb after s.address (omega (arith, low, at)))
    | inr fails ↦ and_right (nat_lt after s.address) (stest s) (agree s ∙ (ap test (sym is) ∙ fails))
  ]

  page_skipped : (page : ℕ)
      → (has p.starts page ≡ true → (k : ℕ) → k < length (entry_at p.entries page).places → (place_at p page k ≤ after) ⊎ (test (cell_at (entry_at p.entries page).places k) ≡ false))
      → find wanted (page_slots p page) ≡ None
  page_skipped page out =
      find_none wanted (page_slots p page)
      (λ s there.
      let at = page_slot p page s there in
      not_wanted s (place_at p page at.1.place) (cell_at (entry_at p.entries page).places at.1.place) at.1.address at.1.cell (out at.0 at.1.place at.1.low))

  -- no entry is left
  pub next_none : (spot : EntryPlace) → Skips test p after spot → IsFirstIn test p spot None → IsNextSpot p (spot.page + 1) None
      → None ≡ told_of (next_slot stest (contents_of p).slots after)
  next_none spot is none last =
      sym (ap told_of (find_flat_none wanted (page_slots p) 0 p.pages
      (λ j. page_skipped j (λ starts k low. elim (cases_lt j spot.page) [
        | inl under ↦ is.below j k under starts low
        | inr over ↦ elim (cases_eq j spot.page) [
          | inl same ↦
              subst (λ i. (place_at p i k ≤ after) ⊎ (test (cell_at (entry_at p.entries i).places k) ≡ false)) (sym same)
              (elim (cases_lt k spot.place) [ inl low ↦ is.before k low | inr high ↦ inr (none.none k high) ])
          | inr apart ↦ absurd (false≢true (sym (last.none j (omega (arith, over, apart))) ∙ starts))
        ]
      ]))))

  -- none is above the address
  pub none_above : HasNoneAbove p after → None ≡ told_of (next_slot stest (contents_of p).slots after)
  none_above out =
      sym (ap told_of (find_flat_none wanted (page_slots p) 0 p.pages (λ j. page_skipped j (λ starts k low. inl (out j k starts low)))))

  used_passes : (c : Cell) → test c ≡ true → is_free c ≡ false
  used_passes Free passes = absurd (false≢true (sym free ∙ passes))
  used_passes (Used m) passes = refl

  used_is : (c : Cell) → is_free c ≡ false → c ≡ Used (mark_in c)
  used_is Free used = absurd (true≢false used)
  used_is (Used m) used = refl

  -- the first place that passes
  pub next_found : (spot found : EntryPlace) → Skips test p after spot → IsFirstIn test p spot (Some found)
      → marked_at p found ≡ told_of (next_slot stest (contents_of p).slots after)
  next_found spot found is first =
      let entry : Entry = entry_at p.entries spot.page in
      let low = kept.starts spot.page is.starts in
      let used = used_passes (cell_at entry.places found.place) first.passes in
      let s : Slot = slot_in (page_address spot.page) entry.size entry.places found.place in
      let passes : wanted s ≡ true =
      and_from (nat_lt after s.address) (stest s) (lt-ltb after s.address (is.from found.place first.reached))
      (agree s ∙ (ap test (sym (used_is (cell_at entry.places found.place) used)) ∙ first.passes)) in
      let here : find wanted (page_slots p spot.page) ≡ Some s =
      ap (λ b. find wanted (cond b (slots_in (page_address spot.page) entry.size entry.places) [])) is.starts
      ∙ find_cell wanted (page_address spot.page) entry.size entry.places found.place first.within used passes
      (λ j before used. not_wanted (slot_in (page_address spot.page) entry.size entry.places j) (place_at p spot.page j) (cell_at entry.places j) refl
      (used_is (cell_at entry.places j) used)
      (elim (cases_lt j spot.place) [ inl low ↦ is.before j low | inr high ↦ inr (first.first j high before) ])) in
      ap (λ page. marked_at p (record { page = page; place = found.place })) first.page
      ∙ sym (ap told_of (find_pages wanted (page_slots p) 0 p.pages spot.page s (omega arith) (omega (arith, low))
      (λ j _ before. page_skipped j (λ starts k low. is.below j k before starts low)) here))
