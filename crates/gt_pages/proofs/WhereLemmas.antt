-- Where the blocks of the entries lie.
use Rattle.std.proofs.Common.{◌≡◌, ◌≢◌, ℕ, zero, suc, ◌+◌, ◌-◌, ◌*◌, ◌/◌, ◌^◌, ◌<◌, ◌≤◌, Bool, true, false, cond, List, [], ◌∷◌, ◌++◌, length, get_or, flat_map, Option, Some, None, is_some, unwrap_or, refl, sym, ap, subst, ◌∙◌, inl, inr, arith}
use Rattle.std.specs.Prelude.{Contains, find, option_map, nat_le, nat_lt}
use Rattle.std.proofs.lemmas.Bool.{cases_eq, cases_lt, cases_Bool, and_left, and_right, and_from, and_parts, le-leb, lt-leb, lt-ltb, le-ltb, leb-true, ltb-true, false≢true, true≢false}
use Rattle.std.proofs.Math.Nat.{add-div_right, div-eq_of_lt, mul-le-mul_left}
use Rattle.std.specs.List.{range_with_len}
use Rattle.gt_bits.specs.Sets.{has}
use Rattle.gt_entries.specs.Cells.{Cell, Free, Used, cell_at, is_free}
use Rattle.gt_pages.specs.declared.store.Entry.{Entry}
use Rattle.gt_pages.specs.Ledger.{page_address, page_of, pages_of}
use Rattle.gt_pages.specs.declared.parts.EntryPlace.{EntryPlace}
use Rattle.gt_pages.specs.Slots.{Slot, has_byte, owner_of}
use Rattle.gt_pages.specs.Spots.{IsNowhere, IsSpot, block_at, block_in}
use Rattle.gt_pages.specs.Tables.{page_at}
use Rattle.gt_pages.specs.Parts.{IsKept, Parts, contents_of, entry_at, entry_pages, page_slots, slots_in}
use Rattle.std.proofs.lemmas.List.{get_or_default, get_or_past}
use Rattle.gt_pages.proofs.SizeLemmas.{size_bounds}
use Rattle.gt_pages.proofs.SlotLemmas.{IsSlotOf, slot_of}

pub page_slot : (p : Parts) (page : ℕ) (s : Slot) → Contains (page_slots p page) s
    → (has p.starts page ≡ true) × IsSlotOf (page_address page) (entry_at p.entries page).size (entry_at p.entries page).places s
page_slot p page s there =
    let all : List Slot = slots_in (page_address page) (entry_at p.entries page).size (entry_at p.entries page).places in
    elim (cases_Bool (has p.starts page)) [
      | inl starts ↦ (starts, slot_of (page_address page) (entry_at p.entries page).size (entry_at p.entries page).places s (subst (λ b. Contains (cond b all []) s) starts there))
      | inr none ↦
          let nothing : Contains {X = Slot} [] s = subst (λ b. Contains (cond b all []) s) none there in
          absurd (let impossible : 1 ≤ 0 = omega (arith, nothing.1) in omega (arith, impossible))
    ]

-- place k of so many of a size ends in their pages
pub place_ends : (size len k : ℕ) → k < len → size * k + size ≤ 4096 * pages_of (size * len)
place_ends size len k low =
    let more = mul-le-mul_left {m = suc k} {n = len} size (omega (arith, low)) in
    let next : size * suc k ≡ size * k + size = omega arith in
    omega (arith, more, next)

-- the page of each byte of a block leads to its entry
pub byte_leads : (p : Parts) (page : ℕ) (s : Slot) → has p.starts page ≡ true
    → IsSlotOf (page_address page) (entry_at p.entries page).size (entry_at p.entries page).places s → IsKept p
    → (addr : ℕ) → s.address ≤ addr → addr < s.address + s.size
    → (page_at p.table (page_of addr) ≡ Some page) × (page_of addr < p.pages) × (page_address page ≤ addr)
byte_leads p page s starts slot kept addr high low =
    let entry : Entry = entry_at p.entries page in
    let in-use = kept.in_use page starts in
    let ends = place_ends entry.size (length entry.places) slot.place slot.low in
    let from : page ≤ page_of addr = omega (arith, slot.address, high) in
    let to : page_of addr < page + entry_pages entry = omega (arith, slot.address, slot.sized, ends, low) in
    (in-use.table (page_of addr) from to, omega (arith, to, in-use.in_space), omega (arith, slot.address, high))

-- ---- the first block that has a byte

pub find_none : (test : Slot → Bool) (xs : List Slot) → ((s : Slot) → Contains xs s → test s ≡ false) → find test xs ≡ None
find_none test [] none = refl
find_none test (x ∷ xs) none =
    ap (λ b. cond b (Some x) (find test xs)) (none x (0, omega arith, refl))
    ∙ find_none test xs (λ s there. none s (suc there.0, omega (arith, there.1), there.2))

pub find_append : (test : Slot → Bool) (xs ys : List Slot) → find test xs ≡ None → find test (xs ++ ys) ≡ find test ys
find_append test [] ys none = refl
find_append test (x ∷ xs) ys none = elim (cases_Bool (test x)) [
  | inl here ↦ absurd (false≢true (ap is_some (sym none ∙ ap (λ b. cond b (Some x) (find test xs)) here)))
  | inr not_here ↦
      ap (λ b. cond b (Some x) (find test (xs ++ ys))) not_here
      ∙ find_append test xs ys (sym (ap (λ b. cond b (Some x) (find test xs)) not_here) ∙ none)
]

find_first : (test : Slot → Bool) (xs ys : List Slot) → find test ys ≡ None → find test (xs ++ ys) ≡ find test xs
find_first test [] ys none = none
find_first test (x ∷ xs) ys none = ap (λ o. cond (test x) (Some x) o) (find_first test xs ys none)

-- where no entry but one has a block that passes
module _ (test : Slot → Bool) (f : ℕ → List Slot) where
  pub find_flat_none : (a n : ℕ) → ((j : ℕ) → find test (f j) ≡ None) → find test (flat_map f (range_with_len a n)) ≡ None
  find_flat_none a zero none = refl
  find_flat_none a (suc n) none = find_append test (f a) _ (none a) ∙ find_flat_none (a + 1) n none

  find_flat_past : (a n k : ℕ) → k < a → ((j : ℕ) → j ≢ k → find test (f j) ≡ None) → find test (flat_map f (range_with_len a n)) ≡ None
  find_flat_past a zero k past none = refl
  find_flat_past a (suc n) k past none =
      find_append test (f a) _ (none a (λ same. omega (arith, same, past))) ∙ find_flat_past (a + 1) n k (omega (arith, past)) none

  pub find_flat : (a n k : ℕ) → a ≤ k → k < a + n → ((j : ℕ) → j ≢ k → find test (f j) ≡ None)
      → find test (flat_map f (range_with_len a n)) ≡ find test (f k)
  find_flat a zero k high low none = absurd (let impossible : 1 ≤ 0 = omega (arith, high, low) in omega (arith, impossible))
  find_flat a (suc n) k high low none = elim (cases_eq a k) [
    | inl same ↦
        find_first test (f a) _ (find_flat_past (a + 1) n k (omega (arith, same)) none) ∙ ap (λ i. find test (f i)) same
    | inr apart ↦
        find_append test (f a) _ (none a apart) ∙ find_flat (a + 1) n k (omega (arith, high, apart)) (omega (arith, low)) none
  ]

pub entry_read : (entries : List Entry) (page : ℕ) (e : Entry) → page < length entries → e ≡ get_or entries page e → e ≡ entry_at entries page
entry_read entries page e low is = is ∙ get_or_default entries page e _ low

pub entry_some : (p : Parts) (page : ℕ) → IsKept p → has p.starts page ≡ true → 0 < (entry_at p.entries page).size
entry_some p page kept starts = (size_bounds (entry_at p.entries page).size (kept.in_use page starts).listed).0

-- ---- the block that has a byte

not_byte : (addr : ℕ) (s : Slot) → addr < s.address → has_byte addr s ≡ false
not_byte addr s low = and_left (nat_le s.address addr) (nat_lt addr (s.address + s.size)) (lt-leb s.address addr low)

abbrev told : Option Slot → Option (ℕ × ℕ)
told found = option_map (λ s. (s.address, s.size)) found

-- of one entry
pub find_in : (addr start size : ℕ) (cells : List Cell) → 0 < size → start ≤ addr
    → told (find (has_byte addr) (slots_in start size cells)) ≡ block_in start size (cell_at cells ((addr - start) / size)) ((addr - start) / size)
find_in addr start size [] some high = refl
find_in addr start size (c ∷ cells) some high = elim (cases_lt addr (start + size)) [
  | inl low ↦
      let none : (addr - start) / size ≡ 0 = div-eq_of_lt (omega (arith, low, high)) in
      let rest : find (has_byte addr) (slots_in (start + size) size cells) ≡ None = find_none (has_byte addr) (slots_in (start + size) size cells)
      (λ s there. let is = slot_of (start + size) size cells s there in not_byte addr s (omega (arith, low, is.address))) in
      here addr start size c cells high low rest
      ∙ sym (ap (λ k. block_in start size (cell_at (c ∷ cells) k) k) none)
  | inr past ↦
      let k : ℕ = (addr - (start + size)) / size in
      let apart : addr - start ≡ addr - (start + size) + size = omega (arith, past) in
      let next : (addr - start) / size ≡ suc k = ap (λ n. n / size) apart ∙ (add-div_right (addr - (start + size)) some ∙ omega arith) in
      later addr start size c cells past
      ∙ find_in addr (start + size) size cells some past
      ∙ shifted start size (cell_at cells k) k
      ∙ sym (ap (λ j. block_in start size (cell_at (c ∷ cells) j) j) next)
]
  where
    here : (addr start size : ℕ) (c : Cell) (cells : List Cell) → start ≤ addr → addr < start + size → find (has_byte addr) (slots_in (start + size) size cells) ≡ None
        → told (find (has_byte addr) (slots_in start size (c ∷ cells))) ≡ block_in start size c 0
    here addr start size Free cells high low rest = ap told rest
    here addr start size (Used m) cells high low rest =
        let s : Slot = record { address = start; size = size; mark = m } in
        let none : start ≡ start + size * 0 = omega arith in
        ap (λ b. told (cond b (Some s) (find (has_byte addr) (slots_in (start + size) size cells))))
        (and_from (nat_le start addr) (nat_lt addr (start + size)) (le-leb start addr high) (lt-ltb addr (start + size) low))
        ∙ ap (λ a. Some (a, size)) none

    later : (addr start size : ℕ) (c : Cell) (cells : List Cell) → start + size ≤ addr
        → told (find (has_byte addr) (slots_in start size (c ∷ cells))) ≡ told (find (has_byte addr) (slots_in (start + size) size cells))
    later addr start size Free cells past = refl
    later addr start size (Used m) cells past =
        let s : Slot = record { address = start; size = size; mark = m } in
        ap (λ b. told (cond b (Some s) (find (has_byte addr) (slots_in (start + size) size cells))))
        (and_right (nat_le start addr) (nat_lt addr (start + size)) (le-ltb addr (start + size) past))

    shifted : (start size : ℕ) (c : Cell) (k : ℕ) → block_in (start + size) size c k ≡ block_in start size c (suc k)
    shifted start size Free k = refl
    shifted start size (Used m) k =
        let same : start + size + size * k ≡ start + size * suc k = omega arith in ap (λ a. Some (a, size)) same

-- no entry but the one that the page leads to has the byte
other_page : (p : Parts) (addr page : ℕ) → IsKept p → ((page_at p.table (page_of addr) ≡ Some page) → (page_of addr < p.pages) → (page_address page ≤ addr) → ⊥)
    → find (has_byte addr) (page_slots p page) ≡ None
other_page p addr page kept never =
    find_none (has_byte addr) (page_slots p page)
    (λ s there. elim (cases_Bool (has_byte addr s)) [
      | inl byte ↦
          let parts = and_parts (nat_le s.address addr) (nat_lt addr (s.address + s.size)) byte in
          let is = page_slot p page s there in
          let leads = byte_leads p page s is.0 is.1 kept addr (leb-true s.address addr parts.0) (ltb-true addr (s.address + s.size) parts.1) in
          absurd (never leads.0 leads.1 leads.2)
      | inr not_byte ↦ not_byte
    ])

pub same_some : (x y : ℕ) → Some x ≡ Some y → x ≡ y
same_some x y e = ap (λ o. unwrap_or o 0) e

-- of all entries
pub owner_nowhere : (p : Parts) (addr : ℕ) → IsKept p → IsNowhere p addr → owner_of (contents_of p).slots addr ≡ None
owner_nowhere p addr kept nowhere =
    ap told
    (find_flat_none (has_byte addr) (page_slots p) 0 p.pages
    (λ j. other_page p addr j kept
    (λ leads low above. elim nowhere [
      | inl below ↦ omega (arith, below, above)
      | inr more ↦ elim more [
        | inl past ↦ omega (arith, past, low)
        | inr none ↦ false≢true (ap is_some (sym none ∙ leads))
      ]
    ])))

pub owner_spot : (p : Parts) (addr : ℕ) (spot : EntryPlace) → IsKept p → IsSpot p addr spot → owner_of (contents_of p).slots addr ≡ block_at p spot
owner_spot p addr spot kept is =
    let entry : Entry = entry_at p.entries spot.page in
    let low = kept.starts spot.page is.starts in
    let all : List Slot = slots_in (page_address spot.page) entry.size entry.places in
    ap told
    (find_flat (has_byte addr) (page_slots p) 0 p.pages spot.page (omega arith) (omega (arith, low))
    (λ j apart. other_page p addr j kept (λ leads _ _. apart (same_some j spot.page (sym leads ∙ is.leads))))
    ∙ ap (λ b. find (has_byte addr) (cond b all [])) is.starts)
    ∙ find_in addr (page_address spot.page) entry.size entry.places (entry_some p spot.page kept is.starts) is.above
    ∙ sym (ap (λ k. block_in (page_address spot.page) entry.size (cell_at entry.places k) k) is.place)

-- the place of a block is one of the entry's
pub used_place : (cells : List Cell) (k : ℕ) → is_free (cell_at cells k) ≡ false → k < length cells
used_place cells k used = elim (cases_lt k (length cells)) [
  | inl low ↦ low
  | inr past ↦ absurd (false≢true (sym used ∙ ap is_free (get_or_past cells k Free past)))
]

-- places lie within 2 ^ 40 bytes
pub place_small : (p : Parts) (page k : ℕ) → IsKept p → has p.starts page ≡ true → k < length (entry_at p.entries page).places
    → (entry_at p.entries page).size * k < 2 ^ 40
place_small p page k kept starts low =
    let in-use = kept.in_use page starts in
    let ends = place_ends (entry_at p.entries page).size (length (entry_at p.entries page).places) k low in
    omega (arith, ends, in-use.in_space, kept.at_most)

pub block_free : (start size : ℕ) (c : Cell) (k : ℕ) → is_free c ≡ true → block_in start size c k ≡ None
block_free start size Free k free = refl
block_free start size (Used m) k free = absurd (false≢true free)

pub block_used : (start size : ℕ) (c : Cell) (k : ℕ) → is_free c ≡ false → block_in start size c k ≡ Some (start + size * k, size)
block_used start size Free k used = absurd (true≢false used)
block_used start size (Used m) k used = refl
