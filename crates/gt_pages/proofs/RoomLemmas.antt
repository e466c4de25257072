-- Whether a page of a size has a free place.
use Rattle.std.proofs.Common.{◌≡◌, ℕ, zero, suc, ◌+◌, ◌*◌, ◌<◌, ◌≤◌, true, false, cond, List, [], ◌∷◌, length, get_or, map, count_by, Option, Some, None, is_some, refl, sym, ap, subst, ◌∙◌, inl, inr, arith}
use Rattle.std.specs.Prelude.{All, Contains, slice_get}
use Rattle.std.proofs.Math.Nat.{mul-le-mul_left}
use Rattle.std.proofs.lemmas.Bool.{cases_Bool, cases_lt, cases_order, false≢true, true≢false}
use Rattle.std.proofs.lemmas.Option.{slice_get-get_or, slice_get_within, get_or_from_slice_get}
use Rattle.std.proofs.lemmas.List.Elements.{All-contains, All-contains_itself, All-map, All-weaker, Contains-append_cases}
use Rattle.std.proofs.lemmas.List.Sums.{sum_by-cons}
use Rattle.gt_space.specs.Laws.{IsApart}
use Rattle.gt_bits.specs.Sets.{has, IsLowestRun}
use Rattle.gt_links.specs.Lists.{nodes_of}
use Rattle.gt_entries.specs.Cells.{Cell, Free, Used, cell_at, is_free}
use Rattle.gt_pages.specs.declared.store.Entry.{Entry}
use Rattle.gt_pages.specs.Ledger.{Block, HasFreePlace, HasSharedPage, IsImagePage, Ledger, LiesOutside, Room, page_address, page_of, pages_of, sizes}
use Rattle.gt_pages.specs.Slots.{Slot, block_of}
use Rattle.gt_pages.specs.Contents.{IsSize, ledger_of, places_of}
use Rattle.gt_pages.specs.Places.{IsWithin}
use Rattle.gt_pages.specs.Parts.{IsKept, IsListed, IsOfImage, Parts, contents_of, entry_at, entry_pages, free_places, page_slots, slots_in}
use Rattle.gt_pages.proofs.CachedLemmas.{size_number}
use Rattle.gt_pages.proofs.FreeLemmas.{Contains-map, free_run, has_slot, run_free, slot_there, some_used}
use Rattle.gt_pages.proofs.NextLemmas.{entry_ends}
use Rattle.gt_pages.proofs.PlaceLemmas.{place_within, shape}
use Rattle.gt_pages.proofs.SizeLemmas.{size_bounds}
use Rattle.gt_pages.proofs.SlotLemmas.{IsSlotOf, contains_flat, flat_contains}
use Rattle.gt_pages.proofs.WhereLemmas.{byte_leads, entry_some, page_slot, place_ends, same_some}

-- ---- the places of one entry

pub free_some : (xs : List Cell) → 0 < count_by is_free xs → (k : ℕ) × (k < length xs) × (cell_at xs k ≡ Free)
free_some [] some = absurd (let no : 1 ≤ 0 = omega (arith, some) in omega (arith, no))
free_some (Free ∷ xs) some = (0, omega arith, refl)
free_some (Used m ∷ xs) some =
    let sum = sum_by-cons (λ x. cond (is_free x) 1 0) (Used m) xs in
    let rest = free_some xs (omega (arith, some, sum)) in
    (suc rest.0, omega (arith, rest.1), rest.2)

pub some_free : (xs : List Cell) (k : ℕ) → k < length xs → is_free (cell_at xs k) ≡ true → 0 < count_by is_free xs
some_free [] k low free = absurd (let no : 1 ≤ 0 = omega (arith, low) in omega (arith, no))
some_free (x ∷ xs) zero low free =
    let sum = sum_by-cons (λ x. cond (is_free x) 1 0) x xs in
    let one : cond {A = ℕ} (is_free x) 1 0 ≡ 1 = ap (λ b. cond {A = ℕ} b 1 0) free in
    omega (arith, sum, one)
some_free (x ∷ xs) (suc k) low free =
    let sum = sum_by-cons (λ x. cond (is_free x) 1 0) x xs in
    omega (arith, sum, some_free xs k (omega (arith, low)) free)

-- an entry of one place is not both free and in use
one_cell : (xs : List Cell) (k j : ℕ) → length xs ≡ 1 → k < length xs → j < length xs → cell_at xs k ≡ Free → is_free (cell_at xs j) ≡ false → ⊥
one_cell xs k j one low-k low-j free used =
    let same : j ≡ k = omega (arith, one, low-k, low-j) in
    false≢true (sym used ∙ ap (λ i. is_free (cell_at xs i)) same ∙ ap is_free free)

first_is : (b c : Block) (k : ℕ) → k < 1 → get_or (b ∷ []) k c ≡ c → b ≡ c
first_is b c zero low is = is
first_is b c (suc k) low is = absurd (let no : 1 ≤ 0 = omega (arith, low) in omega (arith, no))

slot_from_block : (xs : List Slot) (b : Block) → Contains (map block_of xs) b → (s : Slot) × Contains xs s × (block_of s ≡ b)
slot_from_block [] b there = absurd (let no : 1 ≤ 0 = omega (arith, there.1) in omega (arith, no))
slot_from_block (x ∷ xs) b there = elim (Contains-append_cases (block_of x ∷ []) (map block_of xs) b there) [
  | inl first ↦ (x, (0, omega arith, refl), first_is (block_of x) b first.0 first.1 first.2)
  | inr later ↦ let rest = slot_from_block xs b later in (rest.0, (suc rest.1.0, omega (arith, rest.1.1), rest.1.2), rest.2)
]

-- two places of one entry
apart_places : (start size j k : ℕ) → j < k → start + size * j + size ≤ start + size * k
apart_places start size j k before =
    let more = mul-le-mul_left {m = suc j} {n = k} size before in
    let next : size * suc j ≡ size * j + size = omega arith in
    omega (arith, more, next)

module _ (p : Parts) (kept : IsKept p) where
  abbrev ledger : Ledger
  ledger = ledger_of (contents_of p)

  module _ (page k : ℕ) (starts : has p.starts page ≡ true) (low : k < length (entry_at p.entries page).places)
      (free : cell_at (entry_at p.entries page).places k ≡ Free) where
    abbrev entry : Entry
    entry = entry_at p.entries page

    abbrev addr : ℕ
    addr = page_address page + entry.size * k

    apart_same : (s : Slot) → IsSlotOf (page_address page) entry.size entry.places s → IsApart addr entry.size s.address s.size
    apart_same s slot =
        let at = slot.address in
        let sized = slot.sized in
        elim (cases_order slot.place k) [
          | inl same ↦ absurd (true≢false (sym (ap is_free free) ∙ ap (λ i. is_free (cell_at entry.places i)) (sym same) ∙ ap is_free slot.cell))
          | inr other ↦ elim other [
            | inl before ↦ let ends = apart_places (page_address page) entry.size slot.place k before in inr (omega (arith, ends, at, sized))
            | inr after ↦ let ends = apart_places (page_address page) entry.size k slot.place after in inl (omega (arith, ends, at))
          ]
        ]

    apart_slot : (s : Slot) → Contains (contents_of p).slots s → IsApart addr entry.size s.address s.size
    apart_slot s there =
        let at = contains_flat (page_slots p) 0 p.pages s there in
        let is = page_slot p at.0 s at.3 in
        let slot = is.1 in
        let other : Entry = entry_at p.entries at.0 in
        elim (cases_order at.0 page) [
          | inl same ↦ apart_same s (subst (λ i. IsSlotOf (page_address i) (entry_at p.entries i).size (entry_at p.entries i).places s) same slot)
          | inr apart ↦ elim apart [
            | inl before ↦
                let ends = entry_ends p at.0 page kept is.0 starts before in
                let end = place_ends other.size (length other.places) slot.place slot.low in
                let from = slot.address in
                let sized = slot.sized in
                inr (omega (arith, ends, end, from, sized))
            | inr after ↦
                let ends = entry_ends p page at.0 kept starts is.0 after in
                let end = place_ends entry.size (length entry.places) k low in
                let from = slot.address in
                inl (omega (arith, ends, end, from))
          ]
        ]

    apart_blocks : All (λ b. IsApart addr entry.size b.address b.size) ledger.blocks
    apart_blocks =
        All-map (λ b. IsApart addr entry.size b.address b.size) block_of (contents_of p).slots
        (All-weaker (λ s. Contains (contents_of p).slots s) (λ s. IsApart addr entry.size s.address s.size) apart_slot (contents_of p).slots
        (All-contains_itself (contents_of p).slots))

    free_place_own : (IsOfImage p page → ⊥) → HasFreePlace ledger entry.size page
    free_place_own outside =
        let in-use = kept.in_use page starts in
        let is = shape entry.size in-use.listed in
        let many : length entry.places ≡ places_of entry.size = in-use.count outside in
        let used = some_used entry.places (in-use.used outside) in
        let inside = kept.starts page starts in
        let s : Slot = slot_there (page_address page) entry.size entry.places used.0 in
        let there : Contains (page_slots p page) s =
        subst (λ b. Contains (cond b (slots_in (page_address page) entry.size entry.places) []) s) (sym starts)
        (has_slot (page_address page) entry.size entry.places used.0 used.1 used.2) in
        let small : entry.size ≤ 4096 = elim (cases_lt 4096 entry.size) [
          | inl large ↦ absurd (one_cell entry.places k used.0 (many ∙ is.one large) low used.1 free used.2)
          | inr small ↦ small
        ] in
        let fits = is.fits small in
        let end = mul-le-mul_left {m = suc k} {n = places_of entry.size} entry.size (omega (arith, low, many)) in
        let next : entry.size * suc k ≡ entry.size * k + entry.size = omega arith in
        record {
          small = small;
          in_space = inside;
          outside = outside;
          holds = (
            block_of s,
            Contains-map block_of (contents_of p).slots s (flat_contains (page_slots p) 0 p.pages page s (omega arith) (omega (arith, inside)) there),
            refl,
            (place_within page entry.size used.0 in-use.listed (omega (arith, used.1, many))).starts,
          );
          free = (k, omega (arith, fits, end, next), apart_blocks);
        }

  -- an entry of the size has a free place
  pub free_place : (size page k : ℕ) → IsListed p size page → k < length (entry_at p.entries page).places → cell_at (entry_at p.entries page).places k ≡ Free
      → HasFreePlace ledger size page
  free_place size page k listed low free =
      subst (λ n. HasFreePlace ledger n page) listed.sized (free_place_own page k listed.starts low free listed.outside)

  -- a page that has a free place is an entry of the size
  module _ (size page : ℕ) (place : HasFreePlace ledger size page) where
    abbrev found : (s : Slot) × Contains (contents_of p).slots s × (block_of s ≡ place.holds.0)
    found = slot_from_block (contents_of p).slots place.holds.0 place.holds.1

    abbrev at : (k : ℕ) × (0 ≤ k) × (k < 0 + p.pages) × Contains (page_slots p k) found.0
    at = contains_flat (page_slots p) 0 p.pages found.0 found.1

    abbrev slot : (has p.starts at.0 ≡ true) × IsSlotOf (page_address at.0) (entry_at p.entries at.0).size (entry_at p.entries at.0).places found.0
    slot = page_slot p at.0 found.0 at.3

    in_page : page_of found.0.address ≡ page
    in_page = ap (λ b. page_of b.address) found.2 ∙ place.holds.3

    sized : (entry_at p.entries at.0).size ≡ size
    sized = sym slot.1.sized ∙ (ap (λ b. b.size) found.2 ∙ place.holds.2)

    leads : (has p.starts at.0 ≡ true) × (at.0 ≤ page) × (page < at.0 + entry_pages (entry_at p.entries at.0))
    leads =
        let some = entry_some p at.0 kept slot.0 in
        let own = slot.1.sized in
        let byte = byte_leads p at.0 found.0 slot.0 slot.1 kept found.0.address (omega arith) (omega (arith, some, own)) in
        let is = kept.leads (page_of found.0.address) at.0 byte.0 in
        (is.0, omega (arith, is.1, in_page), omega (arith, is.2, in_page))

    outside : IsOfImage p at.0 → ⊥
    outside of =
        let inside = (kept.in_use at.0 slot.0).inside of in
        place.outside (omega (arith, of.0, leads.1), omega (arith, leads.2, inside))

    many : length (entry_at p.entries at.0).places ≡ places_of size
    many = (kept.in_use at.0 slot.0).count outside ∙ ap (λ n. places_of n) sized

    same_page : at.0 ≡ page
    same_page =
        let entry : Entry = entry_at p.entries at.0 in
        let fits = (shape entry.size (kept.in_use at.0 slot.0).listed).fits (omega (arith, sized, place.small)) in
        let few : entry.size * length entry.places ≡ entry.size * places_of entry.size = ap (λ n. entry.size * n) ((kept.in_use at.0 slot.0).count outside) in
        omega (arith, leads.1, leads.2, fits, few)

    pub listed_page : IsListed p size page
    listed_page = subst (λ i. IsListed p size i) same_page (record { starts = slot.0; outside = outside; sized = sized })

    pub some_place : 0 < free_places p page
    some_place =
        let entry : Entry = entry_at p.entries page in
        let in-use = kept.in_use page listed_page.starts in
        let own : entry.size ≡ size = listed_page.sized in
        let inside = kept.starts page listed_page.starts in
        let listed : Contains sizes size = subst (λ n. Contains sizes n) own in-use.listed in
        let k : ℕ = place.free.0 in
        let low = (shape size listed).most k place.small place.free.1 in
        let count : length entry.places ≡ places_of size = subst (λ i. length (entry_at p.entries i).places ≡ places_of size) same_page many in
        elim (cases_Bool (is_free (cell_at entry.places k))) [
          | inl free ↦ some_free entry.places k (omega (arith, low, count)) free
          | inr used ↦
              let s : Slot = slot_there (page_address page) entry.size entry.places k in
              let there : Contains (page_slots p page) s =
              subst (λ b. Contains (cond b (slots_in (page_address page) entry.size entry.places) []) s) (sym listed_page.starts)
              (has_slot (page_address page) entry.size entry.places k (omega (arith, low, count)) used) in
              let apart =
              All-contains (λ b. IsApart (page_address page + size * k) size b.address b.size) ledger.blocks (block_of s) place.free.2
              (Contains-map block_of (contents_of p).slots s (flat_contains (page_slots p) 0 p.pages page s (omega arith) (omega (arith, inside)) there)) in
              absurd (overlap k size entry.size own (size_bounds size listed).0 apart)
        ]
      where
        overlap : (k size own : ℕ) → own ≡ size → 0 < size → IsApart (page_address page + size * k) size (page_address page + own * k) own → ⊥
        overlap k size own same some apart =
            let equal : own * k ≡ size * k = ap (λ n. n * k) same in
            elim apart [ inl before ↦ omega (arith, before, equal, some) | inr after ↦ omega (arith, after, equal, same, some) ]

  -- ---- the first entry of the list

  module _ (i size : ℕ) (number : IsSize i size) where
    abbrev nodes : List ℕ
    nodes = nodes_of p.lists i

    -- where the entry at a place of the list has a free place, so has the first
    first_before : (n page : ℕ) → n < length nodes → get_or nodes n page ≡ page → 0 < free_places p page
        → (x : ℕ) × (slice_get nodes 0 ≡ Some x) × (0 < free_places p x)
    first_before zero page low is some = (page, slice_get-get_or nodes 0 page low ∙ ap (λ x. Some x) is, some)
    first_before (suc n) page low is some =
        let first = slice_get-get_or nodes 0 page (omega (arith, low)) in
        let there = slice_get-get_or nodes (suc n) page low ∙ ap (λ x. Some x) is in
        (get_or nodes 0 page, first, kept.lists.order i 0 (suc n) (get_or nodes 0 page) page (size_number i size number) (omega arith) first there some)

    first_shared : HasSharedPage ledger size → (x : ℕ) × (slice_get nodes 0 ≡ Some x) × (0 < free_places p x)
    first_shared shared =
        let held = (kept.lists.each i size shared.0 number).1 (listed_page size shared.0 shared.1) in
        first_before held.0 shared.0 held.1 held.2 (some_place size shared.0 shared.1)

    -- no entry has the size
    pub none_shared : slice_get nodes 0 ≡ None → HasSharedPage ledger size → ⊥
    none_shared none shared = false≢true (ap is_some (sym none ∙ (first_shared shared).1))

    -- the first entry of the list decides
    pub full_shared : (page : ℕ) → slice_get nodes 0 ≡ Some page → free_places p page ≡ 0 → HasSharedPage ledger size → ⊥
    full_shared page at full shared =
        let first = first_shared shared in
        let same : first.0 ≡ page = same_some first.0 page (sym first.1 ∙ at) in
        let is = ap (λ x. free_places p x) same in
        omega (arith, first.2, is, full)

    -- where a page of the size has a free place, the first entry has one
    pub first_some : (page : ℕ) → slice_get nodes 0 ≡ Some page → HasSharedPage ledger size → 0 < free_places p page
    first_some page at shared =
        let first = first_shared shared in
        subst (λ x. 0 < free_places p x) (same_some first.0 page (sym first.1 ∙ at)) first.2

    pub first_listed : (page : ℕ) → slice_get nodes 0 ≡ Some page → IsListed p size page
    first_listed page at =
        (kept.lists.each i size page number).0
        (0, slice_get_within nodes 0 page at, get_or_from_slice_get nodes 0 page page at)

    pub some_shared : (page : ℕ) → slice_get nodes 0 ≡ Some page → 0 < free_places p page → HasFreePlace ledger size page
    some_shared page at some =
        let k = free_some (entry_at p.entries page).places some in
        free_place size page k.0 (first_listed page at) k.1 k.2

  -- ---- outside the image

  -- where no page that a block needs is of the image, no byte of it is
  pub lies_outside : (page size addr : ℕ) → IsWithin page size addr → ((q : ℕ) → page ≤ q → q < page + pages_of size → IsImagePage ledger q → ⊥)
      → LiesOutside ledger addr size
  lies_outside page size addr within out q of =
      let from = within.from in
      let to = within.to in
      elim (cases_lt q page) [
        | inl before ↦ inr (omega (arith, before, from))
        | inr past ↦ elim (cases_lt q (page + pages_of size)) [
          | inl inside ↦ absurd (out q past inside of)
          | inr after ↦ inl (omega (arith, after, to))
        ]
      ]

  -- ---- a place for a block

  -- where no page of the size has a free place, there is room where there is a run of free pages
  pub room_by_run : (size : ℕ) (r : Option ℕ) → (HasSharedPage ledger size → ⊥) → IsLowestRun p.free (pages_of size) p.pages r
      → (is_some r ≡ true → Room ledger size) × (Room ledger size → is_some r ≡ true)
  room_by_run size None not_shared run = (
    λ e. absurd (false≢true e),
    λ room. absurd (elim room [
      | inl shared ↦ not_shared shared
      | inr free ↦ run.none free.0 (free_run p kept free.0 (pages_of size) free.1)
    ]),
  )
  room_by_run size (Some page) not_shared run =
      (λ _. inr (page, run_free p kept page (pages_of size) run.run.0 run.run.1), λ _. refl)
