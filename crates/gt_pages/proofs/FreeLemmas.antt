-- Which pages are free.
use Rattle.std.proofs.Common.{◌≡◌, ℕ, zero, suc, ◌+◌, ◌*◌, ◌/◌, ◌<◌, ◌≤◌, true, false, cond, List, [], ◌∷◌, length, get_or, map, count_by, None, is_some, sym, ap, subst, ◌∙◌, inl, inr, arith}
use Rattle.std.specs.Prelude.{All, Contains}
use Rattle.std.proofs.lemmas.Bool.{cases_Bool, cases_lt, false≢true, true≢false, le-leb, lt-leb}
use Rattle.std.proofs.Math.Nat.{mul-div-le, mul-le-mul_left}
use Rattle.std.proofs.lemmas.List.Elements.{All-contains, All-contains_itself, All-map, All-weaker, Contains-append_right}
use Rattle.std.proofs.lemmas.List.Sums.{sum_by-cons}
use Rattle.gt_bits.specs.Sets.{has, HasRun, HoldsAll}
use Rattle.gt_entries.specs.Cells.{Cell, Free, Used, cell_at, is_free, mark_in}
use Rattle.gt_pages.specs.declared.store.Entry.{Entry}
use Rattle.gt_pages.specs.Ledger.{AreFree, IsImagePage, IsOffPage, page_address, page_of, pages_of}
use Rattle.gt_pages.specs.Slots.{Slot, block_of}
use Rattle.gt_pages.specs.Contents.{ledger_of}
use Rattle.gt_pages.specs.Tables.{page_at}
use Rattle.gt_pages.specs.Parts.{IsKept, IsOfImage, Parts, contents_of, entry_at, entry_pages, page_slots, slots_in}
use Rattle.gt_pages.proofs.SlotLemmas.{contains_flat, flat_contains}
use Rattle.gt_pages.proofs.WhereLemmas.{byte_leads, entry_some, page_slot}

map_at : {X Y : Type 0} (f : X → Y) (xs : List X) (x : X) (k : ℕ) → k < length xs → get_or xs k x ≡ x → Contains (map f xs) (f x)
map_at f [] x k low is = absurd (let impossible : 1 ≤ 0 = omega (arith, low) in omega (arith, impossible))
map_at f (y ∷ xs) x zero low is = (0, omega arith, ap f is)
map_at f (y ∷ xs) x (suc k) low is =
    Contains-append_right (f y ∷ []) (map f xs) (f x) (map_at f xs x k (omega (arith, low)) is)

pub Contains-map : {X Y : Type 0} (f : X → Y) (xs : List X) (x : X) → Contains xs x → Contains (map f xs) (f x)
Contains-map f xs x there = map_at f xs x there.0 there.1 there.2

-- a place with a block gives a block
abbrev pub slot_there : (start size : ℕ) → List Cell → ℕ → Slot
slot_there start size cells k = record { address = start + size * k; size = size; mark = mark_in (cell_at cells k) }

pub has_slot : (start size : ℕ) (cells : List Cell) (k : ℕ) → k < length cells → is_free (cell_at cells k) ≡ false
    → Contains (slots_in start size cells) (slot_there start size cells k)
has_slot start size [] k low used = absurd (true≢false used)
has_slot start size (Free ∷ cells) zero low used = absurd (true≢false used)
has_slot start size (Used m ∷ cells) zero low used =
    let none : start ≡ start + size * 0 = omega arith in
    (0, omega arith, ap (λ a. record { address = a; size = size; mark = m }) none)
has_slot start size (Free ∷ cells) (suc k) low used =
    let next : start + size + size * k ≡ start + size * suc k = omega arith in
    subst (λ a. Contains (slots_in (start + size) size cells) (record { address = a; size = size; mark = mark_in (cell_at cells k) })) next
    (has_slot (start + size) size cells k (omega (arith, low)) used)
has_slot start size (Used m ∷ cells) (suc k) low used =
    let next : start + size + size * k ≡ start + size * suc k = omega arith in
    let s : Slot = record { address = start; size = size; mark = m } in
    Contains-append_right (s ∷ []) (slots_in (start + size) size cells) (slot_there start size (Used m ∷ cells) (suc k))
    (subst (λ a. Contains (slots_in (start + size) size cells) (record { address = a; size = size; mark = mark_in (cell_at cells k) })) next
    (has_slot (start + size) size cells k (omega (arith, low)) used))

-- where not all places are free, one has a block
pub some_used : (cells : List Cell) → count_by is_free cells < length cells → (k : ℕ) × (k < length cells) × (is_free (cell_at cells k) ≡ false)
some_used [] fewer = absurd (let impossible : 1 ≤ 0 = omega (arith, fewer) in omega (arith, impossible))
some_used (c ∷ cells) fewer = elim (cases_Bool (is_free c)) [
  | inl free ↦
      let sum = sum_by-cons (λ x. cond (is_free x) 1 0) c cells in
      let one : cond {A = ℕ} (is_free c) 1 0 ≡ 1 = ap (λ b. cond {A = ℕ} b 1 0) free in
      let rest = some_used cells (omega (arith, fewer, sum, one)) in
      (suc rest.0, omega (arith, rest.1), rest.2)
  | inr used ↦ (0, omega arith, used)
]

module _ (p : Parts) (kept : IsKept p) where
  off_page : (s : Slot) → Contains (contents_of p).slots s → (q : ℕ) → page_at p.table q ≡ None → IsOffPage s.address s.size q
  off_page s there q none =
      let at = contains_flat (page_slots p) 0 p.pages s there in
      let slot = page_slot p at.0 s at.3 in
      let some = entry_some p at.0 kept slot.0 in
      let never = λ (addr : ℕ) (high : s.address ≤ addr) (low : addr < s.address + s.size) (is : page_of addr ≡ q).
      false≢true (ap is_some (sym none ∙ ap (page_at p.table) (sym is) ∙ (byte_leads p at.0 s slot.0 slot.1 kept addr high low).0)) in
      elim (cases_lt (page_address q) (s.address + s.size)) [
        | inl into ↦ elim (cases_lt s.address (page_address q + 4096)) [
          | inl before ↦ elim (cases_lt s.address (page_address q)) [
            | inl starts_before ↦ absurd (never (page_address q) (omega (arith, starts_before)) into (omega arith))
            | inr within ↦ absurd (never s.address (omega arith) (omega (arith, some, slot.1.sized)) (omega (arith, within, before)))
          ]
          | inr after ↦ inr after
        ]
        | inr not_into ↦ inl not_into
      ]

  -- a free page is not of the image, and no block has a byte of it
  pub free_page : (q : ℕ) → has p.free q ≡ true
      → (IsImagePage (ledger_of (contents_of p)) q → ⊥) × All (λ b. IsOffPage b.address b.size q) (ledger_of (contents_of p)).blocks
  free_page q free =
      let is = kept.free q free in (
        is.2,
        All-map (λ b. IsOffPage b.address b.size q) block_of (contents_of p).slots
            (All-weaker (λ s. Contains (contents_of p).slots s) (λ s. IsOffPage s.address s.size q) (λ s there. off_page s there q is.1) (contents_of p).slots
            (All-contains_itself (contents_of p).slots)),
      )

  -- an entry outside the image has a block, and each of its pages a byte of one
  used_page : (first q : ℕ) → has p.starts first ≡ true → (IsOfImage p first → ⊥) → first ≤ q → q < first + entry_pages (entry_at p.entries first)
      → All (λ b. IsOffPage b.address b.size q) (ledger_of (contents_of p)).blocks → ⊥
  used_page first q starts outside from to off =
      let entry : Entry = entry_at p.entries first in
      let in-use = kept.in_use first starts in
      let low = kept.starts first starts in
      let some = entry_some p first kept starts in
      let used = some_used entry.places (in-use.used outside) in
      let s : Slot = slot_there (page_address first) entry.size entry.places used.0 in
      let there : Contains (page_slots p first) s =
      subst (λ b. Contains (cond b (slots_in (page_address first) entry.size entry.places) []) s) (sym starts)
      (has_slot (page_address first) entry.size entry.places used.0 used.1 used.2) in
      let apart = off_of s (flat_contains (page_slots p) 0 p.pages first s (omega arith) (omega (arith, low)) there) in
      elim (cases_lt 4096 entry.size) [
        | inl large ↦
            let one : length entry.places ≡ 1 = in-use.count outside ∙ ap (λ b. cond b (4096 / entry.size) 1) (lt-leb entry.size 4096 large) in
            let first-place : used.0 ≡ 0 = omega (arith, used.1, one) in
            let at : entry.size * used.0 ≡ 0 = ap (λ k. entry.size * k) first-place ∙ omega arith in
            let whole : entry.size * length entry.places ≡ entry.size = ap (λ n. entry.size * n) one ∙ omega arith in
            let pages : entry_pages entry ≡ pages_of entry.size = ap pages_of whole in
            elim apart [
              | inl before ↦ omega (arith, before, at, pages, to, large)
              | inr after ↦ omega (arith, after, at, from)
            ]
        | inr small ↦
            let many : length entry.places ≡ 4096 / entry.size = in-use.count outside ∙ ap (λ b. cond b (4096 / entry.size) 1) (le-leb entry.size 4096 small) in
            let fits : entry.size * length entry.places ≤ 4096 = subst (λ n. entry.size * n ≤ 4096) (sym many) (mul-div-le 4096 entry.size) in
            let inside : entry.size * used.0 + entry.size ≤ 4096 =
            (let more = mul-le-mul_left {m = suc used.0} {n = length entry.places} entry.size (omega (arith, used.1)) in
            let next : entry.size * suc used.0 ≡ entry.size * used.0 + entry.size = omega arith in
            omega (arith, more, next, fits)) in
            let same : q ≡ first = omega (arith, from, to, fits) in
            elim apart [
              | inl before ↦ omega (arith, before, same, some)
              | inr after ↦ omega (arith, after, same, inside, some)
            ]
      ]
    where
      off_of : (s : Slot) → Contains (contents_of p).slots s → IsOffPage s.address s.size q
      off_of s there =
          All-contains (λ b. IsOffPage b.address b.size q) (map block_of (contents_of p).slots) (block_of s) off (Contains-map block_of (contents_of p).slots s there)

  -- a page that is not of the image, and of which no block has a byte, is free
  pub page_free : (q : ℕ) → q < p.pages → (IsImagePage (ledger_of (contents_of p)) q → ⊥)
      → All (λ b. IsOffPage b.address b.size q) (ledger_of (contents_of p)).blocks → has p.free q ≡ true
  page_free q low out off = elim (cases_Bool (has p.free q)) [
    | inl free ↦ free
    | inr taken ↦ absurd (elim (kept.taken q low taken) [
      | inl image ↦ out image
      | inr leads ↦
          let is = kept.leads q leads.0 leads.1 in
          let in-use = kept.in_use leads.0 is.0 in
          used_page leads.0 q is.0 (λ of. let inside = in-use.inside of in out (omega (arith, of.0, is.1), omega (arith, is.2, inside))) is.1 is.2 off
    ])
  ]

  pub run_free : (first count : ℕ) → first + count ≤ p.pages → HoldsAll p.free first (first + count) → AreFree (ledger_of (contents_of p)) first count
  run_free first count in-space all = record { in_space = in-space; each = λ q from to. free_page q (all q from to) }

  pub free_run : (first count : ℕ) → AreFree (ledger_of (contents_of p)) first count → HasRun p.free count p.pages first
  free_run first count free =
      (free.in_space, λ q from to. page_free q (omega (arith, to, free.in_space)) (free.each q from to).0 (free.each q from to).1)
