-- The block that starts at an address, and its mark.
use Rattle.std.proofs.Common.{◌≡◌, ◌≢◌, ℕ, zero, suc, ◌+◌, ◌-◌, ◌*◌, ◌/◌, ◌<◌, ◌≤◌, ◌==◌, Bool, true, false, cond, not, List, [], ◌∷◌, Option, Some, None, is_some, refl, sym, ap, subst, ◌∙◌, inl, inr, arith}
use Rattle.std.specs.Prelude.{Contains, find, option_and_then}
use Rattle.std.proofs.lemmas.Bool.{cases_Bool, cases_lt, false≢true, eq-eqb, ne_eqb, eqb-true}
use Rattle.gt_space.specs.declared.TheConstants.{HEAP_START}
use Rattle.std.proofs.Math.Nat.{mul-div_right}
use Rattle.gt_entries.specs.declared.marks.Mark.{Mark}
use Rattle.gt_entries.specs.Cells.{Cell, Free, Used, cell_at, is_free, is_marked, mark_in}
use Rattle.gt_pages.specs.declared.store.Entry.{Entry}
use Rattle.gt_pages.specs.declared.parts.EntryPlace.{EntryPlace}
use Rattle.gt_pages.specs.Ledger.{page_address, page_of}
use Rattle.gt_pages.specs.Slots.{Slot, StartsSome, mark_at}
use Rattle.gt_pages.specs.Spots.{IsNowhere, IsSpot}
use Rattle.gt_pages.specs.Tables.{page_at}
use Rattle.gt_pages.specs.Parts.{IsKept, Parts, contents_of, entry_at, page_slots, slots_in}
use Rattle.gt_pages.proofs.SlotLemmas.{IsSlotOf, contains_flat, slot_of}
use Rattle.gt_pages.proofs.WhereLemmas.{byte_leads, entry_some, find_flat, find_none, page_slot, same_some}

abbrev pub starts_at : ℕ → Slot → Bool
starts_at addr s = s.address == addr

abbrev mark_found : Option Slot → Option Mark
mark_found found = option_and_then (λ s. s.mark) found

find_start_here : (start size : ℕ) (c : Cell) (cells : List Cell) → 0 < size
    → mark_found (find (starts_at start) (slots_in start size (c ∷ cells))) ≡ mark_in c
find_start_here start size Free cells some =
    ap mark_found
    (find_none (starts_at start) (slots_in (start + size) size cells)
    (λ s there. let is = slot_of (start + size) size cells s there in ne_eqb s.address start (λ same. omega (arith, same, is.address, some))))
find_start_here start size (Used m) cells some =
    let s : Slot = record { address = start; size = size; mark = m } in
    ap (λ b. mark_found (cond b (Some s) (find (starts_at start) (slots_in (start + size) size cells)))) (eq-eqb start start refl)

find_start_later : (start size addr : ℕ) (c : Cell) (cells : List Cell) → start < addr
    → find (starts_at addr) (slots_in start size (c ∷ cells)) ≡ find (starts_at addr) (slots_in (start + size) size cells)
find_start_later start size addr Free cells above = refl
find_start_later start size addr (Used m) cells above =
    let s : Slot = record { address = start; size = size; mark = m } in
    ap (λ b. cond b (Some s) (find (starts_at addr) (slots_in (start + size) size cells))) (ne_eqb start addr (λ same. omega (arith, same, above)))

-- of one entry
find_start : (start size k addr : ℕ) (cells : List Cell) → 0 < size → addr ≡ start + size * k
    → mark_found (find (starts_at addr) (slots_in start size cells)) ≡ mark_in (cell_at cells k)
find_start start size k addr [] some is = refl
find_start start size zero addr (c ∷ cells) some is =
    let same : addr ≡ start = omega (arith, is) in
    ap (λ a. mark_found (find (starts_at a) (slots_in start size (c ∷ cells)))) same ∙ find_start_here start size c cells some
find_start start size (suc k) addr (c ∷ cells) some is =
    let next : addr ≡ start + size + size * k = omega (arith, is) in
    ap mark_found (find_start_later start size addr c cells (omega (arith, next, some)))
    ∙ find_start (start + size) size k addr cells some next

-- a spot of an address where a block starts
pub record IsStart (p : Parts) (addr : ℕ) (spot : EntryPlace) : Type 0 where
  pub slot : Slot
  pub is : IsSlotOf (page_address spot.page) (entry_at p.entries spot.page).size (entry_at p.entries spot.page).places slot
  pub address : slot.address ≡ addr
  pub place : spot.place ≡ is.place

module _ (p : Parts) (addr : ℕ) (kept : IsKept p) (start : StartsSome (contents_of p).slots addr) where
  abbrev in_page : (k : ℕ) × (0 ≤ k) × (k < 0 + p.pages) × Contains (page_slots p k) start.0
  in_page = contains_flat (page_slots p) 0 p.pages start.0 start.1

  leads_here : (page_at p.table (page_of addr) ≡ Some in_page.0) × (page_of addr < p.pages) × (page_address in_page.0 ≤ addr)
  leads_here =
      let at = page_slot p in_page.0 start.0 in_page.3 in
      let some = entry_some p in_page.0 kept at.0 in
      byte_leads p in_page.0 start.0 at.0 at.1 kept addr (omega (arith, start.2)) (omega (arith, start.2, some, at.1.sized))

  -- it is somewhere
  pub start_nowhere : IsNowhere p addr → ⊥
  start_nowhere nowhere = elim nowhere [
    | inl below ↦ omega (arith, below, leads_here.2)
    | inr more ↦ elim more [
      | inl past ↦ omega (arith, past, leads_here.1)
      | inr none ↦ let e = sym none ∙ leads_here.0 in false≢true (ap is_some e)
    ]
  ]

  pub start_above : HEAP_START ≤ addr
  start_above = elim (cases_lt addr HEAP_START) [ inl below ↦ absurd (start_nowhere (inl below)) | inr above ↦ above ]

  pub start_within : page_of addr < p.pages
  start_within = elim (cases_lt (page_of addr) p.pages) [ inl within ↦ within | inr past ↦ absurd (start_nowhere (inr (inl past))) ]

  pub start_spot : (spot : EntryPlace) → IsSpot p addr spot → IsStart p addr spot
  start_spot spot is =
      let same : in_page.0 ≡ spot.page = same_some in_page.0 spot.page (sym leads_here.0 ∙ is.leads) in
      let there : Contains (page_slots p spot.page) start.0 = subst (λ k. Contains (page_slots p k) start.0) same in_page.3 in
      let at = page_slot p spot.page start.0 there in
      let some = entry_some p spot.page kept is.starts in
      let offset : addr - page_address spot.page ≡ (entry_at p.entries spot.page).size * at.1.place = omega (arith, start.2, at.1.address) in
      record {
        slot = start.0;
        is = at.1;
        address = start.2;
        place = is.place ∙ (ap (λ n. n / (entry_at p.entries spot.page).size) offset ∙ mul-div_right at.1.place some);
      }

  other_start : (j : ℕ) → (spot : EntryPlace) → IsSpot p addr spot → j ≢ spot.page → find (starts_at addr) (page_slots p j) ≡ None
  other_start j spot is apart =
      find_none (starts_at addr) (page_slots p j)
      (λ s there. elim (cases_Bool (starts_at addr s)) [
        | inl starts ↦
            let same = eqb-true s.address addr starts in
            let at = page_slot p j s there in
            let some = entry_some p j kept at.0 in
            let leads = byte_leads p j s at.0 at.1 kept addr (omega (arith, same)) (omega (arith, same, some, at.1.sized)) in
            absurd (apart (same_some j spot.page (sym leads.0 ∙ is.leads)))
        | inr not_here ↦ not_here
      ])

  pub mark_spot : (spot : EntryPlace) → IsSpot p addr spot → mark_at (contents_of p).slots addr ≡ mark_in (cell_at (entry_at p.entries spot.page).places spot.place)
  mark_spot spot is =
      let at = start_spot spot is in
      let entry : Entry = entry_at p.entries spot.page in
      let low = kept.starts spot.page is.starts in
      let all : List Slot = slots_in (page_address spot.page) entry.size entry.places in
      ap mark_found
      (find_flat (starts_at addr) (page_slots p) 0 p.pages spot.page (omega arith) (omega (arith, low)) (λ j apart. other_start j spot is apart)
      ∙ ap (λ b. find (starts_at addr) (cond b all [])) is.starts)
      ∙ find_start (page_address spot.page) entry.size at.is.place addr entry.places (entry_some p spot.page kept is.starts) (sym at.address ∙ at.is.address)
      ∙ sym (ap (λ k. mark_in (cell_at entry.places k)) at.place)

-- the place of a block that starts at an address has this block
pub start_used : (p : Parts) (addr : ℕ) (spot : EntryPlace) → IsStart p addr spot → is_free (cell_at (entry_at p.entries spot.page).places spot.place) ≡ false
start_used p addr spot is =
    ap is_free (ap (λ k. cell_at (entry_at p.entries spot.page).places k) is.place ∙ is.is.cell)

marked_cell : (c : Cell) → (not (is_marked c) ≡ true → mark_in c ≡ None) × (mark_in c ≡ None → not (is_marked c) ≡ true)
marked_cell Free = (λ _. refl, λ _. refl)
marked_cell (Used None) = (λ _. refl, λ _. refl)
marked_cell (Used (Some m)) = (λ e. absurd (false≢true e), λ e. absurd (false≢true (sym (ap is_some e))))

-- a block is unmarked just where its mark is none
pub fresh_iff : (b : Bool) (c : Cell) (m : Option Mark) → b ≡ not (is_marked c) → m ≡ mark_in c → (b ≡ true → m ≡ None) × (m ≡ None → b ≡ true)
fresh_iff b c m same is = (
  λ e. is ∙ (marked_cell c).0 (sym same ∙ e),
  λ e. same ∙ (marked_cell c).1 (sym is ∙ e),
)
