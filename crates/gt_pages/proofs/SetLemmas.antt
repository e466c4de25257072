-- One block gets another mark.
use Rattle.std.proofs.Common.{◌≡◌, ◌≢◌, ℕ, zero, suc, ◌+◌, ◌*◌, ◌<◌, ◌==◌, false, cond, List, [], ◌∷◌, length, get_or, set, map, count_by, Option, refl, sym, ap, subst, ◌∙◌, inl, inr, arith}
use Rattle.std.specs.Prelude.{Contains}
use Rattle.std.proofs.lemmas.Bool.{cases_eq, true≢false, eq-eqb, ne_eqb}
use Rattle.std.proofs.lemmas.List.{get_or-set_same, get_or-set_other, length-set}
use Rattle.std.proofs.lemmas.List.Sums.{sum_by-set}
use Rattle.gt_bits.specs.Sets.{has}
use Rattle.gt_entries.specs.declared.marks.Mark.{Mark}
use Rattle.gt_entries.specs.Cells as cells
use Rattle.gt_entries.specs.Cells.{Cell, Free, Used, cell_at, is_free, mark_in}
use Rattle.gt_pages.specs.declared.store.Entry.{Entry}
use Rattle.gt_pages.specs.declared.parts.EntryPlace.{EntryPlace}
use Rattle.gt_pages.specs.Ledger.{page_address}
use Rattle.gt_pages.specs.Slots.{Slot, StartsSome, postponed, walked, with_mark, with_mark_at}
use Rattle.gt_pages.specs.Contents.{with_slots}
use Rattle.gt_pages.specs.Spots.{IsSpot, with_mark_in, with_mark_spot}
use Rattle.gt_pages.specs.Parts.{IsKept, Parts, contents_of, entry_at, page_slots, slots_in}
use Rattle.gt_pages.proofs.SlotLemmas.{flat_map_slots, slot_of}
use Rattle.gt_pages.proofs.SameLemmas.{SameShape, kept_same}
use Rattle.gt_pages.proofs.WhereLemmas.{byte_leads, entry_some, page_slot, same_some, used_place}
use Rattle.gt_pages.proofs.MarkLemmas.{start_spot}

abbrev marks : ℕ → Option Mark → Slot → Slot
marks addr m s = cond (s.address == addr) (with_mark m s) s

pub map_same : (h : Slot → Slot) (xs : List Slot) → ((s : Slot) → Contains xs s → h s ≡ s) → map h xs ≡ xs
map_same h [] same = refl
map_same h (x ∷ xs) same =
    ap (λ y. y ∷ map h xs) (same x (0, omega arith, refl))
    ∙ ap (λ ys. x ∷ ys) (map_same h xs (λ s there. same s (suc there.0, omega (arith, there.1), there.2)))

not_marked : (addr : ℕ) (m : Option Mark) (s : Slot) → s.address ≢ addr → marks addr m s ≡ s
not_marked addr m s apart = ap (λ b. cond b (with_mark m s) s) (ne_eqb s.address addr apart)

-- of one entry
slots_marked : (start size k addr : ℕ) (cells : List Cell) (m : Option Mark) → 0 < size → addr ≡ start + size * k → is_free (cell_at cells k) ≡ false
    → slots_in start size (set cells k (Used m)) ≡ map (marks addr m) (slots_in start size cells)
slots_marked start size k addr [] m some is used = refl
slots_marked start size zero addr (Free ∷ cells) m some is used = absurd (true≢false used)
slots_marked start size zero addr (Used old ∷ cells) m some is used =
    let s : Slot = record { address = start; size = size; mark = old } in
    let t : Slot = record { address = start; size = size; mark = m } in
    ap (λ ys. t ∷ ys)
    (sym (map_same (marks addr m) (slots_in (start + size) size cells)
    (λ x there. let at = slot_of (start + size) size cells x there in not_marked addr m x (λ same. omega (arith, same, at.address, is, some)))))
    ∙ sym (ap (λ b. cond b t s ∷ map (marks addr m) (slots_in (start + size) size cells)) (eq-eqb start addr (omega (arith, is))))
slots_marked start size (suc k) addr (Free ∷ cells) m some is used =
    slots_marked (start + size) size k addr cells m some (omega (arith, is)) used
slots_marked start size (suc k) addr (Used old ∷ cells) m some is used =
    let s : Slot = record { address = start; size = size; mark = old } in
    let next : addr ≡ start + size + size * k = omega (arith, is) in
    ap (λ ys. s ∷ ys) (slots_marked (start + size) size k addr cells m some next used)
    ∙ sym (ap (λ x. x ∷ map (marks addr m) (slots_in (start + size) size cells)) (not_marked addr m s (λ same. omega (arith, same, next, some))))

free_kept : (cells : List Cell) (k : ℕ) (m : Option Mark) → is_free (cell_at cells k) ≡ false → count_by is_free (set cells k (Used m)) ≡ count_by is_free cells
free_kept cells k m used =
    let low = used_place cells k used in
    let sum = sum_by-set (λ c. cond (is_free c) 1 0) cells k (Used m) Free low in
    let old : cond {A = ℕ} (is_free (get_or cells k Free)) 1 0 ≡ 0 = ap (λ b. cond {A = ℕ} b 1 0) used in
    omega (arith, sum, old)

module _ (p : Parts) (addr : ℕ) (spot : EntryPlace) (m : Option Mark) (kept : IsKept p) (is : IsSpot p addr spot)
    (used : is_free (cell_at (entry_at p.entries spot.page).places spot.place) ≡ false) where
  low : spot.page < length p.entries
  low = let inside = kept.starts spot.page is.starts in omega (arith, inside, kept.entries)

  entry_here : entry_at (with_mark_spot p spot m).entries spot.page ≡ with_mark_in (entry_at p.entries spot.page) spot.place m
  entry_here = get_or-set_same p.entries spot.page (with_mark_in (entry_at p.entries spot.page) spot.place m) _ low

  entry_other : (j : ℕ) → j ≢ spot.page → entry_at (with_mark_spot p spot m).entries j ≡ entry_at p.entries j
  entry_other j apart = get_or-set_other p.entries spot.page j (with_mark_in (entry_at p.entries spot.page) spot.place m) _ apart

  shape_here : SameShape (entry_at p.entries spot.page) (with_mark_in (entry_at p.entries spot.page) spot.place m)
  shape_here = record {
    sized = refl;
    len = length-set (entry_at p.entries spot.page).places spot.place (Used m);
    free = free_kept (entry_at p.entries spot.page).places spot.place m used;
  }

  same_shape : (old new : Entry) → new ≡ old → SameShape old new
  same_shape old new e = record { sized = ap (λ x. x.size) e; len = ap (λ x. length x.places) e; free = ap (λ x. count_by is_free x.places) e }

  pub kept_mark : IsKept (with_mark_spot p spot m)
  kept_mark =
      kept_same p (with_mark_spot p spot m).entries (length-set p.entries spot.page _)
      (λ j. elim (cases_eq j spot.page) [
        | inl same ↦
            subst (λ i. SameShape (entry_at p.entries i) (entry_at (with_mark_spot p spot m).entries i)) (sym same)
            (subst (λ e. SameShape (entry_at p.entries spot.page) e) (sym entry_here) shape_here)
        | inr apart ↦ same_shape (entry_at p.entries j) (entry_at (with_mark_spot p spot m).entries j) (entry_other j apart)
      ])
      kept

  page_other : (j : ℕ) → j ≢ spot.page → page_slots (with_mark_spot p spot m) j ≡ map (marks addr m) (page_slots p j)
  page_other j apart =
      ap (λ e. cond (has p.starts j) (slots_in (page_address j) e.size e.places) []) (entry_other j apart)
      ∙ sym (map_same (marks addr m) (page_slots p j)
      (λ s there. not_marked addr m s (λ same.
      let at = page_slot p j s there in
      let some = entry_some p j kept at.0 in
      let leads = byte_leads p j s at.0 at.1 kept addr (omega (arith, same)) (omega (arith, same, some, at.1.sized)) in
      apart (same_some j spot.page (sym leads.0 ∙ is.leads)))))

  page_here : StartsSome (contents_of p).slots addr → page_slots (with_mark_spot p spot m) spot.page ≡ map (marks addr m) (page_slots p spot.page)
  page_here start =
      let at = start_spot p addr kept start spot is in
      let e : Entry = entry_at p.entries spot.page in
      ap (λ b. cond b (slots_in (page_address spot.page) (entry_at (with_mark_spot p spot m).entries spot.page).size (entry_at (with_mark_spot p spot m).entries spot.page).places) []) is.starts
      ∙ ap (λ x. slots_in (page_address spot.page) x.size x.places) entry_here
      ∙ slots_marked (page_address spot.page) e.size spot.place addr e.places m (entry_some p spot.page kept is.starts)
      (sym at.address ∙ (at.is.address ∙ ap (λ k. page_address spot.page + e.size * k) (sym at.place))) used
      ∙ sym (ap (λ b. map (marks addr m) (cond b (slots_in (page_address spot.page) e.size e.places) [])) is.starts)

  pub contents_mark : StartsSome (contents_of p).slots addr
      → contents_of (with_mark_spot p spot m) ≡ with_slots (contents_of p) (with_mark_at (contents_of p).slots addr m)
  contents_mark start =
      ap (λ xs. with_slots (contents_of p) xs)
      (flat_map_slots (page_slots p) (page_slots (with_mark_spot p spot m)) (marks addr m) 0 p.pages
      (λ k _ _. elim (cases_eq k spot.page) [
        | inl same ↦ subst (λ i. page_slots (with_mark_spot p spot m) i ≡ map (marks addr m) (page_slots p i)) (sym same) (page_here start)
        | inr apart ↦ page_other k apart
      ]))

pub postponed_cell : (c : Cell) → is_free c ≡ false → cells.postponed c ≡ Used (postponed (mark_in c))
postponed_cell Free used = absurd (true≢false used)
postponed_cell (Used m) used = refl

pub walked_cell : (c : Cell) → is_free c ≡ false → cells.walked c ≡ Used (walked (mark_in c))
walked_cell Free used = absurd (true≢false used)
walked_cell (Used m) used = refl
