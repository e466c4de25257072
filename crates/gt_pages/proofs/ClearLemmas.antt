-- Marks that are taken away.
use Rattle.std.proofs.Common.{◌≡◌, ℕ, ◌<◌, ◌≤◌, cond, List, [], ◌∷◌, length, map, count_by, None, refl, sym, ap, subst, ◌∙◌, inl, inr, arith}
use Rattle.std.proofs.lemmas.Bool.{cases_lt, cases_Bool}
use Rattle.std.proofs.lemmas.List.{length-map}
use Rattle.std.proofs.lemmas.List.Sums.{sum_by-cons}
use Rattle.gt_bits.specs.Sets.{has}
use Rattle.gt_entries.specs.Cells as cells
use Rattle.gt_entries.specs.Cells.{Cell, Free, Used, is_free}
use Rattle.gt_pages.specs.declared.store.Entry.{Entry}
use Rattle.gt_pages.specs.Ledger.{page_address}
use Rattle.gt_pages.specs.Slots.{unmarked}
use Rattle.gt_pages.specs.Contents.{with_slots}
use Rattle.gt_pages.specs.Changes.{ClearsMarks, cleared_entry}
use Rattle.gt_pages.specs.Parts.{IsKept, Parts, contents_of, entry_at, page_slots, slots_in}
use Rattle.gt_pages.proofs.SlotLemmas.{flat_map_slots, slots_unmarked}
use Rattle.gt_pages.proofs.SameLemmas.{SameShape, kept_same}

parts_from : Parts → Parts
parts_from p = p

more : (c d : Cell) (xs : List Cell) → is_free d ≡ is_free c → count_by is_free (map cells.unmarked xs) ≡ count_by is_free xs
    → count_by is_free (d ∷ map cells.unmarked xs) ≡ count_by is_free (c ∷ xs)
more c d xs same rest =
    let left = sum_by-cons (λ x. cond (is_free x) 1 0) d (map cells.unmarked xs) in
    let right = sum_by-cons (λ x. cond (is_free x) 1 0) c xs in
    let one : cond {A = ℕ} (is_free d) 1 0 ≡ cond {A = ℕ} (is_free c) 1 0 = ap (λ b. cond {A = ℕ} b 1 0) same in
    omega (arith, left, right, one, rest)

free_unmarked : (xs : List Cell) → count_by is_free (map cells.unmarked xs) ≡ count_by is_free xs
free_unmarked [] = refl
free_unmarked (Free ∷ xs) = more Free Free xs refl (free_unmarked xs)
free_unmarked (Used m ∷ xs) = more (Used m) (Used None) xs refl (free_unmarked xs)

shape_cleared : (e : Entry) → SameShape e (cleared_entry e)
shape_cleared e = record { sized = refl; len = length-map e.places cells.unmarked; free = free_unmarked e.places }

shape_same : (old new : Entry) → new ≡ old → SameShape old new
shape_same old new e = record { sized = ap (λ x. x.size) e; len = ap (λ x. length x.places) e; free = ap (λ x. count_by is_free x.places) e }

module _ (p q : Parts) (end : ℕ) (clears : ClearsMarks p end q) where
  shape : (page : ℕ) → SameShape (entry_at p.entries page) (entry_at q.entries page)
  shape page = elim (cases_Bool (has p.starts page)) [
    | inl starts ↦ elim (cases_lt page end) [
      | inl before ↦ subst (λ e. SameShape (entry_at p.entries page) e) (sym (clears.cleared page before starts)) (shape_cleared (entry_at p.entries page))
      | inr after ↦ shape_same (entry_at p.entries page) (entry_at q.entries page) (clears.others page (inr after))
    ]
    | inr none ↦ shape_same (entry_at p.entries page) (entry_at q.entries page) (clears.others page (inl none))
  ]

  pub kept_cleared : IsKept p → IsKept q
  kept_cleared kept = subst (λ x. IsKept x) (sym clears.rest) (kept_same p q.entries clears.entries shape kept)

  -- all blocks lose their marks
  pub contents_cleared : p.pages ≤ end → contents_of q ≡ with_slots (contents_of p) (map unmarked (contents_of p).slots)
  contents_cleared all =
      ap (λ x. contents_of x) clears.rest
      ∙ ap (λ xs. with_slots (contents_of p) xs)
      (flat_map_slots (page_slots p) (page_slots (record p { entries = q.entries })) unmarked 0 p.pages (λ k _ low. page_cleared k (omega (arith, low, all))))
    where
      page_cleared : (k : ℕ) → k < end → page_slots (record p { entries = q.entries }) k ≡ map unmarked (page_slots p k)
      page_cleared k low = elim (cases_Bool (has p.starts k)) [
        | inl starts ↦
            ap (λ e. cond (has p.starts k) (slots_in (page_address k) e.size e.places) []) (clears.cleared k low starts)
            ∙ ap (λ b. cond b (slots_in (page_address k) (entry_at p.entries k).size (map cells.unmarked (entry_at p.entries k).places)) []) starts
            ∙ slots_unmarked (page_address k) (entry_at p.entries k).size (entry_at p.entries k).places
            ∙ sym (ap (λ b. map unmarked (cond b (slots_in (page_address k) (entry_at p.entries k).size (entry_at p.entries k).places) [])) starts)
        | inr none ↦
            ap (λ b. cond b (slots_in (page_address k) (entry_at q.entries k).size (entry_at q.entries k).places) []) none
            ∙ sym (ap (λ b. map unmarked (cond b (slots_in (page_address k) (entry_at p.entries k).size (entry_at p.entries k).places) [])) none)
      ]
