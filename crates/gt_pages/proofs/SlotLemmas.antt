-- The blocks of the entries, one by one.
use Rattle.std.proofs.Common.{◌≡◌, ℕ, zero, suc, ◌+◌, ◌*◌, ◌<◌, ◌≤◌, Bool, List, [], ◌∷◌, ◌++◌, length, get_or, map, filter, flat_map, Option, Some, None, refl, sym, ap, subst, ◌∙◌, inl, inr, arith}
use Rattle.std.specs.Prelude.{Contains}
use Rattle.std.proofs.lemmas.Bool.{cases_eq}
use Rattle.std.proofs.lemmas.List.{map-append}
use Rattle.std.proofs.lemmas.List.Elements.{Contains-append_cases, Contains-append_left, Contains-append_right, filter-append}
use Rattle.std.specs.List.{range_with_len}
use Rattle.gt_entries.specs.declared.marks.Mark.{Mark}
use Rattle.gt_entries.specs.Cells.{Cell, Free, Used, cell_at}
use Rattle.gt_entries.specs.Cells as cells
use Rattle.gt_pages.specs.Slots.{Slot, is_marked, unmarked}
use Rattle.gt_pages.specs.Parts.{slots_in}

-- ---- the blocks at the places of one entry

-- a block at place k of an entry of which the first place is at an address
pub record IsSlotOf (start size : ℕ) (cells : List Cell) (s : Slot) : Type 0 where
  pub place : ℕ
  pub low : place < length cells
  pub address : s.address ≡ start + size * place
  pub sized : s.size ≡ size
  pub cell : cell_at cells place ≡ Used s.mark

times_next : (size k : ℕ) → size * suc k ≡ size * k + size
times_next size k = omega arith

abbrev shift : (start size : ℕ) (c : Cell) (cells : List Cell) (s : Slot) → IsSlotOf (start + size) size cells s → IsSlotOf start size (c ∷ cells) s
shift start size c cells s is = record {
  place = suc is.place;
  low = omega (arith, is.low);
  address = omega (arith, is.address, times_next size is.place);
  sized = is.sized;
  cell = is.cell;
}

slot_at_index : (start size : ℕ) (cells : List Cell) (s : Slot) (k : ℕ) → k < length (slots_in start size cells) → get_or (slots_in start size cells) k s ≡ s → IsSlotOf start size cells s
slot_at_index start size [] s k low is = absurd (let no : 1 ≤ 0 = omega (arith, low) in omega (arith, no))
slot_at_index start size (Free ∷ cells) s k low is = shift start size Free cells s (slot_at_index (start + size) size cells s k low is)
slot_at_index start size (Used m ∷ cells) s zero low is = record {
  place = 0;
  low = omega arith;
  address = let none : size * 0 ≡ 0 = omega arith in let at = ap (λ t. t.address) is in omega (arith, none, at);
  sized = sym (ap (λ t. t.size) is);
  cell = ap (λ t. Used t.mark) is;
}
slot_at_index start size (Used m ∷ cells) s (suc k) low is =
    shift start size (Used m) cells s (slot_at_index (start + size) size cells s k (omega (arith, low)) is)

pub slot_of : (start size : ℕ) (cells : List Cell) (s : Slot) → Contains (slots_in start size cells) s → IsSlotOf start size cells s
slot_of start size cells s there = slot_at_index start size cells s there.0 there.1 there.2

abbrev pub slot_from : (start size k : ℕ) → Option Mark → Slot
slot_from start size k m = record { address = start + size * k; size = size; mark = m }

-- ---- the blocks of all entries

module _ (f : ℕ → List Slot) where
  pub contains_flat : (a n : ℕ) (s : Slot) → Contains (flat_map f (range_with_len a n)) s → (k : ℕ) × (a ≤ k) × (k < a + n) × Contains (f k) s
  contains_flat a zero s there = absurd (let no : 1 ≤ 0 = omega (arith, there.1) in omega (arith, no))
  contains_flat a (suc n) s there = elim (Contains-append_cases (f a) (flat_map f (range_with_len (a + 1) n)) s there) [
    | inl here ↦ (a, omega arith, omega arith, here)
    | inr later ↦ let rest = contains_flat (a + 1) n s later in (rest.0, omega (arith, rest.1), omega (arith, rest.2), rest.3)
  ]

  pub flat_contains : (a n k : ℕ) (s : Slot) → a ≤ k → k < a + n → Contains (f k) s → Contains (flat_map f (range_with_len a n)) s
  flat_contains a zero k s high low there = absurd (let no : 1 ≤ 0 = omega (arith, high, low) in omega (arith, no))
  flat_contains a (suc n) k s high low there = elim (cases_eq k a) [
    | inl same ↦ Contains-append_left (f a) (flat_map f (range_with_len (a + 1) n)) s (subst (λ i. Contains (f i) s) same there)
    | inr apart ↦
        Contains-append_right (f a) (flat_map f (range_with_len (a + 1) n)) s
        (flat_contains (a + 1) n k s (omega (arith, high, apart)) (omega (arith, low)) there)
  ]

  -- entries that have other blocks
  pub flat_map_slots : (g : ℕ → List Slot) (h : Slot → Slot) (a n : ℕ) → ((k : ℕ) → a ≤ k → k < a + n → g k ≡ map h (f k))
      → flat_map g (range_with_len a n) ≡ map h (flat_map f (range_with_len a n))
  flat_map_slots g h a zero each = refl
  flat_map_slots g h a (suc n) each =
      ap (λ xs. xs ++ flat_map g (range_with_len (a + 1) n)) (each a (omega arith) (omega arith))
      ∙ ap (λ xs. map h (f a) ++ xs) (flat_map_slots g h (a + 1) n (λ k high low. each k (omega (arith, high)) (omega (arith, low))))
      ∙ sym (map-append h (f a) (flat_map f (range_with_len (a + 1) n)))

  pub flat_filter_slots : (g : ℕ → List Slot) (test : Slot → Bool) (a n : ℕ) → ((k : ℕ) → a ≤ k → k < a + n → g k ≡ filter test (f k))
      → flat_map g (range_with_len a n) ≡ filter test (flat_map f (range_with_len a n))
  flat_filter_slots g test a zero each = refl
  flat_filter_slots g test a (suc n) each =
      ap (λ xs. xs ++ flat_map g (range_with_len (a + 1) n)) (each a (omega arith) (omega arith))
      ∙ ap (λ xs. filter test (f a) ++ xs) (flat_filter_slots g test (a + 1) n (λ k high low. each k (omega (arith, high)) (omega (arith, low))))
      ∙ sym (filter-append test (f a) (flat_map f (range_with_len (a + 1) n)))

  pub flat_none : (a n : ℕ) → ((k : ℕ) → a ≤ k → k < a + n → f k ≡ []) → flat_map f (range_with_len a n) ≡ []
  flat_none a zero each = refl
  flat_none a (suc n) each =
      ap (λ xs. xs ++ flat_map f (range_with_len (a + 1) n)) (each a (omega arith) (omega arith))
      ∙ flat_none (a + 1) n (λ k high low. each k (omega (arith, high)) (omega (arith, low)))

-- ---- what calls do to the blocks of one entry

pub slots_unmarked : (start size : ℕ) (xs : List Cell) → slots_in start size (map cells.unmarked xs) ≡ map unmarked (slots_in start size xs)
slots_unmarked start size [] = refl
slots_unmarked start size (Free ∷ xs) = slots_unmarked (start + size) size xs
slots_unmarked start size (Used m ∷ xs) =
    ap (λ ys. record { address = start; size = size; mark = None } ∷ ys) (slots_unmarked (start + size) size xs)

pub slots_swept : (start size : ℕ) (xs : List Cell) → slots_in start size (map cells.swept xs) ≡ filter is_marked (slots_in start size xs)
slots_swept start size [] = refl
slots_swept start size (Free ∷ xs) = slots_swept (start + size) size xs
slots_swept start size (Used None ∷ xs) = slots_swept (start + size) size xs
slots_swept start size (Used (Some m) ∷ xs) =
    ap (λ ys. record { address = start; size = size; mark = Some m } ∷ ys) (slots_swept (start + size) size xs)
