-- The places of an entry, one by one.
use Rattle.std.proofs.Common.{◌≡◌, ◌≢◌, ℕ, zero, suc, ◌+◌, ◌-◌, ◌*◌, ◌<◌, ◌≤◌, Bool, true, false, cond, not, List, ◌∷◌, length, get_or, set, map, replicate, count_by, Option, Some, None, refl, sym, ap, ◌∙◌, inl, inr, arith, map-id}
use Rattle.std.proofs.lemmas.Bool.{cases_eq, cases_lt, cases_Bool, true≢false}
use Rattle.std.proofs.lemmas.List.{ext_get_or, get_or_past, get_or-set_same, get_or-set_other, length-set, get_or-replicate, length-replicate}
use Rattle.std.proofs.lemmas.List.Sums.{length-filter}
use Rattle.std.proofs.lemmas.List.FromFn.{length-map-range_with_len, get_or-map-range_with_len}
use Rattle.std.specs.List.{range_with_len}
use Rattle.gt_bits.specs.Sets.{has, members, IsNext}
use Rattle.gt_entries.specs.declared.places.Tag.{Tag}
use Rattle.gt_entries.specs.Cells.{Cell, Free, IsFirstFrom, cell_at, is_free, is_lost, is_marked}
use Rattle.gt_entries.specs.Places.{AreKept, cell_from, cell_of, cells_of, tag_at}
use Rattle.gt_entries.proofs.Totals.{total, total-map, total_add, total_past, total_ones, total_same, total_some, total_none}
use Rattle.gt_entries.proofs.Bits.{free_bit, free_total, lost_total, marked_bit}

-- how many places are free is told by those in use alone
pub same_free : (n : ℕ) (u m q w r : List ℕ) (s t : List Tag) → count_by is_free (cells_of n u m q s) ≡ count_by is_free (cells_of n u w r t)
same_free n u m q w r s t =
    total-map (λ c. cond (is_free c) 1 0) (cell_of u m q s) n
    ∙ total_same (λ i. cond (is_free (cell_of u m q s i)) 1 0) (λ i. cond (is_free (cell_of u w r t i)) 1 0) n
    (λ i. ap (λ b. cond {A = ℕ} b 1 0) (free_bit (has u i) (has m i) (has q i) (tag_at s i) ∙ sym (free_bit (has u i) (has w i) (has r i) (tag_at t i))))
    ∙ sym (total-map (λ c. cond (is_free c) 1 0) (cell_of u w r t) n)

-- ---- tables of places

pub table_at : (f : ℕ → Cell) (n k : ℕ) → k < n → get_or (map f (range_with_len 0 n)) k Free ≡ f k
table_at f n k low = get_or-map-range_with_len f 0 n k k Free low (omega arith)

pub table_same : (f : ℕ → Cell) (n : ℕ) (ys : List Cell) → length ys ≡ n → ((k : ℕ) → k < n → f k ≡ get_or ys k Free) → map f (range_with_len 0 n) ≡ ys
table_same f n ys len h =
    ext_get_or Free (map f (range_with_len 0 n)) ys (length-map-range_with_len f 0 n ∙ sym len)
    (λ k low. let below : k < n = omega (arith, low, length-map-range_with_len f 0 n) in table_at f n k below ∙ h k below)

-- one place is another one now
pub table_set : (f g : ℕ → Cell) (n k : ℕ) → k < n → ((j : ℕ) → j ≢ k → g j ≡ f j) → map g (range_with_len 0 n) ≡ set (map f (range_with_len 0 n)) k (g k)
table_set f g n k low others =
    table_same g n (set (map f (range_with_len 0 n)) k (g k)) (length-set (map f (range_with_len 0 n)) k (g k) ∙ length-map-range_with_len f 0 n)
    (λ j below. elim (cases_eq j k) [
      | inl same ↦
          ap g same
          ∙ sym (get_or-set_same (map f (range_with_len 0 n)) k (g k) Free (omega (arith, low, length-map-range_with_len f 0 n)))
          ∙ ap (λ i. get_or (set (map f (range_with_len 0 n)) k (g k)) i Free) (sym same)
      | inr apart ↦ others j apart ∙ sym (table_at f n j below) ∙ sym (get_or-set_other (map f (range_with_len 0 n)) k j (g k) Free apart)
    ])

-- each place becomes what h makes of it
pub table_map : (f g : ℕ → Cell) (h : Cell → Cell) (a n : ℕ) → ((j : ℕ) → g j ≡ h (f j)) → map g (range_with_len a n) ≡ map h (map f (range_with_len a n))
table_map f g h a zero each = refl
table_map f g h a (suc n) each =
    ap (λ x. x ∷ map g (range_with_len (a + 1) n)) (each a) ∙ ap (λ xs. h (f a) ∷ xs) (table_map f g h (a + 1) n each)

pub table_all : (f : ℕ → Cell) (n : ℕ) (x : Cell) → ((k : ℕ) → k < n → f k ≡ x) → map f (range_with_len 0 n) ≡ replicate n x
table_all f n x each =
    table_same f n (replicate n x) (length-replicate n x) (λ k low. each k low ∙ sym (get_or-replicate n k x Free low))

-- ---- the places of an entry

module _ (n : ℕ) (u m q : List ℕ) (t : List Tag) where
  pub no_place : AreKept n u m q t → (k : ℕ) → n ≤ k → has u k ≡ false
  no_place kept k past = elim (cases_Bool (has u k)) [
    | inl used ↦ let low = kept.within k used in absurd (omega (arith, low, past))
    | inr free ↦ free
  ]

  pub place_at : AreKept n u m q t → (k : ℕ) → cell_at (cells_of n u m q t) k ≡ cell_of u m q t k
  place_at kept k = elim (cases_lt k n) [
    | inl low ↦ table_at (cell_of u m q t) n k low
    | inr past ↦
        get_or_past (cells_of n u m q t) k Free (omega (arith, past, length-map-range_with_len (cell_of u m q t) 0 n))
        ∙ sym (ap (λ b. cell_from b (has m k) (has q k) (tag_at t k)) (no_place kept k past))
  ]

  pub len_cells : length (cells_of n u m q t) ≡ n
  len_cells = length-map-range_with_len (cell_of u m q t) 0 n

  -- how many numbers a set of places has
  pub count_set : AreKept n u m q t → (words : List ℕ) → length words ≡ length u → ((i : ℕ) → n ≤ i → has words i ≡ false)
      → length (members words) ≡ total (λ i. cond (has words i) 1 0) n
  count_set kept words len past =
      let rest : ℕ = 64 * length words - n in
      let whole : 64 * length words ≡ n + rest = omega (arith, kept.room, len) in
      length-filter (has words) (range_with_len 0 (64 * length words))
      ∙ ap (λ xs. count_by (has words) xs) (sym (map-id (range_with_len 0 (64 * length words))))
      ∙ ap (total (λ i. cond (has words i) 1 0)) whole
      ∙ total_past (λ i. cond (has words i) 1 0) n rest (λ i high. ap (λ b. cond {A = ℕ} b 1 0) (past i high))

  pub count_used : AreKept n u m q t → length (members u) + count_by is_free (cells_of n u m q t) ≡ n
  count_used kept =
      let used = count_set kept u refl (no_place kept) in
      let free = total-map (λ c. cond (is_free c) 1 0) (cell_of u m q t) n in
      let all =
      total_add (λ i. cond (has u i) 1 0) (λ i. cond (is_free (cell_of u m q t i)) 1 0) (λ _. 1) n
      (λ i. free_total (has u i) (has m i) (has q i) (tag_at t i)) in
      omega (arith, used, free, all, total_ones n)

  past_marked : AreKept n u m q t → (i : ℕ) → n ≤ i → has m i ≡ false
  past_marked kept i past = elim (cases_Bool (has m i)) [
    | inl is ↦ absurd (true≢false (sym (kept.marks_used i is) ∙ no_place kept i past))
    | inr not ↦ not
  ]

  pub count_marked : AreKept n u m q t → length (members m) ≡ count_by is_marked (cells_of n u m q t)
  count_marked kept =
      let marked = count_set kept m kept.marked_words (past_marked kept) in
      let cells = total-map (λ c. cond (is_marked c) 1 0) (cell_of u m q t) n in
      let same =
      total_same (λ i. cond (has m i) 1 0) (λ i. cond (is_marked (cell_of u m q t i)) 1 0) n
      (λ i. sym (ap (λ b. cond {A = ℕ} b 1 0) (marked_bit (has u i) (has m i) (has q i) (tag_at t i) (kept.marks_used i)))) in
      omega (arith, marked, cells, same)

  pub count_lost : AreKept n u m q t → length (members m) + count_by is_lost (cells_of n u m q t) ≡ length (members u)
  count_lost kept =
      let used = count_set kept u refl (no_place kept) in
      let marked = count_set kept m kept.marked_words (past_marked kept) in
      let lost = total-map (λ c. cond (is_lost c) 1 0) (cell_of u m q t) n in
      let all =
      total_add (λ i. cond (has m i) 1 0) (λ i. cond (is_lost (cell_of u m q t i)) 1 0) (λ i. cond (has u i) 1 0) n
      (λ i. lost_total (has u i) (has m i) (has q i) (tag_at t i) (kept.marks_used i)) in
      omega (arith, used, marked, lost, all)

  pub free_term : (k : ℕ) → has u k ≡ false → cond {A = ℕ} (is_free (cell_of u m q t k)) 1 0 ≡ 1
  free_term k free = ap (λ b. cond {A = ℕ} b 1 0) (free_bit (has u k) (has m k) (has q k) (tag_at t k) ∙ ap not free)

  used_term : (k : ℕ) → has u k ≡ true → cond {A = ℕ} (is_free (cell_of u m q t k)) 1 0 ≡ 0
  used_term k used = ap (λ b. cond {A = ℕ} b 1 0) (free_bit (has u k) (has m k) (has q k) (tag_at t k) ∙ ap not used)

  -- where a place is free, some place is
  pub some_free : (k : ℕ) → k < n → has u k ≡ false → 0 < count_by is_free (cells_of n u m q t)
  some_free k low free =
      let sum = total-map (λ c. cond (is_free c) 1 0) (cell_of u m q t) n in
      let one = total_some (λ i. cond (is_free (cell_of u m q t i)) 1 0) n k (omega (arith, low)) in
      omega (arith, sum, one, free_term k free)

  pub none_free : ((k : ℕ) → k < n → has u k ≡ true) → count_by is_free (cells_of n u m q t) ≡ 0
  none_free all =
      total-map (λ c. cond (is_free c) 1 0) (cell_of u m q t) n
      ∙ total_none (λ i. cond (is_free (cell_of u m q t i)) 1 0) n (λ i low. used_term i (all i (omega (arith, low))))

  -- the first number of a set of places that pass a test
  pub first_from : AreKept n u m q t → (words : List ℕ) (test : Cell → Bool) (from : ℕ) (result : Option ℕ)
      → ((k : ℕ) → test (cell_of u m q t k) ≡ has words k) → ((k : ℕ) → has words k ≡ true → k < n)
      → IsNext words from result → IsFirstFrom test (cells_of n u m q t) from result
  first_from kept words test from None same within next = record {
    reached = tt;
    within = tt;
    passes = tt;
    first = tt;
    none = λ j high. ap test (place_at kept j) ∙ same j ∙ next.none j high;
  }
  first_from kept words test from (Some k) same within next = record {
    reached = next.reached;
    within = let low = within k next.held in omega (arith, low, len_cells);
    passes = ap test (place_at kept k) ∙ same k ∙ next.held;
    first = λ j high low. ap test (place_at kept j) ∙ same j ∙ next.least j high low;
    none = tt;
  }
