-- How many marked blocks there are of each size.
use Rattle.std.proofs.Common.{◌≡◌, ℕ, zero, suc, ◌+◌, ◌-◌, ◌*◌, ◌^◌, ◌<◌, ◌≤◌, ◌⊎◌, ◌==◌, Bool, true, false, cond, List, [], ◌∷◌, ◌++◌, length, set, map, filter, count_by, flat_map, Some, None, option_map, refl, sym, ap, subst, ◌∙◌, inl, inr, arith}
use Rattle.std.specs.Prelude.{slice_get, sum}
use Rattle.std.specs.List.{range_with_len}
use Rattle.std.proofs.Math.Nat.{mul-le-mul_left, mul-le-mul_right}
use Rattle.std.proofs.lemmas.Bool.{cases_eq, eq-eqb, ne_eqb}
use Rattle.std.proofs.lemmas.List.{append-nil, append_assoc, get_or-set_same, get_or-set_other, length-append, length-set, map-append}
use Rattle.std.proofs.lemmas.List.Elements.{filter-append}
use Rattle.std.proofs.lemmas.List.Sums.{count_by-le-length, length-filter, sum_by-append, sum_by-cons}
use Rattle.std.proofs.lemmas.Option.{get_or_from_slice_get, slice_get-get_or, slice_get-map, slice_get_within}
use Rattle.gt_bits.specs.Sets.{has}
use Rattle.gt_entries.specs.Cells as cells
use Rattle.gt_entries.specs.Cells.{Cell, Free, Used}
use Rattle.gt_pages.specs.declared.store.Entry.{Entry}
use Rattle.gt_pages.specs.declared.totals.MarkedTotals.{MarkedTotals}
use Rattle.gt_pages.specs.Ledger.{Block, page_address, sizes}
use Rattle.gt_pages.specs.Slots.{Slot, block_of, is_marked}
use Rattle.gt_pages.specs.Counts.{AreTotals, bytes_of, count_of}
use Rattle.gt_pages.specs.Changes.{IsRunOf}
use Rattle.gt_pages.specs.Parts.{IsKept, Parts, contents_of, entry_at, entry_pages, page_slots, slots_in}
use Rattle.gt_pages.proofs.NextLemmas.{entry_ends}
use Rattle.gt_pages.proofs.PlaceLemmas.{one_number}
use Rattle.gt_pages.proofs.SlotLemmas.{flat_none}
use Rattle.gt_pages.proofs.WhereLemmas.{entry_some}

-- ---- totals

some_same : (x y : ℕ) → Some x ≡ Some y → x ≡ y
some_same x y e = cc

pub none_counted : AreTotals (record { counts = map (λ size. 0) sizes; blocks = 0; bytes = 0 }) []
none_counted = record {
  counts = λ i size e. slice_get-map (λ size. 0) sizes i ∙ ap (option_map (λ size. 0)) e;
  many = refl;
  bytes = refl;
}

count_both : (size : ℕ) (xs ys : List Block) → count_of size (xs ++ ys) ≡ count_of size xs + count_of size ys
count_both size xs ys = ap length (filter-append (λ b. b.size == size) xs ys) ∙ length-append (filter (λ b. b.size == size) xs) (filter (λ b. b.size == size) ys)

pub bytes_both : (xs ys : List Block) → bytes_of (xs ++ ys) ≡ bytes_of xs + bytes_of ys
bytes_both xs ys = ap sum (map-append (λ b. b.size) xs ys) ∙ sum_by-append (λ n. n) (map (λ b. b.size) xs) (map (λ b. b.size) ys)

pub count_few : (size : ℕ) (blocks : List Block) → count_of size blocks ≤ length blocks
count_few size blocks =
    let counted = length-filter (λ b. b.size == size) blocks in
    let few = count_by-le-length (λ b. b.size == size) blocks in
    omega (arith, counted, few)

module _ (totals : MarkedTotals) (place size count : ℕ) (number : slice_get sizes place ≡ Some size) (blocks run : List Block) (is : IsRunOf size count run) (were : AreTotals totals blocks) (old : ℕ) (counted : old ≡ count_of size blocks) where
  low : place < length totals.counts
  low = slice_get_within totals.counts place (count_of size blocks) (were.counts place size number)

  count_at : (i other : ℕ) → slice_get sizes i ≡ Some other → slice_get (set totals.counts place (old + count)) i ≡ Some (count_of other (blocks ++ run))
  count_at i other at = elim (cases_eq i place) as (λ _. slice_get (set totals.counts place (old + count)) i ≡ Some (count_of other (blocks ++ run))) [
    | inl same ↦
        let its : size ≡ other = some_same size other (sym number ∙ ap (slice_get sizes) (sym same) ∙ at) in
        let more : count_of other run ≡ count = is.sized other ∙ ap (λ b. cond b count 0) (eq-eqb size other its) in
        let before : count_of size blocks ≡ count_of other blocks = ap (λ n. count_of n blocks) its in
        let both = count_both other blocks run in
        let now : old + count ≡ count_of other (blocks ++ run) = omega (arith, both, more, counted, before) in
        let len = length-set totals.counts place (old + count) in
        ap (slice_get (set totals.counts place (old + count))) same
        ∙ slice_get-get_or (set totals.counts place (old + count)) place 0 (omega (arith, len, low))
        ∙ ap (λ n. Some n) (get_or-set_same totals.counts place (old + count) 0 low ∙ now)
    | inr apart ↦
        let differ : size ≡ other → ⊥ = λ e. apart (one_number i place other at (number ∙ ap (λ n. Some n) e)) in
        let none : count_of other run ≡ 0 = is.sized other ∙ ap (λ b. cond b count 0) (ne_eqb size other differ) in
        let both = count_both other blocks run in
        let now : count_of other blocks ≡ count_of other (blocks ++ run) = omega (arith, both, none) in
        let was = were.counts i other at in
        let inside = slice_get_within totals.counts i (count_of other blocks) was in
        let len = length-set totals.counts place (old + count) in
        slice_get-get_or (set totals.counts place (old + count)) i 0 (omega (arith, len, inside))
        ∙ ap (λ n. Some n) (get_or-set_other totals.counts place i (old + count) 0 apart ∙ get_or_from_slice_get totals.counts i (count_of other blocks) 0 was ∙ now)
  ]

  pub run_counted : AreTotals (record { counts = set totals.counts place (old + count); blocks = totals.blocks + count; bytes = totals.bytes + size * count }) (blocks ++ run)
  run_counted =
      let long = length-append blocks run in
      let bytes = bytes_both blocks run in
      record {
        counts = count_at;
        many = let many = were.many in let more = is.many in omega (arith, long, many, more);
        bytes = let before = were.bytes in let more = is.bytes in omega (arith, bytes, before, more);
      }

-- ---- the marked blocks of an entry

abbrev pub marked_run : (start size : ℕ) → List Cell → List Block
marked_run start size xs = map block_of (filter is_marked (slots_in start size xs))

one_more : (xs : List Cell) (m : _) → count_by cells.is_marked (Used (Some m) ∷ xs) ≡ suc (count_by cells.is_marked xs)
one_more xs m = let more = sum_by-cons (λ x. cond (cells.is_marked x) 1 0) (Used (Some m)) xs in omega (arith, more)

no_more : (c : Cell) (xs : List Cell) → cells.is_marked c ≡ false → count_by cells.is_marked (c ∷ xs) ≡ count_by cells.is_marked xs
no_more c xs not =
    let more = sum_by-cons (λ x. cond (cells.is_marked x) 1 0) c xs in
    let none : cond {A = ℕ} (cells.is_marked c) 1 0 ≡ 0 = ap (λ b. cond {A = ℕ} b 1 0) not in
    omega (arith, more, none)

run_many : (start size : ℕ) (xs : List Cell) → length (marked_run start size xs) ≡ count_by cells.is_marked xs
run_many start size [] = refl
run_many start size (Free ∷ xs) = run_many (start + size) size xs ∙ sym (no_more Free xs refl)
run_many start size (Used None ∷ xs) = run_many (start + size) size xs ∙ sym (no_more (Used None) xs refl)
run_many start size (Used (Some m) ∷ xs) = ap suc (run_many (start + size) size xs) ∙ sym (one_more xs m)

times_one : (size n : ℕ) → size + size * n ≡ size * suc n
times_one size n = omega arith

run_bytes : (start size : ℕ) (xs : List Cell) → bytes_of (marked_run start size xs) ≡ size * count_by cells.is_marked xs
run_bytes start size [] = let none : 0 ≡ size * 0 = omega arith in none
run_bytes start size (Free ∷ xs) = run_bytes (start + size) size xs ∙ ap (λ n. size * n) (sym (no_more Free xs refl))
run_bytes start size (Used None ∷ xs) = run_bytes (start + size) size xs ∙ ap (λ n. size * n) (sym (no_more (Used None) xs refl))
run_bytes start size (Used (Some m) ∷ xs) =
    sum_by-cons (λ n. n) size (map (λ b. b.size) (marked_run (start + size) size xs))
    ∙ ap (λ n. size + n) (run_bytes (start + size) size xs)
    ∙ times_one size (count_by cells.is_marked xs)
    ∙ ap (λ n. size * n) (sym (one_more xs m))

none_here : (b : Bool) → 0 ≡ cond {A = ℕ} b 0 0
none_here true = refl
none_here false = refl

one_here : (b : Bool) (x : Block) (xs : List Block) (n : ℕ) → length xs ≡ cond b n 0 → length (cond b (x ∷ xs) xs) ≡ cond b (suc n) 0
one_here true x xs n is = ap suc is
one_here false x xs n is = is

run_sized : (start size : ℕ) (xs : List Cell) (other : ℕ) → count_of other (marked_run start size xs) ≡ cond (size == other) (count_by cells.is_marked xs) 0
run_sized start size [] other = none_here (size == other)
run_sized start size (Free ∷ xs) other = run_sized (start + size) size xs other ∙ ap (λ n. cond (size == other) n 0) (sym (no_more Free xs refl))
run_sized start size (Used None ∷ xs) other = run_sized (start + size) size xs other ∙ ap (λ n. cond (size == other) n 0) (sym (no_more (Used None) xs refl))
run_sized start size (Used (Some m) ∷ xs) other =
    one_here (size == other) (record { address = start; size = size }) (filter (λ b. b.size == other) (marked_run (start + size) size xs)) (count_by cells.is_marked xs) (run_sized (start + size) size xs other)
    ∙ ap (λ n. cond (size == other) n 0) (sym (one_more xs m))

pub run_is : (start size : ℕ) (xs : List Cell) → IsRunOf size (count_by cells.is_marked xs) (marked_run start size xs)
run_is start size xs = record { many = run_many start size xs; sized = run_sized start size xs; bytes = run_bytes start size xs }

-- ---- the blocks of the first entries

module _ (f : ℕ → List Slot) where
  flat_skip : (a k : ℕ) → ((j : ℕ) → a ≤ j → j < a + k → f j ≡ []) → flat_map f (range_with_len a (suc k)) ≡ f (a + k)
  flat_skip a zero none = append-nil (f a) ∙ (let same : a ≡ a + 0 = omega arith in ap f same)
  flat_skip a (suc k) none =
      let next : a + 1 + k ≡ a + suc k = omega arith in
      ap (λ xs. xs ++ flat_map f (range_with_len (a + 1) (suc k))) (none a (omega arith) (omega arith))
      ∙ flat_skip (a + 1) k (λ j high low. none j (omega (arith, high)) (omega (arith, low)))
      ∙ ap f next

  flat_more : (a n k : ℕ) → ((j : ℕ) → a + n ≤ j → j < a + n + k → f j ≡ []) → flat_map f (range_with_len a (n + suc k)) ≡ flat_map f (range_with_len a n) ++ f (a + n + k)
  flat_more a zero k none =
      let all : 0 + suc k ≡ suc k = omega arith in
      let same : a + k ≡ a + 0 + k = omega arith in
      ap (λ m. flat_map f (range_with_len a m)) all ∙ flat_skip a k (λ j high low. none j (omega (arith, high)) (omega (arith, low))) ∙ ap f same
  flat_more a (suc n) k none =
      let all : suc n + suc k ≡ suc (n + suc k) = omega arith in
      let same : a + 1 + n + k ≡ a + suc n + k = omega arith in
      ap (λ m. flat_map f (range_with_len a m)) all
      ∙ ap (λ xs. f a ++ xs) (flat_more (a + 1) n k (λ j high low. none j (omega (arith, high)) (omega (arith, low))) ∙ ap (λ m. flat_map f (range_with_len (a + 1) n) ++ f m) same)
      ∙ sym (append_assoc (f a) (flat_map f (range_with_len (a + 1) n)) (f (a + suc n + k)))

  flat_past : (a n k : ℕ) → ((j : ℕ) → a + n ≤ j → f j ≡ []) → flat_map f (range_with_len a (n + k)) ≡ flat_map f (range_with_len a n)
  flat_past a zero k none =
      let all : 0 + k ≡ k = omega arith in
      ap (λ m. flat_map f (range_with_len a m)) all ∙ flat_none f a k (λ j high _. none j (omega (arith, high)))
  flat_past a (suc n) k none =
      let all : suc n + k ≡ suc (n + k) = omega arith in
      ap (λ m. flat_map f (range_with_len a m)) all ∙ ap (λ xs. f a ++ xs) (flat_past (a + 1) n k (λ j high. none j (omega (arith, high))))

abbrev pub marked_to : Parts → ℕ → List Block
marked_to p from = map block_of (filter is_marked (flat_map (page_slots p) (range_with_len 0 from)))

module _ (p : Parts) (from page : ℕ) (high : from ≤ page) (starts : has p.starts page ≡ true) (none : (j : ℕ) → from ≤ j → j < page → has p.starts j ≡ false) where
  no_slots : (j : ℕ) → from ≤ j → j < page → page_slots p j ≡ []
  no_slots j above below = ap (λ b. cond b (slots_in (page_address j) (entry_at p.entries j).size (entry_at p.entries j).places) []) (none j above below)

  pub marked_more : marked_to p (page + 1) ≡ marked_to p from ++ marked_run (page_address page) (entry_at p.entries page).size (entry_at p.entries page).places
  marked_more =
      let k : ℕ = page - from in
      let all : page + 1 ≡ from + suc k = omega (arith, high) in
      let last : 0 + from + k ≡ page = omega (arith, high) in
      let before : List Slot = flat_map (page_slots p) (range_with_len 0 from) in
      ap (marked_to p) all
      ∙ ap (λ xs. map block_of (filter is_marked xs)) (flat_more (page_slots p) 0 from k (λ j above below. no_slots j (omega (arith, above)) (omega (arith, below, high))) ∙ ap (λ j. before ++ page_slots p j) last)
      ∙ ap (map block_of) (filter-append is_marked before (page_slots p page))
      ∙ map-append block_of (filter is_marked before) (filter is_marked (page_slots p page))
      ∙ ap (λ b. marked_to p from ++ map block_of (filter is_marked (cond b (slots_in (page_address page) (entry_at p.entries page).size (entry_at p.entries page).places) []))) starts

-- the totals of the marked blocks of the entries that start below a page
pub record CountedTo (p : Parts) (from : ℕ) (totals : MarkedTotals) : Type 0 where
  pub low : from ≤ p.pages
  pub counted : AreTotals totals (marked_to p from)
  pub few : (j : ℕ) → from ≤ j → (has p.starts j ≡ true) ⊎ (j ≡ p.pages) → bytes_of (marked_to p from) ≤ 4096 * j
  pub fewer : length (marked_to p from) ≤ bytes_of (marked_to p from)

pub counted_none : (p : Parts) (totals : MarkedTotals) → AreTotals totals [] → CountedTo p 0 totals
counted_none p totals none = record { low = omega arith; counted = none; few = λ j _ _. omega arith; fewer = omega arith }

module _ (p : Parts) (from page size count : ℕ) (kept : IsKept p) (high : from ≤ page) (starts : has p.starts page ≡ true)
    (sized : size ≡ (entry_at p.entries page).size) (counted : count ≡ count_by cells.is_marked (entry_at p.entries page).places) where
  abbrev entry : Entry
  entry = entry_at p.entries page

  -- its marked blocks are not larger than its pages
  few_bytes : (count ≤ size * count) × (size * count ≤ 4096 * entry_pages entry)
  few_bytes =
      let some = entry_some p page kept starts in
      let fewer = count_by-le-length cells.is_marked entry.places in
      let all = mul-le-mul_left {m = count} {n = length entry.places} entry.size (omega (arith, fewer, counted)) in
      let same : size * count ≡ entry.size * count = ap (λ n. n * count) sized in
      let each = mul-le-mul_right {m = 1} {n = entry.size} count some in
      (omega (arith, each, same), omega (arith, all, same))

  module _ (totals : MarkedTotals) (so-far : CountedTo p from totals) where
    pub room : (length (marked_to p from) + count ≤ 2 ^ 26) × (bytes_of (marked_to p from) + size * count ≤ 2 ^ 26)
    room =
        let few = so-far.few page high (inl starts) in
        let fewer = so-far.fewer in
        let ends = (kept.in_use page starts).in_space in
        let most = kept.at_most in
        (omega (arith, few, fewer, few_bytes.0, few_bytes.1, ends, most), omega (arith, few, few_bytes.1, ends, most))

    pub counted_step : (none : (j : ℕ) → from ≤ j → j < page → has p.starts j ≡ false) (new : MarkedTotals)
        → ((blocks run : List Block) → IsRunOf size count run → AreTotals totals blocks → AreTotals new (blocks ++ run)) → CountedTo p (page + 1) new
    counted_step none new added = record {
      low = let inside = kept.starts page starts in omega (arith, inside);
      counted = subst (AreTotals new) (sym more) (added (marked_to p from) run (subst (λ n. IsRunOf n count run) (sym sized) (subst (λ n. IsRunOf entry.size n run) (sym counted) (run_is (page_address page) entry.size entry.places))) so-far.counted);
      few = λ j past at.
          let ends = so-far.few page high (inl starts) in
          let fits : page + entry_pages entry ≤ j = elim at [
            | inl started ↦ entry_ends p page j kept starts started (omega (arith, past))
            | inr end ↦ let inside = (kept.in_use page starts).in_space in omega (arith, inside, end)
          ] in
          omega (arith, ends, fits, all_bytes, few_bytes.1);
      fewer = let fewer = so-far.fewer in omega (arith, fewer, all_bytes, all_many, few_bytes.0);
    }
      where
        run : List Block
        run = marked_run (page_address page) entry.size entry.places

        more : marked_to p (page + 1) ≡ marked_to p from ++ run
        more = marked_more p from page high starts none

        all_bytes : bytes_of (marked_to p (page + 1)) ≡ bytes_of (marked_to p from) + size * count
        all_bytes =
            ap bytes_of more ∙ bytes_both (marked_to p from) run
            ∙ ap (λ n. bytes_of (marked_to p from) + n) (run_bytes (page_address page) entry.size entry.places ∙ ap (λ n. entry.size * n) (sym counted) ∙ ap (λ n. n * count) (sym sized))

        all_many : length (marked_to p (page + 1)) ≡ length (marked_to p from) + count
        all_many = ap length more ∙ length-append (marked_to p from) run ∙ ap (λ n. length (marked_to p from) + n) (run_many (page_address page) entry.size entry.places ∙ sym counted)

pub counted_all : (p : Parts) (from : ℕ) (totals : MarkedTotals) → CountedTo p from totals → ((j : ℕ) → from ≤ j → has p.starts j ≡ false)
    → AreTotals totals (map block_of (filter is_marked (contents_of p).slots))
counted_all p from totals so-far none = subst (λ xs. AreTotals totals (map block_of (filter is_marked xs))) (sym same) so-far.counted
  where
    no_slots : (j : ℕ) → from ≤ j → page_slots p j ≡ []
    no_slots j above = ap (λ b. cond b (slots_in (page_address j) (entry_at p.entries j).size (entry_at p.entries j).places) []) (none j above)

    same : flat_map (page_slots p) (range_with_len 0 p.pages) ≡ flat_map (page_slots p) (range_with_len 0 from)
    same =
        let low = so-far.low in
        let all : p.pages ≡ from + (p.pages - from) = omega (arith, low) in
        ap (λ n. flat_map (page_slots p) (range_with_len 0 n)) all ∙ flat_past (page_slots p) 0 from (p.pages - from) (λ j above. no_slots j (omega (arith, above)))
