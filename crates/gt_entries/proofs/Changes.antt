-- What each change of the bits does to the places.
use Rattle.std.proofs.Common.{◌≡◌, ◌≢◌, ℕ, suc, ◌+◌, ◌*◌, ◌^◌, ◌/◌, ◌%◌, ◌<◌, ◌≤◌, ◌==◌, Bool, true, false, cond, not, List, length, get_or, set, map, replicate, count_by, Some, None, refl, sym, ap, ◌∙◌, inl, inr, arith}
use Rattle.std.proofs.lemmas.Bool.{cases_eq, cases_lt, cases_Bool, not-false, true≢false}
use Rattle.std.proofs.lemmas.List.{get_or_past, get_or-set_same, get_or-set_other, length-set, set-get_or, get_or-replicate, length-replicate}
use Rattle.std.proofs.lemmas.List.Folds.{sum_by-replicate}
use Rattle.std.proofs.lemmas.List.Sums.{sum_by-set}
use Rattle.std.proofs.lemmas.Nat.Bits.{bit_at-zero}
use Rattle.std.specs.Int.{bit_at}
use Rattle.gt_bits.specs.Sets.{has}
use Rattle.gt_entries.specs.declared.places.Tag.{Tag}
use Rattle.gt_entries.specs.Cells.{Free, Used, cell_at, is_free, is_lost, is_marked, mark_in, postponed, swept, unmarked, walked}
use Rattle.gt_entries.specs.Places.{AreKept, cell_from, cell_of, cells_of, tag_at}
use Rattle.gt_entries.proofs.Bits.{free_bit, mark_bit, mark_from, marked_bit, postponed_bit, postponed_none, swept_bit, unmarked_bit, walked_bit}
use Rattle.gt_entries.proofs.CellLemmas.{count_lost, count_used, free_term, len_cells, no_place, place_at, table_all, table_map, table_set}

same_cell : (u v m w q r : Bool) (s t : Tag) → u ≡ v → m ≡ w → q ≡ r → s ≡ t → cell_from u m q s ≡ cell_from v w r t
same_cell u v m w q r s t used marked pending tag =
    ap (λ b. cell_from b m q s) used ∙ ap (λ b. cell_from v b q s) marked ∙ ap (λ b. cell_from v w b s) pending
    ∙ ap (λ x. cell_from v w r x) tag

empty_cell : (u m q : Bool) (t : Tag) → u ≡ false → cell_from u m q t ≡ Free
empty_cell u m q t free = ap (λ b. cell_from b m q t) free

fresh_cell : (u m q : Bool) (t : Tag) → u ≡ true → m ≡ false → cell_from u m q t ≡ Used None
fresh_cell u m q t used unmarked = ap (λ b. cell_from b m q t) used ∙ ap (λ b. cell_from true b q t) unmarked

-- no number is in a set of empty words
pub has_none : (w i : ℕ) → has (replicate w 0) i ≡ false
has_none w i =
    let word : get_or (replicate w 0) (i / 64) 0 ≡ 0 = elim (cases_lt (i / 64) w) [
      | inl low ↦ get_or-replicate w (i / 64) 0 0 low
      | inr past ↦ get_or_past (replicate w 0) (i / 64) 0 (omega (arith, past, length-replicate {A = ℕ} w 0))
    ] in
    ap (λ b. b == 1) (ap (λ x. bit_at x (i % 64)) word ∙ bit_at-zero (i % 64))

pub cells_new : (n w : ℕ) (m q : List ℕ) (t : List Tag) → cells_of n (replicate w 0) m q t ≡ replicate n Free
cells_new n w m q t =
    table_all (cell_of (replicate w 0) m q t) n Free (λ k low. empty_cell (has (replicate w 0) k) (has m k) (has q k) (tag_at t k) (has_none w k))

pub kept_new : (n w : ℕ) (t : List Tag) → length t ≡ n → n ≤ 64 * w → 64 * w < 2 ^ 32 → AreKept n (replicate w 0) (replicate w 0) (replicate w 0) t
kept_new n w t len room fits = record {
  tag_count = len;
  room = omega (arith, room, length-replicate {A = ℕ} w 0);
  fits = omega (arith, fits, length-replicate {A = ℕ} w 0);
  marked_words = refl;
  pending_words = refl;
  within = λ i used. absurd (true≢false (sym used ∙ has_none w i));
  marks_used = λ i marked. marked;
  pending_marked = λ i pending. pending;
}

pub free_new : (n w : ℕ) (m q : List ℕ) (t : List Tag) → count_by is_free (cells_of n (replicate w 0) m q t) ≡ n
free_new n w m q t =
    let all = sum_by-replicate (λ c. cond (is_free c) 1 0) n Free in
    let are : count_by is_free (cells_of n (replicate w 0) m q t) ≡ count_by is_free (replicate n Free) = ap (λ cells. count_by is_free cells) (cells_new n w m q t) in
    omega (arith, all, are)

module _ (n : ℕ) (u m q : List ℕ) (t : List Tag) where
  -- what is not used is not marked
  pub not_marked : AreKept n u m q t → (k : ℕ) → has u k ≡ false → has m k ≡ false
  not_marked kept k free = elim (cases_Bool (has m k)) [
    | inl marked ↦ absurd (true≢false (sym (kept.marks_used k marked) ∙ free))
    | inr not ↦ not
  ]

  -- what is not marked is not left to a pass
  not_pending : AreKept n u m q t → (k : ℕ) → has m k ≡ false → has q k ≡ false
  not_pending kept k none = elim (cases_Bool (has q k)) [
    | inl pending ↦ absurd (true≢false (sym (kept.pending_marked k pending) ∙ none))
    | inr not ↦ not
  ]

  -- a block at a free place
  module _ (v : List ℕ) (k : ℕ) (low : k < n) (free : has u k ≡ false) (len : length v ≡ length u) (held : has v k ≡ true)
      (others : (j : ℕ) → j ≢ k → has v j ≡ has u j) where
    pub kept_take : AreKept n u m q t → AreKept n v m q t
    kept_take kept = record {
      tag_count = kept.tag_count;
      room = omega (arith, kept.room, len);
      fits = omega (arith, kept.fits, len);
      marked_words = kept.marked_words ∙ sym len;
      pending_words = kept.pending_words ∙ sym len;
      within = λ i used. elim (cases_eq i k) [
        | inl same ↦ omega (arith, same, low)
        | inr apart ↦ kept.within i (sym (others i apart) ∙ used)
      ];
      marks_used = λ i marked. elim (cases_eq i k) [
        | inl same ↦ ap (has v) same ∙ held
        | inr apart ↦ others i apart ∙ kept.marks_used i marked
      ];
      pending_marked = kept.pending_marked;
    }

    pub cells_take : AreKept n u m q t → cells_of n v m q t ≡ set (cells_of n u m q t) k (Used None)
    cells_take kept =
        table_set (cell_of u m q t) (cell_of v m q t) n k low
        (λ j apart. ap (λ b. cell_from b (has m j) (has q j) (tag_at t j)) (others j apart))
        ∙ ap (λ x. set (cells_of n u m q t) k x)
        (fresh_cell (has v k) (has m k) (has q k) (tag_at t k) held (not_marked kept k free))

    -- one place less is free
    pub free_take : AreKept n u m q t → suc (count_by is_free (cells_of n v m q t)) ≡ count_by is_free (cells_of n u m q t)
    free_take kept =
        let sum = sum_by-set (λ c. cond (is_free c) 1 0) (cells_of n u m q t) k (Used None) Free (omega (arith, low, len_cells n u m q t)) in
        let was : cond {A = ℕ} (is_free (get_or (cells_of n u m q t) k Free)) 1 0 ≡ 1 =
        ap (λ c. cond {A = ℕ} (is_free c) 1 0) (place_at n u m q t kept k) ∙ free_term n u m q t k free in
        let now : count_by is_free (cells_of n v m q t) ≡ count_by is_free (set (cells_of n u m q t) k (Used None)) = ap (λ cells. count_by is_free cells) (cells_take kept) in
        omega (arith, sum, was, now)

  -- a mark of a block
  module _ (w : List ℕ) (tag : Tag) (k : ℕ) (low : k < n) (used : has u k ≡ true) (fresh : has m k ≡ false)
      (len : length w ≡ length m) (held : has w k ≡ true) (others : (j : ℕ) → j ≢ k → has w j ≡ has m j) where
    pub kept_mark : AreKept n u m q t → AreKept n u w q (set t k tag)
    kept_mark kept = record {
      tag_count = length-set t k tag ∙ kept.tag_count;
      room = kept.room;
      fits = kept.fits;
      marked_words = len ∙ kept.marked_words;
      pending_words = kept.pending_words;
      within = kept.within;
      marks_used = λ i marked. elim (cases_eq i k) [
        | inl same ↦ ap (has u) same ∙ used
        | inr apart ↦ kept.marks_used i (sym (others i apart) ∙ marked)
      ];
      pending_marked = λ i pending. elim (cases_eq i k) [
        | inl same ↦ ap (has w) same ∙ held
        | inr apart ↦ others i apart ∙ kept.pending_marked i pending
      ];
    }

    pub cells_mark : AreKept n u m q t → cells_of n u w q (set t k tag) ≡ set (cells_of n u m q t) k (cell_from true true false tag)
    cells_mark kept =
        table_set (cell_of u m q t) (cell_of u w q (set t k tag)) n k low
        (λ j apart.
        same_cell (has u j) (has u j) (has w j) (has m j) (has q j) (has q j) (tag_at (set t k tag) j) (tag_at t j) refl (others j apart)
        refl (get_or-set_other t k j tag _ apart))
        ∙ ap (λ x. set (cells_of n u m q t) k x)
        (same_cell (has u k) true (has w k) true (has q k) false (tag_at (set t k tag) k) tag used held (not_pending kept k fresh)
        (get_or-set_same t k tag _ (omega (arith, low, kept.tag_count))))

  -- a block that is left to a pass
  module _ (r : List ℕ) (k : ℕ) (low : k < n) (marked : has m k ≡ true) (len : length r ≡ length q) (held : has r k ≡ true)
      (others : (j : ℕ) → j ≢ k → has r j ≡ has q j) where
    pub kept_postponed : AreKept n u m q t → AreKept n u m r t
    kept_postponed kept = record {
      tag_count = kept.tag_count;
      room = kept.room;
      fits = kept.fits;
      marked_words = kept.marked_words;
      pending_words = len ∙ kept.pending_words;
      within = kept.within;
      marks_used = kept.marks_used;
      pending_marked = λ i pending. elim (cases_eq i k) [
        | inl same ↦ ap (has m) same ∙ marked
        | inr apart ↦ kept.pending_marked i (sym (others i apart) ∙ pending)
      ];
    }

    pub cells_postponed : AreKept n u m q t → cells_of n u m r t ≡ set (cells_of n u m q t) k (postponed (cell_at (cells_of n u m q t) k))
    cells_postponed kept =
        table_set (cell_of u m q t) (cell_of u m r t) n k low
        (λ j apart. ap (λ b. cell_from (has u j) (has m j) b (tag_at t j)) (others j apart))
        ∙ ap (λ x. set (cells_of n u m q t) k x)
        (ap (λ b. cell_from (has u k) (has m k) b (tag_at t k)) held
        ∙ postponed_bit (has u k) (has m k) (has q k) (tag_at t k)
        ∙ ap postponed (sym (place_at n u m q t kept k)))

  -- a place without a marked block is as it was
  pub cells_none : AreKept n u m q t → (k : ℕ) → has m k ≡ false → cells_of n u m q t ≡ set (cells_of n u m q t) k (postponed (cell_at (cells_of n u m q t) k))
  cells_none kept k none =
      sym (ap (λ x. set (cells_of n u m q t) k x)
      (ap postponed (place_at n u m q t kept k) ∙ postponed_none (has u k) (has m k) (has q k) (tag_at t k) none ∙ sym (place_at n u m q t kept k))
      ∙ set-get_or (cells_of n u m q t) k Free)

  -- a block that was walked
  module _ (r : List ℕ) (k : ℕ) (low : k < n) (len : length r ≡ length q) (gone : has r k ≡ false)
      (others : (j : ℕ) → j ≢ k → has r j ≡ has q j) where
    pub kept_walked : AreKept n u m q t → AreKept n u m r t
    kept_walked kept = record {
      tag_count = kept.tag_count;
      room = kept.room;
      fits = kept.fits;
      marked_words = kept.marked_words;
      pending_words = len ∙ kept.pending_words;
      within = kept.within;
      marks_used = kept.marks_used;
      pending_marked = λ i pending. elim (cases_eq i k) [
        | inl same ↦ absurd (true≢false (sym pending ∙ ap (has r) same ∙ gone))
        | inr apart ↦ kept.pending_marked i (sym (others i apart) ∙ pending)
      ];
    }

    pub cells_walked : AreKept n u m q t → cells_of n u m r t ≡ set (cells_of n u m q t) k (walked (cell_at (cells_of n u m q t) k))
    cells_walked kept =
        table_set (cell_of u m q t) (cell_of u m r t) n k low
        (λ j apart. ap (λ b. cell_from (has u j) (has m j) b (tag_at t j)) (others j apart))
        ∙ ap (λ x. set (cells_of n u m q t) k x)
        (ap (λ b. cell_from (has u k) (has m k) b (tag_at t k)) gone
        ∙ walked_bit (has u k) (has m k) (has q k) (tag_at t k)
        ∙ ap walked (sym (place_at n u m q t kept k)))

  pub kept_sweep : AreKept n u m q t → AreKept n m m q t
  kept_sweep kept = record {
    tag_count = kept.tag_count;
    room = omega (arith, kept.room, kept.marked_words);
    fits = omega (arith, kept.fits, kept.marked_words);
    marked_words = refl;
    pending_words = kept.pending_words ∙ sym kept.marked_words;
    within = λ i marked. kept.within i (kept.marks_used i marked);
    marks_used = λ i marked. marked;
    pending_marked = kept.pending_marked;
  }

  pub cells_sweep : AreKept n u m q t → cells_of n m m q t ≡ map swept (cells_of n u m q t)
  cells_sweep kept =
      table_map (cell_of u m q t) (cell_of m m q t) swept 0 n
      (λ j. swept_bit (has u j) (has m j) (has q j) (tag_at t j) (kept.marks_used j))

  -- the places of lost blocks are free now
  pub free_sweep : AreKept n u m q t → count_by is_free (cells_of n m m q t) ≡ count_by is_free (cells_of n u m q t) + count_by is_lost (cells_of n u m q t)
  free_sweep kept = omega (arith, count_used n u m q t kept, count_lost n u m q t kept, count_used n m m q t (kept_sweep kept))

  pub cells_clear : (w r : List ℕ) → ((i : ℕ) → has w i ≡ false) → cells_of n u w r t ≡ map unmarked (cells_of n u m q t)
  cells_clear w r gone =
      table_map (cell_of u m q t) (cell_of u w r t) unmarked 0 n
      (λ j. ap (λ b. cell_from (has u j) b (has r j) (tag_at t j)) (gone j)
      ∙ unmarked_bit (has u j) (has m j) (has q j) (has r j) (tag_at t j))

  pub cells_fill : (v w r : List ℕ) → ((i : ℕ) → i < n → has v i ≡ true) → ((i : ℕ) → has w i ≡ false) → cells_of n v w r t ≡ replicate n (Used None)
  cells_fill v w r all gone =
      table_all (cell_of v w r t) n (Used None) (λ k low. fresh_cell (has v k) (has w k) (has r k) (tag_at t k) (all k low) (gone k))

  pub kept_fill : (v w r : List ℕ) → AreKept n u m q t → length v ≡ length u → ((i : ℕ) → n ≤ i → has v i ≡ has u i)
      → length w ≡ length m → ((i : ℕ) → has w i ≡ false) → length r ≡ length q → ((i : ℕ) → has r i ≡ false) → AreKept n v w r t
  kept_fill v w r kept len others len-2 gone len-3 gone-2 = record {
    tag_count = kept.tag_count;
    room = omega (arith, kept.room, len);
    fits = omega (arith, kept.fits, len);
    marked_words = len-2 ∙ kept.marked_words ∙ sym len;
    pending_words = len-3 ∙ kept.pending_words ∙ sym len;
    within = λ i used. elim (cases_lt i n) [
      | inl low ↦ low
      | inr past ↦ absurd (true≢false (sym used ∙ others i past ∙ no_place n u m q t kept i past))
    ];
    marks_used = λ i marked. absurd (true≢false (sym marked ∙ gone i));
    pending_marked = λ i pending. absurd (true≢false (sym pending ∙ gone-2 i));
  }

  pub marked_at : AreKept n u m q t → (k : ℕ) → is_marked (cell_at (cells_of n u m q t) k) ≡ has m k
  marked_at kept k = ap is_marked (place_at n u m q t kept k) ∙ marked_bit (has u k) (has m k) (has q k) (tag_at t k) (kept.marks_used k)

  pub mark_at : AreKept n u m q t → (k : ℕ) → mark_in (cell_at (cells_of n u m q t) k) ≡ cond (has m k) (Some (mark_from (has q k) (tag_at t k))) None
  mark_at kept k = ap mark_in (place_at n u m q t kept k) ∙ mark_bit (has u k) (has m k) (has q k) (tag_at t k) (kept.marks_used k)

  pub used_at : AreKept n u m q t → (k : ℕ) → is_free (cell_at (cells_of n u m q t) k) ≡ false → has u k ≡ true
  used_at kept k used =
      not-false (has u k)
      (sym (free_bit (has u k) (has m k) (has q k) (tag_at t k)) ∙ ap is_free (sym (place_at n u m q t kept k)) ∙ used)

  pub free_at : AreKept n u m q t → (k : ℕ) → has u k ≡ false → cell_at (cells_of n u m q t) k ≡ Free
  free_at kept k free = place_at n u m q t kept k ∙ empty_cell (has u k) (has m k) (has q k) (tag_at t k) free
