-- One more block, at its place by address.
use Rattle.std.proofs.Common.{◌≡◌, ◌≢◌, ℕ, zero, suc, ◌+◌, ◌*◌, ◌/◌, ◌^◌, ◌<◌, ◌≤◌, Bool, true, ◌&&◌, cond, List, [], ◌∷◌, ◌++◌, length, set, map, flat_map, Some, None, unwrap_or, refl, sym, ap, subst, ◌∙◌, inl, inr, arith}
use Rattle.std.specs.Prelude.{Contains, nat_lt, slice_get}
use Rattle.std.specs.List.{list_all, range_with_len}
use Rattle.std.proofs.Math.Nat.{mul-div-le, mul-le-mul_left, mul-le-mul_right}
use Rattle.std.proofs.lemmas.Nat.{le-div}
use Rattle.std.proofs.lemmas.Bool.{and_parts, cases_eq, cases_lt, false≢true, le-leb, le-ltb, lt-leb, lt-ltb, ltb-true}
use Rattle.std.proofs.lemmas.Option.{slice_get_within, get_or_from_slice_get}
use Rattle.gt_bits.specs.Sets.{has}
use Rattle.gt_entries.specs.Cells.{Cell, Free, Used, cell_at, is_free}
use Rattle.gt_pages.specs.declared.store.Entry.{Entry}
use Rattle.gt_pages.specs.Ledger.{insert_by, page_address, pages_of, sizes}
use Rattle.gt_pages.specs.Slots.{Slot, block_of, slot_at, with_slot}
use Rattle.gt_pages.specs.Contents.{IsSize, places_of}
use Rattle.gt_pages.specs.Places.{IsWithin}
use Rattle.gt_pages.specs.Parts.{IsKept, Parts, contents_of, entry_at, entry_pages, page_slots, slots_in}
use Rattle.gt_pages.proofs.CachedLemmas.{flat_same}
use Rattle.gt_pages.proofs.NextLemmas.{entry_ends}
use Rattle.gt_pages.proofs.SizeLemmas.{each_passes, size_bounds}
use Rattle.gt_pages.proofs.SlotLemmas.{contains_flat, slot_of}
use Rattle.gt_pages.proofs.WhereLemmas.{entry_some, page_slot, place_ends}

-- ---- a block that is put into a list

insert_before : (x : Slot) (ys : List Slot) → ((s : Slot) → Contains ys s → x.address < s.address) → with_slot ys x ≡ x ∷ ys
insert_before x [] above = refl
insert_before x (y ∷ ys) above =
    ap (λ b. cond b (x ∷ y ∷ ys) (y ∷ with_slot ys x)) (lt-ltb x.address y.address (above y (0, omega arith, refl)))

insert_after : (x y : Slot) (ys : List Slot) → y.address ≤ x.address → with_slot (y ∷ ys) x ≡ y ∷ with_slot ys x
insert_after x y ys low = ap (λ b. cond b (x ∷ y ∷ ys) (y ∷ with_slot ys x)) (le-ltb x.address y.address low)

insert_past : (x : Slot) (ys zs : List Slot) → ((s : Slot) → Contains zs s → x.address < s.address) → with_slot ys x ++ zs ≡ with_slot (ys ++ zs) x
insert_past x [] zs above = sym (insert_before x zs above)
insert_past x (y ∷ ys) zs above = elim (cases_lt x.address y.address) [
  | inl low ↦
      let first = lt-ltb x.address y.address low in
      ap (λ b. cond b (x ∷ y ∷ ys) (y ∷ with_slot ys x) ++ zs) first
      ∙ sym (ap (λ b. cond b (x ∷ y ∷ (ys ++ zs)) (y ∷ with_slot (ys ++ zs) x)) first)
  | inr high ↦
      ap (λ xs. xs ++ zs) (insert_after x y ys high)
      ∙ ap (λ xs. y ∷ xs) (insert_past x ys zs above)
      ∙ sym (insert_after x y (ys ++ zs) high)
]

insert_rest : (x : Slot) (ys zs : List Slot) → ((s : Slot) → Contains ys s → s.address ≤ x.address) → with_slot (ys ++ zs) x ≡ ys ++ with_slot zs x
insert_rest x [] zs below = refl
insert_rest x (y ∷ ys) zs below =
    insert_after x y (ys ++ zs) (below y (0, omega arith, refl))
    ∙ ap (λ xs. y ∷ xs) (insert_rest x ys zs (λ s there. below s (suc there.0, omega (arith, there.1), there.2)))

-- into one of many lists
module _ (f g : ℕ → List Slot) (k : ℕ) (x : Slot) (here : g k ≡ with_slot (f k) x) (others : (j : ℕ) → j ≢ k → g j ≡ f j)
    (below : (j : ℕ) (s : Slot) → j < k → Contains (f j) s → s.address ≤ x.address)
    (above : (j : ℕ) (s : Slot) → k < j → Contains (f j) s → x.address < s.address) where
  pub insert_flat : (a n : ℕ) → a ≤ k → k < a + n → flat_map g (range_with_len a n) ≡ with_slot (flat_map f (range_with_len a n)) x
  insert_flat a zero high low = absurd (let no : 1 ≤ 0 = omega (arith, high, low) in omega (arith, no))
  insert_flat a (suc n) high low =
      let old : List Slot = flat_map f (range_with_len (a + 1) n) in
      let new : List Slot = flat_map g (range_with_len (a + 1) n) in
      elim (cases_eq a k) [
        | inl same ↦
            ap (λ xs. xs ++ new) (subst (λ i. g i ≡ with_slot (f i) x) (sym same) here)
            ∙ ap (λ ys. with_slot (f a) x ++ ys) (flat_same f g (a + 1) n (λ j from to. others j (λ is. omega (arith, is, same, from))))
            ∙ insert_past x (f a) old (λ s there. let at = contains_flat f (a + 1) n s there in above at.0 s (omega (arith, same, at.1)) at.3)
        | inr apart ↦
            ap (λ xs. xs ++ new) (others a apart)
            ∙ ap (λ ys. f a ++ ys) (insert_flat (a + 1) n (omega (arith, high, apart)) (omega (arith, low)))
            ∙ sym (insert_rest x (f a) old (λ s there. below a s (omega (arith, high, apart)) there))
      ]

-- the block alone
pub blocks_added : (x : Slot) (ys : List Slot) → map block_of (with_slot ys x) ≡ insert_by (λ b. b.address) (block_of x) (map block_of ys)
blocks_added x [] = refl
blocks_added x (y ∷ ys) = elim (cases_lt x.address y.address) [
  | inl low ↦
      let first = lt-ltb x.address y.address low in
      ap (λ b. map block_of (cond b (x ∷ y ∷ ys) (y ∷ with_slot ys x))) first
      ∙ sym (ap (λ b. cond b (block_of x ∷ block_of y ∷ map block_of ys) (block_of y ∷ insert_by (λ b. b.address) (block_of x) (map block_of ys))) first)
  | inr high ↦
      let later = le-ltb x.address y.address high in
      ap (λ b. map block_of (cond b (x ∷ y ∷ ys) (y ∷ with_slot ys x))) later
      ∙ ap (λ bs. block_of y ∷ bs) (blocks_added x ys)
      ∙ sym (ap (λ b. cond b (block_of x ∷ block_of y ∷ map block_of ys) (block_of y ∷ insert_by (λ b. b.address) (block_of x) (map block_of ys))) later)
]

-- ---- a block at a free place

pub slots_taken : (start size k addr : ℕ) (cells : List Cell) → 0 < size → addr ≡ start + size * k → k < length cells → cell_at cells k ≡ Free
    → slots_in start size (set cells k (Used None)) ≡ with_slot (slots_in start size cells) (slot_at addr size)
slots_taken start size k addr [] some is low free = absurd (let no : 1 ≤ 0 = omega (arith, low) in omega (arith, no))
slots_taken start size zero addr (Free ∷ cells) some is low free =
    let at : addr ≡ start = omega (arith, is) in
    ap (λ a. slot_at a size ∷ slots_in (start + size) size cells) (sym at)
    ∙ sym (insert_before (slot_at addr size) (slots_in (start + size) size cells)
    (λ s there. let slot = slot_of (start + size) size cells s there in omega (arith, slot.address, at, some)))
slots_taken start size zero addr (Used m ∷ cells) some is low free = absurd (false≢true (ap is_free free))
slots_taken start size (suc k) addr (Free ∷ cells) some is low free =
    slots_taken (start + size) size k addr cells some (omega (arith, is)) (omega (arith, low)) free
slots_taken start size (suc k) addr (Used m ∷ cells) some is low free =
    let s : Slot = record { address = start; size = size; mark = m } in
    let next : addr ≡ start + size + size * k = omega (arith, is) in
    ap (λ ys. s ∷ ys) (slots_taken (start + size) size k addr cells some next (omega (arith, low)) free)
    ∙ sym (insert_after (slot_at addr size) s (slots_in (start + size) size cells) (omega (arith, next)))

-- one entry has one more block, and the others are as they were
module _ (p q : Parts) (page k size : ℕ) (kept : IsKept q) (pages : q.pages ≡ p.pages) (starts : has q.starts page ≡ true)
    (low : k < length (entry_at q.entries page).places) (sized : (entry_at q.entries page).size ≡ size)
    (here : page_slots q page ≡ with_slot (page_slots p page) (slot_at (page_address page + size * k) size))
    (others : (j : ℕ) → j ≢ page → page_slots q j ≡ page_slots p j) where
  slot_below : (j : ℕ) (s : Slot) → j < page → Contains (page_slots p j) s → s.address ≤ page_address page + size * k
  slot_below j s before there =
      let is = page_slot q j s (subst (λ xs. Contains xs s) (sym (others j (λ same. omega (arith, same, before)))) there) in
      let entry : Entry = entry_at q.entries j in
      let apart = entry_ends q j page kept is.0 starts before in
      let ends = place_ends entry.size (length entry.places) is.1.place is.1.low in
      let at = is.1.address in
      omega (arith, at, ends, apart)

  slot_above : (j : ℕ) (s : Slot) → page < j → Contains (page_slots p j) s → page_address page + size * k < s.address
  slot_above j s before there =
      let is = page_slot q j s (subst (λ xs. Contains xs s) (sym (others j (λ same. omega (arith, same, before)))) there) in
      let entry : Entry = entry_at q.entries page in
      let apart = entry_ends q page j kept starts is.0 before in
      let ends = place_ends entry.size (length entry.places) k low in
      let at = is.1.address in
      let same : entry.size * k ≡ size * k = ap (λ n. n * k) sized in
      let some = entry_some q page kept starts in
      omega (arith, at, ends, apart, same, some)

  pub slots_added : (contents_of q).slots ≡ with_slot (contents_of p).slots (slot_at (page_address page + size * k) size)
  slots_added =
      let inside = kept.starts page starts in
      ap (λ n. flat_map (page_slots q) (range_with_len 0 n)) pages
      ∙ insert_flat (page_slots p) (page_slots q) page (slot_at (page_address page + size * k) size) here others slot_below slot_above 0 p.pages
      (omega arith) (omega (arith, inside, pages))

-- ---- listed sizes

abbrev are_rising : List ℕ → Bool
are_rising [] = true
are_rising (x ∷ xs) = list_all (nat_lt x) xs && are_rising xs

pub some_is : (x y : ℕ) → Some x ≡ Some y → x ≡ y
some_is x y e = ap (λ o. unwrap_or o 0) e

pub contained : (xs : List ℕ) (k x : ℕ) → slice_get xs k ≡ Some x → Contains xs x
contained xs k x at = (k, slice_get_within xs k x at, get_or_from_slice_get xs k x x at)

-- a number stands once in a list that rises
one_place : (xs : List ℕ) (i j x : ℕ) → are_rising xs ≡ true → slice_get xs i ≡ Some x → slice_get xs j ≡ Some x → i ≡ j
one_place [] i j x rises at-i at-j = absurd (let no = slice_get_within [] i x at-i in omega (arith, no))
one_place (y ∷ ys) zero zero x rises at-i at-j = refl
one_place (y ∷ ys) zero (suc j) x rises at-i at-j =
    let above = ltb-true y x (each_passes (nat_lt y) ys (and_parts (list_all (nat_lt y) ys) (are_rising ys) rises).0 x (contained ys j x at-j)) in
    let same = some_is y x at-i in
    absurd (omega (arith, above, same))
one_place (y ∷ ys) (suc i) zero x rises at-i at-j =
    let above = ltb-true y x (each_passes (nat_lt y) ys (and_parts (list_all (nat_lt y) ys) (are_rising ys) rises).0 x (contained ys i x at-i)) in
    let same = some_is y x at-j in
    absurd (omega (arith, above, same))
one_place (y ∷ ys) (suc i) (suc j) x rises at-i at-j =
    ap suc (one_place ys i j x (and_parts (list_all (nat_lt y) ys) (are_rising ys) rises).1 at-i at-j)

sizes_rise : are_rising sizes ≡ true
sizes_rise = refl

-- a size has one number
pub one_number : (i j size : ℕ) → IsSize i size → IsSize j size → i ≡ j
one_number i j size at-i at-j = one_place sizes i j size sizes_rise at-i at-j

-- ---- the places of a size

places_small : (size : ℕ) → size ≤ 4096 → places_of size ≡ 4096 / size
places_small size small = ap (λ b. cond b (4096 / size) 1) (le-leb size 4096 small)

places_large : (size : ℕ) → 4096 < size → places_of size ≡ 1
places_large size large = ap (λ b. cond b (4096 / size) 1) (lt-leb size 4096 large)

-- a size has a place, and few of them, in as many pages as it needs
pub record Shape (size : ℕ) : Type 0 where
  pub some : 1 ≤ places_of size
  pub few : places_of size ≤ 4096
  pub bytes : size * places_of size < 2 ^ 40
  pub pages : pages_of (size * places_of size) ≡ pages_of size
  pub one : 4096 < size → places_of size ≡ 1
  pub fits : size ≤ 4096 → size * places_of size ≤ 4096
  pub most : (k : ℕ) → size ≤ 4096 → size * k + size ≤ 4096 → k < places_of size

pub shape : (size : ℕ) → Contains sizes size → Shape size
shape size listed =
    let bounds = size_bounds size listed in
    elim (cases_lt 4096 size) [
      | inl large ↦
          let one = places_large size large in
          let whole : size * places_of size ≡ size = ap (λ n. size * n) one ∙ omega arith in
          record {
            some = omega (arith, one);
            few = omega (arith, one);
            bytes = omega (arith, whole, bounds.1);
            pages = ap pages_of whole;
            one = λ _. one;
            fits = λ small. omega (arith, small, large);
            most = λ k small _. omega (arith, small, large);
          }
      | inr small ↦
          let many = places_small size small in
          let least = le-div 1 4096 size bounds.0 (omega (arith, small)) in
          let fits : size * places_of size ≤ 4096 = subst (λ n. size * n ≤ 4096) (sym many) (mul-div-le 4096 size) in
          let some : 1 ≤ places_of size = omega (arith, least, many) in
          let more = mul-le-mul_left {m = 1} {n = places_of size} size some in
          let fewer = mul-le-mul_right {m = 1} {n = size} (places_of size) bounds.0 in
          record {
            some = some;
            few = omega (arith, fewer, fits);
            bytes = omega (arith, fits);
            pages = omega (arith, fits, more, bounds.0, small);
            one = λ large. omega (arith, small, large);
            fits = λ _. fits;
            most = λ k _ ends. let next = le-div (k + 1) 4096 size bounds.0 (omega (arith, ends)) in omega (arith, next, many);
          }
    ]

-- a place of a size lies in the pages that the size needs
pub place_within : (page size k : ℕ) → Contains sizes size → k < places_of size → IsWithin page size (page_address page + size * k)
place_within page size k listed low =
    let is = shape size listed in
    let bounds = size_bounds size listed in
    let ends = place_ends size (places_of size) k low in
    let more = mul-le-mul_left {m = suc k} {n = places_of size} size low in
    let next : size * suc k ≡ size * k + size = omega arith in
    let start : size * k < 4096 = elim (cases_lt 4096 size) [
      | inl large ↦
          let first : k ≡ 0 = (let one = is.one large in omega (arith, low, one)) in
          let none : size * k ≡ 0 = ap (λ n. size * n) first ∙ omega arith in
          omega (arith, none)
      | inr small ↦ let fits = is.fits small in omega (arith, fits, more, next, bounds.0)
    ] in
    let pages = is.pages in
    record {
      starts = omega (arith, start);
      from = omega arith;
      to = omega (arith, ends, pages);
    }

-- an entry with a place has a page
pub some_pages : (entry : Entry) → Contains sizes entry.size → 1 ≤ length entry.places → 1 ≤ entry_pages entry
some_pages entry listed some =
    let bounds = size_bounds entry.size listed in
    let more = mul-le-mul_left {m = 1} {n = length entry.places} entry.size some in
    let positive = bounds.0 in
    omega (arith, more, positive)

pub place_bytes : (size k : ℕ) → Contains sizes size → k < places_of size → size * k < 2 ^ 40
place_bytes size k listed low =
    let more = mul-le-mul_left {m = k} {n = places_of size} size (omega (arith, low)) in
    let few = (shape size listed).bytes in
    omega (arith, more, few)
