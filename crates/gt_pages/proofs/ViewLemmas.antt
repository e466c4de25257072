-- What holds of the contents at all times.
use Rattle.std.proofs.Common.{◌≡◌, ◌≢◌, ℕ, zero, suc, ◌+◌, ◌*◌, ◌/◌, ◌%◌, ◌<◌, ◌≤◌, ◌⊎◌, true, false, cond, List, [], ◌∷◌, ◌++◌, length, map, flat_map, Option, Some, None, is_some, sym, ap, subst, ◌∙◌, inl, inr, arith}
use Rattle.std.specs.Prelude.{All, Contains, slice_get}
use Rattle.std.proofs.lemmas.Bool.{cases_Bool, cases_eq, cases_lt, false≢true, le-leb, lt-leb}
use Rattle.std.proofs.Math.Nat.{mul-div-le, mul-le-mul_left, mul-mod_right}
use Rattle.std.proofs.lemmas.List.Elements.{All-cons, All-contains_itself, All-map, All-nil, All-weaker}
use Rattle.std.specs.List.{range_with_len}
use Rattle.gt_space.specs.declared.TheConstants.{HEAP_START}
use Rattle.gt_space.specs.Laws.{IsApart}
use Rattle.gt_bits.specs.Sets.{has}
use Rattle.gt_entries.specs.Cells.{Cell, Free, Used}
use Rattle.gt_pages.specs.declared.store.Entry.{Entry}
use Rattle.gt_pages.specs.Ledger.{AreApart, Block, IsInPlace, IsOffPage, LiesInside, LiesOutside, Sound, offset_of, page_address, page_of, pages_of, sizes}
use Rattle.gt_pages.specs.Slots.{Slot, block_of}
use Rattle.gt_pages.specs.Contents.{AreLaidOut, Rises, ledger_of, places_of}
use Rattle.gt_pages.specs.Parts.{IsKept, IsOfImage, Parts, contents_of, entry_at, entry_pages, page_slots, slots_in}
use Rattle.gt_pages.proofs.SlotLemmas.{IsSlotOf, contains_flat}
use Rattle.gt_pages.proofs.WhereLemmas.{entry_some, page_slot, place_ends}
use Rattle.gt_pages.proofs.NextLemmas.{entry_ends}

-- ---- blocks one after the other

-- the blocks lie between two addresses, each after the one before it
abbrev pub Climbs : (low high : ℕ) → List Slot → Type 0
Climbs low high [] = low ≤ high
Climbs low high (s ∷ slots) = (low ≤ s.address) × (0 < s.size) × Climbs (s.address + s.size) high slots

climbs_from : (low start high : ℕ) (xs : List Slot) → low ≤ start → Climbs start high xs → Climbs low high xs
climbs_from low start high [] below is = omega (arith, below, is)
climbs_from low start high (x ∷ xs) below is = (let at = is.0 in omega (arith, below, at), is.1, is.2)

climbs_append : (low mid high : ℕ) (xs ys : List Slot) → Climbs low mid xs → Climbs mid high ys → Climbs low high (xs ++ ys)
climbs_append low mid high [] ys first rest = climbs_from low mid high ys first rest
climbs_append low mid high (x ∷ xs) ys first rest = (first.0, first.1, climbs_append (x.address + x.size) mid high xs ys first.2 rest)

climbs_to : (low end high : ℕ) (xs : List Slot) → end ≤ high → Climbs low end xs → Climbs low high xs
climbs_to low end high [] below is = omega (arith, below, is)
climbs_to low end high (x ∷ xs) below is = (is.0, is.1, climbs_to (x.address + x.size) end high xs below is.2)

climbs_in : (start size : ℕ) (cells : List Cell) → 0 < size → Climbs start (start + size * length cells) (slots_in start size cells)
climbs_in start size [] some = omega arith
climbs_in start size (Free ∷ cells) some =
    let next : start + size + size * length cells ≡ start + size * suc (length cells) = omega arith in
    climbs_from start (start + size) (start + size * suc (length cells)) (slots_in (start + size) size cells) (omega arith)
    (subst (λ end. Climbs (start + size) end (slots_in (start + size) size cells)) next (climbs_in (start + size) size cells some))
climbs_in start size (Used m ∷ cells) some =
    let next : start + size + size * length cells ≡ start + size * suc (length cells) = omega arith in (
      omega arith,
      some,
      subst (λ end. Climbs (start + size) end (slots_in (start + size) size cells)) next (climbs_in (start + size) size cells some),
    )

climbs_low : (low high : ℕ) (xs : List Slot) → Climbs low high xs → low ≤ high
climbs_low low high [] is = is
climbs_low low high (x ∷ xs) is =
    let at = is.0 in let rest = climbs_low (x.address + x.size) high xs is.2 in omega (arith, at, rest)

climbs_bounds : (low high : ℕ) (xs : List Slot) → Climbs low high xs → All (λ s. (low ≤ s.address) × (s.address + s.size ≤ high)) xs
climbs_bounds low high [] is = All-nil (λ s. (low ≤ s.address) × (s.address + s.size ≤ high))
climbs_bounds low high (x ∷ xs) is =
    let at = is.0 in
    All-cons (λ s. (low ≤ s.address) × (s.address + s.size ≤ high)) x xs (at, climbs_low (x.address + x.size) high xs is.2)
    (All-weaker (λ s. (x.address + x.size ≤ s.address) × (s.address + s.size ≤ high)) (λ s. (low ≤ s.address) × (s.address + s.size ≤ high))
    (λ s b. (let from = b.0 in omega (arith, from, at), b.1)) xs (climbs_bounds (x.address + x.size) high xs is.2))

climbs_apart : (low high : ℕ) (xs : List Slot) → Climbs low high xs → AreApart (map block_of xs)
climbs_apart low high [] is = tt
climbs_apart low high (x ∷ xs) is = (
  All-map (λ c. IsApart x.address x.size c.address c.size) block_of xs
      (All-weaker (λ s. (x.address + x.size ≤ s.address) × (s.address + s.size ≤ high)) (λ s. IsApart x.address x.size s.address s.size)
      (λ s b. inl b.0) xs (climbs_bounds (x.address + x.size) high xs is.2)),
  climbs_apart (x.address + x.size) high xs is.2,
)

abbrev address_or : ℕ → Option Slot → ℕ
address_or n None = n
address_or n (Some s) = s.address

first_above : (low high : ℕ) (xs : List Slot) (t : Slot) → Climbs low high xs → slice_get xs 0 ≡ Some t → low ≤ t.address
first_above low high [] t is at = absurd (false≢true (ap is_some at))
first_above low high (x ∷ xs) t is at =
    let from = is.0 in let same : x.address ≡ t.address = ap (address_or 0) at in omega (arith, from, same)

climbs_rise : (low high : ℕ) (xs : List Slot) → Climbs low high xs → Rises xs
climbs_rise low high [] is i s t at-s at-t = absurd (false≢true (ap is_some at-s))
climbs_rise low high (x ∷ xs) is zero s t at-s at-t =
    let same : x.address ≡ s.address = ap (address_or 0) at-s in
    let above = first_above (x.address + x.size) high xs t is.2 at-t in
    let some = is.1 in
    omega (arith, same, above, some)
climbs_rise low high (x ∷ xs) is (suc i) s t at-s at-t =
    let next : suc i + 1 ≡ suc (i + 1) = omega arith in
    climbs_rise (x.address + x.size) high xs is.2 i s t at-s (subst (λ k. slice_get (x ∷ xs) k ≡ Some t) next at-t)

-- ---- the blocks of all entries

pub no_start : (p : Parts) (page : ℕ) → has p.starts page ≡ false → page_slots p page ≡ []
no_start p page none = ap (λ b. cond b (slots_in (page_address page) (entry_at p.entries page).size (entry_at p.entries page).places) []) none

pub started_slots : (p : Parts) (page : ℕ) → has p.starts page ≡ true
    → page_slots p page ≡ slots_in (page_address page) (entry_at p.entries page).size (entry_at p.entries page).places
started_slots p page starts = ap (λ b. cond b (slots_in (page_address page) (entry_at p.entries page).size (entry_at p.entries page).places) []) starts

page_climbs : (p : Parts) (page : ℕ) → IsKept p → has p.starts page ≡ true
    → Climbs (page_address page) (page_address (page + entry_pages (entry_at p.entries page))) (page_slots p page)
page_climbs p page kept starts =
    let entry : Entry = entry_at p.entries page in
    subst (λ xs. Climbs (page_address page) (page_address (page + entry_pages entry)) xs) (sym (started_slots p page starts))
    (climbs_to (page_address page) (page_address page + entry.size * length entry.places) (page_address (page + entry_pages entry))
    (slots_in (page_address page) entry.size entry.places) (ends page (entry.size * length entry.places))
    (climbs_in (page_address page) entry.size entry.places (entry_some p page kept starts)))
  where
    ends : (page bytes : ℕ) → page_address page + bytes ≤ page_address (page + pages_of bytes)
    ends page bytes = omega arith

module _ (p : Parts) (kept : IsKept p) where
  -- no entry from page a on starts below a page
  climbs_pages : (from a n : ℕ) → a + n ≡ p.pages → from ≤ p.pages → ((j : ℕ) → a ≤ j → has p.starts j ≡ true → from ≤ j)
      → Climbs (page_address from) (page_address p.pages) (flat_map (page_slots p) (range_with_len a n))
  climbs_pages from a zero end low none = omega (arith, low)
  climbs_pages from a (suc n) end low none =
      let rest : List Slot = flat_map (page_slots p) (range_with_len (a + 1) n) in
      elim (cases_Bool (has p.starts a)) [
        | inl starts ↦
            let past : ℕ = a + entry_pages (entry_at p.entries a) in
            let below = none a (omega arith) starts in
            climbs_append (page_address from) (page_address past) (page_address p.pages) (page_slots p a) rest
            (climbs_from (page_address from) (page_address a) (page_address past) (page_slots p a) (omega (arith, below)) (page_climbs p a kept starts))
            (climbs_pages past (a + 1) n (omega (arith, end)) (kept.in_use a starts).in_space
            (λ j high started. entry_ends p a j kept starts started (omega (arith, high))))
        | inr idle ↦
            subst (λ xs. Climbs (page_address from) (page_address p.pages) (xs ++ rest)) (sym (no_start p a idle))
            (climbs_pages from (a + 1) n (omega (arith, end)) low (λ j high started. none j (omega (arith, high)) started))
      ]

  pub climbs_all : Climbs HEAP_START (page_address p.pages) (contents_of p).slots
  climbs_all = climbs_from HEAP_START (page_address 0) (page_address p.pages) (contents_of p).slots (omega arith)
      (climbs_pages 0 0 p.pages (omega arith) (omega arith) (λ j _ _. omega arith))

  -- what holds of each block
  pub each_block : (P : Block → Type 0) → ((s : Slot) → Contains (contents_of p).slots s → P (block_of s)) → All P (ledger_of (contents_of p)).blocks
  each_block P each =
      All-map P block_of (contents_of p).slots
      (All-weaker (λ s. Contains (contents_of p).slots s) (λ s. P (block_of s)) each (contents_of p).slots (All-contains_itself (contents_of p).slots))

-- ---- where a block lies

-- the block lies in the entry of a page
pub record IsOfEntry (p : Parts) (page : ℕ) (s : Slot) : Type 0 where
  pub starts : has p.starts page ≡ true
  pub slot : IsSlotOf (page_address page) (entry_at p.entries page).size (entry_at p.entries page).places s
  pub some : 0 < s.size
  pub from : page_address page ≤ s.address
  pub to : s.address + s.size ≤ page_address (page + entry_pages (entry_at p.entries page))

pub of_entry : (p : Parts) (page : ℕ) (s : Slot) → IsKept p → Contains (page_slots p page) s → IsOfEntry p page s
of_entry p page s kept there =
    let is = page_slot p page s there in
    let entry : Entry = entry_at p.entries page in
    let some = entry_some p page kept is.0 in
    let ends = place_ends entry.size (length entry.places) is.1.place is.1.low in
    record {
      starts = is.0;
      slot = is.1;
      some = omega (arith, some, is.1.sized);
      from = omega (arith, is.1.address);
      to = omega (arith, is.1.address, is.1.sized, ends);
    }

pub where_is : (p : Parts) (s : Slot) → IsKept p → Contains (contents_of p).slots s → (page : ℕ) × IsOfEntry p page s
where_is p s kept there =
    let at = contains_flat (page_slots p) 0 p.pages s there in
    (at.0, of_entry p at.0 s kept at.3)

-- an entry outside the image: its blocks lie in its first page, and a larger one starts there
pub record IsOutside (p : Parts) (page : ℕ) (s : Slot) (k : ℕ) : Type 0 where
  pub address : s.address ≡ page_address page + s.size * k
  pub small : s.size ≤ 4096 → s.size * k + s.size ≤ 4096
  pub large : 4096 < s.size → s.size * k ≡ 0
  pub first : page_of s.address ≡ page

small_fits : (size len k : ℕ) → len ≡ places_of size → k < len → size ≤ 4096 → size * k + size ≤ 4096
small_fits size len k count low small =
    let many : len ≡ 4096 / size = count ∙ ap (λ b. cond b (4096 / size) 1) (le-leb size 4096 small) in
    let fits = mul-div-le 4096 size in
    let more = mul-le-mul_left {m = suc k} {n = 4096 / size} size (omega (arith, low, many)) in
    let next : size * suc k ≡ size * k + size = omega arith in
    omega (arith, fits, more, next)

large_first : (size len k : ℕ) → len ≡ places_of size → k < len → 4096 < size → size * k ≡ 0
large_first size len k count low large =
    let one : len ≡ 1 = count ∙ ap (λ b. cond b (4096 / size) 1) (lt-leb size 4096 large) in
    let first : k ≡ 0 = omega (arith, low, one) in
    ap (λ j. size * j) first ∙ omega arith

pub outside_slot : (p : Parts) (page : ℕ) (s : Slot) → IsKept p → (is : IsOfEntry p page s) → ¬ (IsOfImage p page) → IsOutside p page s is.slot.place
outside_slot p page s kept is outside =
    let entry : Entry = entry_at p.entries page in
    let k : ℕ = is.slot.place in
    let count = (kept.in_use page is.starts).count outside in
    let same : entry.size * k ≡ s.size * k = ap (λ n. n * k) (sym is.slot.sized) in
    let small : s.size ≤ 4096 → s.size * k + s.size ≤ 4096 = λ small.
    (let fits = small_fits entry.size (length entry.places) k count is.slot.low (omega (arith, small, is.slot.sized)) in omega (arith, fits, same, is.slot.sized)) in
    let large : 4096 < s.size → s.size * k ≡ 0 = λ large.
    (let first = large_first entry.size (length entry.places) k count is.slot.low (omega (arith, large, is.slot.sized)) in omega (arith, first, same)) in
    record {
      address = omega (arith, is.slot.address, same);
      small = small;
      large = large;
      first = elim (cases_lt 4096 s.size) [
        | inl more ↦ let none = large more in omega (arith, is.slot.address, same, none)
        | inr fits ↦ let within = small fits in let some = is.some in omega (arith, is.slot.address, same, within, some)
      ];
    }

-- ---- sound

module _ (p : Parts) (kept : IsKept p) where
  -- a block of the image's entries lies inside it, and the others outside
  pub inside_image : (page : ℕ) (s : Slot) → IsOfEntry p page s → IsOfImage p page → LiesInside (ledger_of (contents_of p)) s.address s.size
  inside_image page s is of =
      let in' = (kept.in_use page is.starts).inside of in
      let first = of.0 in
      let from = is.from in
      let to = is.to in
      (omega (arith, first, from), omega (arith, in', to))

  pub outside_image : (page : ℕ) (s : Slot) → IsOfEntry p page s → ¬ (IsOfImage p page) → LiesOutside (ledger_of (contents_of p)) s.address s.size
  outside_image page s is out q of = elim (cases_lt page p.image.first) [
    | inl before ↦
        let ends = (kept.in_use page is.starts).before before (omega (arith, of.0, of.1)) in
        let first = of.0 in
        let to = is.to in
        inl (omega (arith, ends, first, to))
    | inr past ↦ elim (cases_lt page (p.image.first + p.image.count)) [
      | inl low ↦ absurd (out (past, low))
      | inr after ↦ let last = of.1 in let from = is.from in inr (omega (arith, after, last, from))
    ]
  ]

  -- a block with no byte in the image is of an entry outside it
  pub entry_outside : (page : ℕ) (s : Slot) → IsOfEntry p page s → LiesOutside (ledger_of (contents_of p)) s.address s.size → ¬ (IsOfImage p page)
  entry_outside page s is out of =
      let in' = (kept.in_use page is.starts).inside of in
      let first = of.0 in
      let from = is.from in
      let to = is.to in
      let some = is.some in
      let low : p.image.first ≤ page_of s.address = omega (arith, first, from) in
      let high : page_of s.address < p.image.first + p.image.count = omega (arith, in', to, some, from) in
      elim (out (page_of s.address) (low, high)) [
        | inl before ↦ omega (arith, before, some, from)
        | inr after ↦ omega (arith, after, from)
      ]

  -- entries apart
  pub off_other : (page other : ℕ) (s : Slot) → has p.starts page ≡ true → IsOfEntry p other s → other ≢ page → IsOffPage s.address s.size page
  off_other page other s starts is apart = elim (cases_lt other page) [
    | inl before ↦
        let ends = entry_ends p other page kept is.starts starts before in
        let to = is.to in
        inl (omega (arith, ends, to))
    | inr past ↦ let from = is.from in inr (omega (arith, past, apart, from))
  ]

  in_place : (s : Slot) → Contains (contents_of p).slots s → LiesOutside (ledger_of (contents_of p)) s.address s.size
      → IsInPlace (ledger_of (contents_of p)) (block_of s)
  in_place s there out =
      let at = where_is p s kept there in
      let is = at.1 in
      let lies = outside_slot p at.0 s kept is (entry_outside at.0 s is out) in
      let k : ℕ = is.slot.place in
      record {
        small = λ small.
            let fits = lies.small small in
            let some = is.some in
            let off : offset_of s.address ≡ s.size * k = omega (arith, lies.address, fits, some) in
            (ap (λ n. n % s.size) off ∙ mul-mod_right s.size k, omega (arith, off, fits));
        alike = λ small.
            each_block p kept (λ c. (c.size ≡ s.size) ⊎ IsOffPage c.address c.size (page_of s.address))
            (λ c c-there.
            let c-at = where_is p c kept c-there in
            elim (cases_eq c-at.0 at.0) [
              | inl same ↦ inl (c-at.1.slot.sized ∙ ap (λ j. (entry_at p.entries j).size) same ∙ sym is.slot.sized)
              | inr apart ↦
                  inr (subst (λ j. IsOffPage c.address c.size j) (sym lies.first) (off_other at.0 c-at.0 c is.starts c-at.1 apart))
            ]);
        large = λ large. let none = lies.large large in omega (arith, lies.address, none);
      }

  is_sound : Sound (ledger_of (contents_of p))
  is_sound = record {
    in_space =
        All-map (λ b. (HEAP_START ≤ b.address) × (b.address + b.size ≤ page_address p.pages)) block_of (contents_of p).slots
        (climbs_bounds HEAP_START (page_address p.pages) (contents_of p).slots (climbs_all p kept));
    apart = climbs_apart HEAP_START (page_address p.pages) (contents_of p).slots (climbs_all p kept);
    sides =
        each_block p kept (λ b. LiesInside (ledger_of (contents_of p)) b.address b.size ⊎ LiesOutside (ledger_of (contents_of p)) b.address b.size)
        (λ s there.
        let at = where_is p s kept there in
        elim (cases_lt at.0 p.image.first) [
          | inl before ↦ inr (outside_image at.0 s at.1 (λ of. let first = of.0 in omega (arith, before, first)))
          | inr past ↦ elim (cases_lt at.0 (p.image.first + p.image.count)) [
            | inl low ↦ inl (inside_image at.0 s at.1 (past, low))
            | inr after ↦ inr (outside_image at.0 s at.1 (λ of. let last = of.1 in omega (arith, after, last)))
          ]
        ]);
    places = each_block p kept (λ b. LiesOutside (ledger_of (contents_of p)) b.address b.size → IsInPlace (ledger_of (contents_of p)) b) (λ s there out. in_place s there out);
  }

  pub laid_out : AreLaidOut (contents_of p)
  laid_out = record {
    rising = climbs_rise HEAP_START (page_address p.pages) (contents_of p).slots (climbs_all p kept);
    sound = is_sound;
    listed = λ s there.
        let at = where_is p s kept there in
        subst (λ n. Contains sizes n) (sym at.1.slot.sized) (kept.in_use at.0 at.1.starts).listed;
    at_least = kept.at_least;
    at_most = kept.at_most;
  }
