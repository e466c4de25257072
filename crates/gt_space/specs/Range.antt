-- A space as its callers see it: bytes from an address on.
use Rattle.std.specs.Prelude.{◌≡◌, ℕ, ◌+◌, ◌-◌, ◌*◌, ◌/◌, ◌<◌, ◌≤◌, List, [], ◌++◌, length, take, drop, replicate, slice_index, refl}
use Rattle.std.specs.Coded.{Coded, code_by, coded×, coded_list, coded_ℕ}
use Rattle.gt_space.specs.declared.TheConstants.{PAGE_BYTES, HEAP_START, MAX_PAGES}

-- the lowest address, and the bytes from there
pub record Range : Type 0 where
  pub start : ℕ
  pub bytes : List ℕ

-- a range is stored as the pair of its fields
abbrev pub range_code : Coded Range
range_code =
    code_by (ℕ × List ℕ) (coded× coded_ℕ (coded_list coded_ℕ)) (λ r. (r.start, r.bytes)) (λ p. record { start = p.0; bytes = p.1 }) (λ _. refl)

-- the `len` bytes at the address are all bytes of the range
pub record IsInside (r : Range) (addr len : ℕ) : Type 0 where
  pub from_start : r.start ≤ addr
  pub to_end : addr + len ≤ r.start + length r.bytes

-- the `len` bytes at the address
abbrev pub bytes_at : Range → ℕ → ℕ → List ℕ
bytes_at r addr len = take len (drop (addr - r.start) r.bytes)

-- the range in which these bytes stand at the address, and all others are as before
abbrev pub with_bytes : Range → ℕ → List ℕ → Range
with_bytes r addr new =
    let at = addr - r.start in
    record { start = r.start; bytes = take at r.bytes ++ new ++ drop (at + length new) r.bytes }

-- the same addresses are inside as before
pub record KeepsAddresses (old new : Range) : Type 0 where
  pub start : new.start ≡ old.start
  pub len : length new.bytes ≡ length old.bytes

-- no bytes, at the start of the heap
abbrev pub empty_range : Range
empty_range = record { start = HEAP_START; bytes = [] }

-- the fewest whole pages that hold so many bytes
abbrev pub pages_for : ℕ → ℕ
pages_for len = (len + (PAGE_BYTES - 1)) / PAGE_BYTES

-- the lowest address, where the pages of a static record of so many bytes end at the start of the heap
abbrev pub statics_start : ℕ → ℕ
statics_start statics = HEAP_START - PAGE_BYTES * pages_for statics

-- how many bytes so many pages have, with those of a static record of so many bytes
abbrev pub space_len : ℕ → ℕ → ℕ
space_len pages statics = PAGE_BYTES * (pages_for statics + pages)

-- so many pages from the start of the heap, and below it the pages of a static record of so many bytes
pub record IsSized (r : Range) (pages statics : ℕ) : Type 0 where
  pub start : r.start ≡ statics_start statics
  pub len : length r.bytes ≡ space_len pages statics

-- the range of these pages in which each byte is zero
abbrev pub fresh_range : ℕ → ℕ → Range
fresh_range pages statics =
    record { start = statics_start statics; bytes = replicate (space_len pages statics) 0 }

-- what holds of each space: it lies around the start of the heap, ends where the largest heap does at most, and holds bytes
pub record IsSpace (r : Range) : Type 0 where
  pub starts : r.start ≤ HEAP_START
  pub reaches : HEAP_START ≤ r.start + length r.bytes
  pub ends : r.start + length r.bytes ≤ HEAP_START + PAGE_BYTES * MAX_PAGES
  pub bytes : (k : ℕ) → slice_index r.bytes k < 256
