-- Laws of `bytes_at` and `with_bytes`, for this crate and the layers above.
use Rattle.std.proofs.Common.{◌≡◌, ℕ, ◌+◌, ◌-◌, ◌≤◌, List, ◌++◌, length, take, drop, ap, ◌∙◌, inl, inr, arith}
use Rattle.std.proofs.lemmas.List.{places, same_lists}
use Rattle.gt_space.specs.Range.{Range, IsInside, bytes_at, with_bytes}
use Rattle.gt_space.specs.Laws.{IsApart}

-- ---- of lists

-- the list in which `ys` stand from `k` on
abbrev over : ℕ → List ℕ → List ℕ → List ℕ
over k xs ys = take k xs ++ ys ++ drop (k + length ys) xs

length-over : (k : ℕ) (xs ys : List ℕ) → k + length ys ≤ length xs → length (over k xs ys) ≡ length xs
length-over k xs ys fits = grind (arith, places)

part-over_before :
    (k : ℕ) (xs ys : List ℕ) (j n : ℕ) → k + length ys ≤ length xs → j + n ≤ k
    → take n (drop j (over k xs ys)) ≡ take n (drop j xs)
part-over_before k xs ys j n fits before =
    same_lists _ _ (grind (arith, places)) (λ i d h. grind (arith, places))

part-over_after :
    (k : ℕ) (xs ys : List ℕ) (j n : ℕ) → k + length ys ≤ length xs → k + length ys ≤ j
    → take n (drop j (over k xs ys)) ≡ take n (drop j xs)
part-over_after k xs ys j n fits after =
    same_lists _ _ (grind (arith, places)) (λ i d h. grind (arith, places))

part-over_within :
    (k : ℕ) (xs ys : List ℕ) (j n : ℕ) → k + length ys ≤ length xs → j + n ≤ length ys
    → take n (drop (k + j) (over k xs ys)) ≡ take n (drop j ys)
part-over_within k xs ys j n fits within =
    same_lists _ _ (grind (arith, places)) (λ i d h. grind (arith, places))

-- ---- of ranges

-- the bytes at an address are as many as were asked for
pub length-bytes_at : (r : Range) (addr len : ℕ) → IsInside r addr len → length (bytes_at r addr len) ≡ len
length-bytes_at r addr len inside = grind (arith, places)

-- a write leaves as many bytes
pub length-with_bytes :
    (r : Range) (addr : ℕ) (new : List ℕ) → IsInside r addr (length new)
    → length (with_bytes r addr new).bytes ≡ length r.bytes
length-with_bytes r addr new inside = length-over (addr - r.start) r.bytes new (omega (arith, inside.from_start, inside.to_end))

-- and so the same addresses inside
pub IsInside-with_bytes :
    (r : Range) (addr : ℕ) (new : List ℕ) (other len : ℕ) → IsInside r addr (length new) → IsInside r other len
    → IsInside (with_bytes r addr new) other len
IsInside-with_bytes r addr new other len inside there =
    record { from_start = there.from_start; to_end = omega (arith, there.to_end, length-with_bytes r addr new inside) }

-- what was written is read back
pub bytes_at-with_bytes :
    (r : Range) (addr : ℕ) (new : List ℕ) → IsInside r addr (length new)
    → bytes_at (with_bytes r addr new) addr (length new) ≡ new
bytes_at-with_bytes r addr new inside = same_lists _ _ (grind (arith, places)) (λ i d h. grind (arith, places))

-- a part of what was written is read back
pub bytes_at-with_bytes_within :
    (r : Range) (addr : ℕ) (new : List ℕ) (skip len : ℕ) → IsInside r addr (length new) → skip + len ≤ length new
    → bytes_at (with_bytes r addr new) (addr + skip) len ≡ take len (drop skip new)
bytes_at-with_bytes_within r addr new skip len inside within =
    let at : addr + skip - r.start ≡ addr - r.start + skip = omega (arith, inside.from_start) in
    ap (λ k. take len (drop k (with_bytes r addr new).bytes)) at
    ∙ part-over_within (addr - r.start) r.bytes new skip len (omega (arith, inside.from_start, inside.to_end)) within

-- what is read apart from a write is as before
pub bytes_at-with_bytes_apart :
    (r : Range) (addr : ℕ) (new : List ℕ) (other len : ℕ)
    → IsInside r addr (length new) → IsInside r other len → IsApart addr (length new) other len
    → bytes_at (with_bytes r addr new) other len ≡ bytes_at r other len
bytes_at-with_bytes_apart r addr new other len inside there (inl after) =
    part-over_after (addr - r.start) r.bytes new (other - r.start) len
    (omega (arith, inside.from_start, inside.to_end)) (omega (arith, inside.from_start, there.from_start))
bytes_at-with_bytes_apart r addr new other len inside there (inr before) =
    part-over_before (addr - r.start) r.bytes new (other - r.start) len
    (omega (arith, inside.from_start, inside.to_end)) (omega (arith, inside.from_start, there.from_start))

-- bytes at an address are some first bytes, and those from the next address on
pub bytes_at-add :
    (r : Range) (addr m n : ℕ) → IsInside r addr (m + n)
    → bytes_at r addr (m + n) ≡ bytes_at r addr m ++ bytes_at r (addr + m) n
bytes_at-add r addr m n inside = same_lists _ _ (grind (arith, places)) (λ i d h. grind (arith, places))

-- to write what stands there already changes nothing
pub with_bytes-bytes_at :
    (r : Range) (addr len : ℕ) → IsInside r addr len → with_bytes r addr (bytes_at r addr len) ≡ r
with_bytes-bytes_at r addr len inside =
    let same : (with_bytes r addr (bytes_at r addr len)).bytes ≡ r.bytes =
    same_lists _ _ (grind (arith, places)) (λ i d h. grind (arith, places)) in
    ap (λ (xs : List ℕ). let s : Range = record { start = r.start; bytes = xs } in s) same

-- of two writes at one place the second stands
pub with_bytes-with_bytes :
    (r : Range) (addr : ℕ) (old new : List ℕ) → IsInside r addr (length new) → length old ≡ length new
    → with_bytes (with_bytes r addr old) addr new ≡ with_bytes r addr new
with_bytes-with_bytes r addr old new inside alike =
    let same : (with_bytes (with_bytes r addr old) addr new).bytes ≡ (with_bytes r addr new).bytes =
    same_lists _ _ (grind (arith, places)) (λ i d h. grind (arith, places)) in
    ap (λ (xs : List ℕ). let s : Range = record { start = r.start; bytes = xs } in s) same

-- one write after another, side by side, is one write of both
pub with_bytes-append :
    (r : Range) (addr : ℕ) (xs ys : List ℕ) → IsInside r addr (length xs + length ys)
    → with_bytes (with_bytes r addr xs) (addr + length xs) ys ≡ with_bytes r addr (xs ++ ys)
with_bytes-append r addr xs ys inside =
    let same : (with_bytes (with_bytes r addr xs) (addr + length xs) ys).bytes ≡ (with_bytes r addr (xs ++ ys)).bytes =
    same_lists _ _ (grind (arith, places)) (λ i d h. grind (arith, places)) in
    ap (λ (zs : List ℕ). let s : Range = record { start = r.start; bytes = zs } in s) same

-- what the bytes are after a write, for a caller's `using`
pub ruleset ranges = (length-bytes_at, length-with_bytes, IsInside-with_bytes, bytes_at-with_bytes, bytes_at-with_bytes_within, bytes_at-with_bytes_apart, with_bytes-bytes_at, with_bytes-with_bytes, with_bytes-append)
