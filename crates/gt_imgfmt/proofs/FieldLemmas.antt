-- The bytes of a number, read and written in the bytes of an entry.
use Rattle.std.proofs.Common.{◌≡◌, ℕ, ◌+◌, ◌^◌, ◌<◌, ◌≤◌, inl, inr, List, ◌++◌, length, take, drop, get_or, refl, sym, ap, ◌∙◌, arith, append_assoc, length-append}
use Rattle.std.proofs.Math.Seq.{take-add}
use Rattle.std.proofs.lemmas.List.{take_all, take_at, drop-drop, get_or-take, get_or-drop, get_or_past, length-take, length-drop, length-take-le}
use Rattle.std.proofs.lemmas.Bool.{cases_lt}
use Rattle.std.proofs.lemmas.Nat.{le_bytes_4, le_bytes_8, from_le_bytes-to_le_bytes_4, from_le_bytes-to_le_bytes_8}
use Rattle.std.specs.Int.{w32, w64, from_le_bytes}
use Rattle.byteorder.specs.Endian.{little_number, little_bytes}
use Rattle.gt_imgfmt.specs.Layout.{u32_bytes, u64_bytes, bytes_from}
use borrow.Rule.Slice.PartMut.{put_mid}

pub length-u32_bytes : (n : ℕ) → length (u32_bytes n) ≡ 4
unfolding u32_bytes
length-u32_bytes n = refl

pub length-u64_bytes : (n : ℕ) → length (u64_bytes n) ≡ 8
unfolding u64_bytes
length-u64_bytes n = refl

-- a number that fits is fixed by its bytes
pub u32_bytes-injective : (m n : ℕ) → m < 2 ^ 32 → n < 2 ^ 32 → u32_bytes m ≡ u32_bytes n → m ≡ n
unfolding u32_bytes
u32_bytes-injective m n fits fits' same =
    sym (from_le_bytes-to_le_bytes_4 m fits) ∙ ap (from_le_bytes w32) same ∙ from_le_bytes-to_le_bytes_4 n fits'

pub u64_bytes-injective : (m n : ℕ) → m < 2 ^ 64 → n < 2 ^ 64 → u64_bytes m ≡ u64_bytes n → m ≡ n
unfolding u64_bytes
u64_bytes-injective m n fits fits' same =
    sym (from_le_bytes-to_le_bytes_8 m fits) ∙ ap (from_le_bytes w64) same ∙ from_le_bytes-to_le_bytes_8 n fits'

-- the number that byteorder reads in some bytes has those bytes
u32_bytes-little_number : (bs : List ℕ) → length bs ≡ 4 → ((i : ℕ) → get_or bs i 0 < 256) → u32_bytes (little_number 4 bs) ≡ bs
unfolding u32_bytes
u32_bytes-little_number bs len small = le_bytes_4 bs (little_number 4 bs) len small (omega arith)

u64_bytes-little_number : (bs : List ℕ) → length bs ≡ 8 → ((i : ℕ) → get_or bs i 0 < 256) → u64_bytes (little_number 8 bs) ≡ bs
unfolding u64_bytes
u64_bytes-little_number bs len small = le_bytes_8 bs (little_number 8 bs) len small (omega arith)

-- each item of a part of some bytes is a byte
pub small-part : (xs : List ℕ) (at n : ℕ) → ((i : ℕ) → get_or xs i 0 < 256) → (i : ℕ) → get_or (take n (drop at xs)) i 0 < 256
small-part xs at n small i =
    elim (cases_lt i n) [
      | inl inside ↦ rw (get_or-take n (drop at xs) i 0 inside, get_or-drop at xs i 0) (small (at + i))
      | inr past ↦ rw (get_or_past (take n (drop at xs)) i 0 (omega (arith, length-take n (drop at xs)))) (omega arith)
    ]

-- a part that was read as a number has the bytes of the number
pub bytes_from-read_u32 :
    (xs : List ℕ) (at len n : ℕ) → len ≡ 4 → at + 4 ≤ length xs → ((i : ℕ) → get_or xs i 0 < 256)
    → n ≡ little_number 4 (take len (drop at xs)) → bytes_from at 4 xs ≡ u32_bytes n
bytes_from-read_u32 xs at len n four inside small read =
    let part = take 4 (drop at xs) in
    sym
    (
    ap u32_bytes (read ∙ ap (λ k. little_number 4 (take k (drop at xs))) four)
    ∙ u32_bytes-little_number part (length-take-le 4 (drop at xs) (omega (arith, length-drop at xs))) (small-part xs at 4 small)
    )

pub bytes_from-read_u64 :
    (xs : List ℕ) (at len n : ℕ) → len ≡ 8 → at + 8 ≤ length xs → ((i : ℕ) → get_or xs i 0 < 256)
    → n ≡ little_number 8 (take len (drop at xs)) → bytes_from at 8 xs ≡ u64_bytes n
bytes_from-read_u64 xs at len n eight inside small read =
    let part = take 8 (drop at xs) in
    sym
    (
    ap u64_bytes (read ∙ ap (λ k. little_number 8 (take k (drop at xs))) eight)
    ∙ u64_bytes-little_number part (length-take-le 8 (drop at xs) (omega (arith, length-drop at xs))) (small-part xs at 8 small)
    )

-- the bytes up to the end of a field, from those up to its start
pub take-field :
    (xs front part : List ℕ) (at n : ℕ) → front ≡ take at xs → bytes_from at n xs ≡ part → front ++ part ≡ take (at + n) xs
take-field xs front part at n same field =
    ap (λ ys. ys ++ part) same ∙ ap (λ ys. take at xs ++ ys) (sym field) ∙ sym (take-add at n xs)

-- the bytes up to the end of a field that was written
pub take-written :
    (old new part : List ℕ) (at n : ℕ) → new ≡ take at old ++ part ++ drop (at + n) old → at ≤ length old → length part ≡ n
    → take (at + n) new ≡ take at old ++ part
take-written old new part at n write inside len =
    ap (take (at + n)) write
    ∙ take_at (take at old ++ part) (drop (at + n) old) (at + n) (omega (arith, length-append (take at old) part, length-take-le at old inside, len))

-- a part that was put in the place of as many bytes stands between those before it and those after it
pub put_mid-part :
    (xs part now : List ℕ) (at k n : ℕ) → k ≡ n → part ≡ now → put_mid at k xs part ≡ take at xs ++ now ++ drop (at + n) xs
put_mid-part xs part now at k n as_many same =
    ap (λ ys. take at xs ++ (ys ++ drop k (drop at xs))) same
    ∙ ap (λ zs. take at xs ++ (now ++ zs)) (drop-drop k at xs ∙ ap (λ m. drop (at + m) xs) as_many)
    ∙ sym (append_assoc (take at xs) now (drop (at + n) xs))

-- a part that byteorder wrote whole holds the bytes of the number
pub written-u32_bytes : (n : ℕ) (rest new : List ℕ) → length new ≡ 4 → new ≡ little_bytes 4 n ++ rest → new ≡ u32_bytes n
unfolding u32_bytes
written-u32_bytes n rest new len write = sym (take_all 4 new (omega (arith, len))) ∙ ap (take 4) write

pub written-u64_bytes : (n : ℕ) (rest new : List ℕ) → length new ≡ 8 → new ≡ little_bytes 8 n ++ rest → new ≡ u64_bytes n
unfolding u64_bytes
written-u64_bytes n rest new len write = sym (take_all 8 new (omega (arith, len))) ∙ ap (take 8) write
