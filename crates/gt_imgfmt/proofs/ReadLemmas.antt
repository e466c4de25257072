-- An entry has the bytes in which its fields stand. As many bytes as an entry has are the bytes of the entry of the numbers in them.
use Rattle.std.proofs.Common.{◌≡◌, ℕ, ◌+◌, ◌^◌, ◌<◌, ◌≤◌, inl, inr, List, length, take, drop, get_or, All, refl, sym, ◌∙◌, arith}
use Rattle.std.proofs.lemmas.List.{take_all, get_or_past, length-take-le, length-drop}
use Rattle.std.proofs.lemmas.List.Elements.{All-get_or}
use Rattle.std.proofs.lemmas.Bool.{cases_lt}
use Rattle.byteorder.specs.Endian.{little_number}
use Rattle.gt_imgfmt.specs.declared.entries.Header.{Header}
use Rattle.gt_imgfmt.specs.declared.entries.ObjectEntry.{ObjectEntry}
use Rattle.gt_imgfmt.specs.declared.entries.CacheEntry.{CacheEntry}
use Rattle.gt_imgfmt.specs.Layout.{u32_bytes, u64_bytes, header_bytes, object_bytes, cache_bytes, bytes_from}
use Rattle.gt_imgfmt.specs.Widths.{HeaderFits}
use Rattle.gt_imgfmt.specs.Laws.{HeadersRead, ObjectsRead, CachesRead}
use Rattle.gt_imgfmt.proofs.FieldLemmas.{small-part, bytes_from-read_u32, bytes_from-read_u64, take-field}

-- ---- an entry has the bytes in which its fields stand

pub object_bytes-fields :
    (xs : List ℕ) (e : ObjectEntry)
    → bytes_from 0 4 xs ≡ u32_bytes e.kind → bytes_from 4 4 xs ≡ u32_bytes e.id
    → bytes_from 8 4 xs ≡ u32_bytes e.count → bytes_from 12 4 xs ≡ u32_bytes e.capacity → object_bytes e ≡ take 16 xs
object_bytes-fields xs e kind id count capacity =
    let two = take-field xs _ _ 4 4 (sym kind) id in
    let three = take-field xs _ _ 8 4 two count in
    take-field xs _ _ 12 4 three capacity

pub cache_bytes-fields :
    (xs : List ℕ) (e : CacheEntry)
    → bytes_from 0 4 xs ≡ u32_bytes e.cache → bytes_from 4 4 xs ≡ u32_bytes e.zero
    → bytes_from 8 8 xs ≡ u64_bytes e.key → bytes_from 16 8 xs ≡ u64_bytes e.value → cache_bytes e ≡ take 24 xs
cache_bytes-fields xs e cache blank key value =
    let two = take-field xs _ _ 4 4 (sym cache) blank in
    let three = take-field xs _ _ 8 8 two key in
    take-field xs _ _ 16 8 three value

pub header_bytes-fields :
    (xs : List ℕ) (h : Header)
    → bytes_from 0 8 xs ≡ h.magic → bytes_from 8 4 xs ≡ u32_bytes h.version → bytes_from 12 4 xs ≡ u32_bytes h.page_size
    → bytes_from 16 32 xs ≡ h.print → bytes_from 48 4 xs ≡ u32_bytes h.page → bytes_from 52 4 xs ≡ u32_bytes h.pages
    → bytes_from 56 4 xs ≡ u32_bytes h.objects → bytes_from 60 4 xs ≡ u32_bytes h.statics → bytes_from 64 4 xs ≡ u32_bytes h.entries
    → bytes_from 68 4 xs ≡ u32_bytes h.zero → header_bytes h ≡ take 72 xs
header_bytes-fields xs h magic version page_size print page pages objects statics entries blank =
    let two = take-field xs _ _ 8 4 (sym magic) version in
    let three = take-field xs _ _ 12 4 two page_size in
    let four = take-field xs _ _ 16 32 three print in
    let five = take-field xs _ _ 48 4 four page in
    let six = take-field xs _ _ 52 4 five pages in
    let seven = take-field xs _ _ 56 4 six objects in
    let eight = take-field xs _ _ 60 4 seven statics in
    let nine = take-field xs _ _ 64 4 eight entries in
    take-field xs _ _ 68 4 nine blank

-- each item of a list of bytes is a byte, and so is what stands for none
small-all : (bytes : List ℕ) → All (λ b. b < 256) bytes → (i : ℕ) → get_or bytes i 0 < 256
small-all bytes all i =
    elim (cases_lt i (length bytes)) [
      | inl inside ↦ All-get_or (λ b. b < 256) bytes i 0 inside all
      | inr past ↦ rw (get_or_past bytes i 0 past) (omega arith)
    ]

-- ---- the numbers that stand in some bytes

abbrev u32_of : (bytes : List ℕ) (at : ℕ) → ℕ
u32_of bytes at = little_number 4 (take 4 (drop at bytes))

abbrev u64_of : (bytes : List ℕ) (at : ℕ) → ℕ
u64_of bytes at = little_number 8 (take 8 (drop at bytes))

u32-small : (xs : List ℕ) → ((i : ℕ) → get_or xs i 0 < 256) → little_number 4 xs < 2 ^ 32
u32-small xs small = omega (arith, small 0, small 1, small 2, small 3)

u64-small : (xs : List ℕ) → ((i : ℕ) → get_or xs i 0 < 256) → little_number 8 xs < 2 ^ 64
u64-small xs small = omega (arith, small 0, small 1, small 2, small 3, small 4, small 5, small 6, small 7)

u32_of-fits : (bytes : List ℕ) (at : ℕ) → ((i : ℕ) → get_or bytes i 0 < 256) → u32_of bytes at < 2 ^ 32
u32_of-fits bytes at small = u32-small (take 4 (drop at bytes)) (small-part bytes at 4 small)

u64_of-fits : (bytes : List ℕ) (at : ℕ) → ((i : ℕ) → get_or bytes i 0 < 256) → u64_of bytes at < 2 ^ 64
u64_of-fits bytes at small = u64-small (take 8 (drop at bytes)) (small-part bytes at 8 small)

u32_of-bytes : (bytes : List ℕ) (at : ℕ) → ((i : ℕ) → get_or bytes i 0 < 256) → at + 4 ≤ length bytes → bytes_from at 4 bytes ≡ u32_bytes (u32_of bytes at)
u32_of-bytes bytes at small inside = bytes_from-read_u32 bytes at 4 (u32_of bytes at) refl inside small refl

u64_of-bytes : (bytes : List ℕ) (at : ℕ) → ((i : ℕ) → get_or bytes i 0 < 256) → at + 8 ≤ length bytes → bytes_from at 8 bytes ≡ u64_bytes (u64_of bytes at)
u64_of-bytes bytes at small inside = bytes_from-read_u64 bytes at 8 (u64_of bytes at) refl inside small refl

-- ---- the entry of some bytes

abbrev object_of : List ℕ → ObjectEntry
object_of bytes = record { kind = u32_of bytes 0; id = u32_of bytes 4; count = u32_of bytes 8; capacity = u32_of bytes 12 }

object_bytes-object_of : (bytes : List ℕ) → ((i : ℕ) → get_or bytes i 0 < 256) → length bytes ≡ 16 → object_bytes (object_of bytes) ≡ bytes
object_bytes-object_of bytes small len =
    object_bytes-fields bytes (object_of bytes)
    (u32_of-bytes bytes 0 small (omega (arith, len)))
    (u32_of-bytes bytes 4 small (omega (arith, len)))
    (u32_of-bytes bytes 8 small (omega (arith, len)))
    (u32_of-bytes bytes 12 small (omega (arith, len)))
    ∙ take_all 16 bytes (omega (arith, len))

pub objects_read : ObjectsRead
objects_read bytes all len =
    let small = small-all bytes all in (
      object_of bytes,
      record { kind = u32_of-fits bytes 0 small; id = u32_of-fits bytes 4 small; count = u32_of-fits bytes 8 small; capacity = u32_of-fits bytes 12 small },
      object_bytes-object_of bytes small len,
    )

abbrev cache_of : List ℕ → CacheEntry
cache_of bytes = record { cache = u32_of bytes 0; zero = u32_of bytes 4; key = u64_of bytes 8; value = u64_of bytes 16 }

cache_bytes-cache_of : (bytes : List ℕ) → ((i : ℕ) → get_or bytes i 0 < 256) → length bytes ≡ 24 → cache_bytes (cache_of bytes) ≡ bytes
cache_bytes-cache_of bytes small len =
    cache_bytes-fields bytes (cache_of bytes)
    (u32_of-bytes bytes 0 small (omega (arith, len)))
    (u32_of-bytes bytes 4 small (omega (arith, len)))
    (u64_of-bytes bytes 8 small (omega (arith, len)))
    (u64_of-bytes bytes 16 small (omega (arith, len)))
    ∙ take_all 24 bytes (omega (arith, len))

pub caches_read : CachesRead
caches_read bytes all len =
    let small = small-all bytes all in (
      cache_of bytes,
      record { cache = u32_of-fits bytes 0 small; zero = u32_of-fits bytes 4 small; key = u64_of-fits bytes 8 small; value = u64_of-fits bytes 16 small },
      cache_bytes-cache_of bytes small len,
    )

abbrev header_of : List ℕ → Header
header_of bytes =
    record {
      magic = take 8 bytes;
      version = u32_of bytes 8;
      page_size = u32_of bytes 12;
      print = take 32 (drop 16 bytes);
      page = u32_of bytes 48;
      pages = u32_of bytes 52;
      objects = u32_of bytes 56;
      statics = u32_of bytes 60;
      entries = u32_of bytes 64;
      zero = u32_of bytes 68;
    }

header_bytes-header_of : (bytes : List ℕ) → ((i : ℕ) → get_or bytes i 0 < 256) → length bytes ≡ 72 → header_bytes (header_of bytes) ≡ bytes
header_bytes-header_of bytes small len =
    header_bytes-fields bytes (header_of bytes)
    refl
    (u32_of-bytes bytes 8 small (omega (arith, len)))
    (u32_of-bytes bytes 12 small (omega (arith, len)))
    refl
    (u32_of-bytes bytes 48 small (omega (arith, len)))
    (u32_of-bytes bytes 52 small (omega (arith, len)))
    (u32_of-bytes bytes 56 small (omega (arith, len)))
    (u32_of-bytes bytes 60 small (omega (arith, len)))
    (u32_of-bytes bytes 64 small (omega (arith, len)))
    (u32_of-bytes bytes 68 small (omega (arith, len)))
    ∙ take_all 72 bytes (omega (arith, len))

header_of-fits : (bytes : List ℕ) → ((i : ℕ) → get_or bytes i 0 < 256) → length bytes ≡ 72 → HeaderFits (header_of bytes)
header_of-fits bytes small len =
    record {
      magic = length-take-le 8 bytes (omega (arith, len));
      version = u32_of-fits bytes 8 small;
      page_size = u32_of-fits bytes 12 small;
      print = length-take-le 32 (drop 16 bytes) (omega (arith, len, length-drop 16 bytes));
      page = u32_of-fits bytes 48 small;
      pages = u32_of-fits bytes 52 small;
      objects = u32_of-fits bytes 56 small;
      statics = u32_of-fits bytes 60 small;
      entries = u32_of-fits bytes 64 small;
      zero = u32_of-fits bytes 68 small;
    }

pub headers_read : HeadersRead
headers_read bytes all len =
    let small = small-all bytes all in (header_of bytes, header_of-fits bytes small len, header_bytes-header_of bytes small len)
