-- What follows from the layout: an entry is fixed by its bytes; any bytes, as many as an entry has, are those of an entry; and what is read
-- where an entry was written is that entry.
use Rattle.std.specs.Prelude.{◌≡◌, ◌<◌, ℕ, List, ◌++◌, length, All}
use Rattle.gt_imgfmt.specs.declared.TheConstants.{HEADER_BYTES, OBJECT_BYTES, CACHE_BYTES}
use Rattle.gt_imgfmt.specs.declared.entries.Header.{Header}
use Rattle.gt_imgfmt.specs.declared.entries.ObjectEntry.{ObjectEntry}
use Rattle.gt_imgfmt.specs.declared.entries.CacheEntry.{CacheEntry}
use Rattle.gt_imgfmt.specs.Layout.{header_bytes, object_bytes, cache_bytes, bytes_from, object_place, cache_place}
use Rattle.gt_imgfmt.specs.Widths.{HeaderFits, ObjectFits, CacheFits}

-- two headers with the same bytes are one
abbrev pub HeadersFixed : Type 0
HeadersFixed = (a b : Header) → HeaderFits a → HeaderFits b → header_bytes a ≡ header_bytes b → a ≡ b

-- two entries of the object table with the same bytes are one
abbrev pub ObjectsFixed : Type 0
ObjectsFixed = (a b : ObjectEntry) → ObjectFits a → ObjectFits b → object_bytes a ≡ object_bytes b → a ≡ b

-- two cache entries with the same bytes are one
abbrev pub CachesFixed : Type 0
CachesFixed = (a b : CacheEntry) → CacheFits a → CacheFits b → cache_bytes a ≡ cache_bytes b → a ≡ b

-- any bytes, as many as a header has, are those of a header that fits
abbrev pub HeadersRead : Type 0
HeadersRead = (bytes : List ℕ) → All (λ b. b < 256) bytes → length bytes ≡ HEADER_BYTES → (h : Header) × HeaderFits h × (header_bytes h ≡ bytes)

-- any bytes, as many as an entry of the object table has, are those of an entry that fits
abbrev pub ObjectsRead : Type 0
ObjectsRead = (bytes : List ℕ) → All (λ b. b < 256) bytes → length bytes ≡ OBJECT_BYTES → (e : ObjectEntry) × ObjectFits e × (object_bytes e ≡ bytes)

-- any bytes, as many as a cache entry has, are those of an entry that fits
abbrev pub CachesRead : Type 0
CachesRead = (bytes : List ℕ) → All (λ b. b < 256) bytes → length bytes ≡ CACHE_BYTES → (e : CacheEntry) × CacheFits e × (cache_bytes e ≡ bytes)

-- the header that stands where one was written is that one, whatever follows
abbrev pub HeadersReadBack : Type 0
HeadersReadBack =
    (written read : Header) (rest : List ℕ) → HeaderFits written → HeaderFits read
    → bytes_from 0 HEADER_BYTES (header_bytes written ++ rest) ≡ header_bytes read → read ≡ written

-- the entry of the object table that stands where one was written is that one, whatever follows
abbrev pub ObjectsReadBack : Type 0
ObjectsReadBack =
    (written read : ObjectEntry) (i : ℕ) (front rest : List ℕ) → ObjectFits written → ObjectFits read
    → length front ≡ object_place i
    → bytes_from (object_place i) OBJECT_BYTES (front ++ object_bytes written ++ rest) ≡ object_bytes read → read ≡ written

-- the cache entry that stands where one was written is that one, whatever follows
abbrev pub CachesReadBack : Type 0
CachesReadBack =
    (written read : CacheEntry) (objects statics i : ℕ) (front rest : List ℕ) → CacheFits written → CacheFits read
    → length front ≡ cache_place objects statics i
    → bytes_from (cache_place objects statics i) CACHE_BYTES (front ++ cache_bytes written ++ rest) ≡ cache_bytes read
    → read ≡ written

-- an entry has as many bytes as the constant says
pub record EntriesFill (h : Header) (o : ObjectEntry) (c : CacheEntry) : Type 0 where
  pub header : HeaderFits h → length (header_bytes h) ≡ HEADER_BYTES
  pub object : length (object_bytes o) ≡ OBJECT_BYTES
  pub cache : length (cache_bytes c) ≡ CACHE_BYTES
