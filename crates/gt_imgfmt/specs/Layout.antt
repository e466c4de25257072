-- The entries of an image as bytes, field after field, and where the parts of an image stand.
use Rattle.std.specs.Prelude.{ℕ, ◌+◌, ◌*◌, List, ◌++◌, take, drop}
use Rattle.std.specs.Int.{w32, w64, to_le_bytes}
use Rattle.gt_imgfmt.specs.declared.TheConstants.{HEADER_BYTES, OBJECT_BYTES, CACHE_BYTES}
use Rattle.gt_imgfmt.specs.declared.entries.Header.{Header}
use Rattle.gt_imgfmt.specs.declared.entries.ObjectEntry.{ObjectEntry}
use Rattle.gt_imgfmt.specs.declared.entries.CacheEntry.{CacheEntry}

-- a number in four bytes, the low byte first
unfoldable pub u32_bytes : ℕ → List ℕ
u32_bytes n = to_le_bytes w32 n

-- a number in eight bytes, the low byte first
unfoldable pub u64_bytes : ℕ → List ℕ
u64_bytes n = to_le_bytes w64 n

-- the header: the magic, the version, how many bytes a page has, the fingerprint of the program, and six numbers
abbrev pub header_bytes : Header → List ℕ
header_bytes h =
    h.magic ++ u32_bytes h.version ++ u32_bytes h.page_size ++ h.print ++ u32_bytes h.page ++ u32_bytes h.pages
    ++ u32_bytes h.objects ++ u32_bytes h.statics ++ u32_bytes h.entries ++ u32_bytes h.zero

-- an entry of the object table: four numbers of four bytes
abbrev pub object_bytes : ObjectEntry → List ℕ
object_bytes e = u32_bytes e.kind ++ u32_bytes e.id ++ u32_bytes e.count ++ u32_bytes e.capacity

-- a cache entry: two numbers of four bytes, and two of eight
abbrev pub cache_bytes : CacheEntry → List ℕ
cache_bytes e = u32_bytes e.cache ++ u32_bytes e.zero ++ u64_bytes e.key ++ u64_bytes e.value

-- the `len` bytes from a place on
abbrev pub bytes_from : (place len : ℕ) → List ℕ → List ℕ
bytes_from place len bytes = take len (drop place bytes)

-- where an entry of the object table stands: after the header and the entries before it
abbrev pub object_place : ℕ → ℕ
object_place i = HEADER_BYTES + OBJECT_BYTES * i

-- where the static record stands: after the header and the object table
abbrev pub statics_place : (objects : ℕ) → ℕ
statics_place objects = HEADER_BYTES + OBJECT_BYTES * objects

-- where a cache entry stands: after the static record and the entries before it
abbrev pub cache_place : (objects statics i : ℕ) → ℕ
cache_place objects statics i = statics_place objects + statics + CACHE_BYTES * i

-- where the pages stand: after the last cache entry
abbrev pub pages_place : (objects statics entries : ℕ) → ℕ
pages_place objects statics entries = cache_place objects statics entries
