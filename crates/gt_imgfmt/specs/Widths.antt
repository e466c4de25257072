-- The entries whose fields fit the bytes that the layout has for them, as those of the program's types do.
use Rattle.std.specs.Prelude.{◌≡◌, ◌^◌, ◌<◌, length}
use Rattle.gt_imgfmt.specs.declared.entries.Header.{Header}
use Rattle.gt_imgfmt.specs.declared.entries.ObjectEntry.{ObjectEntry}
use Rattle.gt_imgfmt.specs.declared.entries.CacheEntry.{CacheEntry}

-- the header has a magic of 8 bytes, a fingerprint of 32, and numbers that fit four bytes
pub record HeaderFits (h : Header) : Type 0 where
  pub magic : length h.magic ≡ 8
  pub version : h.version < 2 ^ 32
  pub page_size : h.page_size < 2 ^ 32
  pub print : length h.print ≡ 32
  pub page : h.page < 2 ^ 32
  pub pages : h.pages < 2 ^ 32
  pub objects : h.objects < 2 ^ 32
  pub statics : h.statics < 2 ^ 32
  pub entries : h.entries < 2 ^ 32
  pub zero : h.zero < 2 ^ 32

-- the numbers of the entry of the object table fit four bytes
pub record ObjectFits (e : ObjectEntry) : Type 0 where
  pub kind : e.kind < 2 ^ 32
  pub id : e.id < 2 ^ 32
  pub count : e.count < 2 ^ 32
  pub capacity : e.capacity < 2 ^ 32

-- the first two numbers of the cache entry fit four bytes, and the others eight
pub record CacheFits (e : CacheEntry) : Type 0 where
  pub cache : e.cache < 2 ^ 32
  pub zero : e.zero < 2 ^ 32
  pub key : e.key < 2 ^ 64
  pub value : e.value < 2 ^ 64
