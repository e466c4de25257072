-- An entry is fixed by its bytes: the last field and the bytes before it are fixed by the bytes of both.
use Rattle.std.proofs.Common.{◌≡◌, ℕ, ◌+◌, ◌^◌, ◌<◌, List, ◌++◌, length, take, drop, sym, ap, ◌∙◌, arith, append_assoc, length-append}
use Rattle.std.proofs.Math.Seq.{take-append_seam, drop-append_seam}
use Rattle.std.proofs.lemmas.List.{take_at, drop_at}
use Rattle.gt_imgfmt.specs.declared.entries.Header.{Header}
use Rattle.gt_imgfmt.specs.declared.entries.ObjectEntry.{ObjectEntry}
use Rattle.gt_imgfmt.specs.declared.entries.CacheEntry.{CacheEntry}
use Rattle.gt_imgfmt.specs.Layout.{u32_bytes, u64_bytes, header_bytes, object_bytes, cache_bytes, bytes_from, object_place, cache_place}
use Rattle.gt_imgfmt.specs.Widths.{HeaderFits}
use Rattle.gt_imgfmt.specs.Laws.{HeadersFixed, ObjectsFixed, CachesFixed, HeadersReadBack, ObjectsReadBack, CachesReadBack, EntriesFill}
use Rattle.gt_imgfmt.proofs.FieldLemmas.{length-u32_bytes, length-u64_bytes, u32_bytes-injective, u64_bytes-injective}

-- ---- the last part of a list

last-append : (xs ys zs ws : List ℕ) → length zs ≡ length ws → xs ++ zs ≡ ys ++ ws → (xs ≡ ys) × (zs ≡ ws)
last-append xs ys zs ws len same =
    let both : length xs + length zs ≡ length ys + length ws = sym (length-append xs zs) ∙ ap length same ∙ length-append ys ws in
    let front : length ys ≡ length xs = omega (arith, both, len) in (
      sym (take-append_seam xs zs) ∙ ap (take (length xs)) same ∙ take_at ys ws (length xs) front,
      sym (drop-append_seam xs zs) ∙ ap (drop (length xs)) same ∙ drop_at ys ws (length xs) front,
    )

last-u32 : (xs ys : List ℕ) (m n : ℕ) → m < 2 ^ 32 → n < 2 ^ 32 → xs ++ u32_bytes m ≡ ys ++ u32_bytes n → (xs ≡ ys) × (m ≡ n)
last-u32 xs ys m n fits fits' same =
    let parts = last-append xs ys (u32_bytes m) (u32_bytes n) (length-u32_bytes m ∙ sym (length-u32_bytes n)) same in
    (parts.0, u32_bytes-injective m n fits fits' parts.1)

last-u64 : (xs ys : List ℕ) (m n : ℕ) → m < 2 ^ 64 → n < 2 ^ 64 → xs ++ u64_bytes m ≡ ys ++ u64_bytes n → (xs ≡ ys) × (m ≡ n)
last-u64 xs ys m n fits fits' same =
    let parts = last-append xs ys (u64_bytes m) (u64_bytes n) (length-u64_bytes m ∙ sym (length-u64_bytes n)) same in
    (parts.0, u64_bytes-injective m n fits fits' parts.1)

-- ---- entries with equal fields are equal

abbrev object : (kind id count capacity : ℕ) → ObjectEntry
object kind id count capacity = record { kind = kind; id = id; count = count; capacity = capacity }

same_objects : (a b : ObjectEntry) → a.kind ≡ b.kind → a.id ≡ b.id → a.count ≡ b.count → a.capacity ≡ b.capacity → a ≡ b
same_objects a b kind id count capacity =
    ap (λ x. object x a.id a.count a.capacity) kind
    ∙ ap (λ x. object b.kind x a.count a.capacity) id
    ∙ ap (λ x. object b.kind b.id x a.capacity) count
    ∙ ap (λ x. object b.kind b.id b.count x) capacity

abbrev cache_entry : (cache blank key value : ℕ) → CacheEntry
cache_entry cache blank key value = record { cache = cache; zero = blank; key = key; value = value }

same_caches : (a b : CacheEntry) → a.cache ≡ b.cache → a.zero ≡ b.zero → a.key ≡ b.key → a.value ≡ b.value → a ≡ b
same_caches a b cache zero key value =
    ap (λ x. cache_entry x a.zero a.key a.value) cache
    ∙ ap (λ x. cache_entry b.cache x a.key a.value) zero
    ∙ ap (λ x. cache_entry b.cache b.zero x a.value) key
    ∙ ap (λ x. cache_entry b.cache b.zero b.key x) value

abbrev header : (magic : List ℕ) (version page_size : ℕ) (print : List ℕ) (page pages objects statics entries blank : ℕ) → Header
header magic version page_size print page pages objects statics entries blank =
    record { magic = magic; version = version; page_size = page_size; print = print; page = page; pages = pages; objects = objects; statics = statics; entries = entries; zero = blank }

same_headers :
    (a b : Header) → a.magic ≡ b.magic → a.version ≡ b.version → a.page_size ≡ b.page_size → a.print ≡ b.print → a.page ≡ b.page
    → a.pages ≡ b.pages → a.objects ≡ b.objects → a.statics ≡ b.statics → a.entries ≡ b.entries → a.zero ≡ b.zero → a ≡ b
same_headers a b magic version page_size print page pages objects statics entries zero =
    ap (λ x. header x a.version a.page_size a.print a.page a.pages a.objects a.statics a.entries a.zero) magic
    ∙ ap (λ x. header b.magic x a.page_size a.print a.page a.pages a.objects a.statics a.entries a.zero) version
    ∙ ap (λ x. header b.magic b.version x a.print a.page a.pages a.objects a.statics a.entries a.zero) page_size
    ∙ ap (λ x. header b.magic b.version b.page_size x a.page a.pages a.objects a.statics a.entries a.zero) print
    ∙ ap (λ x. header b.magic b.version b.page_size b.print x a.pages a.objects a.statics a.entries a.zero) page
    ∙ ap (λ x. header b.magic b.version b.page_size b.print b.page x a.objects a.statics a.entries a.zero) pages
    ∙ ap (λ x. header b.magic b.version b.page_size b.print b.page b.pages x a.statics a.entries a.zero) objects
    ∙ ap (λ x. header b.magic b.version b.page_size b.print b.page b.pages b.objects x a.entries a.zero) statics
    ∙ ap (λ x. header b.magic b.version b.page_size b.print b.page b.pages b.objects b.statics x a.zero) entries
    ∙ ap (λ x. header b.magic b.version b.page_size b.print b.page b.pages b.objects b.statics b.entries x) zero

-- ---- an entry is fixed by its bytes

pub objects_fixed : ObjectsFixed
objects_fixed a b fits fits' same =
    let capacity = last-u32 _ _ _ _ fits.capacity fits'.capacity same in
    let count = last-u32 _ _ _ _ fits.count fits'.count capacity.0 in
    let id = last-u32 _ _ _ _ fits.id fits'.id count.0 in
    let kind = u32_bytes-injective _ _ fits.kind fits'.kind id.0 in
    same_objects a b kind id.1 count.1 capacity.1

pub caches_fixed : CachesFixed
caches_fixed a b fits fits' same =
    let value = last-u64 _ _ _ _ fits.value fits'.value same in
    let key = last-u64 _ _ _ _ fits.key fits'.key value.0 in
    let zero = last-u32 _ _ _ _ fits.zero fits'.zero key.0 in
    let cache = u32_bytes-injective _ _ fits.cache fits'.cache zero.0 in
    same_caches a b cache zero.1 key.1 value.1

pub headers_fixed : HeadersFixed
headers_fixed a b fits fits' same =
    let zero = last-u32 _ _ _ _ fits.zero fits'.zero same in
    let entries = last-u32 _ _ _ _ fits.entries fits'.entries zero.0 in
    let statics = last-u32 _ _ _ _ fits.statics fits'.statics entries.0 in
    let objects = last-u32 _ _ _ _ fits.objects fits'.objects statics.0 in
    let pages = last-u32 _ _ _ _ fits.pages fits'.pages objects.0 in
    let page = last-u32 _ _ _ _ fits.page fits'.page pages.0 in
    let print = last-append _ _ a.print b.print (fits.print ∙ sym fits'.print) page.0 in
    let page_size = last-u32 _ _ _ _ fits.page_size fits'.page_size print.0 in
    let version = last-u32 _ _ _ _ fits.version fits'.version page_size.0 in
    same_headers a b version.0 version.1 page_size.1 print.1 page.1 pages.1 objects.1 statics.1 entries.1 zero.1

-- ---- an entry has as many bytes as the constant says

length-object_bytes : (e : ObjectEntry) → length (object_bytes e) ≡ 16
length-object_bytes e = grind (arith, length-append, length-u32_bytes)

length-cache_bytes : (e : CacheEntry) → length (cache_bytes e) ≡ 24
length-cache_bytes e = grind (arith, length-append, length-u32_bytes, length-u64_bytes)

length-header_bytes : (h : Header) → HeaderFits h → length (header_bytes h) ≡ 72
length-header_bytes h fits = grind (arith, length-append, length-u32_bytes, fits.magic, fits.print)

pub entries_fill : (h : Header) (o : ObjectEntry) (c : CacheEntry) → EntriesFill h o c
entries_fill h o c = record { header = length-header_bytes h; object = length-object_bytes o; cache = length-cache_bytes c }

-- ---- what stands where an entry was written is that entry

-- the bytes from the place on, where some front ends there
part_at : (front part rest : List ℕ) (at n : ℕ) → length front ≡ at → length part ≡ n → bytes_from at n (front ++ part ++ rest) ≡ part
part_at front part rest at n before len =
    ap (λ xs. take n (drop at xs)) (append_assoc front part rest) ∙ ap (take n) (drop_at front (part ++ rest) at before) ∙ take_at part rest n len

pub headers_read_back : HeadersReadBack
headers_read_back written read rest fits fits' stands =
    headers_fixed read written fits' fits (sym stands ∙ take_at (header_bytes written) rest 72 (length-header_bytes written fits))

pub objects_read_back : ObjectsReadBack
objects_read_back written read i front rest fits fits' before stands =
    objects_fixed read written fits' fits
    (sym stands ∙ part_at front (object_bytes written) rest (object_place i) 16 before (length-object_bytes written))

pub caches_read_back : CachesReadBack
caches_read_back written read objects statics i front rest fits fits' before stands =
    caches_fixed read written fits' fits
    (sym stands ∙ part_at front (cache_bytes written) rest (cache_place objects statics i) 24 before (length-cache_bytes written))
