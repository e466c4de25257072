-- Where objects lie: the sizes that are given out, the pages, and which place a new block may have.
use Rattle.std.specs.Prelude.{◌≡◌, ℕ, ◌+◌, ◌-◌, ◌*◌, ◌/◌, ◌%◌, ◌<◌, ◌≤◌, ◌⊎◌, if◌then◌else◌, List, [], ◌∷◌, Option, nat_lt, nat_le, find, All, Contains}
use Rattle.gt_space.specs.declared.TheConstants.{PAGE_BYTES, HEAP_START}
use Rattle.gt_space.specs.Laws.{IsApart}

-- the 29 sizes of blocks: 8, 16, 32, the multiples of 16 from 48 to 256, and the powers of two from 512 to 1,048,576
abbrev pub sizes : List ℕ
sizes =
    8 ∷ 16 ∷ 32 ∷ 48 ∷ 64 ∷ 80 ∷ 96 ∷ 112 ∷ 128 ∷ 144 ∷ 160 ∷ 176 ∷ 192 ∷ 208 ∷ 224 ∷ 240 ∷ 256
    ∷ 512 ∷ 1024 ∷ 2048 ∷ 4096 ∷ 8192 ∷ 16384 ∷ 32768 ∷ 65536 ∷ 131072 ∷ 262144 ∷ 524288 ∷ 1048576 ∷ []

-- the least of these sizes that has room for so many bytes
abbrev pub rounded : ℕ → Option ℕ
rounded need = find (λ size. nat_le need size) sizes

-- a block: its address, and its size in bytes
pub record Block : Type 0 where
  pub address : ℕ
  pub size : ℕ

-- consecutive pages, which a loaded image takes up; there are none of them before the first load
pub record PageRange : Type 0 where
  pub first : ℕ
  pub count : ℕ

-- the blocks by rising address, the pages of the image, and how many pages the space has
pub record Ledger : Type 0 where
  pub blocks : List Block
  pub image : PageRange
  pub pages : ℕ

-- the address of a page
abbrev pub page_address : ℕ → ℕ
page_address page = HEAP_START + PAGE_BYTES * page

-- the page in which an address lies, and how far from the page's start
abbrev pub page_of : ℕ → ℕ
page_of address = (address - HEAP_START) / PAGE_BYTES

abbrev pub offset_of : ℕ → ℕ
offset_of address = (address - HEAP_START) % PAGE_BYTES

-- how many pages a block of this size needs of its own, or shares
abbrev pub pages_of : ℕ → ℕ
pages_of size = (size + (PAGE_BYTES - 1)) / PAGE_BYTES

-- a page of the image
abbrev pub IsImagePage : Ledger → ℕ → Type 0
IsImagePage ledger page = (ledger.image.first ≤ page) × (page < ledger.image.first + ledger.image.count)

-- these bytes have none in common with a page
abbrev pub IsOffPage : (address size page : ℕ) → Type 0
IsOffPage address size page = IsApart address size (page_address page) PAGE_BYTES

-- no byte of these lies in the image
abbrev pub LiesOutside : Ledger → (address size : ℕ) → Type 0
LiesOutside ledger address size = (page : ℕ) → IsImagePage ledger page → IsOffPage address size page

-- each byte of these lies in the image
abbrev pub LiesInside : Ledger → (address size : ℕ) → Type 0
LiesInside ledger address size =
    (page_address ledger.image.first ≤ address) × (address + size ≤ page_address (ledger.image.first + ledger.image.count))

-- no two of the blocks share a byte
abbrev pub AreApart : List Block → Type 0
AreApart [] = Unit {0}
AreApart (b ∷ bs) = All (λ c. IsApart b.address b.size c.address c.size) bs × AreApart bs

-- a block outside the image: up to the size of a page it lies in one page, at a multiple of its size from the page's start,
-- and all blocks of the page have its size; a larger one starts at a page's start
pub record IsInPlace (ledger : Ledger) (b : Block) : Type 0 where
  pub small : b.size ≤ PAGE_BYTES → (offset_of b.address % b.size ≡ 0) × (offset_of b.address + b.size ≤ PAGE_BYTES)
  pub alike : b.size ≤ PAGE_BYTES → All (λ c. (c.size ≡ b.size) ⊎ IsOffPage c.address c.size (page_of b.address)) ledger.blocks
  pub large : PAGE_BYTES < b.size → offset_of b.address ≡ 0

-- what holds of each ledger: the blocks lie in the space, share no byte, lie wholly in the image or wholly outside it, and
-- outside it in their places
pub record Sound (ledger : Ledger) : Type 0 where
  pub in_space : All (λ b. (HEAP_START ≤ b.address) × (b.address + b.size ≤ page_address ledger.pages)) ledger.blocks
  pub apart : AreApart ledger.blocks
  pub sides : All (λ b. LiesInside ledger b.address b.size ⊎ LiesOutside ledger b.address b.size) ledger.blocks
  pub places : All (λ b. LiesOutside ledger b.address b.size → IsInPlace ledger b) ledger.blocks

-- a page outside the image that holds blocks of this size has a place for one more
pub record HasFreePlace (ledger : Ledger) (size page : ℕ) : Type 0 where
  pub small : size ≤ PAGE_BYTES
  pub in_space : page < ledger.pages
  pub outside : IsImagePage ledger page → ⊥
  pub holds : (b : Block) × Contains ledger.blocks b × (b.size ≡ size) × (page_of b.address ≡ page)
  pub free : (k : ℕ) × (size * k + size ≤ PAGE_BYTES) × All (λ b. IsApart (page_address page + size * k) size b.address b.size) ledger.blocks

-- so many pages from this one are in the space, without a block, and outside the image
pub record AreFree (ledger : Ledger) (first count : ℕ) : Type 0 where
  pub in_space : first + count ≤ ledger.pages
  pub each : (page : ℕ) → first ≤ page → page < first + count → (IsImagePage ledger page → ⊥) × All (λ b. IsOffPage b.address b.size page) ledger.blocks

-- a page of this size has a free place
abbrev pub HasSharedPage : Ledger → ℕ → Type 0
HasSharedPage ledger size = (page : ℕ) × HasFreePlace ledger size page

-- there is a place for a block of this size: a free place in a page of its size, or enough free pages
abbrev pub Room : Ledger → ℕ → Type 0
Room ledger size = HasSharedPage ledger size ⊎ ((page : ℕ) × AreFree ledger page (pages_of size))

-- one more item, at its place by rising keys
abbrev pub insert_by : {X : Type 0} → (X → ℕ) → X → List X → List X
insert_by key x [] = x ∷ []
insert_by key x (y ∷ ys) = if nat_lt (key x) (key y) then x ∷ y ∷ ys else y ∷ insert_by key x ys

-- the ledger with one more block, at its place by address
abbrev pub with_block : Ledger → Block → Ledger
with_block ledger block = record ledger { blocks = insert_by (λ b. b.address) block ledger.blocks }

-- a new block may lie here: outside the image, so that the ledger stays sound; in a page of its size where one has a free
-- place; else in the lowest free pages
pub record Place (ledger : Ledger) (block : Block) : Type 0 where
  pub outside : LiesOutside ledger block.address block.size
  pub sound : Sound (with_block ledger block)
  pub shares : HasSharedPage ledger block.size → HasFreePlace ledger block.size (page_of block.address)
  pub opens : ¬ (HasSharedPage ledger block.size)
      → AreFree ledger (page_of block.address) (pages_of block.size)
      × ((page : ℕ) → AreFree ledger page (pages_of block.size) → page_of block.address ≤ page)

-- where so many pages go that would like to start at a page: there, where they are free, else in the lowest such run
pub record Base (ledger : Ledger) (preferred count page : ℕ) : Type 0 where
  pub free : AreFree ledger page count
  pub lowest : (page ≡ preferred) ⊎ (¬ (AreFree ledger preferred count) × ((other : ℕ) → AreFree ledger other count → page ≤ other))

-- so many pages are the longest run of free pages
pub record Largest (ledger : Ledger) (count : ℕ) : Type 0 where
  pub free : (page : ℕ) × AreFree ledger page count
  pub most : (page other : ℕ) → AreFree ledger page other → other ≤ count

-- there is no such run; the longest one has so many pages
pub record IsTooLong (ledger : Ledger) (count largest : ℕ) : Type 0 where
  pub none : (page : ℕ) → ¬ (AreFree ledger page count)
  pub longest : Largest ledger largest
