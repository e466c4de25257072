-- No promise: where a new block lies.
use Rattle.std.specs.Prelude.{◌≡◌, ℕ, ◌+◌, ◌≤◌, slice_get, Some}
use Rattle.gt_links.specs.Lists.{nodes_of}
use Rattle.gt_pages.specs.Ledger.{HasFreePlace, LiesOutside, page_address, page_of, pages_of}
use Rattle.gt_pages.specs.Contents.{Contents, IsSize, ledger_of}

-- so many bytes from an address on lie in the pages from this one on that a block of this size needs, and start in the first
pub record IsWithin (page size address : ℕ) : Type 0 where
  pub starts : page_of address ≡ page
  pub from : page_address page ≤ address
  pub to : address + size ≤ page_address (page + pages_of size)

-- the address is that of a free place outside the image, in the page of the first entry of the size's list
pub record Shares (c : Contents) (size address : ℕ) : Type 0 where
  pub outside : LiesOutside (ledger_of c) address size
  pub place : HasFreePlace (ledger_of c) size (page_of address)
  pub first : (i : ℕ) → IsSize i size → slice_get (nodes_of c.lists i) 0 ≡ Some (page_of address)
