-- The sizes of blocks.
use Rattle.std.proofs.Common.{◌≡◌, ℕ, ◌<◌, ◌≤◌, Bool, true, ◌&&◌, nat_le, Some, None, refl, inl, inr, arith}
use Rattle.std.specs.Prelude.{◌↔◌, Contains}
use Rattle.std.specs.List.{list_all}
use Rattle.std.proofs.lemmas.Bool.{and_parts, cases_lt, le-leb, leb-true, lt-leb}
use Rattle.gt_pages.specs.Ledger.{rounded, sizes}
use Rattle.gt_pages.proofs.SizeLemmas.{each_passes}
use Rattle.gt_objects.proofs.Items.{find_is, find_none, none_found}

abbrev is_bounded : ℕ → Bool
is_bounded size = nat_le 8 size && nat_le size 1048576

all_bounded : list_all is_bounded sizes ≡ true
all_bounded = refl

-- a listed size is from 8 bytes to a mebibyte
pub size_bounds : (size : ℕ) → Contains sizes size → (8 ≤ size) × (size ≤ 1048576)
size_bounds size there =
    let parts = and_parts (nat_le 8 size) (nat_le size 1048576) (each_passes is_bounded sizes all_bounded size there) in
    (leb-true 8 size parts.0, leb-true size 1048576 parts.1)

pub rounded_listed : (bytes size : ℕ) → rounded bytes ≡ Some size → Contains sizes size × (bytes ≤ size)
rounded_listed bytes size e =
    let found = find_is (λ s. nat_le bytes s) sizes size e in
    (found.0, leb-true bytes size found.1)

-- beyond a mebibyte there is none
pub none_rounded : (bytes : ℕ) → 1048576 < bytes → rounded bytes ≡ None
none_rounded bytes far = none_found (λ s. nat_le bytes s) sizes (λ size there. let most = (size_bounds size there).1 in lt-leb bytes size (omega (arith, far, most)))

-- and exactly there
pub none_far : (bytes : ℕ) → rounded bytes ≡ None → 1048576 < bytes
none_far bytes none = elim (cases_lt 1048576 bytes) as (λ _. 1048576 < bytes) [
  | inl far ↦ far
  | inr near ↦ absurd (find_none (λ s. nat_le bytes s) sizes 1048576 none (28, omega arith, refl) (le-leb bytes 1048576 near))
]

pub greatest-size : (bytes : ℕ) → (rounded bytes ≡ None) ↔ (1048576 < bytes)
greatest-size bytes = (none_far bytes, none_rounded bytes)
