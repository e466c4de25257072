-- What is told of an address, and the characters of a block.
use Rattle.std.proofs.Common.{◌≡◌, ℕ, zero, suc, ◌+◌, ◌-◌, ◌<◌, ◌≤◌, List, [], ◌∷◌, Option, Some, None, option_map, length, take, drop, get_or, refl, ap, sym, subst, ◌∙◌, arith, inl, inr, length-drop}
use Rattle.std.specs.Prelude.{slice_get}
use Rattle.std.proofs.lemmas.Bool.{cases_eq}
use Rattle.std.proofs.lemmas.Option.{none-some, slice_get-get_or}
use Rattle.gt_space.specs.Range.{Range, IsInside, IsSpace, bytes_at}
use Rattle.gt_space.specs.Numbers.{u8_at}
use Rattle.gt_tree.specs.Blocks.{IsWhole}
use Rattle.gt_value.specs.Names.{IsTold, HasChar, IsChar}
use Rattle.gt_store.proofs.LeafStored.{get-at}
use Rattle.gt_pages.specs.Slots.{owner_of}
use Rattle.gt_objects.specs.declared.objects.Known.{Known}
use Rattle.gt_objects.specs.declared.objects.Objects.{Objects}
use Rattle.gt_objects.specs.InBytes.{block_as, blocks_in, chars_as, known_in}
use Rattle.gt_objects.proofs.Finding.{known_elsewhere, known_nowhere, owner_here}
use Rattle.gt_objects.proofs.Naming.{mapped_some}
use Rattle.gt_elements.specs.Naming.{AreNamed}

-- ---- lists

-- what is below the length of the first items is below their number and below the length of all
take_low : (n : ℕ) (xs : List ℕ) (i : ℕ) → i < length (take n xs) → (i < n) × (i < length xs)
take_low zero xs i low = absurd (let no : 1 ≤ 0 = omega (arith, low) in omega (arith, no))
take_low (suc n) [] i low = absurd (let no : 1 ≤ 0 = omega (arith, low) in omega (arith, no))
take_low (suc n) (x ∷ xs) zero low = (omega arith, omega arith)
take_low (suc n) (x ∷ xs) (suc i) low = let rest = take_low n xs i (omega (arith, low)) in (omega (arith, rest.0), omega (arith, rest.1))

bytes_low : (r : Range) (address n i : ℕ) → i < length (bytes_at r address n) → (i < n) × ((address - r.start) + i < length r.bytes)
bytes_low r address n i low =
    let both = take_low n (drop (address - r.start) r.bytes) i low in
    let long = length-drop (address - r.start) r.bytes in
    (both.0, omega (arith, both.1, long))

-- ---- blocks

module _ (objects : Objects) (address : ℕ) where
  pub untold : known_in objects address ≡ None → IsTold (blocks_in objects) address None
  untold e = ap (option_map (block_as objects.space address)) e

  -- a block of which something is known starts at the address
  starts : (known : Known) → known_in objects address ≡ Some known → (size : ℕ) × (owner_of objects.pages.slots address ≡ Some (address, size))
  starts known is = by_owner (owner_of objects.pages.slots address) refl
    where
      by_owner : (owner : Option (ℕ × ℕ)) → owner_of objects.pages.slots address ≡ owner → (size : ℕ) × (owner_of objects.pages.slots address ≡ Some (address, size))
      by_owner None e = absurd (none-some known (sym (known_nowhere objects address e) ∙ is))
      by_owner (Some (start, size)) e = elim (cases_eq start address) as (λ _. (size : ℕ) × (owner_of objects.pages.slots address ≡ Some (address, size))) [
        | inl same ↦ (size, owner_here objects address start size same e)
        | inr differs ↦ absurd (none-some known (sym (known_elsewhere objects address start size e differs) ∙ is))
      ]

  module _ (named : AreNamed objects) where
    pub told : (known : Known) → known_in objects address ≡ Some known → IsTold (blocks_in objects) address (Some (record { kind = known.kind; count = known.count }))
    told known e =
        let b = block_as objects.space address known in
        let there : blocks_in objects address ≡ Some b = ap (option_map (block_as objects.space address)) e in
        let whole : IsWhole b = λ chars. let ended = named.ended address b there chars in (ended.0, (take (length b.chars - 1) b.chars, ended.1)) in
        (b, there, refl, refl, whole)

    module _ (space : IsSpace objects.space) (i : ℕ) (has : HasChar (blocks_in objects) address i) where
      known : (known : Known) × (known_in objects address ≡ Some known) × (block_as objects.space address known ≡ has.0)
      known = mapped_some (block_as objects.space address) (known_in objects address) has.0 has.1

      above : objects.space.start ≤ address
      above =
          let start = starts known.0 known.1 in
          let at = (named.places address start.0 start.1).above in
          let low = space.starts in
          omega (arith, at, low)

      chars : has.0.chars ≡ bytes_at objects.space address known.0.count
      chars = sym (ap (λ b. b.chars) known.2) ∙ ap (λ k. chars_as k (bytes_at objects.space address known.0.count)) (ap (λ b. b.kind) known.2 ∙ has.2)

      low : i < length (bytes_at objects.space address known.0.count)
      low = subst (λ xs. i < length xs) chars has.3

      pub char_room : IsInside objects.space (address + i) 1
      char_room =
          let at = above in
          let both = bytes_low objects.space address known.0.count i low in
          record { from_start = omega (arith, at); to_end = omega (arith, at, both.1) }

      pub char_address : address + i < 18446744073709551616
      char_address = let room = char_room in let ends = space.ends in omega (arith, room.to_end, ends)

      pub char_is : IsChar (blocks_in objects) address i (u8_at objects.space (address + i))
      char_is b e kind =
          let same : has.0 ≡ b = let first = has.1 in cc in
          let both = bytes_low objects.space address known.0.count i low in
          let at = above in
          let index : (address - objects.space.start) + i ≡ (address + i) - objects.space.start = omega (arith, at) in
          ap (λ x. slice_get x.chars i) (sym same)
          ∙ ap (λ xs. slice_get xs i) chars
          ∙ slice_get-get_or (bytes_at objects.space address known.0.count) i 0 low
          ∙ ap (λ n. Some n) (get-at objects.space address known.0.count i both.0 ∙ ap (λ n. get_or objects.space.bytes n 0) index)
