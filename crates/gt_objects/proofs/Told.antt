-- A new block is told apart from each other block by its address and size.
use Rattle.std.proofs.Common.{◌≡◌, ◌+◌, ◌≤◌, subst, inl, inr, arith}
use Rattle.std.specs.Prelude.{◌⊎◌, Contains}
use Rattle.std.proofs.lemmas.Bool.{cases_eq, cases_lt}
use Rattle.std.proofs.lemmas.List.Elements.{All-contains}
use Rattle.gt_space.specs.Laws.{IsApart}
use Rattle.gt_pages.specs.Ledger.{Block, Ledger, Place, IsInPlace, IsOffPage, LiesOutside, page_address, page_of, with_block}
use Rattle.gt_directory.specs.Directories.{AreTold}
use Rattle.gt_graph.specs.Changes.{Inserts}
use Rattle.gt_objects.proofs.Inserted.{apart_inserted, inserted, new_there, old_there}

module _ (ledger : Ledger) (b : Block) (place : Place ledger b) (large : 8 ≤ b.size) where
  is : Inserts b ledger.blocks (with_block ledger b).blocks
  is = inserted (λ x. x.address) b ledger.blocks

  -- where it lies
  pub placed_space : (0x10000000 ≤ b.address) × (b.address + b.size ≤ page_address ledger.pages)
  placed_space = All-contains (λ x. (0x10000000 ≤ x.address) × (x.address + x.size ≤ page_address ledger.pages)) (with_block ledger b).blocks b place.sound.in_space (new_there b ledger.blocks (with_block ledger b).blocks is)

  module _ (c : Block) (there : Contains ledger.blocks c) (other_large : 8 ≤ c.size) where
    still : Contains (with_block ledger b).blocks c
    still = old_there b ledger.blocks (with_block ledger b).blocks is c there

    pub other_space : (0x10000000 ≤ c.address) × (c.address + c.size ≤ page_address ledger.pages)
    other_space = All-contains (λ x. (0x10000000 ≤ x.address) × (x.address + x.size ≤ page_address ledger.pages)) (with_block ledger b).blocks c place.sound.in_space still

    -- they share no byte
    pub placed_apart : IsApart b.address b.size c.address c.size
    placed_apart = apart_inserted b ledger.blocks (with_block ledger b).blocks is place.sound.apart c there

    in_place : IsInPlace (with_block ledger b) b
    in_place =
        All-contains (λ x. LiesOutside (with_block ledger b) x.address x.size → IsInPlace (with_block ledger b) x) (with_block ledger b).blocks b place.sound.places
        (new_there b ledger.blocks (with_block ledger b).blocks is) place.outside

    -- in one page they are of one size
    alike : page_of b.address ≡ page_of c.address → c.size ≡ b.size
    alike same =
        let mine = placed_space in
        let its = other_space in
        elim (cases_lt 4096 b.size) as (λ _. c.size ≡ b.size) [
          | inl over ↦
              let starts = in_place.large over in
              elim placed_apart as (λ _. c.size ≡ b.size) [
                | inl before ↦ absurd (let no : 1 ≤ 0 = omega (arith, before, starts, same, mine.0, its.0, over) in omega (arith, no))
                | inr after ↦ absurd (let no : 1 ≤ 0 = omega (arith, after, starts, same, mine.0, its.0, other_large) in omega (arith, no))
              ]
          | inr within ↦
              elim (All-contains (λ x. (x.size ≡ b.size) ⊎ IsOffPage x.address x.size (page_of b.address)) (with_block ledger b).blocks c (in_place.alike within) still) as (λ _. c.size ≡ b.size) [
                | inl equal ↦ equal
                | inr (inl before) ↦ absurd (let no : 1 ≤ 0 = omega (arith, before, same, mine.0, its.0, other_large) in omega (arith, no))
                | inr (inr after) ↦ absurd (let no : 1 ≤ 0 = omega (arith, after, same, mine.0, its.0) in omega (arith, no))
              ]
        ]

    pub told_apart : AreTold b.address b.size c.address c.size
    told_apart = elim (cases_eq (page_of b.address) (page_of c.address)) as (λ _. AreTold b.address b.size c.address c.size) [
      | inl same ↦ inr (alike same, subst (λ n. IsApart b.address b.size c.address n) (alike same) placed_apart)
      | inr differ ↦ inl differ
    ]
