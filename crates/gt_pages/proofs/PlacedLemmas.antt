-- A new block that got a place.
use Rattle.std.proofs.Common.{◌≡◌, ℕ, List, Option, Some, None, map, sym, ap, subst, ◌∙◌, inl, inr, arith}
use Rattle.std.proofs.lemmas.Bool.{cases_lt}
use Rattle.gt_bits.specs.Sets.{IsLowestRun}
use Rattle.gt_pages.specs.Ledger.{AreFree, Block, HasSharedPage, Ledger, PageRange, Place, Room, Sound, page_of, pages_of, with_block}
use Rattle.gt_pages.specs.Slots.{Slot, block_of, slot_at, with_slot}
use Rattle.gt_pages.specs.Contents.{Contents, IsInFirst, KeepsPages, ledger_of}
use Rattle.gt_pages.specs.Places.{IsWithin, Shares}
use Rattle.gt_pages.specs.Parts.{IsKept, Parts, contents_of}
use Rattle.gt_pages.proofs.FreeLemmas.{free_run, run_free}
use Rattle.gt_pages.proofs.PlaceLemmas.{blocks_added}
use Rattle.gt_pages.proofs.RoomLemmas.{lies_outside}
use Rattle.gt_pages.proofs.ViewLemmas.{laid_out}

abbrev ledger_from : List Block → PageRange → ℕ → Ledger
ledger_from blocks image pages = record { blocks = blocks; image = image; pages = pages }

-- the blocks with the new one are sound
sound_with : (old new : Contents) (s : Slot) → KeepsPages old new → new.slots ≡ with_slot old.slots s → Sound (ledger_of new)
    → Sound (with_block (ledger_of old) (block_of s))
sound_with old new s keeps added sound =
    subst (λ l. Sound l)
    (ap (λ xs. ledger_from (map block_of xs) new.image new.pages) added
    ∙ ap (λ bs. ledger_from bs new.image new.pages) (blocks_added s old.slots)
    ∙ ap (λ i. ledger_from (with_block (ledger_of old) (block_of s)).blocks i new.pages) keeps.image
    ∙ ap (λ n. ledger_from (with_block (ledger_of old) (block_of s)).blocks old.image n) keeps.pages) sound

-- what holds where a block got its place
pub record IsPlaced (old new : Contents) (size addr : ℕ) : Type 0 where
  pub place : Place (ledger_of old) (block_of (slot_at addr size))
  pub added : new.slots ≡ with_slot old.slots (slot_at addr size)
  pub first : IsInFirst old size addr
  pub room : Room (ledger_of old) size

-- in a page of its size
pub placed_shared : (p new : Parts) (size addr : ℕ) → IsKept new → KeepsPages (contents_of p) (contents_of new) → Shares (contents_of p) size addr
    → (contents_of new).slots ≡ with_slot (contents_of p).slots (slot_at addr size) → IsPlaced (contents_of p) (contents_of new) size addr
placed_shared p new size addr kept keeps shares added = record {
  place = record {
    outside = shares.outside;
    sound = sound_with (contents_of p) (contents_of new) (slot_at addr size) keeps added (laid_out new kept).sound;
    shares = λ _. shares.place;
    opens = λ none. absurd (none (page_of addr, shares.place));
  };
  added = added;
  first = λ i is _. shares.first i is;
  room = inl (page_of addr, shares.place);
}

-- in free pages
pub placed_open : (p new : Parts) (size page addr : ℕ) → IsKept p → IsKept new → KeepsPages (contents_of p) (contents_of new)
    → (HasSharedPage (ledger_of (contents_of p)) size → ⊥) → IsLowestRun p.free (pages_of size) p.pages (Some page) → IsWithin page size addr
    → (contents_of new).slots ≡ with_slot (contents_of p).slots (slot_at addr size) → IsPlaced (contents_of p) (contents_of new) size addr
placed_open p new size page addr kept kept-new keeps not_shared run within added =
    let free = run_free p kept page (pages_of size) run.run.0 run.run.1 in
    record {
      place = record {
        outside = lies_outside p kept page size addr within (λ q from to. (free.each q from to).0);
        sound = sound_with (contents_of p) (contents_of new) (slot_at addr size) keeps added (laid_out new kept-new).sound;
        shares = λ shared. absurd (not_shared shared);
        opens = λ _. (
          subst (λ i. AreFree (ledger_of (contents_of p)) i (pages_of size)) (sym within.starts) free,
          λ other is. elim (cases_lt other page) [
            | inl low ↦ absurd (run.lowest other low (free_run p kept other (pages_of size) is))
            | inr high ↦ let same = within.starts in omega (arith, high, same)
          ],
        );
      };
      added = added;
      first = λ i is shared. absurd (not_shared shared);
      room = inr (page, free);
    }

-- where no free page is enough there is no room
pub no_room : (p : Parts) (size : ℕ) → IsKept p → (HasSharedPage (ledger_of (contents_of p)) size → ⊥) → IsLowestRun p.free (pages_of size) p.pages None
    → Room (ledger_of (contents_of p)) size → ⊥
no_room p size kept not_shared run room = elim room [
  | inl shared ↦ not_shared shared
  | inr free ↦ run.none free.0 (free_run p kept free.0 (pages_of size) free.1)
]

-- the run that was looked for in the free pages
pub run_of : (p mid : Parts) (size count : ℕ) (words : List ℕ) (r s : Option ℕ) → mid ≡ p → words ≡ mid.free → count ≡ pages_of size → r ≡ s
    → IsLowestRun words count mid.pages r → IsLowestRun p.free (pages_of size) p.pages s
run_of p mid size count words r s is free many same run =
    subst (λ x. IsLowestRun x.free (pages_of size) x.pages s) is
    (subst (λ o. IsLowestRun mid.free (pages_of size) mid.pages o) same
    (subst (λ n. IsLowestRun mid.free n mid.pages r) many (subst (λ w. IsLowestRun w count mid.pages r) free run)))
