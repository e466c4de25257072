use Rattle.std.proofs.Common.{◌∙◌, sym, ap, subst, map, refl}
use Rattle.gt_pages.specs.Slots.{block_of, slot_at}
use Rattle.gt_pages.specs.Ledger.{insert_by}
use Rattle.gt_pages.proofs.PlaceLemmas.{blocks_added}
use Rattle.gt_objects.specs.Totals.{AreTotals}
use Rattle.gt_objects.proofs.Counts.{few_blocks}
use Rattle.gt_objects.proofs.Inserted.{inserted}
use Rattle.gt_objects.proofs.counted.CountedPages.alloc_slot.Goals as goal

pub add-requires-clause-room : goal.add-requires-clause-room
add-requires-clause-room c = (map block_of c.self.inside.pages.slots, c.self.invariant, few_blocks c.self.inside.pages c.sound.ensures.laid)

pub invariant_of-self : goal.invariant_of-self
invariant_of-self c =
    let s = slot_at c.in-Ok.addr c.args.size in
    let slots = c.self.inside.pages.slots in
    subst (AreTotals c.add.new.self) (sym (ap (map block_of) c.in-Ok.ensures.added ∙ blocks_added s slots))
    (c.add.ensures.added (block_of s) (map block_of slots) (insert_by (λ b. b.address) (block_of s) (map block_of slots)) refl (inserted (λ b. b.address) (block_of s) (map block_of slots)) c.self.invariant)
