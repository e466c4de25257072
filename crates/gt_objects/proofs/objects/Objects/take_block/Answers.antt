use Rattle.std.proofs.Common.{◌∙◌, ap, length, refl}
use Rattle.gt_pages.specs.Slots.{slot_at}
use Rattle.gt_objects.proofs.Taking.{learns_from, ledger_added, listed_large, new_block, new_inside}
use Rattle.gt_objects.proofs.objects.Objects.take_block.Goals as goal

pub reserve-requires : goal.reserve-requires
reserve-requires c = record { size = listed_large c.args.size c.requires.listed }

pub returns-in_default-clause-unchanged : goal.returns-in_default-clause-unchanged
returns-in_default-clause-unchanged c = record { bytes = refl; ledger = refl; shelves = c.reserve.ensures.shelves }

pub fill-requires : goal.fill-requires
fill-requires c =
    new_inside c.args.self.now.pages c.args.self.now.space c.in-Ok-alloc_slot.addr c.args.size c.in-Ok-alloc_slot.ensures.placed c.requires.listed c.requires.start c.requires.sized

pub put-requires-clause-block : goal.put-requires-clause-block
put-requires-clause-block c =
    new_block c.args.self.now.pages c.in-Ok-alloc_slot.addr c.args.size (length c.reserve.new.self.shelves) c.in-Ok-alloc_slot.ensures.placed c.requires.listed (ap length c.reserve.ensures.shelves ∙ c.requires.shelves)

pub returns-in-Ok-alloc_slot-clause-taken : goal.returns-in-Ok-alloc_slot-clause-taken
returns-in-Ok-alloc_slot-clause-taken c = record {
  place = c.in-Ok-alloc_slot.ensures.placed;
  ledger = ledger_added c.args.self.now.pages c.alloc_slot.new.self (slot_at c.in-Ok-alloc_slot.addr c.args.size) c.alloc_slot.ensures.kept c.in-Ok-alloc_slot.ensures.added;
  laid = c.sound.ensures.laid;
  bytes = c.fill.ensures.bytes;
  learns = learns_from c.args.self.now.directory c.reserve.new.self c.put.new.self c.in-Ok-alloc_slot.addr c.args.size c.args.known c.reserve.ensures.shelves c.put.ensures.learns;
  shelves = c.put.ensures.pages ∙ ap length c.reserve.ensures.shelves;
}
