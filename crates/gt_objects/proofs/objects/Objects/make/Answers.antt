use Rattle.std.proofs.Common.{◌≡◌, ℕ, Err, Result, replicate, rules, subst}
use Rattle.gt_tree.specs.FixedLaws.{MayHold}
use Rattle.gt_objects.specs.declared.making.Made.{Made}
use Rattle.gt_objects.specs.declared.making.MakeFail.{MakeFail}
use Rattle.gt_objects.specs.declared.making.MakeFail.TheVariants.{Full}
use Rattle.gt_objects.proofs.Added.{is_made, zero_is_new}
use Rattle.gt_objects.proofs.Before.{heap_as_before, no_room}
use Rattle.gt_objects.proofs.Listed.{rounded_listed}
use Rattle.gt_objects.proofs.Taking.{ends_above, shelves_are, starts_below}
use Rattle.gt_objects.proofs.objects.Objects.make.Goals as goal

same_need : (size need : ℕ) → ◌≡◌ {A = Result Made MakeFail} (Err (Full size)) (Err (Full need)) → size ≡ need
same_need size need e = cc

pub block_size-requires-clause-kind : goal.block_size-requires-clause-kind
block_size-requires-clause-kind c = let ready = c.requires.ready in subst (MayHold c.args.program.now) ready.3.is_known.kind ready.3.object.may_hold

pub take_block-requires-clause-listed : goal.take_block-requires-clause-listed
take_block-requires-clause-listed c = let sized = c.in-Some.ensures.size in (rounded_listed sized.0 c.in-Some.size sized.2).0

pub take_block-requires-clause-shelves : goal.take_block-requires-clause-shelves
take_block-requires-clause-shelves c = let ready = c.requires.ready in shelves_are c.args.program.now c.args.layouts.now c.args.self.now ready.0 ready.2

pub take_block-requires-clause-start : goal.take_block-requires-clause-start
take_block-requires-clause-start c = let ready = c.requires.ready in starts_below c.args.program.now c.args.layouts.now c.args.self.now ready.0 ready.2

pub take_block-requires-clause-sized : goal.take_block-requires-clause-sized
take_block-requires-clause-sized c = let ready = c.requires.ready in ends_above c.args.program.now c.args.layouts.now c.args.self.now ready.0 ready.2

pub returns-in-Ok-clause-made : goal.returns-in-Ok-clause-made
returns-in-Ok-clause-made c = λ heap o is zero.
    is_made c.args.program.now c.args.layouts.now c.requires.within c.args.self.now c.take_block.new.self heap is c.args.known o c.in-Ok.addr c.in-Some.size (replicate c.in-Some.size 0)
    (zero_is_new c.args.program.now c.args.layouts.now c.requires.settled c.requires.laid heap.graph c.args.known o zero c.in-Some.size c.in-Some.ensures.size) c.in-Some.ensures.size c.in-Ok.ensures.taken

pub returns-in-Err-Full-clause-full : goal.returns-in-Err-Full-clause-full
returns-in-Err-Full-clause-full c = λ need e heap is room.
    no_room c.args.program.now c.args.layouts.now c.args.self.now heap is c.in-Some.size need (same_need c.in-Some.size need e) (c.in-Err-Full.ensures.full (search (rules, c.in-Err-Full.field-0-is))) room

pub returns-in-Err-Full-clause-unchanged : goal.returns-in-Err-Full-clause-unchanged
returns-in-Err-Full-clause-unchanged c = λ heap is. heap_as_before c.args.program.now c.args.layouts.now c.args.self.now c.take_block.new.self c.in-Err-Full.ensures.unchanged heap is

pub returns-in-Err-Memory-clause-unchanged : goal.returns-in-Err-Memory-clause-unchanged
returns-in-Err-Memory-clause-unchanged c = λ heap is. heap_as_before c.args.program.now c.args.layouts.now c.args.self.now c.take_block.new.self c.in-Err-Memory.ensures.unchanged heap is

pub returns-in-Err-Full-clause-bytes : goal.returns-in-Err-Full-clause-bytes
returns-in-Err-Full-clause-bytes c = c.in-Err-Full.ensures.unchanged.bytes

pub returns-in-Err-Memory-clause-bytes : goal.returns-in-Err-Memory-clause-bytes
returns-in-Err-Memory-clause-bytes c = c.in-Err-Memory.ensures.unchanged.bytes
