use Rattle.std.proofs.Common.{false, IsTrue, refl, arith}
use Rattle.gt_types.specs.declared.program.Root.{Root}
use Rattle.gt_layout.specs.Storages.{storage_of}
use Rattle.gt_layout.specs.Planes.{is_placeable}
use Rattle.gt_layout.proofs.Drafting.{one_more, one_of}
use Rattle.gt_layout.proofs.Whole.{beyond_record, within_record}
use Rattle.gt_layout.proofs.layouts.lay_out_roots.Goals as goal

pub returns-then-draft : goal.returns-then-draft
returns-then-draft c =
    beyond_record c.args.known.now c.args.roots.now c.loop-place.place c.loop-place.draft.end c.loop-place.draft.align c.add.new.self.end c.add.new.self.align c.loop-place.draft.spots.items c.add.new.self.spots.items
    c.requires.placeable c.loop-place.invariant.draft c.loop-place.invariant.small
    (one_more (λ (r : Root). storage_of c.args.known.now r.ty) c.args.roots.now c.loop-place.place c.index-roots-place.result false
    c.loop-place.draft.end c.loop-place.draft.align c.loop-place.draft.spots.items c.storage-field.result c.start-begin.result c.add.new.self.end c.add.new.self.align c.add.new.self.spots.items
    c.loop-place-test.true c.index-roots-place.is c.storage-field.ensures
    (one_of (λ (r : Root). IsTrue (is_placeable (storage_of c.args.known.now r.ty))) c.args.roots.now c.args.roots.now c.loop-place.place c.index-roots-place.result
    c.requires.placeable refl c.loop-place-test.true c.index-roots-place.is)
    c.loop-place.invariant.draft c.start-begin.ensures.start c.start-begin.ensures.near c.in_ok-add.ensures.end c.in_ok-add.ensures.align c.in_ok-add.ensures.spots)
    (omega (arith, c.if-draft.true))

pub loop-place-preserved : goal.loop-place-preserved
loop-place-preserved c = record {
  draft = one_more (λ (r : Root). storage_of c.args.known.now r.ty) c.args.roots.now c.loop-place.place c.index-roots-place.result false
      c.loop-place.draft.end c.loop-place.draft.align c.loop-place.draft.spots.items c.storage-field.result c.start-begin.result c.add.new.self.end c.add.new.self.align c.add.new.self.spots.items
      c.loop-place-test.true c.index-roots-place.is c.storage-field.ensures
      (one_of (λ (r : Root). IsTrue (is_placeable (storage_of c.args.known.now r.ty))) c.args.roots.now c.args.roots.now c.loop-place.place c.index-roots-place.result
      c.requires.placeable refl c.loop-place-test.true c.index-roots-place.is)
      c.loop-place.invariant.draft c.start-begin.ensures.start c.start-begin.ensures.near c.in_ok-add.ensures.end c.in_ok-add.ensures.align c.in_ok-add.ensures.spots;
  small = omega (arith, c.if-draft.false);
}

pub returns : goal.returns
returns c =
    within_record c.args.known.now c.args.roots.now c.loop-place.place c.loop-place.draft.end c.loop-place.draft.align c.loop-place.draft.spots.items c.finish.result c.requires.placeable
    c.loop-place.invariant.draft c.loop-place.invariant.small c.loop-place-test.false c.finish.ensures
