use Rattle.std.proofs.Common.{◌∙◌, sym}
use Rattle.std.specs.Prelude.{IsTrue}
use Rattle.std.specs.Bool.{Decides}
use Rattle.gt_drafts.specs.declared.draft.DraftStructure.{DraftStructure}
use Rattle.gt_paths.proofs.Marking.{marks_are, zip_pushed, zip_same}
use Rattle.gt_rules.specs.Inner.{is_declared_inner}
use Rattle.gt_rules.proofs.inner.declared_inner.Goals as goal

pub loop-structure-preserved : goal.loop-structure-preserved
loop-structure-preserved c =
    let same = c.is_declared_inner.ensures in
    zip_pushed (λ (ds : DraftStructure) b. Decides b (IsTrue (is_declared_inner ds))) c.as_slice-structure-items.result.now c.loop-structure.structure-index c.structure-item.result
    c.loop-structure.marks.items c.push.new.self.items c.is_declared_inner.result c.loop-structure-test.true c.structure-item.is c.in_ok-push.ensures.items c.loop-structure.invariant
    (λ e. sym same ∙ e, λ holds. same ∙ holds)

pub returns : goal.returns
returns c = record {
  inner = λ id.
      marks_are (λ (ds : DraftStructure). IsTrue (is_declared_inner ds)) c.args.draft.now.structures c.of.result
      (zip_same (λ (ds : DraftStructure) b. Decides b (IsTrue (is_declared_inner ds))) c.as_slice-structure-items.result.now c.args.draft.now.structures c.loop-structure.structure-index
      c.loop-structure.marks.items c.of.result c.loop-structure-test.false c.as_slice-structure-items.ensures.items c.of.ensures.items c.loop-structure.invariant) id.0;
}
