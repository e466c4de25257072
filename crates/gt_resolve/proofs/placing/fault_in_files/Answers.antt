use Rattle.std.proofs.Common.{◌∙◌, ◌+◌, drop, refl, arith, Ok, Err}
use Rattle.std.specs.Prelude.{filter_map}
use Rattle.gt_resolve.specs.Placings.{fault_item, faults_from, item_or_rest}
use Rattle.gt_resolve.proofs.PlacingLemmas.{next_file, no_file, found_here, found_after}
use Rattle.gt_resolve.proofs.placing.fault_in_files.Goals as goal

pub returns-in-Ok : goal.returns-in-Ok
returns-in-Ok c =
    let tags = c.args.tags in
    let at = c.loop-at.at in
    let items = c.as_slice.result.now in
    let whole = next_file tags c.args.files.now at c.index-files-at.result items (at + 1) c.loop-at.rest (omega arith) c.index-files-at.is c.as_slice.ensures.items refl in
    record {
      item =
          found_here (item_or_rest (filter_map (fault_item tags (at + 1)) items) c.loop-at.rest) (Ok c.in-Ok.fault)
          (item_or_rest (faults_from tags (at + 1) (drop at c.args.files.now)) c.loop-at.rest) (faults_from tags (at + 1 + 1) (drop (at + 1) c.args.files.now))
          c.in-Ok.fault whole c.in-Ok.ensures.item refl
          ∙ c.loop-at.invariant;
    }

pub loop-at-preserved : goal.loop-at-preserved
loop-at-preserved c =
    let tags = c.args.tags in
    let at = c.loop-at.at in
    let items = c.as_slice.result.now in
    let whole = next_file tags c.args.files.now at c.index-files-at.result items (at + 1) c.loop-at.rest (omega arith) c.index-files-at.is c.as_slice.ensures.items refl in
    found_after (item_or_rest (filter_map (fault_item tags (at + 1)) items) c.loop-at.rest) (Err c.in-Err.less)
    (item_or_rest (faults_from tags (at + 1) (drop at c.args.files.now)) c.loop-at.rest) (faults_from tags (at + 1 + 1) (drop (at + 1) c.args.files.now))
    c.in-Err.less whole c.in-Err.ensures.item refl
    ∙ c.loop-at.invariant

pub returns : goal.returns
returns c =
    record {
      item = no_file c.args.tags c.args.files.now c.loop-at.at (c.loop-at.at + 1) c.loop-at.rest (omega arith) ∙ c.loop-at.invariant;
    }
