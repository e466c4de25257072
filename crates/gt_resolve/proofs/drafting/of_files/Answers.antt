use Rattle.std.proofs.Common.{◌∙◌, ◌+◌, ◌++◌, ap, refl}
use Rattle.std.specs.Prelude.{filter_map}
use Rattle.gt_resolve.specs.Drafts.{items_from}
use Rattle.gt_resolve.proofs.DraftLemmas.{file_more, files_all}
use Rattle.gt_resolve.proofs.drafting.of_files.Goals as goal

pub loop-items-preserved : goal.loop-items-preserved
loop-items-preserved g c =
    let reading = g.D.OfItem.reading c.args.scope.now.declarations.items c.args.scope.now.types.items in
    file_more reading c.args.files.now c.loop-items.made.items c.in_ok-made.made.items (items_from reading 1 c.args.files.now) c.loop-items.file
    (c.loop-items.file + 1) c.loop-items.items-index c.items-item.result c.loop-items-test.true c.items-item.is c.loop-items.invariant refl
    (c.in_ok-made.ensures.items ∙ ap (λ xs. c.loop-items.made.items ++ filter_map (reading (c.loop-items.file + 1)) xs) c.as_slice.ensures.items)

pub returns : goal.returns
returns g c =
    let reading = g.D.OfItem.reading c.args.scope.now.declarations.items c.args.scope.now.types.items in
    record {
      items =
          c.of.ensures.items
          ∙ files_all reading c.args.files.now c.loop-items.made.items (items_from reading 1 c.args.files.now) (c.loop-items.file + 1) c.loop-items.items-index
          c.loop-items-test.false c.loop-items.invariant;
    }
