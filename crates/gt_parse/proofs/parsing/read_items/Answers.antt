use Rattle.std.proofs.Common.{◌++◌, ap, sym, ◌∙◌, map, take}
use Rattle.std.specs.List.{flat_map}
use Rattle.gt_parse.specs.Header.{item_faults}
use Rattle.gt_parse.specs.Answers.{item_items, earlier, first_of}
use Rattle.gt_parse.proofs.First.{first_of-append, one_more}
use Rattle.gt_parse.proofs.parsing.read_items.Goals as goal

pub loop-one-preserved : goal.loop-one-preserved
loop-one-preserved c = record {
  items = c.in_ok-read_item.ensures.items ∙ ap (λ items. items ++ item_items c.one-item.result.now) c.loop-one.invariant.items
      ∙ sym (one_more (λ one. one.now) item_items c.args.cut.now c.loop-one.one-index c.one-item.result c.loop-one-test.true c.one-item.is);
  first = c.earlier-first.ensures ∙ ap (λ first. earlier first c.in_ok-read_item.field-0) c.loop-one.invariant.first
      ∙ ap (earlier (first_of (flat_map item_faults (map (λ one. one.now) (take c.loop-one.one-index c.args.cut.now))))) c.in_ok-read_item.ensures.fault
      ∙ sym (first_of-append (flat_map item_faults (map (λ one. one.now) (take c.loop-one.one-index c.args.cut.now))) (item_faults c.one-item.result.now))
      ∙ ap first_of (sym (one_more (λ one. one.now) item_faults c.args.cut.now c.loop-one.one-index c.one-item.result c.loop-one-test.true c.one-item.is));
}
