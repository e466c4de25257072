use Rattle.std.proofs.Common.{◌≡◌, take, map}
use Rattle.std.specs.List.{flat_map}
use Rattle.gt_parse.specs.Header.{item_faults}
use Rattle.gt_parse.specs.Answers.{item_items, first_of}
use Rattle.gt_parse.proofs.parsing.read_items.Given as goal

abbrev pub invariant-loop-one : goal.invariant-loop-one
invariant-loop-one l = record {
  items : l.items.items ≡ flat_map item_items (map (λ one. one.now) (take l.one-index l.cut));
  first : l.first ≡ first_of (flat_map item_faults (map (λ one. one.now) (take l.one-index l.cut)));
}
