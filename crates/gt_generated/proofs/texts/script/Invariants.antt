use Rattle.std.proofs.Common.{◌≡◌, ◌≤◌, ◌*◌, length}
use Rattle.std.specs.List.{flat_map, range_with_len}
use Rattle.gt_generated.specs.Generated.{node_text}
use Rattle.gt_generated.proofs.texts.script.Given as goal

abbrev pub invariant-loop-i : goal.invariant-loop-i
invariant-loop-i l =
    record {
      nodes : l.text ≡ flat_map node_text (range_with_len 0 l.i);
      short : length l.text ≤ 128 * l.i;
    }
