use Rattle.std.proofs.Common.{◌≡◌, false, ◌++◌, drop}
use Rattle.std.specs.Option.{option_map}
use Rattle.gt_marked.specs.Markers.{unescaped}
use Rattle.gt_marked.proofs.strings.unescape.Given as goal

abbrev pub invariant-loop-byte : goal.invariant-loop-byte
invariant-loop-byte l = option_map (λ rest. l.bytes ++ rest) (unescaped l.is_escaped (drop l.byte-index l.text)) ≡ unescaped false l.text
