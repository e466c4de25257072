use Rattle.std.proofs.Common.{◌≡◌, ◌+◌, ◌-◌, ◌≤◌, length, take, drop}
use Rattle.std.specs.Str.{IsUtf8}
use Rattle.gt_text.specs.Identifier.{continues_identifier_of}
use Rattle.gt_expr.specs.Characters.{run_after}
use Rattle.gt_expr.proofs.names.run_len.Given as goal

abbrev pub invariant-loop-c : goal.invariant-loop-c
invariant-loop-c l = record {
  len : l.len + run_after 0 continues_identifier_of (drop l.len l.text) ≡ run_after 0 continues_identifier_of l.text;
  within : l.len ≤ length l.text;
  utf8 : IsUtf8 (take l.len l.text);
}

abbrev pub decreases-loop-c : goal.decreases-loop-c
decreases-loop-c l = length l.text - l.len
