use Rattle.std.proofs.Common.{◌≡◌, drop}
use Rattle.std.specs.Prelude.{fold}
use Rattle.gt_words.specs.Numbers.{value_of}
use Rattle.gt_words.proofs.Digits.{step}
use Rattle.gt_words.proofs.number.value.Given as goal

abbrev pub invariant-loop-c : goal.invariant-loop-c
invariant-loop-c l = fold step l.value (drop l.c-index l.digits) ≡ value_of l.digits
