use Rattle.std.proofs.Common.{◌≡◌, drop}
use Rattle.std.specs.Prelude.{fold, IsTrue}
use Rattle.std.specs.Char.{is_digit}
use Rattle.std.specs.List.{list_all}
use Rattle.gt_text.specs.Integer.{value_of}
use Rattle.gt_split.proofs.Digits.{step}
use Rattle.gt_split.proofs.numbers.digits_value.Given as goal

abbrev pub invariant-loop-c : goal.invariant-loop-c
invariant-loop-c l = record {
  value : fold (step l.base) l.value (drop l.c-index l.digits) ≡ value_of l.base l.digits;
  digits : IsTrue (list_all (λ c. is_digit c l.base) (drop l.c-index l.digits));
}
