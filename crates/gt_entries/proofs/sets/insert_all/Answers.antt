use Rattle.std.proofs.Common.{ap, ◌∙◌, inl, inr, arith}
use Rattle.std.proofs.lemmas.Bool.{cases_eq}
use Rattle.gt_bits.specs.Sets.{has}
use Rattle.gt_entries.proofs.sets.insert_all.Goals as goal

pub loop-i-preserved : goal.loop-i-preserved
loop-i-preserved c = record {
  held = λ j low. elim (cases_eq j c.loop-i.i) [
    | inl same ↦ ap (has c.insert.new.words) same ∙ c.insert.ensures.held
    | inr apart ↦ c.insert.ensures.others j apart ∙ c.loop-i.invariant.held j (omega (arith, low, apart))
  ];
  others = λ j high. c.insert.ensures.others j (λ same. omega (arith, same, high)) ∙ c.loop-i.invariant.others j (omega (arith, high));
}
