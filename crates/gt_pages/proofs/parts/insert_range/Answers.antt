use Rattle.std.proofs.Common.{ap, ◌∙◌, inl, inr, arith}
use Rattle.std.proofs.lemmas.Bool.{cases_eq}
use Rattle.gt_bits.specs.Sets.{has}
use Rattle.gt_pages.proofs.parts.insert_range.Goals as goal

pub loop-i-preserved : goal.loop-i-preserved
loop-i-preserved c = record {
  range = λ j high low. elim (cases_eq j c.loop-i.i) [
    | inl same ↦ ap (has c.insert.new.words) same ∙ c.insert.ensures.held
    | inr apart ↦ c.insert.ensures.others j apart ∙ c.loop-i.invariant.range j high (omega (arith, low, apart))
  ];
  others = λ j out.
      c.insert.ensures.others j (λ same. elim out [ inl low ↦ omega (arith, same, low, c.loop-i.auto.i) | inr high ↦ omega (arith, same, high) ])
      ∙ c.loop-i.invariant.others j (elim out [ inl low ↦ inl low | inr high ↦ inr (omega (arith, high)) ]);
}
