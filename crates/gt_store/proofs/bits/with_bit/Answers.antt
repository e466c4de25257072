use Rattle.std.proofs.Common.{◌∙◌, ap, sym, w8}
use Rattle.std.specs.Prelude.{◌==◌}
use Rattle.std.proofs.lemmas.Nat.Bits.{bit_at_set_same, bit_at_set_other, bit_at_clear_same, bit_at_clear_other}
use Rattle.gt_store.proofs.bits.with_bit.Goals as goal

pub returns-then-set : goal.returns-then-set
returns-then-set c = record {
  same = ap (λ b. b == 1) (bit_at_set_same w8 c.args.byte c.args.i c.requires) ∙ sym c.if-set.true;
  other = λ k low ne. ap (λ b. b == 1) (bit_at_set_other w8 c.args.byte c.args.i c.requires k ne);
}

pub returns-else-set : goal.returns-else-set
returns-else-set c = record {
  same = ap (λ b. b == 1) (bit_at_clear_same w8 c.args.byte c.args.i c.requires) ∙ sym c.if-set.false;
  other = λ k low ne. ap (λ b. b == 1) (bit_at_clear_other w8 c.args.byte c.args.i c.requires k low ne);
}
