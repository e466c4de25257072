use Rattle.std.proofs.Common.{◌≡◌, ◌<◌, ◌^◌, ◌+◌, ◌*◌, ◌/◌, ◌∙◌, ap, sym, subst, arith, ◌∷◌, []}
use Rattle.std.specs.Int.{bytes_low_first}
use Rattle.gt_types.specs.declared.types.Width.TheVariants.{W1}
use Rattle.gt_space.specs.Range.{with_bytes}
use Rattle.gt_store.specs.Overlays.{bytes_in}
use Rattle.gt_store.specs.Writing.{Writes}
use Rattle.gt_store.proofs.BitLemmas.{writes-number, writes-byte}
use Rattle.gt_store.proofs.bits.write_number.Goals as goal

pub returns-in-W1 : goal.returns-in-W1
returns-in-W1 c =
    subst (λ w. Writes c.args.at (8 * bytes_in w) c.args.bits c.args.space.now c.write_u8.new.self) (sym c.in-W1.is)
    (writes-byte c.args.space.now c.args.at c.args.bits c.requires.whole (omega (arith, c.requires.inside, ap bytes_in c.in-W1.is)) (small c.args.width c.in-W1.is c.requires.small) c.write_u8.new.self
    (c.write_u8.ensures.bytes ∙ ap (λ a. with_bytes c.args.space.now (a + c.args.at / 8) (c.args.bits ∷ [])) c.start.ensures.start) c.write_u8.ensures.addresses)
  where
    small : (w : _) → w ≡ W1 → c.args.bits < 2 ^ (8 * bytes_in w) → c.args.bits < 256
    small w e h = subst (λ x. c.args.bits < 2 ^ (8 * bytes_in x)) e h

pub returns-in-W2 : goal.returns-in-W2
returns-in-W2 c =
    subst (λ w. Writes c.args.at (8 * bytes_in w) c.args.bits c.args.space.now c.write_u16.new.self) (sym c.in-W2.is)
    (writes-number c.args.space.now c.args.at 2 c.args.bits c.requires.whole (omega (arith, c.requires.inside, ap bytes_in c.in-W2.is)) c.write_u16.new.self
    (c.write_u16.ensures.bytes ∙ ap (λ a. with_bytes c.args.space.now (a + c.args.at / 8) (bytes_low_first 0 2 c.args.bits)) c.start.ensures.start) c.write_u16.ensures.addresses)

pub returns-in-W4 : goal.returns-in-W4
returns-in-W4 c =
    subst (λ w. Writes c.args.at (8 * bytes_in w) c.args.bits c.args.space.now c.write_u32.new.self) (sym c.in-W4.is)
    (writes-number c.args.space.now c.args.at 4 c.args.bits c.requires.whole (omega (arith, c.requires.inside, ap bytes_in c.in-W4.is)) c.write_u32.new.self
    (c.write_u32.ensures.bytes ∙ ap (λ a. with_bytes c.args.space.now (a + c.args.at / 8) (bytes_low_first 0 4 c.args.bits)) c.start.ensures.start) c.write_u32.ensures.addresses)

pub returns-in-W8 : goal.returns-in-W8
returns-in-W8 c =
    subst (λ w. Writes c.args.at (8 * bytes_in w) c.args.bits c.args.space.now c.write_u64.new.self) (sym c.in-W8.is)
    (writes-number c.args.space.now c.args.at 8 c.args.bits c.requires.whole (omega (arith, c.requires.inside, ap bytes_in c.in-W8.is)) c.write_u64.new.self
    (c.write_u64.ensures.bytes ∙ ap (λ a. with_bytes c.args.space.now (a + c.args.at / 8) (bytes_low_first 0 8 c.args.bits)) c.start.ensures.start) c.write_u64.ensures.addresses)
