use Rattle.std.proofs.Common.{◌+◌, ◌*◌, ◌≤◌, ◌∙◌, ap, sym, subst, refl, length}
use Rattle.std.proofs.lemmas.Int.{to_z-of_z}
use mir.Syntax.{w128}
use mir.Val.{to_z, of_z}
use Rattle.gt_tree.specs.Numbers.{two's_complement}
use Rattle.gt_store.specs.Overlays.{bytes_in}
use Rattle.gt_store.proofs.Steps.{num-room, num-whole, num-inside, bit-room, bit-typed, bit-inside, num-stored, bits-stored, no-number, bits-few, bits-some}
use Rattle.gt_store.proofs.stores.store_number.Goals as goal

pub bits_of_number-requires-clause-room : goal.bits_of_number-requires-clause-room
bits_of_number-requires-clause-room c =
    num-room c.requires.can.0 c.requires.can.1 c.args.space.now c.args.at c.args.ty.now c.args.n c.requires.can.3 c.in-Num.scalar c.in-Num.is c.bits_in.result _
    (c.bits_in.ensures ∙ ap (λ b. 8 * b) c.width_of-width.ensures) (to_z-of_z w128 c.args.n c.ranges.n)

pub bits_of_number-requires-in-Bits-clause-some : goal.bits_of_number-requires-in-Bits-clause-some
bits_of_number-requires-in-Bits-clause-some c =
    bits-some c.requires.can.0 c.requires.can.2 c.in-Bits.unit c.in-Bits.count
    (bit-typed c.requires.can.0 c.requires.can.1 c.args.space.now c.args.at c.args.ty.now c.args.n c.requires.can.3 c.in-Bits.unit c.in-Bits.count c.in-Bits.is)

pub bits_of_number-requires-in-Bits-clause-few : goal.bits_of_number-requires-in-Bits-clause-few
bits_of_number-requires-in-Bits-clause-few c =
    bits-few c.requires.can.0 c.requires.can.2 c.in-Bits.unit c.in-Bits.count
    (bit-typed c.requires.can.0 c.requires.can.1 c.args.space.now c.args.at c.args.ty.now c.args.n c.requires.can.3 c.in-Bits.unit c.in-Bits.count c.in-Bits.is)

pub bits_of_number-requires-in-Bits-clause-room : goal.bits_of_number-requires-in-Bits-clause-room
bits_of_number-requires-in-Bits-clause-room c =
    bit-room c.requires.can.0 c.requires.can.1 c.args.space.now c.args.at c.args.ty.now c.args.n c.requires.can.3 c.in-Bits.unit c.in-Bits.count c.in-Bits.is _ (to_z-of_z w128 c.args.n c.ranges.n)

pub write_bits-requires-clause-few : goal.write_bits-requires-clause-few
write_bits-requires-clause-few c =
    bits-few c.requires.can.0 c.requires.can.2 c.in-Bits.unit c.in-Bits.count
    (bit-typed c.requires.can.0 c.requires.can.1 c.args.space.now c.args.at c.args.ty.now c.args.n c.requires.can.3 c.in-Bits.unit c.in-Bits.count c.in-Bits.is)

pub write_bits-requires-clause-inside : goal.write_bits-requires-clause-inside
write_bits-requires-clause-inside c =
    bit-inside c.requires.can.0 c.requires.can.1 c.args.space.now c.args.at c.args.ty.now c.args.n c.requires.can.3 c.in-Bits.unit c.in-Bits.count c.in-Bits.is

pub write_number-requires-clause-whole : goal.write_number-requires-clause-whole
write_number-requires-clause-whole c =
    num-whole c.requires.can.0 c.requires.can.1 c.args.space.now c.args.at c.args.ty.now c.args.n c.requires.can.3 c.in-Num.scalar c.in-Num.is

pub write_number-requires-clause-inside : goal.write_number-requires-clause-inside
write_number-requires-clause-inside c =
    subst (λ b. c.args.at + 8 * b ≤ 8 * length c.args.space.now.bytes) (sym c.width_of-width.ensures)
    (num-inside c.requires.can.0 c.requires.can.1 c.args.space.now c.args.at c.args.ty.now c.args.n c.requires.can.3 c.in-Num.scalar c.in-Num.is)

pub returns-in-Num-clause-stored : goal.returns-in-Num-clause-stored
returns-in-Num-clause-stored c program planes =
    num-stored program planes c.args.space.now c.write_number.new.space c.args.at c.args.ty.now c.args.n c.in-Num.scalar (bytes_in c.width_of-width.result) c.bits_of_number.result c.in-Num.is c.width_of-width.ensures
    (c.bits_of_number.ensures.bits ∙ ap (λ w. two's_complement w (to_z w128 (of_z w128 c.args.n))) c.bits_in.ensures ∙ ap (two's_complement (8 * bytes_in c.width_of-width.result)) (to_z-of_z w128 c.args.n c.ranges.n)) c.write_number.ensures

pub returns-in-Bits-clause-stored : goal.returns-in-Bits-clause-stored
returns-in-Bits-clause-stored c program planes =
    bits-stored program planes c.args.space.now c.write_bits.new.space c.args.at c.args.ty.now c.args.n c.in-Bits.unit c.in-Bits.count c.bits_of_number-in-Bits.result c.in-Bits.is
    (c.bits_of_number-in-Bits.ensures.bits ∙ ap (two's_complement c.in-Bits.count) (to_z-of_z w128 c.args.n c.ranges.n)) c.write_bits.ensures

pub returns-in_default : goal.returns-in_default
returns-in_default c = record {
  addresses = record { start = refl; len = refl };
  stored = λ program planes. no-number program planes c.args.space.now c.args.at c.args.ty.now c.args.n c.in_default.not-Num c.in_default.not-Bits;
}
