use Rattle.std.proofs.Common.{◌∙◌, ap, arith}
use Rattle.gt_value.specs.Reading.{bits_from, bits_number}
use Rattle.gt_value.proofs.BitNumbers.{u8-number, u16-number, u32-number, u64-number}
use Rattle.gt_value.proofs.bits.bits_at.Goals as goal

pub returns-in-8 : goal.returns-in-8
returns-in-8 c = c.read_u8.ensures ∙ u8-number c.args.space.now c.args.from c.args.at _ (omega arith) (omega (arith, c.start-start.ensures.start)) c.start-start.ensures.every_space.bytes ∙ ap (bits_number (bits_from c.args.space.now c.args.from) c.args.at) (omega arith)

pub returns-in-16 : goal.returns-in-16
returns-in-16 c = c.read_u16.ensures ∙ u16-number c.args.space.now c.args.from c.args.at _ (omega arith) (omega (arith, c.start-start.ensures.start)) c.start-start.ensures.every_space.bytes ∙ ap (bits_number (bits_from c.args.space.now c.args.from) c.args.at) (omega arith)

pub returns-in-32 : goal.returns-in-32
returns-in-32 c = c.read_u32.ensures ∙ u32-number c.args.space.now c.args.from c.args.at _ (omega arith) (omega (arith, c.start-start.ensures.start)) c.start-start.ensures.every_space.bytes ∙ ap (bits_number (bits_from c.args.space.now c.args.from) c.args.at) (omega arith)

pub returns-in-64 : goal.returns-in-64
returns-in-64 c = c.read_u64.ensures ∙ u64-number c.args.space.now c.args.from c.args.at _ (omega arith) (omega (arith, c.start-start.ensures.start)) c.start-start.ensures.every_space.bytes ∙ ap (bits_number (bits_from c.args.space.now c.args.from) c.args.at) (omega arith)
