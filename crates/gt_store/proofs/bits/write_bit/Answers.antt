use Rattle.std.proofs.Common.{◌≡◌, ◌+◌, ◌-◌, ◌/◌, ◌∙◌, ◌∷◌, [], ap, arith, get_or}
use Rattle.gt_space.specs.Range.{with_bytes}
use Rattle.gt_tree.specs.Leaves.{bit_of}
use Rattle.gt_store.proofs.BitLemmas.{writes-bit}
use Rattle.gt_store.proofs.bits.write_bit.Goals as goal

pub returns : goal.returns
returns c =
    let place : c.start.result + c.args.at / 8 - c.args.space.now.start ≡ c.args.at / 8 = omega (arith, c.start.ensures.start) in
    let read : c.read_u8-byte.result ≡ get_or c.args.space.now.bytes (c.args.at / 8) 0 = c.read_u8-byte.ensures ∙ ap (λ k. get_or c.args.space.now.bytes k 0) place in
    writes-bit c.args.space.now c.args.at c.with_bit.result c.args.set c.requires c.with_bit.type_inv
    (λ i low ne. c.with_bit.ensures.other i low ne ∙ ap (λ b. bit_of b i) read) c.with_bit.ensures.same c.write_u8.new.self
    (c.write_u8.ensures.bytes ∙ ap (λ a. with_bytes c.args.space.now (a + c.args.at / 8) (c.with_bit.result ∷ [])) c.start.ensures.start) c.write_u8.ensures.addresses
