use Rattle.std.proofs.Common.{arith}
use Rattle.gt_imgfmt.proofs.FieldLemmas.{bytes_from-read_u32}
use Rattle.gt_imgfmt.proofs.fields.read_u32.Goals as goal

pub returns : goal.returns
returns c =
    bytes_from-read_u32 c.args.entry.now c.args.at _ c.read_u32.result (omega arith) c.requires (λ i. omega (arith, c.type_inv.entry i)) c.read_u32.ensures
