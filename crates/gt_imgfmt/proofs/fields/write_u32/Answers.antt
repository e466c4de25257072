use Rattle.std.proofs.Common.{◌≡◌, length, arith}
use Rattle.gt_imgfmt.specs.Layout.{u32_bytes}
use Rattle.gt_imgfmt.proofs.FieldLemmas.{written-u32_bytes, put_mid-part}
use Rattle.gt_imgfmt.proofs.fields.write_u32.Goals as goal

pub returns : goal.returns
returns c =
    let len : length c.write_u32.new.buf ≡ 4 = grind (arith, c.write_u32.auto.buf) in
    put_mid-part c.args.entry.now c.write_u32.new.buf (u32_bytes c.args.number) c.args.at _ 4 (omega arith)
    (written-u32_bytes c.args.number _ _ len c.write_u32.ensures)
