use Rattle.std.proofs.Common.{◌≡◌, length, arith}
use Rattle.gt_imgfmt.specs.Layout.{u64_bytes}
use Rattle.gt_imgfmt.proofs.FieldLemmas.{written-u64_bytes, put_mid-part}
use Rattle.gt_imgfmt.proofs.fields.write_u64.Goals as goal

pub returns : goal.returns
returns c =
    let len : length c.write_u64.new.buf ≡ 8 = grind (arith, c.write_u64.auto.buf) in
    put_mid-part c.args.entry.now c.write_u64.new.buf (u64_bytes c.args.number) c.args.at _ 8 (omega arith)
    (written-u64_bytes c.args.number _ _ len c.write_u64.ensures)
