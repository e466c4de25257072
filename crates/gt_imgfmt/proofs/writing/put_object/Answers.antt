use Rattle.std.proofs.Common.{◌≡◌, replicate, sym, arith}
use Rattle.std.proofs.lemmas.List.{take_all}
use Rattle.gt_imgfmt.specs.Layout.{object_bytes}
use Rattle.gt_imgfmt.proofs.FieldLemmas.{length-u32_bytes, take-written}
use Rattle.gt_imgfmt.proofs.writing.put_object.Goals as goal

pub returns-clause-added : goal.returns-clause-added
returns-clause-added c =
    let all = sym (take_all 16 c.write_u32-4.new.entry (omega arith)) in
    let whole : c.write_u32-4.new.entry ≡ object_bytes c.args.e.now =
    rw (
      all,
      take-written c.write_u32-3.new.entry _ _ 12 4 c.write_u32-4.ensures (omega arith) (length-u32_bytes _),
      take-written c.write_u32-2.new.entry _ _ 8 4 c.write_u32-3.ensures (omega arith) (length-u32_bytes _),
      take-written c.write_u32.new.entry _ _ 4 4 c.write_u32-2.ensures (omega arith) (length-u32_bytes _),
      take-written (replicate 16 0) _ _ 0 4 c.write_u32.ensures (omega arith) (length-u32_bytes _),
    ) in
    rw (← whole) c.append.ensures.added
