use Rattle.std.proofs.Common.{◌≡◌, replicate, sym, arith}
use Rattle.std.proofs.lemmas.List.{take_all}
use Rattle.gt_imgfmt.specs.Layout.{header_bytes}
use Rattle.gt_imgfmt.proofs.FieldLemmas.{length-u32_bytes, take-written}
use Rattle.gt_imgfmt.proofs.writing.put_header.Goals as goal

pub returns-clause-added : goal.returns-clause-added
returns-clause-added c =
    let all = sym (take_all 72 c.write_u32-8.new.entry (omega arith)) in
    let whole : c.write_u32-8.new.entry ≡ header_bytes c.args.h.now =
    rw (
      all,
      take-written c.write_u32-7.new.entry _ _ 68 4 c.write_u32-8.ensures (omega arith) (length-u32_bytes _),
      take-written c.write_u32-6.new.entry _ _ 64 4 c.write_u32-7.ensures (omega arith) (length-u32_bytes _),
      take-written c.write_u32-5.new.entry _ _ 60 4 c.write_u32-6.ensures (omega arith) (length-u32_bytes _),
      take-written c.write_u32-4.new.entry _ _ 56 4 c.write_u32-5.ensures (omega arith) (length-u32_bytes _),
      take-written c.write_u32-3.new.entry _ _ 52 4 c.write_u32-4.ensures (omega arith) (length-u32_bytes _),
      take-written c.write_bytes-2.new.entry _ _ 48 4 c.write_u32-3.ensures (omega arith) (length-u32_bytes _),
      take-written c.write_u32-2.new.entry _ _ 16 32 c.write_bytes-2.ensures (omega arith) (omega arith),
      take-written c.write_u32.new.entry _ _ 12 4 c.write_u32-2.ensures (omega arith) (length-u32_bytes _),
      take-written c.write_bytes.new.entry _ _ 8 4 c.write_u32.ensures (omega arith) (length-u32_bytes _),
      take-written (replicate 72 0) _ _ 0 8 c.write_bytes.ensures (omega arith) (omega arith),
    ) in
    rw (← whole) c.append.ensures.added
