use Rattle.std.proofs.Common.{◌≡◌, replicate, sym, arith}
use Rattle.std.proofs.lemmas.List.{take_all}
use Rattle.gt_imgfmt.specs.Layout.{cache_bytes}
use Rattle.gt_imgfmt.proofs.FieldLemmas.{length-u32_bytes, length-u64_bytes, take-written}
use Rattle.gt_imgfmt.proofs.writing.put_cache.Goals as goal

pub returns-clause-added : goal.returns-clause-added
returns-clause-added c =
    let all = sym (take_all 24 c.write_u64-2.new.entry (omega arith)) in
    let whole : c.write_u64-2.new.entry ≡ cache_bytes c.args.e.now =
    rw (
      all,
      take-written c.write_u64.new.entry _ _ 16 8 c.write_u64-2.ensures (omega arith) (length-u64_bytes _),
      take-written c.write_u32-2.new.entry _ _ 8 8 c.write_u64.ensures (omega arith) (length-u64_bytes _),
      take-written c.write_u32.new.entry _ _ 4 4 c.write_u32-2.ensures (omega arith) (length-u32_bytes _),
      take-written (replicate 24 0) _ _ 0 4 c.write_u32.ensures (omega arith) (length-u32_bytes _),
    ) in
    rw (← whole) c.append.ensures.added
