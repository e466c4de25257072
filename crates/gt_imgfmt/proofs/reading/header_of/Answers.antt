use Rattle.std.proofs.Common.{sym}
use Rattle.gt_imgfmt.proofs.ReadLemmas.{header_bytes-fields}
use Rattle.gt_imgfmt.proofs.reading.header_of.Goals as goal

pub returns-clause-stands : goal.returns-clause-stands
returns-clause-stands c =
    sym
    (
    header_bytes-fields c.args.bytes.now _
    c.read_bytes.ensures
    c.read_u32.ensures
    c.read_u32-2.ensures
    c.read_bytes-2.ensures
    c.read_u32-3.ensures
    c.read_u32-4.ensures
    c.read_u32-5.ensures
    c.read_u32-6.ensures
    c.read_u32-7.ensures
    c.read_u32-8.ensures
    )
