use Rattle.std.proofs.Common.{sym, ◌∙◌, arith}
use Rattle.std.proofs.lemmas.List.{take-take}
use Rattle.gt_imgfmt.proofs.ReadLemmas.{object_bytes-fields}
use Rattle.gt_imgfmt.proofs.reading.object_of.Goals as goal

pub returns-clause-stands : goal.returns-clause-stands
returns-clause-stands c =
    sym
    (
    object_bytes-fields _ _ c.read_u32.ensures c.read_u32-2.ensures c.read_u32-3.ensures c.read_u32-4.ensures
    ∙ take-take 16 _ _ (omega arith)
    )
