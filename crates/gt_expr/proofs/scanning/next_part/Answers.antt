use Rattle.std.proofs.Common.{sym, ◌∙◌}
use Rattle.gt_expr.proofs.PartsLemmas.{parts_of-empty, parts_of-part, some_from}
use Rattle.gt_expr.proofs.scanning.next_part.Goals as goal

pub returns-then-is_empty : goal.returns-then-is_empty
returns-then-is_empty c = sym c.without_white_space-text.ensures.same ∙ parts_of-empty c.without_white_space-text.result.now c.if-is_empty.ensures

pub returns : goal.returns
returns c =
    let part = c.in_ok-part.ensures in
    sym c.without_white_space-text.ensures.same
    ∙ parts_of-part c.without_white_space-text.result.now c.in_ok-part.part c.in_ok-part.len c.without_white_space-text.ensures.begins
    (part.within (some_from _ c.if-is_empty.ensures)) part.some part.part
