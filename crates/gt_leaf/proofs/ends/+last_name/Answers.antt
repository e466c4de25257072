use Rattle.std.proofs.Common.{◌-◌, ◌≤◌, ◌∙◌, drop, take, get_or, length, ap, sym, arith, option_copied}
use Rattle.gt_value.proofs.CursorSteps.{split-path}
use Rattle.gt_leaf.proofs.EndLemmas.{name-step}
use Rattle.gt_leaf.proofs.ends.+last_name.Goals as goal

pub returns : goal.returns
returns t c =
    let path = c.args.path.now in
    let rest = take (length path - 1) (drop 1 path) in
    let more : 1 ≤ length rest = (let e = c.is_empty.ensures in let h = c.if-is_empty.false in grind arith) in
    c.last_name.ensures
    ∙ sym (name-step c.args.program.now (option_copied c.args.ty) c.in-Some.ty.now path (get_or path 0 0) rest (option_copied c.part_at.result) (ap option_copied c.in-Some.is) (split-path path c.in-len1-up.len_at_least) more c.part_at.ensures)
