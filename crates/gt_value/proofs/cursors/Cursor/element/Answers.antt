use Rattle.std.proofs.Common.{◌+◌, ◌*◌, subst, arith}
use Rattle.gt_value.proofs.FindingSteps.{no-element}
use Rattle.gt_value.proofs.CursorSteps.{element-moved}
use Rattle.gt_value.specs.Cursors.{IsMoved}
use Rattle.gt_value.proofs.cursors.Cursor.element.Goals as goal

pub returns-then-place-n : goal.returns-then-place-n
returns-then-place-n c values s =
    no-element c.args.self.now.source c.args.self.now.site.around c.args.elem.now c.args.self.now.at c.args.n values c.args.place (omega (arith, c.if-place-n.true)) s

pub returns : goal.returns
returns c =
    let self = c.args.self.now in
    element-moved self.source self.site c.args.elem.now self.at c.args.n c.args.place c.cursor_at.result (omega (arith, c.if-place-n.false))
    (subst (λ k. IsMoved c.cursor_at.result self.source self.site c.args.elem.now (self.at + c.args.place * (8 * k))) c.size_of.ensures c.cursor_at.ensures)
