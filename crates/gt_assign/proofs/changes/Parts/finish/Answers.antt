use Rattle.std.proofs.Common.{rules, ap, ◌∙◌}
use Rattle.std.proofs.lemmas.List.{nil_from_length}
use Rattle.gt_tree.specs.Trees.{Rec, Row}
use Rattle.gt_assign.proofs.Decided.{kept-changed, all-kept}
use Rattle.gt_assign.proofs.changes.Parts.finish.Goals as goal

pub returns-then-is_empty-clause-rec : goal.returns-then-is_empty-clause-rec
returns-then-is_empty-clause-rec c old h =
    let none = nil_from_length c.args.self.changes.items (search rules) in
    kept-changed (Rec old) ∙ ap Rec (all-kept c.args.self.kept c.args.self.len c.args.self.changes.items old c.if-self.true none h)

pub returns-then-is_empty-clause-row : goal.returns-then-is_empty-clause-row
returns-then-is_empty-clause-row c old h =
    let none = nil_from_length c.args.self.changes.items (search rules) in
    kept-changed (Row old) ∙ ap Row (all-kept c.args.self.kept c.args.self.len c.args.self.changes.items old c.if-self.true none h)
