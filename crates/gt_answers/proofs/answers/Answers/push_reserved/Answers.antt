use Rattle.std.proofs.Common.{◌≡◌, [], ◌∷◌, ◌++◌, sym, ap, ◌∙◌}
use Rattle.gt_next.specs.declared.answer.Answer.TheVariants.{Done}
use Rattle.gt_answers.specs.Kept.{answers_in}
use Rattle.gt_answers.proofs.Counted.{one_done, one_later}
use Rattle.gt_answers.proofs.answers.Answers.push_reserved.Goals as goal

pub returns-in-Done : goal.returns-in-Done
returns-in-Done c =
    let inside = c.self.inside in
    let items : answers_in inside.later.items inside.done ≡ c.args.self.now.items = ap (λ k. k.items) c.self.view_is in
    record { added = one_done inside.later.items inside.done ∙ ap (λ x. x ++ Done ∷ []) items ∙ ap (λ x. c.args.self.now.items ++ x ∷ []) (sym c.in-Done.is) }

pub returns-in_default : goal.returns-in_default
returns-in_default c =
    let inside = c.self.inside in
    let items : answers_in inside.later.items inside.done ≡ c.args.self.now.items = ap (λ k. k.items) c.self.view_is in
    record { added = ap (λ x. answers_in x 0) c.push_reserved.ensures.items ∙ one_later inside.later.items inside.done c.args.answer ∙ ap (λ x. x ++ c.args.answer ∷ []) items }
