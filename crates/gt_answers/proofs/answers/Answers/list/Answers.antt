use Rattle.std.proofs.Common.{◌≡◌, [], ◌∷◌, ◌++◌, replicate, take, ap, ◌∙◌, arith}
use Rattle.std.proofs.lemmas.List.{take_all}
use Rattle.gt_next.specs.declared.answer.Answer.TheVariants.{Done}
use Rattle.gt_answers.specs.Kept.{answers_in}
use Rattle.gt_answers.proofs.Counted.{done_last, next_later}
use Rattle.gt_answers.proofs.answers.Answers.list.Goals as goal

pub returns : goal.returns
returns c =
    let items = c.deref-later-items.result.now in
    let inside = c.self.inside in
    let all : take c.loop-later.later-index items ≡ items = take_all c.loop-later.later-index items (omega arith) in
    record {
      answers = c.in_ok-push_done-2.ensures.added ∙ ap (λ x. x ++ replicate inside.done Done) (c.loop-later.invariant ∙ ap (λ x. answers_in x 0) (all ∙ c.deref-later-items.ensures.value))
          ∙ done_last inside.later.items inside.done ∙ ap (λ k. k.items) c.self.view_is;
    }

pub loop-later-preserved : goal.loop-later-preserved
loop-later-preserved c =
    next_later c.deref-later-items.result.now c.loop-later.later-index c.later-item.result c.loop-later.list c.push_done.new.list c.push.new.self (omega (arith, c.loop-later-test.true)) c.later-item.is
    c.loop-later.invariant c.in_ok-push_done.ensures.added (c.in_ok-push.ensures.added ∙ ap (λ x. c.push_done.new.list ++ x ∷ []) c.in_ok-copy.ensures.same)
