use Rattle.std.proofs.Common.{List, ap, ◌∙◌}
use Rattle.std.specs.List.{list_any}
use Rattle.gt_answers.specs.declared.answers.Later.{Later}
use Rattle.gt_next.specs.Texts.{is_refusal}
use Rattle.gt_answers.proofs.Counted.{refusal_later}
use Rattle.gt_answers.proofs.answers.Answers.has_refusal.Goals as goal

pub returns : goal.returns
returns c =
    let inside = c.self.inside in
    record {
      refusal = c.has_refusal.ensures.refusal ∙ ap (λ (later : List Later). list_any (λ (l : Later). is_refusal l.answer) later) c.deref.ensures.value
          ∙ refusal_later inside.later.items inside.done ∙ ap (λ k. list_any is_refusal k.items) c.self.view_is;
    }
