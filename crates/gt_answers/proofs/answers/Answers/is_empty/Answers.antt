use Rattle.std.proofs.Common.{◌≡◌, ℕ, suc, zero, ◌≢◌, List, false, length, refl, sym, ap, ◌∙◌}
use Rattle.std.specs.Prelude.{◌==◌}
use Rattle.std.proofs.lemmas.Bool.{ne_eqb}
use Rattle.gt_answers.specs.Kept.{answers_in}
use Rattle.gt_answers.specs.declared.answers.Later.{Later}
use Rattle.gt_answers.proofs.Counted.{empty_later, some_done}
use Rattle.gt_answers.proofs.answers.Answers.is_empty.Goals as goal

-- where one is counted
counted : (later : List Later) (done : ℕ) → done ≢ 0 → false ≡ (length (answers_in later done) == 0)
counted later zero some = absurd (some refl)
counted later (suc done) some = some_done later done

pub returns-then-self-eq0 : goal.returns-then-self-eq0
returns-then-self-eq0 c =
    let inside = c.self.inside in
    record { empty = c.is_empty.ensures ∙ ap (λ x. length x == 0) c.as_slice.ensures.value ∙ empty_later inside.later.items ∙ ap (λ x. length (answers_in inside.later.items x) == 0) (sym c.if-self-eq0.true) ∙ ap (λ k. length k.items == 0) c.self.view_is }

pub returns-else-self-eq0 : goal.returns-else-self-eq0
returns-else-self-eq0 c =
    let inside = c.self.inside in
    record { empty = ne_eqb inside.done 0 c.if-self-eq0.false ∙ counted inside.later.items inside.done c.if-self-eq0.false ∙ ap (λ k. length k.items == 0) c.self.view_is }
