use Rattle.std.proofs.Common.{sym, ap, ◌∙◌}
use Rattle.std.specs.Prelude.{slice_get}
use Rattle.std.specs.Str.{chars}
use Rattle.gt_expr.proofs.CharactersLemmas.{character_at-utf8, character_at-other}
use Rattle.gt_expr.proofs.characters.character_at.Goals as goal

pub returns-in_default : goal.returns-in_default
returns-in_default c = sym (character_at-other c.args.text.now (λ u. c.in_default.ensures.cases.0 (rw c.front.ensures u)))

pub returns : goal.returns
returns c =
    c.next.ensures.steps.2
    ∙ ap (λ bytes. slice_get (chars bytes) 0) c.chars.ensures.rest
    ∙ character_at-utf8 c.args.text.now c.in-Ok.front.now (c.in-Ok.ensures.cases.0 ∙ c.front.ensures) (rw (← c.front.ensures) c.in-Ok.ensures.cases.1)
