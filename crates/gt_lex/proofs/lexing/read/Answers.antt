use Rattle.std.proofs.Common.{ℕ, sym, refl, subst, ◌∙◌}
use Rattle.gt_lex.specs.Texts.{IsFirstFault, bad_utf8}
use Rattle.gt_lex.proofs.lexing.read.Goals as goal

pub returns-in-Err-clause-fault : goal.returns-in-Err-clause-fault
returns-in-Err-clause-fault c =
    (refl, subst (λ (n : ℕ). IsFirstFault c.args.text.now 1 n) (sym (c.valid_up_to.ensures ∙ c.in-Err.ensures.valid_len)) (bad_utf8 c.in-Err.ensures.cases.0))
