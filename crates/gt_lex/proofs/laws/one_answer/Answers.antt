use Rattle.gt_lex.proofs.Outcomes.{one_lexed, lexed_no_fault, one_first_fault}
use Rattle.gt_lex.proofs.Total.{each_has_answer}
use Rattle.gt_lex.proofs.laws.one_answer.Goals as goal

pub returns : goal.returns
returns c = record { some = each_has_answer; tokens = one_lexed; not_both = lexed_no_fault; fault = one_first_fault }
