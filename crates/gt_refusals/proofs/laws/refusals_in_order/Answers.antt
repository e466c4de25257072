use Rattle.gt_refusals.proofs.FirstCauses.{Next-IsFirstOf}
use Rattle.gt_refusals.proofs.AnswersThere.{IsFirstOf-Next}
use Rattle.gt_refusals.proofs.laws.refusals_in_order.Goals as goal

pub returns : goal.returns
returns c = record {
  first = λ program layouts s t command why next. (Next-IsFirstOf program layouts s t command why next).0;
  answered = λ program layouts s command why is_read good.
      IsFirstOf-Next program layouts is_read.settled s (λ path at other. (c.paths_end_once.ensures program layouts is_read).spots s path at other good) command why;
  unchanged = λ program layouts s t command why next. (Next-IsFirstOf program layouts s t command why next).1;
}
