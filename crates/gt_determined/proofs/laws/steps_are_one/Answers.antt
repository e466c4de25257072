use Rattle.gt_determined.proofs.Commands.{answer-one, state-one}
use Rattle.gt_determined.proofs.laws.steps_are_one.Goals as goal

pub returns : goal.returns
returns c = record {
  answers = λ program layouts is_read s t u command a b good.
      answer-one program layouts is_read.settled is_read.laid (c.shown_is_one.ensures.values program is_read.settled) (c.shown_is_one.ensures.blocks program is_read.settled) s good a b t u command;
  states = λ program layouts is_read s t u command a good.
      state-one program layouts is_read.settled is_read.laid (c.shown_is_one.ensures.values program is_read.settled) (c.shown_is_one.ensures.blocks program is_read.settled) s good a t u command;
}
