use Rattle.gt_total.proofs.Commands.{some_answer}
use Rattle.gt_total.proofs.laws.answers_are_there.Goals as goal

pub returns : goal.returns
returns c program layouts is_read s command good bytes built =
    let there = c.answers_are_there.ensures in
    some_answer program layouts is_read.settled is_read.laid (c.paths_end_once.ensures program layouts is_read)
    (λ g kind count may plain chars. c.plain_zeros_are_there.ensures program g kind count is_read.settled may plain chars)
    (record {
      drop = λ var. there.drop program layouts var is_read;
      put = λ cache key value. there.put program layouts cache key value is_read;
      find = λ cache key. there.find program layouts cache key is_read;
      heap = there.heap program layouts is_read;
      stats = there.stats program layouts is_read;
    })
    s good command built
