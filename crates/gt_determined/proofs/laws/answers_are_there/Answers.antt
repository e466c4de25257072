use Rattle.gt_determined.proofs.Presence.{drop-there, heap-there, stats-there, find-there, put-there}
use Rattle.gt_determined.proofs.laws.answers_are_there.Goals as goal

pub returns : goal.returns
returns c = record {
  drop = λ program layouts var is_read s good. drop-there s var;
  put = λ program layouts cache key value is_read s good. put-there program layouts s good cache key value;
  find = λ program layouts cache key is_read s good. find-there program layouts s good cache key;
  heap = λ program layouts is_read s good. heap-there s;
  stats = λ program layouts is_read s good. stats-there s;
}
