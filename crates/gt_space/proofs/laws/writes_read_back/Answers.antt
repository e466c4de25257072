use Rattle.gt_space.proofs.RangeLemmas.{bytes_at-with_bytes_apart}
use Rattle.gt_space.proofs.NumberLemmas.{numbers-with_number, numbers-with_bytes_apart}
use Rattle.gt_space.proofs.laws.writes_read_back.Goals as goal

pub returns-clause-numbers : goal.returns-clause-numbers
returns-clause-numbers c = numbers-with_number

pub returns-clause-other_bytes : goal.returns-clause-other_bytes
returns-clause-other_bytes c = bytes_at-with_bytes_apart

pub returns-clause-other_numbers : goal.returns-clause-other_numbers
returns-clause-other_numbers c = numbers-with_bytes_apart
