-- Answers in order.
use Rattle.std.specs.Prelude.{ℕ, Bool, List, [], ◌∷◌, ◌++◌, replicate}
use Rattle.gt_next.specs.declared.answer.Answer.{Answer}
use Rattle.gt_next.specs.declared.answer.Answer.TheVariants.{Done}
use Rattle.gt_answers.specs.declared.answers.Later.{Later}

-- answers in order, and whether one more takes no memory
pub record Kept : Type 0 where
  pub items : List Answer
  pub has_room : Bool

-- No promise: each of some answers after so many that are `Done`, and so many of these at the end.
abbrev pub answers_in : List Later → ℕ → List Answer
answers_in [] done = replicate done Done
answers_in (later ∷ rest) done = replicate later.done Done ++ later.answer ∷ answers_in rest done
