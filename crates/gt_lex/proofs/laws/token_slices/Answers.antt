use Rattle.gt_lex.proofs.Slices.{tokens_in_order, tokens_are_slices, tokens_apart}
use Rattle.gt_lex.proofs.laws.token_slices.Goals as goal

pub returns : goal.returns
returns c = record { order = tokens_in_order; slices = tokens_are_slices; between = tokens_apart }
