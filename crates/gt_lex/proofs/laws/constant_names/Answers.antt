use Rattle.gt_lex.proofs.Names.{names_in_order, names_are_slices}
use Rattle.gt_lex.proofs.laws.constant_names.Goals as goal

pub returns : goal.returns
returns c = record { order = names_in_order; slices = names_are_slices }
