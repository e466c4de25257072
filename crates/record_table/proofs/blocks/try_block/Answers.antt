use Rattle.std.proofs.Common.{sym, subst}
use Rattle.gt_tree.specs.FixedLaws.{MayHold}
use Rattle.gt_value.specs.Names.{kind_of}
use Rattle.record_table.proofs.blocks.try_block.Goals as goal

pub type_of-requires-clause-holds : goal.type_of-requires-clause-holds
type_of-requires-clause-holds c = subst (λ p. MayHold p (kind_of c.in-Some-kind_named.kind)) (sym c.requires.ready.is_sample) c.in-Some-kind_named.ensures

pub text_by-requires-clause-holds : goal.text_by-requires-clause-holds
text_by-requires-clause-holds c = subst (λ p. MayHold p (kind_of c.in-Some-kind_named.kind)) (sym c.requires.ready.is_sample) c.in-Some-kind_named.ensures
