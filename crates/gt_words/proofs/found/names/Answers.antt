use Rattle.std.proofs.Common.{◌∙◌, sym}
use Rattle.gt_words.proofs.Names.{none_at, some_at, at_end}
use Rattle.gt_words.proofs.found.names.Goals as goal

pub returns-in_default : goal.returns-in_default
returns-in_default c = sym (none_at c.loop-text.names.items c.args.texts.now c.loop-text.text-index _ c.loop-text-test.true (sym c.in_ok-name.ensures ∙ c.in_default.is) c.loop-text.invariant)

pub loop-text-preserved : goal.loop-text-preserved
loop-text-preserved c = rw c.in_ok-push.ensures.items (some_at c.loop-text.names.items c.args.texts.now c.loop-text.text-index _ c.in-Some.name c.loop-text-test.true (sym c.in_ok-name.ensures ∙ c.in-Some.is) c.loop-text.invariant)

pub returns : goal.returns
returns c = rw c.of.ensures.items (sym (at_end c.loop-text.names.items c.args.texts.now c.loop-text.text-index c.loop-text-test.false c.loop-text.invariant))
