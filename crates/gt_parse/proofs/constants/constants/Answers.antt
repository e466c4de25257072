use Rattle.std.proofs.Common.{get_or}
use Rattle.gt_lex.specs.declared.tokens.Define.{Define}
use Rattle.gt_search.proofs.Cuts.{MayBeCut, define_cut}
use Rattle.gt_lex.proofs.Names.{names_in_order, names_are_slices}
use Rattle.gt_parse.proofs.constants.constants.Goals as goal
use Rattle.gt_parse.proofs.constants.constants.Goals.{In-loop-define}

cut : (c : In-loop-define) (d : Define) → MayBeCut c.in-Ok.text.now (get_or c.as_slice-define-items.result.now c.loop-define.define-index d).start (get_or c.as_slice-define-items.result.now c.loop-define.define-index d).end
cut c d =
    define_cut c.args.text.now c.args.lexed.now.defines c.requires.utf8 (names_in_order c.args.text.now c.args.lexed.now.tokens c.args.lexed.now.defines c.requires)
    (names_are_slices c.args.text.now c.args.lexed.now.tokens c.args.lexed.now.defines c.requires) c.in-Ok.text.now c.as_slice-define-items.result.now c.in-Ok.ensures.cases.0 c.as_slice-define-items.ensures.items c.loop-define.define-index d c.loop-define-test.true

pub word_in-requires-clause-order : goal.word_in-requires-clause-order
word_in-requires-clause-order c = (cut (goal.at.word_in-requires-clause-order c).In-loop-define _).0

pub word_in-requires-clause-start : goal.word_in-requires-clause-start
word_in-requires-clause-start c = (cut (goal.at.word_in-requires-clause-start c).In-loop-define _).1

pub word_in-requires-clause-end : goal.word_in-requires-clause-end
word_in-requires-clause-end c = (cut (goal.at.word_in-requires-clause-end c).In-loop-define _).2
