use Rattle.std.proofs.Common.{◌<◌, ◌^◌, ◌≡◌, None, get_or, subst, arith, rules}
use Rattle.gt_bits.specs.Runs.{IsStartIn}
use Rattle.gt_bits.proofs.LowestLemmas.{lowest_found, lowest_cut, so_far_more}
use Rattle.gt_bits.proofs.runs.first_run.Goals as goal

pub returns-then-start-n : goal.returns-then-start-n
returns-then-start-n c =
    let fits : get_or c.args.words.now c.words.word-index 0 < 2 ^ 64 = search rules in
    let is = subst (IsStartIn (get_or c.args.words.now c.words.word-index 0) c.words.at c.words.first c.args.n) c.in-Some.is c.start_in.ensures in
    lowest_found c.args.words.now c.args.n c.requires c.words.at c.words.first c.words.invariant.2 c.words.word-index c.words.invariant.0 fits c.in-Some.start is
    c.args.end (omega arith)

pub returns-else-start-n : goal.returns-else-start-n
returns-else-start-n c =
    let fits : get_or c.args.words.now c.words.word-index 0 < 2 ^ 64 = search rules in
    let is = subst (IsStartIn (get_or c.args.words.now c.words.word-index 0) c.words.at c.words.first c.args.n) c.in-Some.is c.start_in.ensures in
    lowest_cut c.args.words.now c.args.n c.requires c.words.at c.words.first c.words.invariant.2 c.words.word-index c.words.invariant.0 fits c.in-Some.start is
    c.args.end (omega arith)

pub words-preserved : goal.words-preserved
words-preserved c =
    let fits : get_or c.args.words.now c.words.word-index 0 < 2 ^ 64 = search rules in
    let none : c.start_in.result ≡ None = search rules in
    let is = subst (IsStartIn (get_or c.args.words.now c.words.word-index 0) c.words.at c.words.first c.args.n) none c.start_in.ensures in (
      omega (arith, c.words.invariant.0),
      omega (arith, c.if-at-end.false),
      so_far_more c.args.words.now c.args.n c.requires c.words.at c.words.first c.words.invariant.2 c.words.word-index c.words.invariant.0 fits is c.run_start-first.result c.run_start-first.ensures,
    )
