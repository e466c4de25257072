use Rattle.std.proofs.Common.{subst, arith, rules}
use Rattle.gt_bits.specs.Places.{IsFirstOnes}
use Rattle.gt_bits.proofs.LowestLemmas.{start_at_first, start_nowhere, start_inside}
use Rattle.gt_bits.proofs.runs.start_in.Goals as goal

pub returns-then-at-low : goal.returns-then-at-low
returns-then-at-low c =
    start_at_first c.args.word c.args.at c.args.first c.args.n (search rules) c.requires.reached c.requires.some (omega (arith, c.trailing_ones-low.ensures))

pub returns-in-None : goal.returns-in-None
returns-in-None c =
    start_nowhere c.args.word c.args.at c.args.first c.args.n (search rules) c.requires.reached c.requires.some (omega (arith, c.trailing_ones-low.ensures))
    (subst (IsFirstOnes c.args.word c.args.n) c.in-None.is c.first_ones.ensures)

pub returns-in-Some : goal.returns-in-Some
returns-in-Some c =
    start_inside c.args.word c.args.at c.args.first c.args.n (search rules) c.requires.reached c.requires.some (omega (arith, c.trailing_ones-low.ensures)) c.in-Some.bit
    (subst (IsFirstOnes c.args.word c.args.n) c.in-Some.is c.first_ones.ensures)
