use Rattle.std.proofs.Common.{ℕ, List, sym, subst}
use Rattle.gt_paths.specs.Indexes.{inner_in}
use Rattle.gt_paths.specs.OuterPaths.{AreStarts}
use Rattle.gt_paths.proofs.outer_paths.Outermost.of.Goals as goal

pub returns : goal.returns
returns c = record {
  around = λ program on. record {
    starts = subst (λ (starts : List ℕ). AreStarts (inner_in c.args.index.now) program c.args.node starts) (sym c.of.ensures.items) (c.in_ok-starts.ensures.starts program on);
    answers = c.new.ensures.answers program c.of.result;
  };
}
