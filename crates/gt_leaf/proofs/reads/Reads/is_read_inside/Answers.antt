use Rattle.std.proofs.Common.{◌≡◌, false, None, option_copied}
use Rattle.gt_starts.specs.Paths.{BeginsIn}
use Rattle.gt_leaf.specs.Unread.{none_around}
use Rattle.gt_leaf.proofs.EndLemmas.{none-leads}
use Rattle.gt_leaf.proofs.TableLemmas.{none-lead}
use Rattle.gt_leaf.proofs.reads.Reads.is_read_inside.Goals as goal

pub returns-then-ends_in : goal.returns-then-ends_in
returns-then-ends_in c =
    let none : c.ends.result ≡ false = cc in
    record {
      read = none-leads c.args.program.now c.args.name.now c.args.self.now.inside (option_copied c.args.ty) c.args.path.now c.ends.result none c.ends.ensures.ends (c.ends_in.ensures.0 c.if-ends_in.true);
    }

pub returns : goal.returns
returns c = record {
  read = c.is_read_around.ensures.read (none_around None) (none-lead (BeginsIn c.args.self.now.inside) c.args.name.now);
}
