use Rattle.std.proofs.Common.{◌≡◌, true, sym, subst, Some}
use Rattle.std.specs.Prelude.{◌↔◌}
use Rattle.gt_starts.specs.Paths.{BeginsIn}
use Rattle.gt_starts.specs.Ways.{way_to}
use Rattle.gt_leaf.specs.Around.{SomeLead}
use Rattle.gt_leaf.specs.Unread.{with_itself}
use Rattle.gt_leaf.proofs.TableLemmas.{itself-leads, others-lead}
use Rattle.gt_leaf.proofs.reads.Reads.is_read_in.Goals as goal

pub returns-then-leads : goal.returns-then-leads
returns-then-leads c =
    let program = c.args.program.now in
    let starts = BeginsIn c.args.self.now.inside in
    record {
      read = λ around given. subst (λ t. (c.leads.result ≡ true) ↔ SomeLead starts c.args.name.now (with_itself program around t c.args.path.now).structures) (sym c.in-Node.is)
          (itself-leads starts c.args.name.now (c.in-Node.id, way_to program (Some c.in-Node.id) c.args.path.now) around.structures c.leads.result c.if-leads.true c.leads.ensures.leads);
    }

pub returns-else-leads : goal.returns-else-leads
returns-else-leads c =
    let program = c.args.program.now in
    let starts = BeginsIn c.args.self.now.inside in
    record {
      read = λ around given. subst (λ t. (c.args.is_read ≡ true) ↔ SomeLead starts c.args.name.now (with_itself program around t c.args.path.now).structures) (sym c.in-Node.is)
          (others-lead starts c.args.name.now (c.in-Node.id, way_to program (Some c.in-Node.id) c.args.path.now) around.structures c.leads.result c.args.is_read c.if-leads.false c.leads.ensures.leads given);
    }
