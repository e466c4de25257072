use Rattle.std.proofs.Common.{ap, ◌∙◌, Err}
use Rattle.gt_next.specs.Next.{NextPrint}
use Rattle.gt_routes.specs.Reaching.{spot_of}
use Rattle.gt_asking.proofs.Ends.{end-stands}
use Rattle.gt_asking.proofs.printing.print.Goals as goal

pub returns-in-Refused : goal.returns-in-Refused
returns-in-Refused c = record { next = λ told state st. NextPrint.refused (c.reach.ensures.refused c.in-Refused.why (c.in-Err.is ∙ ap Err c.in-Refused.is) told state st) }

pub returns : goal.returns
returns c = record {
  next = λ told state st.
      let schema = c.args.s.now.schema in
      let end = end-stands schema.program schema.layouts c.args.s.now.objects state.heap (spot_of c.reach.new.to) c.reach.new.to.end (c.in-Ok.ensures.ends state.heap st.holds.heap) in
      NextPrint.shows (c.in-Ok.ensures.leads told state st) end.1 (c.in_ok-text.ensures.shown state.heap end.0 st.holds.heap end.1);
}
