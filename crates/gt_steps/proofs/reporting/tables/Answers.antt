use Rattle.std.proofs.Common.{ap, ◌∙◌}
use Rattle.gt_listing.specs.Listing.{listing}
use Rattle.gt_next.specs.Next.{NextTables}
use Rattle.gt_steps.proofs.reporting.tables.Goals as goal

pub returns : goal.returns
returns c =
    let is = c.requires.session in
    let program = c.args.s.now.schema.program in
    let layouts = c.args.s.now.schema.layouts in
    let tails = is.2.holds.schema.tails in
    record {
      next = λ told state stands.
          NextTables.lists (c.args.s.now.schema.tails.tails.items, record { all = tails.all; each = tails.each }, c.in_ok-text.ensures.text ∙ ap (λ ts. listing program layouts ts) c.as_slice.ensures.tails);
    }
