use Rattle.std.proofs.Common.{get_or, refl}
use Rattle.std.specs.Prelude.{Contains}
use Rattle.std.proofs.lemmas.List.Elements.{All-get_or}
use Rattle.gt_pages.specs.Ledger.{sizes}
use Rattle.gt_graph.specs.Places.{ledger_of}
use Rattle.gt_steps.proofs.SizeLines.{size_lines-none, size_lines-more}
use Rattle.gt_steps.proofs.reporting.push_sizes.Goals as goal

pub loop-size-init : goal.loop-size-init
loop-size-init c = λ told state stands. size_lines-none (ledger_of state.heap.places).blocks c.args.lines.now c.args.text.now

pub count-requires : goal.count-requires
count-requires c = record { listed = All-get_or (Contains sizes) c.args.lines.now c.loop-size.size-index 0 c.loop-size-test.true c.requires.listed }

pub loop-size-preserved : goal.loop-size-preserved
loop-size-preserved c = λ told state stands.
    let i = c.loop-size.size-index in
    size_lines-more (ledger_of state.heap.places).blocks c.args.lines.now i (get_or c.args.lines.now i 0)
    c.count.result c.args.text.now c.loop-size.text c.push_size.new.text c.loop-size-test.true refl
    (c.count.ensures.count c.args.s.now.schema.program c.args.s.now.schema.layouts state.heap stands.holds.heap) (c.loop-size.invariant told state stands) c.in_ok-push_size.ensures
