use Rattle.std.proofs.Common.{◌++◌, ◌∙◌, sym, ap, subst}
use Rattle.std.specs.Prelude.{All, Contains}
use Rattle.std.proofs.lemmas.List.Elements.{All-contains_itself}
use Rattle.gt_pages.specs.Ledger.{sizes}
use Rattle.gt_graph.specs.Places.{ledger_of}
use Rattle.gt_next.specs.Texts.{size_lines}
use Rattle.gt_steps.proofs.SizeLines.{heap_parts, placed_count}
use Rattle.gt_steps.proofs.reporting.report.Goals as goal

pub push_sizes-requires : goal.push_sizes-requires
push_sizes-requires c = record { session = c.requires.session; listed = subst (λ xs. All (Contains sizes) xs) (sym c.all_sizes.ensures.all) (All-contains_itself sizes) }

pub returns : goal.returns
returns c = record {
  text = λ told state stands.
      let program = c.args.s.now.schema.program in
      let layouts = c.args.s.now.schema.layouts in
      let holds = stands.holds.heap in
      heap_parts (ledger_of state.heap.places) c.len.result c.allocated.result c.push_sizes.new.text c.append.new.self c.push_decimal.new.text c.append-2.new.self c.push_decimal-2.new.text
      (c.len.ensures.len program layouts state.heap holds ∙ placed_count program layouts state.heap.graph.objects state.heap.places holds.good.places)
      (c.allocated.ensures.bytes program layouts state.heap holds)
      (c.in_ok-push_sizes.ensures told state stands ∙ ap (λ t. t ++ size_lines (ledger_of state.heap.places).blocks c.all_sizes.result.now) c.new-text.ensures.empty
      ∙ ap (size_lines (ledger_of state.heap.places).blocks) c.all_sizes.ensures.all)
      c.in_ok-append.ensures.added c.in_ok-push_decimal.ensures.added c.in_ok-append-2.ensures.added c.in_ok-push_decimal-2.ensures.added;
}
