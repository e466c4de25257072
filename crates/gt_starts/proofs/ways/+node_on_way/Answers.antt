use Rattle.std.proofs.Common.{Option, ℕ, List, sym, ap₂, ◌∙◌}
use Rattle.std.proofs.lemmas.List.{take_rest}
use Rattle.gt_types.specs.declared.types.TypeId.{TypeId}
use Rattle.gt_starts.specs.Ways.{way_to}
use Rattle.gt_starts.specs.Ends.{led}
use Rattle.gt_starts.proofs.WayLemmas.{way-step}
use Rattle.gt_starts.proofs.ways.+node_on_way.Goals as goal

pub returns : goal.returns
returns t c = record {
  leads = c.node_on_way.ensures.leads
      ∙ ap₂ (λ (inner : Option TypeId) (rest : List ℕ). led c.args.trie.now c.in-Some-child.next (way_to c.args.program.now inner rest)) c.inner_at.ensures (take_rest c.args.path.now 1)
      ∙ way-step c.args.trie.now c.args.program.now c.args.begin c.in-Some.id c.args.path.now c.in-Some-name_at.name.now c.args.node
      c.in-Some.is c.in-len1-up.len_at_least (sym c.if-is_union.ensures) (sym c.in-Some-name_at.ensures) c.in-Some-child.next (sym c.in-Some-child.ensures.child);
}
