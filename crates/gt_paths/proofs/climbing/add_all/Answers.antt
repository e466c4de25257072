use Rattle.std.proofs.Common.{ℕ, List, get_or, nat_eq, ap, sym, ◌∙◌}
use Rattle.std.proofs.lemmas.List.{take_all}
use Rattle.std.proofs.lemmas.List.Sums.{fold_more}
use Rattle.indexmap.specs.IndexSet.{insert_all, insert_key}
use Rattle.gt_paths.proofs.climbing.add_all.Goals as goal

pub loop-id-preserved : goal.loop-id-preserved
loop-id-preserved c = (
  c.in_ok-insert.ensures.keys
      ∙ ap (λ (ks : List ℕ). insert_key nat_eq ks (get_or c.args.ids.now c.loop-id.id-index 0)) c.loop-id.invariant.0
      ∙ sym (fold_more (insert_key nat_eq) c.args.found.now.keys c.args.ids.now c.loop-id.id-index 0 c.loop-id-test.true),
  c.in_ok-insert.ensures.unique,
)

pub returns : goal.returns
returns c = record {
  added = c.loop-id.invariant.0 ∙ ap (insert_all nat_eq c.args.found.now.keys) (take_all c.loop-id.id-index c.args.ids.now c.loop-id-test.false);
  unique = c.loop-id.invariant.1;
}
