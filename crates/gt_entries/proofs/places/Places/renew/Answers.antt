use Rattle.std.proofs.Common.{◌+◌, ◌/◌, length, sym, ap, ◌∙◌, arith}
use Rattle.std.proofs.lemmas.List.{length-replicate}
use Rattle.gt_entries.proofs.Changes.{cells_new, free_new, kept_new}
use Rattle.gt_entries.proofs.places.Places.renew.Goals as goal

pub invariant_of-result : goal.invariant_of-result
invariant_of-result c = record {
  kept =
      rw (c.in_ok-sets.ensures)
      (kept_new c.args.count ((c.args.count + 63) / 64) c.in_ok-tags.tags.items (ap (λ tags. length tags) c.in_ok-tags.ensures ∙ length-replicate _ _)
      (omega arith) (omega (arith, c.requires)));
  free_count = rw (c.in_ok-sets.ensures) (sym (free_new _ _ _ _ _));
}

pub returns : goal.returns
returns c = record {
  free =
      rw (c.in_ok-sets.ensures) (cells_new _ _ _ _ _);
}
