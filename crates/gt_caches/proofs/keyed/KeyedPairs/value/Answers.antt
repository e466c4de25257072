use Rattle.std.proofs.Common.{map, ap, ◌∙◌}
use Rattle.std.specs.Prelude.{option_map}
use Rattle.gt_next.specs.Caching.{value_of_key}
use Rattle.gt_caches.specs.Pairs.{pair_of}
use Rattle.gt_caches.proofs.Entries.{value-lookup}
use Rattle.gt_caches.proofs.keyed.KeyedPairs.value.Goals as goal

pub returns-in_err-held : goal.returns-in_err-held
returns-in_err-held c = record {
  value = c.from_residual.ensures ∙ ap (option_map (λ h. h.value)) c.in_err-held.ensures.value ∙ value-lookup c.args.key c.self.inside.held.entries ∙ ap (λ entries. value_of_key c.args.key (map pair_of entries)) c.self.view_is;
}

pub returns : goal.returns
returns c = record {
  value = ap (option_map (λ h. h.value)) c.in_ok-held.ensures.value ∙ value-lookup c.args.key c.self.inside.held.entries ∙ ap (λ entries. value_of_key c.args.key (map pair_of entries)) c.self.view_is;
}
