use Rattle.std.proofs.Common.{ap, sym, ◌∙◌}
use Rattle.std.specs.Prelude.{option_map, slice_get}
use Rattle.std.proofs.lemmas.Option.{slice_get-map}
use Rattle.gt_caches.specs.Held.{entry_of}
use Rattle.gt_caches.proofs.keyed.KeyedPairs.get.Goals as goal

pub returns : goal.returns
returns c = record {
  entry = ap (option_map entry_of) c.in_ok-key.ensures.entry ∙ sym (slice_get-map entry_of c.self.inside.held.entries c.args.i) ∙ ap (λ entries. slice_get entries c.args.i) c.self.view_is;
}
