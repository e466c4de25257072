use Rattle.std.proofs.Common.{ap, ◌∙◌, rules}
use Rattle.indexmap.proofs.CallerLemmas.{filter-RetainsPairs}
use Rattle.gt_caches.specs.Kept.{staying_in}
use Rattle.gt_caches.proofs.Entries.{entries_in, staying-filter}
use Rattle.gt_caches.proofs.keyed.KeyedPairs.keep_staying.Goals as goal

pub returns-clause-kept : goal.returns-clause-kept
returns-clause-kept c =
    ap entries_in (filter-RetainsPairs _ (λ e. e.1.stays) _ (λ k v b w g call. search rules) c.self.inside.held.entries c.retain.new.self.entries c.retain.ensures.filtered)
    ∙ staying-filter c.self.inside.held.entries ∙ ap staying_in c.self.view_is
