use Rattle.std.proofs.Common.{[], replicate, ap, ◌∙◌}
use Rattle.gt_session.proofs.session.begin_empty.Goals as goal

pub new-requires : goal.new-requires
new-requires c = record { at_least = c.requires.at_least; at_most = c.requires.at_most; statics = c.requires.schema.within.statics }

pub returns : goal.returns
returns c = record { opening = c.in_ok-objects.ensures.opening; no_pairs = c.in_ok-caches.ensures.none ∙ ap (λ n. replicate n []) c.len.ensures.items }
