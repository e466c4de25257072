use Rattle.std.proofs.Common.{◌≡◌, length, ap, ◌∙◌, map, arith}
use Rattle.gt_caches.specs.Pairs.{pairs_of}
use Rattle.gt_caches.specs.Kept.{staying_in}
use Rattle.gt_caches.proofs.Places.{whole}
use Rattle.gt_caches.proofs.Sweeps.{staying-map}
use Rattle.gt_caches.proofs.caches.Caches.keep_staying.Goals as goal

pub returns-clause-kept : goal.returns-clause-kept
returns-clause-kept c =
    let long : c.self.inside.caches.len ≡ length c.keep_staying-dropped.new.caches = omega arith in
    ap pairs_of (whole c.self.inside.caches.len c.keep_staying-dropped.new.caches _ long ∙ c.keep_staying-dropped.ensures.kept ∙ ap (map staying_in) (c.deref_mut.ensures.value ∙ c.self.view_is))
    ∙ staying-map c.args.self.now
