use Rattle.std.proofs.Common.{◌<◌, ◌/◌, ap, ◌∙◌, arith}
use Rattle.gt_pages.proofs.InverseLemmas.{place_is}
use Rattle.gt_pages.proofs.sizes.BlockSize.place_of.Goals as goal

pub returns : goal.returns
returns c =
    let some : 0 < c.self.inside.bytes = omega (arith, c.requires.some, c.self.view_is) in
    place_is c.args.offset c.self.inside.bytes c.self.inside.inverse some c.requires.near c.self.invariant
    ∙ ap (λ n. c.args.offset / n) c.self.view_is
