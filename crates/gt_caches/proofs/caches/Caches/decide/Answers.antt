use Rattle.std.proofs.Common.{◌<◌, length, ap, ◌∙◌, sym, subst}
use Rattle.gt_caches.specs.Pairs.{decided}
use Rattle.gt_caches.proofs.Places.{below, decided-here, length-decided}
use Rattle.gt_caches.proofs.Totals.{total-same}
use Rattle.gt_caches.proofs.caches.Caches.decide.Goals as goal

pub invariant_of-self : goal.invariant_of-self
invariant_of-self c =
    let at = c.requires.there.1 in
    let within : c.args.cache < length c.self.inside.caches.items = subst (λ xs. c.args.cache < length xs) (sym c.self.view_is) (below c.args.self.now c.args.cache at.0 at.1) in
    total-same c.self.inside.caches.items c.args.cache c.self.inside.total c.decide.new.self c.index_mut.result.now within c.index_mut.ensures.value c.self.invariant
    (ap (λ entries. length entries) c.decide.ensures.decided ∙ length-decided c.index_mut.result.now c.args.i c.args.stays)

pub returns : goal.returns
returns c =
    let at = c.requires.there.1 in
    let within : c.args.cache < length c.self.inside.caches.items = subst (λ xs. c.args.cache < length xs) (sym c.self.view_is) (below c.args.self.now c.args.cache at.0 at.1) in
    record {
      decided = decided-here c.self.inside.caches.items c.args.cache c.args.i c.args.stays c.decide.new.self c.index_mut.result.now within c.index_mut.ensures.value c.decide.ensures.decided
          ∙ ap (λ xs. decided xs c.args.cache c.args.i c.args.stays) c.self.view_is;
    }
