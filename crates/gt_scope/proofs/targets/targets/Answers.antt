use Rattle.std.proofs.Common.{◌∙◌, ◌<◌, length, get_or, Some, false, ap, sym, arith}
use Rattle.std.proofs.lemmas.Option.{slice_get-get_or}
use Rattle.gt_scope.specs.Kinds.{names_in}
use Rattle.gt_scope.proofs.TargetLemmas.{so_far_more}
use Rattle.gt_scope.proofs.targets.targets.Goals as goal

pub loop-place-preserved : goal.loop-place-preserved
loop-place-preserved c =
    let counted = c.requires.repeated.counted in
    let within : c.loop-place.place < length c.args.declarations.now = c.loop-place-test.true in
    let marked : c.loop-place.place < length c.args.repeated.now = omega arith in
    so_far_more c.args.defined.now c.args.typedefs.now c.args.declarations.now c.args.repeated.now c.requires.repeated (names_in c.loop-place.tags)
    (names_in c.in_ok-next.next.0) c.loop-place.targets.items c.loop-place.last c.in_ok-next.next.1 c.loop-place.place c.loop-place.invariant
    c.in_ok-next.ensures.kept c.index-declarations-place.result
    (slice_get-get_or c.args.declarations.now c.loop-place.place c.index-declarations-place.result within ∙ ap Some (sym c.index-declarations-place.is))
    (get_or c.args.repeated.now c.loop-place.place false) (slice_get-get_or c.args.repeated.now c.loop-place.place false marked)
    c.in_ok-next.ensures.new c.in_ok-next.ensures.same c.in_ok-next.ensures.other c.push.new.self.items c.in_ok-push.ensures.items within
    c.index-declarations-place.is
