use Rattle.std.proofs.Common.{◌≡◌, ◌∙◌, ◌<◌, length, get_or, ap, arith}
use Rattle.std.proofs.lemmas.Option.{slice_get-get_or}
use Rattle.gt_scope.specs.Kinds.{names_in}
use Rattle.gt_scope.proofs.TargetLemmas.{named_more, named_all}
use Rattle.gt_scope.proofs.scope.type_names.Goals as goal

pub loop-place-preserved : goal.loop-place-preserved
loop-place-preserved c =
    let entries = ap length c.entries-entry-items.ensures.entries in
    let within : c.loop-place.place < length c.args.typedefs.now = omega arith in
    let there : c.loop-place.place < length c.args.meant.now = (let counted = c.requires.counted in omega arith) in
    named_more c.args.typedefs.now (names_in c.args.tags.now) c.args.meant.now c.loop-place.types.items c.loop-place.place c.loop-place.invariant
    c.entry-item.result within (c.entry-item.is ∙ ap (λ es. get_or es c.loop-place.place c.entry-item.result) c.entries-entry-items.ensures.entries) _
    (slice_get-get_or c.args.meant.now c.loop-place.place _ there) c.in_ok-name.name c.in_ok-name.ensures.same c.in_ok-means.means
    c.in_ok-means.ensures.resolved c.push.new.self.items c.in_ok-push.ensures.items

pub returns : goal.returns
returns c =
    let entries = ap length c.entries-entry-items.ensures.entries in
    let all = named_all c.args.typedefs.now (names_in c.args.tags.now) c.args.meant.now c.loop-place.types.items c.loop-place.place c.loop-place.invariant (omega arith) in
    record { names = all.0; named = all.1 }
