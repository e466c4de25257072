use Rattle.std.proofs.Common.{map, sym}
use Rattle.std.proofs.lemmas.Result.{on_ok_weaker}
use Rattle.gt_value.specs.Values.{trees, tree_of}
use Rattle.gt_show.specs.StaticTexts.{as_field}
use Rattle.gt_show.proofs.FitParts.{field-fits}
use Rattle.gt_show.proofs.Adding.{no_field, field_more, fields_end, value_at, field_there, as_many_parts}
use Rattle.gt_show.proofs.RootTexts.{record_of, roots-fit, root-got, no-root}
use Rattle.gt_show.proofs.statics.push_roots.Goals as goal

pub loop-place-init : goal.loop-place-init
loop-place-init g c = no_field (map as_field c.args.context.now.program.now.roots) c.args.parts.now _ _ c.in_ok-push.ensures.added

pub unreachable-requires : goal.unreachable-requires
unreachable-requires g c =
    field_there (map as_field c.args.context.now.program.now.roots) c.args.parts.now c.loop-place.place (roots-fit (trees (map tree_of c.args.parts.now)) c.requires.fit) c.loop-place-test.true
    (no-root c.args.context.now.program.now.roots c.loop-place.place c.in_default.ensures.item)

pub push_value-requires : goal.push_value-requires
push_value-requires g c = record {
  settled = c.requires.settled;
  fits =
      field-fits (map as_field c.args.context.now.program.now.roots) (map tree_of c.args.parts.now) c.loop-place.place (as_field c.in-Some.r.now) (tree_of c.index-parts-place.result)
      (roots-fit (trees (map tree_of c.args.parts.now)) c.requires.fit) (root-got c.args.context.now.program.now.roots c.loop-place.place c.in-Some.r.now (sym c.in-Some.ensures.item))
      (value_at c.args.parts.now c.loop-place.place c.index-parts-place.result c.loop-place-test.true c.index-parts-place.is);
}

pub loop-place-preserved : goal.loop-place-preserved
loop-place-preserved g c =
    field_more (map as_field c.args.context.now.program.now.roots) c.args.parts.now c.loop-place.place (as_field c.in-Some.r.now) c.index-parts-place.result _ c.loop-place.text c.push_label.new.text c.push_value.new.text
    (root-got c.args.context.now.program.now.roots c.loop-place.place c.in-Some.r.now (sym c.in-Some.ensures.item)) c.loop-place-test.true c.index-parts-place.is c.in_ok-push_label.ensures.added
    c.in_ok-push_value.ensures.added c.loop-place.invariant

pub returns : goal.returns
returns g c = record {
  added =
      on_ok_weaker c.push-2.result
      (λ is.
      fields_end (record_of c.args.context.now.program.now) c.args.parts.now c.loop-place.place c.args.text.now c.loop-place.text c.push-2.new.self
      (as_many_parts (map as_field c.args.context.now.program.now.roots) c.args.parts.now (roots-fit (trees (map tree_of c.args.parts.now)) c.requires.fit)) c.loop-place-test.false is c.loop-place.invariant)
      c.push-2.ensures.added;
}
