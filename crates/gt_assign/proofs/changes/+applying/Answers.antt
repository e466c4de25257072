use Rattle.std.proofs.Common.{map, ap, sym, ◌∙◌, arith, min}
use Rattle.std.proofs.lemmas.List.{nil_from_length}
use Rattle.gt_value.specs.Values.{trees, tree_of}
use Rattle.gt_assign.specs.Changes.{changed, parts_changed}
use Rattle.gt_assign.proofs.Decided.{apply-start, apply-next, apply-end, olds-none, levels, parts-levels, there-levels}
use Rattle.gt_assign.proofs.Nested.{same-most, first-most, next-most}
use Rattle.gt_assign.proofs.changes.+applying.Goals as goal

pub apply_all-loop-change-init : goal.apply_all-loop-change-init
apply_all-loop-change-init t c = (
  apply-start c.args.kept c.min-place.result c.args.changes.items c.into_iter-change-iterator.result.rest.items c.args.parts.items c.split_off.new.self.items c.into_iter-olds.result.rest.items
      (c.min-place.ensures ∙ ap (min c.args.kept) (c.len.ensures ∙ c.args.parts.ok.0)) c.in_ok-split_off.ensures.items (c.into_iter-olds.ensures.rest ∙ c.in_ok-split_off.ensures.tail) c.into_iter-change-iterator.ensures.into_iter_gives.0,
  same-most levels c.args.changes.items c.into_iter-change-iterator.result.rest.items c.into_iter-change-iterator.ensures.into_iter_gives.0,
)

pub apply_all-loop-change-preserved : goal.apply_all-loop-change-preserved
apply_all-loop-change-preserved t c = (
  apply-next c.loop-change.parts.items c.push.new.self.items c.in-Some.change c.loop-change.change-iterator.rest.items c.next.new.self.rest.items c.next-in-loop-change.result c.unwrap_or-old.result c.in_ok-apply.field-0
      c.loop-change.olds.rest.items c.next-in-loop-change.new.self.rest.items (parts_changed c.args.kept (map changed c.args.changes.items) (trees (map tree_of c.args.parts.items)))
      c.loop-change.invariant.0 c.in-Some.ensures.steps.0 c.next-in-loop-change.ensures.items
      (olds-none c.next-in-loop-change.result c.loop-change.olds.rest.items c.loop-change.olds.rest.len c.loop-change.olds.rest.ok.0 c.next-in-loop-change.ensures.variant)
      c.unwrap_or-old.ensures c.in_ok-apply.ensures c.in_ok-push.ensures.items,
  next-most levels c.args.changes.items c.loop-change.change-iterator.rest.items c.in-Some.change c.next.new.self.rest.items c.in-Some.ensures.steps.0 c.loop-change.invariant.1,
)

pub apply_all-returns : goal.apply_all-returns
apply_all-returns t c =
    apply-end c.loop-change.parts.items c.loop-change.change-iterator.rest.items c.loop-change.olds.rest.items (parts_changed c.args.kept (map changed c.args.changes.items) (trees (map tree_of c.args.parts.items)))
    c.loop-change.invariant.0 (nil_from_length c.loop-change.change-iterator.rest.items (sym c.loop-change.change-iterator.rest.ok.0 ∙ c.in-None.ensures.steps.0))

pub apply_all-apply-requires : goal.apply_all-apply-requires
apply_all-apply-requires t c =
    let h = first-most levels c.args.changes.items c.loop-change.change-iterator.rest.items c.in-Some.change c.next.new.self.rest.items c.in-Some.ensures.steps.0 c.loop-change.invariant.1 in
    (omega (arith, h), tt)

pub Change::apply-apply_all-requires : goal.Change::apply-apply_all-requires
Change::apply-apply_all-requires t c = let h = ap levels c.in-Parts.is ∙ parts-levels c.in-Parts.kept c.in-Parts.changes in (omega (arith, h), tt)

pub Change::apply-apply_all-requires-in-Row : goal.Change::apply-apply_all-requires-in-Row
Change::apply-apply_all-requires-in-Row t c = let h = ap levels c.in-Parts.is ∙ parts-levels c.in-Parts.kept c.in-Parts.changes in (omega (arith, h), tt)

pub Change::apply-apply-requires : goal.Change::apply-apply-requires
Change::apply-apply-requires t c =
    let h = ap levels c.in-There.is ∙ there-levels c.in-There.member c.in-There.change in
    let same = ap levels c.into_inner.ensures in
    (omega (arith, h, same), tt)
