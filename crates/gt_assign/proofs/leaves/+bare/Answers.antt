use Rattle.std.proofs.Common.{◌≡◌, ◌+◌, ◌<◌, ◌≤◌, List, length, map, set, get_or, refl, ap, sym, subst, ◌∙◌, arith, length-set}
use Rattle.gt_tree.specs.Trees.{without_pointers}
use Rattle.gt_value.specs.declared.values.Value.{Value}
use Rattle.gt_value.specs.Values.{trees, tree_of}
use Rattle.gt_fit.proofs.Values.{all_without_trees}
use Rattle.gt_assign.proofs.PartPaths.{set-twice}
use Rattle.gt_assign.proofs.Nested.{most, depth_of}
use Rattle.gt_assign.proofs.Cleared.{cleared, cleared-from, cleared-all, cleared-next, deep_from, deep-next}
use Rattle.gt_assign.proofs.leaves.+bare.Goals as goal

pub all_without_pointers-loop-i-init : goal.all_without_pointers-loop-i-init
all_without_pointers-loop-i-init t c = (cleared-from c.args.parts.items, omega arith, refl)

pub all_without_pointers-loop-i-preserved : goal.all_without_pointers-loop-i-preserved
all_without_pointers-loop-i-preserved t c =
    let old = c.replace-old.result in
    let made = c.in_ok-made.made in
    let values = c.loop-i.parts.items in
    let i = c.loop-i.i in
    let is = c.replace-old.ensures.value ∙ c.index_mut.ensures.value ∙ ap (get_or values i) (sym c.replace-old.ensures.value) in
    let within : i < length values = omega (arith, c.loop-i.parts.ok.0) in
    let twice = set-twice values i c.replace-old.new.dest made in
    let deep = deep-next old made values i within is in
    let deep_so = c.loop-i.invariant.1 in
    let long : length (set values i made) ≡ length values = length-set values i made in
    subst (λ (vs : List Value). (cleared (i + 1) vs ≡ map (λ (x : Value). without_pointers (tree_of x)) c.args.parts.items) × (deep_from (i + 1) vs ≤ most (map depth_of c.args.parts.items)) × (length vs ≡ length c.args.parts.items)) (sym twice)
    (cleared-next old made values i within is c.in_ok-made.ensures ∙ c.loop-i.invariant.0, omega (arith, deep, deep_so), long ∙ c.loop-i.invariant.2)

pub all_without_pointers-returns : goal.all_without_pointers-returns
all_without_pointers-returns t c =
    let beyond : length c.loop-i.parts.items ≤ c.loop-i.i = omega (arith, c.loop-i.invariant.2, c.args.parts.ok.0) in
    ap trees (sym (cleared-all c.loop-i.parts.items c.loop-i.i beyond) ∙ c.loop-i.invariant.0) ∙ sym (all_without_trees c.args.parts.items)
