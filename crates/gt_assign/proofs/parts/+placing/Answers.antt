use Rattle.std.proofs.Common.{List, get_or, sym, ap, ◌∙◌, map, arith}
use Rattle.gt_value.specs.declared.values.Value.{Value}
use Rattle.gt_value.specs.Values.{trees, tree_of}
use Rattle.gt_assign.proofs.PartPaths.{set-twice, placed-beyond, placed-within}
use Rattle.gt_assign.proofs.parts.+placing.Goals as goal

pub with_part_of-returns-then-place-len : goal.with_part_of-returns-then-place-len
with_part_of-returns-then-place-len t c = sym (placed-beyond c.args.parts.items c.args.i c.args.path.now (tree_of c.args.part) (omega (arith, c.args.parts.ok.0)))

pub with_part_of-returns : goal.with_part_of-returns
with_part_of-returns t c =
    let was = c.replace-old.ensures.value ∙ c.index_mut.ensures.value ∙ ap (λ d. get_or c.args.parts.items c.args.i d) (sym c.replace-old.ensures.value) in
    ap (λ (xs : List Value). trees (map tree_of xs)) (set-twice c.args.parts.items c.args.i c.replace-old.new.dest c.in_ok-made.made)
    ∙ placed-within c.args.parts.items c.args.i c.args.path.now (tree_of c.args.part) c.replace-old.result c.in_ok-made.made (omega (arith, c.args.parts.ok.0)) was c.in_ok-made.ensures
