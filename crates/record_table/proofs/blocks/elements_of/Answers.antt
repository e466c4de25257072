use Rattle.std.proofs.Common.{List, map, sym, subst}
use Rattle.gt_tree.specs.Fits.{EachFits}
use Rattle.gt_tree.specs.Scopes.{outside}
use Rattle.gt_tree.specs.Trees.{End}
use Rattle.gt_value.specs.declared.values.Value.{Value}
use Rattle.gt_value.specs.Values.{trees, tree_of}
use Rattle.gt_assign.proofs.Assigned.{fits-everywhere}
use Rattle.value_notation.specs.Blocks.{blocks}
use Rattle.record_table.proofs.Parts.{each-none, each-pushed}
use Rattle.record_table.proofs.blocks.elements_of.Goals as goal

pub loop-word-preserved : goal.loop-word-preserved
loop-word-preserved c =
    let program = c.args.on.now.program in
    let fits = c.in_ok-element_of.ensures.fits in
    subst (λ (vs : List Value). EachFits program blocks 0 (outside End) c.args.ty.now (trees (map tree_of vs))) (sym c.in_ok-push.ensures.items)
    (each-pushed c.args.ty.now c.loop-word.elements.items c.in_ok-element_of.field-0 c.loop-word.invariant
    (fits-everywhere program c.requires.ready.settled blocks 0 c.args.ty.now fits.0 End (tree_of c.in_ok-element_of.field-0) c.requires.element fits.1))

pub returns-in_default : goal.returns-in_default
returns-in_default c = record { each = each-none {program = c.args.on.now.program} {blocks = blocks} {scope = outside End} c.args.ty.now c.new-elements.result.items c.new-elements.ensures.items }

pub loop-word-init : goal.loop-word-init
loop-word-init c = each-none {program = c.args.on.now.program} {blocks = blocks} {scope = outside End} c.args.ty.now c.new-elements.result.items c.new-elements.ensures.items
