use Rattle.std.proofs.Common.{List, map, sym, subst}
use Rattle.gt_tree.specs.Blocks.{element_type}
use Rattle.gt_tree.specs.Fits.{EachFits}
use Rattle.gt_tree.specs.Scopes.{outside}
use Rattle.gt_tree.specs.Trees.{End}
use Rattle.gt_value.specs.declared.values.Value.{Value}
use Rattle.gt_value.specs.Names.{kind_of}
use Rattle.gt_value.specs.Values.{trees, tree_of}
use Rattle.gt_show.specs.BlockTexts.{ElementsFit}
use Rattle.value_notation.specs.Blocks.{blocks}
use Rattle.record_table.proofs.Parts.{block-fits, ends-other}
use Rattle.record_table.proofs.blocks.text_of.Goals as goal

pub text_of_chars-requires-clause-each : goal.text_of_chars-requires-clause-each
text_of_chars-requires-clause-each c = subst (λ k. EachFits c.args.on.now.program blocks 0 (outside End) (element_type c.args.on.now.program (kind_of k)) (trees (map tree_of c.args.elements.items))) c.in-Chars.is c.requires.each

pub show_block-requires-clause-fits : goal.show_block-requires-clause-fits
show_block-requires-clause-fits c =
    let program = c.args.on.now.program in
    subst (λ (vs : List Value). ElementsFit program blocks (kind_of c.args.kind) (trees (map tree_of vs))) (sym c.as_slice.ensures.value)
    (block-fits program blocks (kind_of c.args.kind) (trees (map tree_of c.args.elements.items)) c.requires.each (ends-other c.args.kind (trees (map tree_of c.args.elements.items)) c.in_default.not-Chars))
