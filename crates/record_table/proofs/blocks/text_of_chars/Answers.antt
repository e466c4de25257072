use Rattle.std.proofs.Common.{List, pos, ◌++◌, [], ◌∷◌, map, sym, subst, ◌∙◌}
use Rattle.gt_tree.specs.Blocks.{Chars, element_type}
use Rattle.gt_tree.specs.Scopes.{outside}
use Rattle.gt_tree.specs.Trees.{End}
use Rattle.gt_value.specs.declared.values.Value.{Value, Num as NumOf}
use Rattle.gt_value.specs.Values.{trees, tree_of}
use Rattle.gt_show.specs.BlockTexts.{ElementsFit}
use Rattle.value_notation.specs.Blocks.{blocks}
use Rattle.record_table.proofs.Parts.{block-fits, each-pushed, ends-pushed, zero-fits}
use Rattle.record_table.proofs.blocks.text_of_chars.Goals as goal

pub show_block-requires-clause-fits : goal.show_block-requires-clause-fits
show_block-requires-clause-fits c =
    let program = c.args.on.now.program in
    let values = c.args.elements.items in
    subst (λ (vs : List Value). ElementsFit program blocks Chars (trees (map tree_of vs))) (sym (c.as_slice.ensures.value ∙ c.in_ok-push.ensures.items))
    (block-fits program blocks Chars (trees (map tree_of (values ++ NumOf (pos 0) ∷ [])))
    (each-pushed (element_type program Chars) values (NumOf (pos 0)) c.requires.each (zero-fits program blocks (outside End))) (ends-pushed values))
