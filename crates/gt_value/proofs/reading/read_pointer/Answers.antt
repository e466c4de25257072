use Rattle.std.proofs.Common.{◌≡◌, ◌∙◌, ap, sym, rules, true, false}
use Rattle.gt_tree.specs.Trees.{To}
use Rattle.gt_value.proofs.TreesOf.{tree-null, tree-to}
use Rattle.gt_value.proofs.LeafReads.{pointer-here, no-pointer}
use Rattle.gt_value.proofs.reading.read_pointer.Goals as goal

pub returns-then-not-around : goal.returns-then-not-around
returns-then-not-around c value stands =
    let whole : c.args.around.whole ≡ false = search rules in
    tree-null ∙ no-pointer c.args.source.now c.args.around c.args.ty.now c.args.at value stands c.requires.pointer whole

pub bits_at-address-requires-clause-inside : goal.bits_at-address-requires-clause-inside
bits_at-address-requires-clause-inside c =
    let whole : c.args.around.whole ≡ true = search rules in
    (pointer-here c.args.source.now c.args.around c.args.ty.now c.args.at c.requires.stands.0 c.requires.stands.1 c.requires.pointer whole).inside

pub returns-then-address-eq0 : goal.returns-then-address-eq0
returns-then-address-eq0 c value stands =
    let whole : c.args.around.whole ≡ true = search rules in
    tree-null ∙ (pointer-here c.args.source.now c.args.around c.args.ty.now c.args.at value stands c.requires.pointer whole).null (sym c.bits_at-address.ensures ∙ c.if-address-eq0.true)

pub returns-else-address-eq0 : goal.returns-else-address-eq0
returns-else-address-eq0 c value stands =
    let whole : c.args.around.whole ≡ true = search rules in
    tree-to c.bits_at-address.result ∙ ap To c.bits_at-address.ensures
    ∙ (pointer-here c.args.source.now c.args.around c.args.ty.now c.args.at value stands c.requires.pointer whole).to (λ none. c.if-address-eq0.false (c.bits_at-address.ensures ∙ none))
