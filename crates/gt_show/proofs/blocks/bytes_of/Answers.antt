use Rattle.std.proofs.Common.{subst, sym}
use Rattle.std.proofs.lemmas.List.Elements.{All-get_or}
use Rattle.gt_value.specs.declared.values.Value.{Value}
use Rattle.gt_value.specs.Values.{tree_of}
use Rattle.gt_show.specs.BlockParts.{IsSomeByte}
use Rattle.gt_show.proofs.Elements.{no_bytes, byte_more}
use Rattle.gt_show.proofs.blocks.bytes_of.Goals as goal

pub loop-element-init : goal.loop-element-init
loop-element-init c = no_bytes c.args.elements.now c.new-bytes.result c.new-bytes.ensures.empty

pub byte_of-requires : goal.byte_of-requires
byte_of-requires c = record {
  byte = subst (λ (v : Value). IsSomeByte (tree_of v)) (sym c.element-item.is)
      (All-get_or (λ (v : Value). IsSomeByte (tree_of v)) c.args.elements.now c.loop-element.element-index c.element-item.result c.loop-element-test.true c.requires.bytes);
}

pub loop-element-preserved : goal.loop-element-preserved
loop-element-preserved c =
    byte_more c.args.elements.now c.loop-element.element-index c.element-item.result c.byte_of.result c.loop-element.bytes c.push.new.self c.loop-element-test.true c.element-item.is c.byte_of.ensures
    c.in_ok-push.ensures.added c.loop-element.invariant
