use Rattle.std.proofs.Common.{arith}
use Rattle.gt_value.specs.Values.{tree_of}
use Rattle.heap_table.proofs.Named.{text_long, text_byte, text_byte_is}
use Rattle.heap_table.proofs.blocks.char_at.Goals as goal

pub bounds-parts-i : goal.bounds-parts-i
bounds-parts-i c =
    let long = text_long c.args.o.now.count (tree_of c.args.o.now.value) c.in-Some.parts.now c.in-Some.ensures c.requires.text in
    let low = c.requires.there in
    omega (arith, long, low)

pub returns-in-Some-byte_of : goal.returns-in-Some-byte_of
returns-in-Some-byte_of c =
    text_byte c.args.o.now.count (tree_of c.args.o.now.value) c.in-Some.parts.now c.in-Some.ensures c.args.i c.index-parts-i.result c.in-Some-byte_of.byte c.requires.text c.requires.there c.index-parts-i.is
    c.in-Some-byte_of.ensures

pub returns-in-None : goal.returns-in-None
returns-in-None c =
    absurd (c.in-None.ensures (text_byte_is c.args.o.now.count (tree_of c.args.o.now.value) c.in-Some.parts.now c.in-Some.ensures c.args.i c.index-parts-i.result c.requires.text c.requires.there c.index-parts-i.is))
