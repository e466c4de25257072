use Rattle.value_notation.proofs.Rereads.{inside-lowest, keeps-both}
use Rattle.leaf_table.proofs.writing.write_root.Goals as goal

pub write_static_leaf-requires-clause-inside : goal.write_static_leaf-requires-clause-inside
write_static_leaf-requires-clause-inside c = inside-lowest c.args.space.now c.loop-write.space _ c.requires.inside c.loop-write.invariant.0

pub write_static_leaf-requires-clause-stands : goal.write_static_leaf-requires-clause-stands
write_static_leaf-requires-clause-stands c = let s = c.loop-write.invariant in (s.1, s.2)

pub loop-write-preserved : goal.loop-write-preserved
loop-write-preserved c =
    let s = c.loop-write.invariant in
    let written = c.write_static_leaf.ensures.written c.in-Written.is s.1 s.2 in
    (keeps-both c.args.space.now c.loop-write.space c.write_static_leaf.new.space s.0 c.write_static_leaf.ensures.addresses, written.others, written.stand)
