use Rattle.value_notation.proofs.Rereads.{inside-kept, keeps-both}
use Rattle.leaf_table.proofs.writing.write_times.Goals as goal

pub write_leaf-requires-clause-inside : goal.write_leaf-requires-clause-inside
write_leaf-requires-clause-inside c = λ size takes. inside-kept c.args.space.now c.loop-write.space c.args.addr size (c.requires.inside size takes) c.loop-write.invariant.0

pub write_leaf-requires-clause-stands : goal.write_leaf-requires-clause-stands
write_leaf-requires-clause-stands c = let s = c.loop-write.invariant in (s.1, s.2, s.3)

pub loop-write-preserved : goal.loop-write-preserved
loop-write-preserved c =
    let s = c.loop-write.invariant in
    let written = c.write_leaf.ensures.written c.in-Written.is s.1 s.2 s.3 in
    (keeps-both c.args.space.now c.loop-write.space c.write_leaf.new.space s.0 c.write_leaf.ensures.addresses, s.1, _, written.stands)
