use Rattle.std.proofs.Common.{sym, ◌∙◌}
use Rattle.heap_table.specs.Graphs.{blocks_in, values_of}
use Rattle.heap_table.proofs.Graph.{uneven, by_parts}
use Rattle.heap_table.proofs.Named.{count_values}
use Rattle.heap_table.proofs.good.block_fits.Goals as goal

pub returns-then-parts-o : goal.returns-then-parts-o
returns-then-parts-o c =
    uneven c.args.on.now.program (blocks_in c.args.blocks.now.objects.now) (values_of c.args.statics.now) c.args.o.now (values_of c.in-Some.parts.now) c.in-Some.ensures
    (λ same. c.if-parts-o.true (sym (count_values c.in-Some.parts.now) ∙ same))

pub returns : goal.returns
returns c =
    by_parts c.args.on.now.program (blocks_in c.args.blocks.now.objects.now) (values_of c.args.statics.now) c.args.o.now (values_of c.in-Some.parts.now) c.parts_fit.result c.in-Some.ensures
    (count_values c.in-Some.parts.now ∙ c.if-parts-o.false) c.parts_fit.ensures
