use Rattle.std.proofs.Common.{ap, sym, subst, ◌∙◌}
use Rattle.gt_objects.specs.InBytes.{blocks_in}
use Rattle.gt_asking.specs.Finding.{AreElements}
use Rattle.gt_asking.proofs.WholeBlocks.{elements-fit, block-text}
use Rattle.gt_asking.proofs.printing.show_object.Goals as goal

pub returns-in_default : goal.returns-in_default
returns-in_default c = record {
  shown = λ heap o is there.
      let schema = c.args.schema.now in
      let none = c.in_default.ensures.known schema.program schema.layouts heap is in
      cc;
}

pub read_elements-requires-clause-there : goal.read_elements-requires-clause-there
read_elements-requires-clause-there c heap is =
    let schema = c.args.schema.now in
    let found = c.in-Some.ensures.known schema.program schema.layouts heap is in
    (found.0, found.1, found.2.count)

pub show_block-requires-clause-fits : goal.show_block-requires-clause-fits
show_block-requires-clause-fits c =
    let schema = c.args.schema.now in
    let objects = c.args.objects.now in
    let heap = c.requires.ready.0 in
    let is = c.requires.ready.1 in
    let are = subst (AreElements schema.program schema.layouts objects c.args.addr c.in-Some.known.count) (sym c.as_slice.ensures.value) c.in_ok-elements.ensures.elements in
    let named = ap blocks_in c.of-names.ensures.objects ∙ c.of-names.ensures.blocks schema.program schema.layouts heap c.requires.schema.settled c.requires.schema.laid is in
    elements-fit schema.program schema.layouts objects c.args.addr c.in-Some.known c.as_slice.result.now are heap is (c.in-Some.ensures.known schema.program schema.layouts heap is) (blocks_in c.of-names.result.objects.now) named

pub returns : goal.returns
returns c =
    let schema = c.args.schema.now in
    let objects = c.args.objects.now in
    let are = subst (AreElements schema.program schema.layouts objects c.args.addr c.in-Some.known.count) (sym c.as_slice.ensures.value) c.in_ok-elements.ensures.elements in
    record {
      shown = block-text schema.program schema.layouts objects c.args.addr c.in-Some.known c.as_slice.result.now are c.show_block.result (blocks_in c.of-names.result.objects.now)
          (λ heap is. ap blocks_in c.of-names.ensures.objects ∙ c.of-names.ensures.blocks schema.program schema.layouts heap c.requires.schema.settled c.requires.schema.laid is)
          (λ heap is. c.in-Some.ensures.known schema.program schema.layouts heap is)
          c.show_block.ensures.shown;
    }
