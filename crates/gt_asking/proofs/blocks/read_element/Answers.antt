use Rattle.gt_asking.proofs.WholeBlocks.{element-read}
use Rattle.gt_asking.proofs.blocks.read_element.Goals as goal

pub returns : goal.returns
returns c =
    let schema = c.args.schema.now in
    record {
      value = element-read schema.program schema.layouts c.args.objects.now c.args.addr c.args.place c.in-Some.here c.get-ty.result.now c.space.result.now (λ may. c.get-ty.ensures.found schema.program c.requires.schema.types may) c.space.ensures
          c.read.result c.in-Some.ensures.element c.read.ensures.value;
    }
