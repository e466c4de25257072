use Rattle.std.proofs.Common.{ap}
use Rattle.gt_elements.specs.Elements.{owner_of}
use Rattle.gt_asking.proofs.Judged.{fixed-first, fixed-some, fixed-none}
use Rattle.gt_asking.proofs.leaves.is_fixed.Goals as goal

pub returns-in-Some : goal.returns-in-Some
returns-in-Some c = record {
  fixed = λ heap is.
      let schema = c.args.schema.now in
      let to = c.args.to.now in
      fixed-first schema.program schema.layouts c.args.objects.now heap (owner_of to.owner) to.places.items c.in-Some.element c.is_chars.result (c.requires.first heap is c.in-Some.element c.in-Some.is) c.is_chars.ensures;
}

pub returns-in-Some-known : goal.returns-in-Some-known
returns-in-Some-known c = record {
  fixed = λ heap is. let schema = c.args.schema.now in fixed-some heap c.in-Object.addr (owner_of c.args.to.now.owner) c.in-Some-known.known c.is_chars-in-Some-known.result (ap owner_of c.in-Object.is) (c.in-Some-known.ensures.known schema.program schema.layouts heap is) c.is_chars-in-Some-known.ensures;
}

pub returns-in-None : goal.returns-in-None
returns-in-None c = record {
  fixed = λ heap is. let schema = c.args.schema.now in fixed-none heap c.in-Object.addr (owner_of c.args.to.now.owner) (ap owner_of c.in-Object.is) (c.in-None.ensures.known schema.program schema.layouts heap is);
}
